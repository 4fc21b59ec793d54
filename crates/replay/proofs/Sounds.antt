-- When a heap is sound, and what a call answers by the refusal that is due.
use Rattle.std.proofs.Common.{◌≡◌, ℕ, ◌+◌, ◌≤◌, List, [], ◌∷◌, length, Some, None, Err, Option, Result, sym, ap, ◌∙◌, ap₂, subst₂, inl, inr, arith}
use Rattle.std.proofs.lemmas.Bool.Decides.{nat_tests}
use Rattle.refusals.specs.declared.refusal.Refusal.{Refusal}
use Rattle.layouts.specs.Types.{Types}
use Rattle.calls.specs.Rows.{row_1}
use Rattle.free_list.specs.Free.{Run, span, proper, Free}
use Rattle.model.specs.Model.{Model, Reached}
use Rattle.model.specs.MarksExactly.{MarksExactly}
use Rattle.model.specs.Spares.{InRuns, Stands}
use Rattle.replay.specs.declared.call.Answer.{Answer}
use Rattle.replay.specs.declared.call.Phase.TheVariants.{Open, Marked}
use Rattle.replay.specs.States.{State}
use Rattle.replay.specs.Right.{ByDue}
use Rattle.replay.specs.Promise.{RunsApart, Sound}

-- a free list rises
above : (w : List ℕ) (p e : ℕ) (runs : List Run) (j : ℕ) → Free w p e runs proper → InRuns j runs → e ≤ j
above w p e [] j f i = absurd i
above w p e (span a s ∷ runs) j f (inl i) = omega (arith, f.0.past, i.0)
above w p e (span a s ∷ runs) j f (inr i) = omega (arith, f.0.past, above w a (a + s) runs j f.1 i)

pub runs_apart : (w : List ℕ) (p e : ℕ) (runs : List Run) → Free w p e runs proper → RunsApart runs
runs_apart w p e [] f = tt
runs_apart w p e (span a s ∷ runs) f = (
  λ j i later. elim i [ inl here ↦ omega (arith, here.1, above w a (a + s) runs j f.1 later) | inr none ↦ none ],
  runs_apart w a (a + s) runs f.1,
)

-- a heap is sound where it stands with the model
pub sound : (t : Types) (b : Model) (σ : State) → Stands t b σ.words σ.records → (σ.phase ≡ Marked → MarksExactly t b.cells (Reached b) σ.marks) → row_1 (length σ.words) (length σ.marks) ≡ None → length b.holds ≡ 64 → Sound t b σ
sound t b σ st marks memory holds = record {
  stands = st;
  apart = runs_apart σ.words 0 1 st.beside.runs st.beside.reads;
  marked = marks;
  memory = memory;
  holds = holds;
}

pub not_marked : (σ : State) (X : Type 0) → σ.phase ≡ Open → σ.phase ≡ Marked → X
not_marked σ X unmarked marked = absurd cc

-- there are as many marks as words
pub marks_long : (L M : ℕ) → row_1 L M ≡ None → M ≡ L
marks_long L M e = grind (arith, nat_tests)

pub memory_kept : (L M L' M' : ℕ) → row_1 L M ≡ None → L' ≡ L → M' ≡ L → row_1 L' M' ≡ None
memory_kept L M L' M' e same long = ap₂ row_1 same (long ∙ sym (marks_long L M e)) ∙ e

-- where words and holds are as they were
pub kept_sound : (t : Types) (b : Model) (σ σ' : State) → Sound t b σ → σ'.words ≡ σ.words → σ'.records ≡ σ.records → length σ'.marks ≡ length σ.words → (σ'.phase ≡ Marked → MarksExactly t b.cells (Reached b) σ'.marks) → Sound t b σ'
kept_sound t b σ σ' so ws rs ms marks =
    sound t b σ' (subst₂ (λ w r. Stands t b w r) (sym ws) (sym rs) so.stands) marks
    (memory_kept (length σ.words) (length σ.marks) (length σ'.words) (length σ'.marks) so.memory (ap length ws) ms) so.holds

-- what is right by what is due
pub due_refused : (o : Option Refusal) (f : Refusal) (a : Result Answer Refusal) (X : Type 0) → o ≡ Some f → a ≡ Err f → ByDue o a X
due_refused None f a X due is = absurd cc
due_refused (Some g) f a X due is = cc

pub due_none : (o : Option Refusal) (a : Result Answer Refusal) (X : Type 0) → o ≡ None → X → ByDue o a X
due_none None a X due right = right
due_none (Some g) a X due right = absurd cc
