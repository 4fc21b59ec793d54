-- What marking, survey, unmarking and sweep answer and leave, told by the model.
use Rattle.std.proofs.Common.{◌≡◌, ℕ, min, List, length, Some, None, Ok, Err, Option, Result, sym, refl, ap, ◌∙◌, subst, subst₂, arith}
use lib.ListN.{length-replicate}
use Rattle.refusals.specs.declared.refusal.Refusal.{Refusal}
use Rattle.layouts.specs.Types.{Types, Lawful}
use Rattle.calls.specs.declared.record.HoldRecord.{HoldRecord}
use Rattle.calls.specs.Rows.{memory_due}
use Rattle.scan.specs.Visits.{Visit}
use Rattle.marking.specs.Marking.{kept, Marked}
use Rattle.sweeping.specs.Sweeping.{Sweeps, Surveys}
use Rattle.model.specs.Sets as sets
use Rattle.model.specs.Model.{Model}
use Rattle.model.specs.Spares.{Stands, SpareIn}
use Rattle.model.proofs.Marked.{marked_all, mark_done}
use Rattle.model.proofs.Spares.{survey, split, sweep_stands}
use Rattle.replay.specs.declared.call.Call.TheVariants.{Mark, Survey, Unmark, Sweep}
use Rattle.replay.specs.declared.call.Call.{Call}
use Rattle.replay.specs.declared.call.Answer.{Answer}
use Rattle.replay.specs.declared.call.Answer.TheVariants.{Number}
use Rattle.replay.specs.States.{State, answer_of}
use Rattle.replay.specs.Steps.{CallStep, after_mark, after_sweep}
use Rattle.replay.specs.Table.{mark_due}
use Rattle.replay.specs.Right.{CallRight}
use Rattle.replay.specs.Promise.{Sound}
use Rattle.replay.proofs.Sounds.{sound, kept_sound, not_marked, marks_long, memory_kept, due_refused, due_none}

-- the marks that a marking leaves are as many as the words
pub marks_left : (t : Types) (b : Model) (w : List ℕ) (rs : List HoldRecord) (m' : List ℕ) (r : Result ℕ Refusal) → Stands t b w rs → Marked t w rs m' r → length m' ≡ length w
marks_left t b w rs m' r st made =
    let done = mark_done t b w rs st.agrees made.visits made.left made.ending made.laws in
    ap length (made.kept_marks ∙ ap (kept (length w) made.left) done) ∙ made.laws.long

module _ (t : Types) {S : Type 0} (step : S → Visit → Option S) (P : ℕ) (b : Model) (σ σ' : State) (a : Result Answer Refusal) (d : Call S) (so : Sound t b σ) where
  abbrev L : ℕ
  L = length σ.words

  long : length σ.marks ≡ L
  long = marks_long L (length σ.marks) so.memory

  pub mark_sim : (p : ℕ) → CallStep t step P (Mark p) σ a σ' d → CallRight t step P b (Mark p) a σ' d × Sound t b σ'
  mark_sim p x = by (memory_due L (length σ.marks) (min p P)) refl
    where
      due : (o : Option Refusal) → memory_due L (length σ.marks) (min p P) ≡ o → mark_due (length σ'.words) (min p P) ≡ o
      due o e = ap (λ (w : List ℕ). mark_due (length w) (min p P)) x.2.0 ∙ ap (λ z. memory_due L z (min p P)) (sym long) ∙ e

      by : (o : Option Refusal) → memory_due L (length σ.marks) (min p P) ≡ o → CallRight t step P b (Mark p) a σ' d × Sound t b σ'
      by (Some f) e =
          let s = x.3.related.0.small f e in (
            due_refused _ f a _ (due (Some f) e) (x.3.is ∙ ap (answer_of Number) s.0),
            kept_sound t b σ σ' so x.2.0 x.2.1 (ap length s.1 ∙ long) (not_marked σ' _ (x.3.related.1 ∙ ap after_mark s.0)),
          )
      by None e =
          let made = x.3.related.0.marked e in
          let all = marked_all t b σ.words σ.records so.stands.agrees σ'.marks x.3.result made in (
            due_none _ a _ (due None e) (all.0, x.3.is ∙ ap (answer_of Number) all.1, all.2),
            kept_sound t b σ σ' so x.2.0 x.2.1 (marks_left t b σ.words σ.records σ'.marks x.3.result so.stands made) (λ marked. all.3),
          )

  pub survey_sim : CallStep t step P Survey σ a σ' d → CallRight t step P b Survey a σ' d × Sound t b σ'
  survey_sim x = by x.3.result x.3.is x.3.related
    where
      by : (r : Result ℕ Refusal) → a ≡ answer_of Number r → Surveys L σ.marks r → CallRight t step P b Survey a σ' d × Sound t b σ'
      by (Err f) is y = let due = y.0 in let none = so.memory in absurd cc
      by (Ok n) is y = (
        (n, is, subst₂ (λ k N. sets.Number (SpareIn t b k) N) (long ∙ ap (λ (s : State). length s.words) (sym x.2)) (sym y.1) (survey t b σ.marks (so.marked x.0))),
        subst (Sound t b) (sym x.2) so,
      )

  pub unmark_sim : CallStep t step P Unmark σ a σ' d → CallRight t step P b Unmark a σ' d × Sound t b σ'
  unmark_sim x = (x.3, kept_sound t b σ σ' so x.2.0 x.2.1 (ap length x.5 ∙ length-replicate (length σ.marks) 0 ∙ long) (not_marked σ' _ x.4))

  pub sweep_sim : Lawful t → CallStep t step P Sweep σ a σ' d → CallRight t step P b Sweep a σ' d × Sound t b σ'
  sweep_sim law x = by x.3.result x.3.is x.3.related.0 x.3.related.1
    where
      by : (r : Result ℕ Refusal) → a ≡ answer_of Number r → Sweeps σ.words σ.marks σ'.words σ'.marks r → σ'.phase ≡ after_sweep r → CallRight t step P b Sweep a σ' d × Sound t b σ'
      by (Err f) is y mode = let due = y.0 in let none = so.memory in absurd cc
      by (Ok n) is y mode =
          let marks = so.marked x.0 in
          let swept = y.1.1 in
          let st = sweep_stands t b σ.words σ.marks σ'.words σ.records law so.stands.agrees marks swept in
          let same : length σ.marks ≡ length σ'.words = long ∙ sym swept.long in (
            (
              (n, is, subst₂ (λ k N. sets.Number (SpareIn t b k) N) same (sym y.1.0) (survey t b σ.marks marks)),
              record {
                runs = swept.runs;
                reads = swept.list;
                split = λ j lo hi. split t b σ.marks marks swept.runs swept.stretches j lo (omega (arith, same));
              },
            ),
            sound t b σ' (subst (λ r. Stands t b σ'.words r) (sym x.2) st) (not_marked σ' _ mode)
                (memory_kept L (length σ.marks) (length σ'.words) (length σ'.marks) so.memory swept.long (ap length y.1.2 ∙ length-replicate (length σ.marks) 0 ∙ long))
                so.holds,
          )
