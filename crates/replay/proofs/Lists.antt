-- Every list of calls on a new heap keeps the promise.
use Rattle.std.proofs.Common.{◌≡◌, ℕ, ◌-◌, ◌*◌, ◌/◌, ◌%◌, ◌≤◌, List, [], ◌∷◌, length, replicate, None, Option, Result, refl, ap, ◌∙◌, arith}
use lib.ListN.{length-replicate}
use Rattle.refusals.specs.declared.refusal.Refusal.{Refusal}
use Rattle.layouts.specs.Types.{Types, Lawful}
use Rattle.calls.specs.Rows.{row_1}
use Rattle.scan.specs.Visits.{Visit}
use Rattle.free_list.specs.Free.{span, proper, Free}
use Rattle.heap.specs.Memory.{new_words}
use Rattle.heap.proofs.NewWords.{served}
use Rattle.model.specs.Model.{Model}
use Rattle.model.specs.Told.{new_model}
use Rattle.model.proofs.Holds.{new_stands}
use Rattle.replay.specs.declared.call.Call.{Call}
use Rattle.replay.specs.declared.call.Call.TheVariants.{Cell, Make, Trace, Mark, Survey, Unmark, Sweep}
use Rattle.replay.specs.declared.call.Answer.{Answer}
use Rattle.replay.specs.States.{State, Event, new_state}
use Rattle.replay.specs.Steps as steps
use Rattle.replay.specs.Telling.{call_told, told}
use Rattle.replay.specs.Right.{CallRight, Right}
use Rattle.replay.specs.Promise.{Sound, Promise, EveryList}
use Rattle.replay.proofs.CellCalls.{cell_sim}
use Rattle.replay.proofs.Sounds.{sound, not_marked, marks_long, memory_kept}
use Rattle.replay.proofs.Collections.{mark_sim, survey_sim, unmark_sim, sweep_sim}
use Rattle.replay.proofs.Makes.{make_sim}
use Rattle.replay.proofs.Traces.{trace_sim}
use Rattle.replay.proofs.Unbroken.{unbroken}

new_long : (L : ℕ) → 2 ≤ L → length (new_words L) ≡ L
new_long L two = let n : length (replicate {A = ℕ} (L - 2) 0) ≡ L - 2 = length-replicate (L - 2) 0 in omega arith

new_size : (n : ℕ) → n * 65536 / 65536 ≡ n
new_size n = omega arith

new_link : (n : ℕ) → n * 65536 % 65536 ≡ 0
new_link n = omega arith

-- the free list of a new heap is one run
new_reads : (L : ℕ) → 2 ≤ L → Free (new_words L) 0 1 (span 1 (L - 1) ∷ []) proper
new_reads L two = (
  record {
    link = refl;
    there = omega arith;
    past = omega arith;
    size = new_size (L - 1);
    some = omega arith;
    within = omega (arith, new_long L two);
  },
  new_link (L - 1),
)

-- a new heap is sound
pub new_sound : (t : Types) (L : ℕ) (m : List ℕ) → row_1 L (length m) ≡ None → Sound t new_model (new_state L m)
new_sound t L m e =
    let two = (served L (length m) e).0 in
    sound t new_model (new_state L m) (new_stands t (new_words L) (span 1 (L - 1) ∷ []) (new_reads L two)) (not_marked (new_state L m) _ refl)
    (memory_kept L (length m) (length (new_words L)) (length m) e (new_long L two) (marks_long L (length m) e)) refl

module _ (t : Types) {S : Type 0} (step : S → Visit → Option S) (P : ℕ) (law : Lawful t) where
  sim_call : (b : Model) (σ σ' : State) (c : Call S) (a : Result Answer Refusal) (d : Call S) → Sound t b σ → steps.CallStep t step P c σ a σ' d → CallRight t step P b c a σ' d × Sound t (call_told t b c a) σ'
  sim_call b σ σ' (Cell c) a d so x =
      let s = cell_sim t b c σ.words σ'.words σ.records σ'.records a law so.stands so.holds x.3 in
      let marks : length σ'.marks ≡ length σ.words = ap length x.2 ∙ marks_long (length σ.words) (length σ.marks) so.memory in (
        s.0,
        sound t _ σ' s.1 (not_marked σ' _ x.0.1) (memory_kept (length σ.words) (length σ.marks) (length σ'.words) (length σ'.marks) so.memory s.2 marks) s.3,
      )
  sim_call b σ σ' (Make h c p) a d so x = make_sim t step P b σ σ' a d so law h c p x
  sim_call b σ σ' (Trace h p s) a d so x = trace_sim t step P b σ σ' a d so h p s x
  sim_call b σ σ' (Mark p) a d so x = mark_sim t step P b σ σ' a d so p x
  sim_call b σ σ' Survey a d so x = survey_sim t step P b σ σ' a d so x
  sim_call b σ σ' Unmark a d so x = unmark_sim t step P b σ σ' a d so x
  sim_call b σ σ' Sweep a d so x = sweep_sim t step P b σ σ' a d so law x

  -- a call on a sound heap answers what is right by the model, and leaves the heap sound with what the model is told
  pub sim : (b : Model) (σ σ' : State) (e : Event S) → Sound t b σ → steps.Step t step P e σ σ' → Right t step P b e σ' × Sound t (told t b e) σ'
  sim b σ σ' e so x = sim_call b σ σ' e.call e.answer e.left so x

  -- and so does each call of a list
  pub promise : (b : Model) (σ end : State) (es : List (Event S)) → Sound t b σ → steps.Run t step P es σ end → Promise t step P b σ es end
  promise b σ end [] so x = (so, x)
  promise b σ end (e ∷ es) so x =
      let s = sim b σ x.0 e so x.1 in
      (so, (x.0, x.1, s.0, unbroken t step P b e.call e.answer x.0 e.left s.0, promise (told t b e) x.0 end es s.1 x.2))

pub every_list_lem : {S : Type 0} (step : S → Visit → Option S) → EveryList step
every_list_lem step t P L m es end law e run = promise t step P law new_model (new_state L m) end es (new_sound t L m e) run
