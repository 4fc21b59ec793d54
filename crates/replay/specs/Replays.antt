-- What running a list of calls answers and leaves.
use Rattle.std.specs.Prelude.{◌≡◌, ℕ, ◌≤◌, min, Bool, true, false, ◌⊎◌, List, length, take, Some, None, Ok, Err, Option, Result, slice_index_or}
use Rattle.refusals.specs.declared.refusal.Refusal.{Refusal}
use Rattle.layouts.specs.Types.{Types}
use Rattle.calls.specs.Rows.{row_1}
use Rattle.scan.specs.Visits.{Visit}
use Rattle.model.specs.Told.{new_model}
use Rattle.replay.specs.declared.call.Call.{Call}
use Rattle.replay.specs.declared.call.Call.TheVariants.{Cell, Make, Trace, Mark, Survey, Unmark, Sweep}
use Rattle.replay.specs.declared.call.Answer.{Answer}
use Rattle.replay.specs.declared.call.Phase.{Phase}
use Rattle.replay.specs.declared.call.Phase.TheVariants.{Open, Marked}
use Rattle.replay.specs.declared.call.Replayed.{Replayed}
use Rattle.replay.specs.States.{State, new_state, events}
use Rattle.replay.specs.Promise.{Promise}

-- whether a call exists in Open or in Marked
abbrev pub exists_in : {S : Type 0} → Phase → Call S → Bool
exists_in Open (Cell c) = true
exists_in Open (Make h c p) = true
exists_in Open (Trace h p s) = true
exists_in Open (Mark p) = true
exists_in Open Survey = false
exists_in Open Unmark = false
exists_in Open Sweep = false
exists_in Marked (Cell c) = false
exists_in Marked (Make h c p) = false
exists_in Marked (Trace h p s) = false
exists_in Marked (Mark p) = false
exists_in Marked Survey = true
exists_in Marked Unmark = true
exists_in Marked Sweep = true

-- the heap that a run leaves
abbrev pub left_state : Replayed → List ℕ → List ℕ → State
left_state d w m = record { phase = d.phase; words = w; marks = m; records = d.holds.records }

-- the calls that were carried out, with their answers, keep the promise; the run ended at the end of the calls or of the room for
-- answers, or at a call that does not exist where it stands; what stands behind that is as it was
pub record Ran (t : Types) {S : Type 0} (step : S → Visit → Option S) (P L : ℕ) (m : List ℕ) (cs : List (Call S)) (xs : List (Result Answer Refusal)) (w' m' : List ℕ) (cs' : List (Call S)) (xs' : List (Result Answer Refusal)) (d : Replayed) : Type 0 where
  pub promise : Promise t step P new_model (new_state L m) (events (take d.count cs) (take d.count xs') (take d.count cs')) (left_state d w' m')
  pub within : d.count ≤ min (length cs) (length xs)
  pub ends : (d.count ≡ min (length cs) (length xs)) ⊎ ((c : Call S) → exists_in d.phase (slice_index_or cs d.count c) ≡ false)
  pub calls_behind : (i : ℕ) (c : Call S) → d.count ≤ i → slice_index_or cs' i c ≡ slice_index_or cs i c
  pub answers_behind : (i : ℕ) (x : Result Answer Refusal) → d.count ≤ i → slice_index_or xs' i x ≡ slice_index_or xs i x

-- words w, marks m, calls cs and answers xs before, w', m', cs' and xs' after, where P pending places are lent
abbrev pub Replays : (t : Types) {S : Type 0} (step : S → Visit → Option S) → ℕ → List ℕ → List ℕ → List (Call S) → List (Result Answer Refusal) → List ℕ → List ℕ → List (Call S) → List (Result Answer Refusal) → Result Replayed Refusal → Type 0
Replays t step P w m cs xs w' m' cs' xs' (Ok d) = (row_1 (length w) (length m) ≡ None) × Ran t step P (length w) m cs xs w' m' cs' xs' d
Replays t step P w m cs xs w' m' cs' xs' (Err f) = (row_1 (length w) (length m) ≡ Some f) × (w' ≡ w) × (m' ≡ m) × (cs' ≡ cs) × (xs' ≡ xs)
