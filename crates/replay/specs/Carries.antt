-- One call, carried out on the heap that runs a list.
use Rattle.std.specs.Prelude.{◌≡◌, ℕ, false, Some, None, Option, Result}
use Rattle.refusals.specs.declared.refusal.Refusal.{Refusal}
use Rattle.layouts.specs.Types.{Types}
use Rattle.scan.specs.Visits.{Visit}
use Rattle.replay.specs.declared.call.Call.{Call}
use Rattle.replay.specs.declared.call.Answer.{Answer}
use Rattle.replay.specs.declared.one.Heap.{Heap}
use Rattle.replay.specs.States.{State}
use Rattle.replay.specs.Steps.{CallStep}
use Rattle.replay.specs.Replays.{exists_in}

-- the state of a heap that runs calls
abbrev pub state_of : Heap → State
state_of h = record { phase = h.phase; words = h.words.now; marks = h.marks.now; records = h.holds.records }

-- both lie on the same lent words and marks
abbrev pub SameMemory : Heap → Heap → Type 0
SameMemory h h' = (h'.words.ghost_name ≡ h.words.ghost_name) × (h'.marks.ghost_name ≡ h.marks.ghost_name)

-- a call that exists where the heap stands is carried out, and of any other nothing is done
abbrev pub Carries : (t : Types) {S : Type 0} (step : S → Visit → Option S) → ℕ → Call S → State → Option (Result Answer Refusal) → State → Call S → Type 0
Carries t step P c σ (Some a) σ' d = CallStep t step P c σ a σ' d
Carries t step P c σ None σ' d = (exists_in σ.phase c ≡ false) × (σ' ≡ σ) × (d ≡ c)
