-- One call of a list, by the relation that the call's own contract cites; and a list of them.
use Rattle.std.specs.Prelude.{◌≡◌, ℕ, min, List, [], ◌∷◌, length, replicate, Ok, Err, Option, Result}
use Rattle.refusals.specs.declared.refusal.Refusal.{Refusal}
use Rattle.layouts.specs.Types.{Types}
use Rattle.calls.specs.declared.record.HoldRecord.{HoldRecord}
use Rattle.calls.specs.Calls.{Takes, Releases, Notes, Copies, Tells, Looks, Sets, Puts, Fetches}
use Rattle.scan.specs.Visits.{Visit}
use Rattle.tracing.specs.Traces.{Traces}
use Rattle.marking.specs.Marking.{Marks}
use Rattle.sweeping.specs.Sweeping.{Sweeps, Surveys}
use Rattle.making.specs.Makes.{Makes}
use Rattle.replay.specs.declared.call.CellCall.{CellCall}
use Rattle.replay.specs.declared.call.CellCall.TheVariants.{Take, Release, Note, Copy, Tell, Look, Set, Put, Fetch}
use Rattle.replay.specs.declared.call.Call.{Call}
use Rattle.replay.specs.declared.call.Call.TheVariants.{Cell, Make, Trace, Mark, Survey, Unmark, Sweep}
use Rattle.replay.specs.declared.call.Answer.{Answer}
use Rattle.replay.specs.declared.call.Answer.TheVariants.{Done, Told, Number}
use Rattle.replay.specs.declared.call.Phase.{Phase}
use Rattle.replay.specs.declared.call.Phase.TheVariants.{Open, Marked}
use Rattle.replay.specs.States.{State, Event, Answered}

abbrev pub done : Unit {0} → Answer
done x = Done

-- words w and holds rs before, w' and rs' after
abbrev pub CellStep : Types → CellCall → List ℕ → List HoldRecord → Result Answer Refusal → List ℕ → List HoldRecord → Type 0
CellStep t (Take h) w rs a w' rs' = (w' ≡ w) × Answered done a (Takes rs h rs')
CellStep t (Release h) w rs a w' rs' = (w' ≡ w) × Answered done a (Releases rs h rs')
CellStep t (Note h c x) w rs a w' rs' = (w' ≡ w) × Answered done a (Notes t rs h c x rs')
CellStep t (Copy g h) w rs a w' rs' = (w' ≡ w) × Answered done a (Copies rs g h rs')
CellStep t (Tell h) w rs a w' rs' = (w' ≡ w) × (rs' ≡ rs) × Answered Told a (Tells rs h)
CellStep t (Look h i) w rs a w' rs' = (w' ≡ w) × (rs' ≡ rs) × Answered Number a (Looks t w rs h i)
CellStep t (Set h i x) w rs a w' rs' = (rs' ≡ rs) × Answered done a (Sets t w rs h i x w')
CellStep t (Put h i g) w rs a w' rs' = (rs' ≡ rs) × Answered done a (Puts t w rs h i g w')
CellStep t (Fetch h i g) w rs a w' rs' = (w' ≡ w) × Answered done a (Fetches t w rs h i g rs')

-- holds and words are as they were
abbrev pub Kept : State → State → Type 0
Kept σ σ' = (σ'.words ≡ σ.words) × (σ'.records ≡ σ.records)

-- an accepted mark leads from Open to Marked, an accepted sweep back
abbrev pub after_mark : Result ℕ Refusal → Phase
after_mark (Ok n) = Marked
after_mark (Err f) = Open

abbrev pub after_sweep : Result ℕ Refusal → Phase
after_sweep (Ok n) = Open
after_sweep (Err f) = Marked

-- from Open to Open
abbrev pub InOpen : State → State → Type 0
InOpen σ σ' = (σ.phase ≡ Open) × (σ'.phase ≡ Open)

-- the call leads from σ to σ' with the answer a and leaves d of itself; P pending places are there to be lent
abbrev pub CallStep : (t : Types) {S : Type 0} (step : S → Visit → Option S) → ℕ → Call S → State → Result Answer Refusal → State → Call S → Type 0
CallStep t step P (Cell c) σ a σ' d = InOpen σ σ' × (d ≡ Cell c) × (σ'.marks ≡ σ.marks)
    × CellStep t c σ.words σ.records a σ'.words σ'.records
CallStep t step P (Make h c p) σ a σ' d = InOpen σ σ' × (d ≡ Make h c p)
    × Answered Number a (Makes t σ.words σ.records h c (min p P) σ.marks σ'.words σ'.records σ'.marks)
CallStep t {S} step P (Trace h p s) σ a σ' d = InOpen σ σ' × Kept σ σ'
    × ((s' : S) × (d ≡ Trace h p s') × Answered Number a (Traces t σ.words step σ.records h (min p P) σ.marks s σ'.marks s'))
CallStep t step P (Mark p) σ a σ' d = (σ.phase ≡ Open) × (d ≡ Mark p) × Kept σ σ'
    × Answered Number a (λ r. Marks t σ.words σ.records (min p P) σ.marks σ'.marks r × (σ'.phase ≡ after_mark r))
CallStep t step P Survey σ a σ' d = (σ.phase ≡ Marked) × (d ≡ Survey) × (σ' ≡ σ)
    × Answered Number a (Surveys (length σ.words) σ.marks)
CallStep t step P Unmark σ a σ' d = (σ.phase ≡ Marked) × (d ≡ Unmark) × Kept σ σ'
    × (a ≡ Ok Done) × (σ'.phase ≡ Open) × (σ'.marks ≡ replicate (length σ.marks) 0)
CallStep t step P Sweep σ a σ' d = (σ.phase ≡ Marked) × (d ≡ Sweep) × (σ'.records ≡ σ.records)
    × Answered Number a (λ r. Sweeps σ.words σ.marks σ'.words σ'.marks r × (σ'.phase ≡ after_sweep r))

abbrev pub Step : (t : Types) {S : Type 0} (step : S → Visit → Option S) → ℕ → Event S → State → State → Type 0
Step t step P e σ σ' = CallStep t step P e.call σ e.answer σ' e.left

-- the calls, one after the other, lead from σ to end
abbrev pub Run : (t : Types) {S : Type 0} (step : S → Visit → Option S) → ℕ → List (Event S) → State → State → Type 0
Run t step P [] σ end = σ ≡ end
Run t step P (e ∷ es) σ end = (σ' : State) × Step t step P e σ σ' × Run t step P es σ' end
