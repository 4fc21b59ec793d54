-- The promise over every list of calls on a new heap.
use Rattle.std.specs.Prelude.{◌≡◌, ℕ, List, [], ◌∷◌, length, None, Option}
use Rattle.layouts.specs.Types.{Types, Lawful}
use Rattle.calls.specs.Rows.{row_1}
use Rattle.scan.specs.Visits.{Visit}
use Rattle.free_list.specs.Free.{Run, span}
use Rattle.model.specs.Model.{Model, Reached}
use Rattle.model.specs.MarksExactly.{MarksExactly}
use Rattle.model.specs.Spares.{InRuns, Stands}
use Rattle.model.specs.Told.{new_model}
use Rattle.replay.specs.declared.call.Phase.TheVariants.{Marked}
use Rattle.replay.specs.States.{State, Event, new_state}
use Rattle.replay.specs.Steps as steps
use Rattle.replay.specs.Telling.{told}
use Rattle.replay.specs.Right.{Right, Unbroken}

-- no word lies in two of the runs
abbrev pub RunsApart : List Run → Type 0
RunsApart [] = Unit {0}
RunsApart (span a s ∷ runs) = ((j : ℕ) → InRuns j (span a s ∷ []) → InRuns j runs → ⊥) × RunsApart runs

-- what holds of the heap at every point of a list, with the model told so far
pub record Sound (t : Types) (b : Model) (σ : State) : Type 0 where
  -- no word lies in two reached cells, each hold and each word of a reached cell has what the model has, and the free list reads to
  -- a proper end and shares no word with a reached cell
  pub stands : Stands t b σ.words σ.records
  -- no word lies in two free runs
  pub apart : RunsApart stands.beside.runs
  -- in Marked exactly the words of the reached cells are marked
  pub marked : σ.phase ≡ Marked → MarksExactly t b.cells (Reached b) σ.marks
  -- the memory is that of a heap, of 64 holds
  pub memory : row_1 (length σ.words) (length σ.marks) ≡ None
  pub holds : length b.holds ≡ 64

-- At the start and after each call the heap is sound with the model told so far; each call does what its own relation says, and
-- answers what is right by the model, and never 7 or 10.
abbrev pub Promise : (t : Types) {S : Type 0} (step : S → Visit → Option S) → ℕ → Model → State → List (Event S) → State → Type 0
Promise t step P b σ [] end = Sound t b σ × (σ ≡ end)
Promise t step P b σ (e ∷ es) end =
    Sound t b σ × ((σ' : State) × steps.Step t step P e σ σ' × Right t step P b e σ' × Unbroken e.answer × Promise t step P (told t b e) σ' es end)

-- the promise holds of every list of calls on a new heap, for every lawful source
abbrev pub EveryList : {S : Type 0} → (S → Visit → Option S) → Type 0
EveryList {S} step = (t : Types) (P L : ℕ) (m : List ℕ) (es : List (Event S)) (end : State) → Lawful t → row_1 L (length m) ≡ None → steps.Run t step P es (new_state L m) end → Promise t step P new_model (new_state L m) es end
