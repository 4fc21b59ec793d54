-- The worked figures of lists of calls on a new heap of 13 words.
use Rattle.std.specs.Prelude.{◌≡◌, ℕ, ◌≤◌, List, [], ◌∷◌, ◌++◌, map, length, Ok, Err, Option, Result}
use Rattle.refusals.specs.declared.refusal.Refusal.{Refusal}
use Rattle.refusals.specs.declared.refusal.Refusal.TheVariants.{NoRun}
use Rattle.refusals.specs.Table.{number_of, place_of}
use Rattle.layouts.specs.Types.{Types}
use Rattle.layouts.specs.Over.{over}
use Rattle.layouts.specs.Table.{table}
use Rattle.scan.specs.Visits.{Visit}
use Rattle.replay.specs.declared.call.CellCall.TheVariants.{Take, Release, Set, Put}
use Rattle.replay.specs.declared.call.Call.{Call}
use Rattle.replay.specs.declared.call.Call.TheVariants.{Cell, Make, Mark, Sweep}
use Rattle.replay.specs.declared.call.Answer.{Answer}
use Rattle.replay.specs.declared.call.Answer.TheVariants.{Done, Number}
use Rattle.replay.specs.States.{State, Event, new_state}
use Rattle.replay.specs.Steps as steps
use Rattle.figures.specs.Sources.{three}

-- the table of three templates, with the rule on top
abbrev pub types : Types
types = over (table three)

-- the events are a run of the calls on a new heap of 13 words with these marks, where P pending places are lent
abbrev pub IsRun : {S : Type 0} → (S → Visit → Option S) → ℕ → List ℕ → List (Call S) → List (Event S) → State → Type 0
IsRun {S} step P marks calls es end =
    (map (λ (e : Event S). e.call) es ≡ calls) × steps.Run types step P es (new_state 13 marks) end

-- Whatever the marks read, and with 13 pending places or more: the calls have a run, and every run of them answers so and leaves
-- these words.
abbrev pub Always : {S : Type 0} → (S → Visit → Option S) → List (Call S) → List (Result Answer Refusal) → List ℕ → Type 0
Always {S} step calls answers words = (P : ℕ) (marks : List ℕ) → 13 ≤ P → length marks ≡ 13
    → ((es : List (Event S)) × (end : State) × IsRun step P marks calls es end)
    × ((es : List (Event S)) (end : State) → IsRun step P marks calls es end
    → (map (λ (e : Event S). e.answer) es ≡ answers) × (end.words ≡ words))

-- a cell of type 1 in hold 0 and one of type 6 in hold 1
abbrev pub two_makes : {S : Type 0} → List (Call S)
two_makes = Cell (Take 0) ∷ Make 0 1 13 ∷ Cell (Take 1) ∷ Make 1 6 13 ∷ []

-- the second has 40 in its first word, and goes into the pointer of the first
abbrev pub joined : {S : Type 0} → List (Call S)
joined = two_makes ++ (Cell (Set 1 1 40) ∷ Cell (Put 0 3 1) ∷ [])

-- only the first is held then, and a collection is made
abbrev pub collected : {S : Type 0} → List (Call S)
collected = joined ++ (Cell (Release 1) ∷ Mark 13 ∷ Sweep ∷ [])

-- a second cell of type 1, a third that finds no room, and a third once the second is held no more
abbrev pub refilled : {S : Type 0} → List (Call S)
refilled = collected ++ (Cell (Take 1) ∷ Make 1 1 13 ∷ Make 1 1 13 ∷ Cell (Release 1) ∷ Cell (Take 1) ∷ Make 1 1 13 ∷ [])

pub record RunFigures {S : Type 0} (step : S → Visit → Option S) : Type 0 where
  -- the makes answer 9 and 7; word 1 is then 393,216: a run of 6 words that links to none
  pub makes : Always step two_makes
      (Ok Done ∷ Ok (Number 9) ∷ Ok Done ∷ Ok (Number 7) ∷ [])
      (1 ∷ 393216 ∷ 0 ∷ 0 ∷ 0 ∷ 0 ∷ 0 ∷ 0 ∷ 0 ∷ 0 ∷ 0 ∷ 0 ∷ 0 ∷ [])
  -- after the set word 7 is 40, after the put words 11 and 12 are 6 and 7
  pub puts : Always step joined
      (Ok Done ∷ Ok (Number 9) ∷ Ok Done ∷ Ok (Number 7) ∷ Ok Done ∷ Ok Done ∷ [])
      (1 ∷ 393216 ∷ 0 ∷ 0 ∷ 0 ∷ 0 ∷ 0 ∷ 40 ∷ 0 ∷ 0 ∷ 0 ∷ 6 ∷ 7 ∷ [])
  -- the collection marks 2 cells and frees 6 words
  pub collects : Always step collected
      (Ok Done ∷ Ok (Number 9) ∷ Ok Done ∷ Ok (Number 7) ∷ Ok Done ∷ Ok Done ∷ Ok Done ∷ Ok (Number 2) ∷ Ok (Number 6) ∷ [])
      (1 ∷ 393216 ∷ 0 ∷ 0 ∷ 0 ∷ 0 ∷ 0 ∷ 40 ∷ 0 ∷ 0 ∷ 0 ∷ 6 ∷ 7 ∷ [])
  -- the next make answers 3, for the words 3 to 6; the one after it is refused by 11, as no run has 4 words; after a release, 3 again
  pub refills : Always step refilled
      (Ok Done ∷ Ok (Number 9) ∷ Ok Done ∷ Ok (Number 7) ∷ Ok Done ∷ Ok Done ∷ Ok Done ∷ Ok (Number 2) ∷ Ok (Number 6)
      ∷ Ok Done ∷ Ok (Number 3) ∷ Err (NoRun 4) ∷ Ok Done ∷ Ok Done ∷ Ok (Number 3) ∷ [])
      (1 ∷ 131072 ∷ 0 ∷ 0 ∷ 0 ∷ 0 ∷ 0 ∷ 40 ∷ 0 ∷ 0 ∷ 0 ∷ 6 ∷ 7 ∷ [])
  pub no_run : (number_of (NoRun 4) ≡ 11) × (place_of (NoRun 4) ≡ 4)
