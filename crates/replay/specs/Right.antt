-- What each call of a list answers, told by the model.
use Rattle.std.specs.Prelude.{◌≡◌, ℕ, ◌-◌, ◌<◌, ◌≤◌, min, ◌⊎◌, List, map, length, Some, None, Ok, Err, Option, Result, ◌≢◌}
use Rattle.refusals.specs.declared.refusal.Refusal.{Refusal}
use Rattle.refusals.specs.declared.refusal.Refusal.TheVariants.{NoRun, InspectorFull}
use Rattle.refusals.specs.Table.{number_of}
use Rattle.layouts.specs.Types.{Types}
use Rattle.scan.specs.Visits.{Visit, holds}
use Rattle.scan.specs.Children.{width, cell_visit}
use Rattle.free_list.specs.Free.{Run, proper, Free}
use Rattle.model.specs.Sets.{Among, Distinct, Lists}
use Rattle.model.specs.Sets as sets
use Rattle.model.specs.Model.{Model, Made, Hold, free, held, Word, number, second, value, hold_of, word_of, code_of, address_of, shown, Reached, ReachedFrom}
use Rattle.model.specs.Agrees.{Covers}
use Rattle.model.specs.Spares.{Spare, SpareIn, Room, InRuns}
use Rattle.replay.specs.declared.call.CellCall.{CellCall}
use Rattle.replay.specs.declared.call.CellCall.TheVariants.{Take, Release, Note, Copy, Tell, Look, Set, Put, Fetch}
use Rattle.replay.specs.declared.call.Call.{Call}
use Rattle.replay.specs.declared.call.Call.TheVariants.{Cell, Make, Trace, Mark, Survey, Unmark, Sweep}
use Rattle.replay.specs.declared.call.Answer.{Answer}
use Rattle.replay.specs.declared.call.Answer.TheVariants.{Done, Told, Number}
use Rattle.replay.specs.States.{State, Event}
use Rattle.replay.specs.Telling.{of_cell}
use Rattle.replay.specs.Table.{cell_due, make_due, trace_due, mark_due}

-- tell answers what the model's hold has, look the number that the model's word has
abbrev pub tells : List Made → Hold → Answer
tells cs free = Done
tells cs (held x) = Told (shown cs x)

abbrev pub looks : Word → Answer
looks (number x) = Number x
looks second = Done
looks (value x) = Done

abbrev pub cell_answer : Model → CellCall → Answer
cell_answer b (Take h) = Done
cell_answer b (Release h) = Done
cell_answer b (Note h c x) = Done
cell_answer b (Copy g h) = Done
cell_answer b (Tell h) = tells b.cells (hold_of b h)
cell_answer b (Look h i) = of_cell (hold_of b h) Done (λ k. looks (word_of b.cells k (i - 1)))
cell_answer b (Set h i x) = Done
cell_answer b (Put h i g) = Done
cell_answer b (Fetch h i g) = Done

-- the refusal that is due, or the answer
abbrev pub by_due : Option Refusal → Answer → Result Answer Refusal
by_due None a = Ok a
by_due (Some f) a = Err f

-- the refusal that is due comes, or what is right else
abbrev pub ByDue : Option Refusal → Result Answer Refusal → Type 0 → Type 0
ByDue None a right = right
ByDue (Some f) a right = a ≡ Err f

-- the answer is the number of what P holds of
abbrev pub Counts : Result Answer Refusal → (ℕ → Type 0) → Type 0
Counts a P = (n : ℕ) × (a ≡ Ok (Number n)) × sets.Number P n

-- a cell is given exactly where n neighbouring words lie outside the cells that are reached as the call begins
abbrev pub MakeRight : Types → Model → ℕ → ℕ → Result Answer Refusal → Type 0
MakeRight t b L n a = (Room t b L n × ((at : ℕ) × (a ≡ Ok (Number at)))) ⊎ ((Room t b L n → ⊥) × (a ≡ Err (NoRun n)))

-- the cell k of the model, as an inspector is shown it in the words w
abbrev pub visit : Types → List Made → List ℕ → ℕ → Visit
visit t cs w k = cell_visit t w (code_of cs k) (address_of cs k)

-- the inspector was shown every cell that the hold reaches, each once, and holds what the visits make of s
pub record ShownAll (t : Types) (b : Model) (w : List ℕ) {S : Type 0} (step : S → Visit → Option S) (h : ℕ) (s s' : S) (a : Result Answer Refusal) : Type 0 where
  pub cells : List ℕ
  pub listed : Lists (ReachedFrom b h) cells
  pub inspected : holds step s (map (visit t b.cells w) cells) ≡ Some s'
  pub answer : a ≡ Ok (Number (length cells))

-- the inspector was shown cells that the hold reaches, none twice, and was full at the next
pub record ShownSome (t : Types) (b : Model) (w : List ℕ) {S : Type 0} (step : S → Visit → Option S) (h : ℕ) (s s' : S) (a : Result Answer Refusal) : Type 0 where
  pub cells : List ℕ
  pub distinct : Distinct cells
  pub reached : (k : ℕ) → Among k cells → ReachedFrom b h k
  pub inspected : holds step s (map (visit t b.cells w) cells) ≡ Some s'
  pub next : ℕ
  pub next_reached : ReachedFrom b h next
  pub next_new : Among next cells → ⊥
  pub full : step s' (visit t b.cells w next) ≡ None
  pub answer : a ≡ Err (InspectorFull (address_of b.cells next))

abbrev pub TraceRight : (t : Types) (b : Model) (w : List ℕ) {S : Type 0} (step : S → Visit → Option S) (h p : ℕ) (s : S) → Result Answer Refusal → Call S → Type 0
TraceRight t b w {S} step h p s a d = (s' : S) × (d ≡ Trace h p s') × (ShownAll t b w step h s s' a ⊎ ShownSome t b w step h s s' a)

-- just after a sweep each word from 1 on lies in a free run or in a reached cell, and not in both
pub record SweptExactly (t : Types) (b : Model) (w : List ℕ) : Type 0 where
  pub runs : List Run
  pub reads : Free w 0 1 runs proper
  pub split : (j : ℕ) → 1 ≤ j → j < length w → (InRuns j runs × Spare t b j) ⊎ ((InRuns j runs → ⊥) × ((k : ℕ) × Reached b k × Covers t b.cells k j))

-- numbers 7 and 10 never come: no cell of a hold and no child fails to fit, and no link of the free list is broken
abbrev pub Unbroken : Result Answer Refusal → Type 0
Unbroken (Ok a) = Unit {0}
Unbroken (Err f) = (number_of f ≢ 7) × (number_of f ≢ 10)

-- b is the model before the call, σ' the heap after it
abbrev pub CallRight : (t : Types) {S : Type 0} (step : S → Visit → Option S) → ℕ → Model → Call S → Result Answer Refusal → State → Call S → Type 0
CallRight t step P b (Cell c) a σ' d = a ≡ by_due (cell_due t b c) (cell_answer b c)
CallRight t step P b (Make h c p) a σ' d =
    ByDue (make_due t b (length σ'.words) (min p P) h c) a (MakeRight t b (length σ'.words) (width t c) a)
CallRight t step P b (Trace h p s) a σ' d =
    ByDue (trace_due b (length σ'.words) (min p P) h) a (TraceRight t b σ'.words step h p s a d)
CallRight t step P b (Mark p) a σ' d = ByDue (mark_due (length σ'.words) (min p P)) a (Counts a (Reached b))
CallRight t step P b Survey a σ' d = Counts a (SpareIn t b (length σ'.words))
CallRight t step P b Unmark a σ' d = a ≡ Ok Done
CallRight t step P b Sweep a σ' d = Counts a (SpareIn t b (length σ'.words)) × SweptExactly t b σ'.words

abbrev pub Right : (t : Types) {S : Type 0} (step : S → Visit → Option S) → ℕ → Model → Event S → State → Type 0
Right t step P b e σ' = CallRight t step P b e.call e.answer σ' e.left
