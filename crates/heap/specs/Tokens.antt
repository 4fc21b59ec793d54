-- A hold as a value: what taking and giving back one answer.
use Rattle.std.specs.Prelude.{◌≡◌, ℕ, List, Some, None, Ok, Err, Result, slice_set}
use Rattle.refusals.specs.declared.refusal.Refusal.{Refusal}
use Rattle.cells.specs.declared.content.Content.TheVariants.{Nothing}
use Rattle.calls.specs.declared.record.HoldRecord.{HoldRecord}
use Rattle.heap.specs.declared.hold.Hold.{Hold}
use Rattle.calls.specs.Holds.{unheld, holding}
use Rattle.calls.specs.Calls.{Answers, take_due, held_due}

-- the hold of that number
abbrev pub Gives : List HoldRecord → ℕ → List HoldRecord → Result Hold Refusal → Type 0
Gives rs n rs' r = Answers (take_due rs n) (rs' ≡ rs) (λ h. (h.number ≡ n) × (rs' ≡ slice_set rs n (holding Nothing))) r

-- the hold is spent, or comes back with the refusal
abbrev pub Spends : List HoldRecord → Hold → List HoldRecord → Result (Unit {0}) (Hold × Refusal) → Type 0
Spends rs h rs' (Ok x) = (held_due rs h.number ≡ None) × (rs' ≡ slice_set rs h.number unheld)
Spends rs h rs' (Err p) = (held_due rs h.number ≡ Some p.1) × (p.0 ≡ h) × (rs' ≡ rs)
