-- What a trace from one hold answers and leaves, on any memory, hold table, source and inspector.
use Rattle.std.specs.Prelude.{◌≡◌, ℕ, List, length, replicate, Some, None, Err, Option, Result}
use Rattle.refusals.specs.declared.refusal.Refusal.{Refusal}
use Rattle.layouts.specs.Types.{Types}
use Rattle.calls.specs.declared.record.HoldRecord.{HoldRecord}
pub use Rattle.calls.specs.Rows.{memory_due}
use Rattle.calls.specs.Calls.{code_at, address_at, cell_due}
use Rattle.scan.specs.Visits.{Visit}
use Rattle.scan.specs.Scan.{Run, pointer}
use Rattle.scan.specs.Laws.{ScanLaws}
use Rattle.scan.specs.Endings.{Ending}
pub use Rattle.marking.specs.Marking.{told}

-- the scan of the hold's cell from zero marks
pub record Scanned (t : Types) (w : List ℕ) {S : Type 0} (step : S → Visit → Option S) (c a : ℕ) (s s' : S) (r : Result ℕ Refusal) : Type 0 where
  pub visits : List Visit
  pub left : List ℕ
  pub ending : Ending
  pub run : Run t w step (pointer c a) (replicate (length w) 0) s visits left s' ending
  pub answer : r ≡ told ending (length visits)
  pub laws : ScanLaws t w step c a (replicate (length w) 0) s visits left s' ending

-- marks m and inspector s before, m' and s' after
pub record Traces (t : Types) (w : List ℕ) {S : Type 0} (step : S → Visit → Option S) (rs : List HoldRecord) (h P : ℕ) (m : List ℕ) (s : S) (m' : List ℕ) (s' : S) (r : Result ℕ Refusal) : Type 0 where
  -- number 1 writes nothing
  pub small : (f : Refusal) → memory_due (length w) (length m) P ≡ Some f → (r ≡ Err f) × (m' ≡ m) × (s' ≡ s)
  -- on every other way out the marks are zero
  pub zeroed : memory_due (length w) (length m) P ≡ None → m' ≡ replicate (length w) 0
  pub refused : memory_due (length w) (length m) P ≡ None → (f : Refusal) → cell_due t (length w) rs h ≡ Some f → (r ≡ Err f) × (s' ≡ s)
  pub scanned : memory_due (length w) (length m) P ≡ None → cell_due t (length w) rs h ≡ None → Scanned t w step (code_at rs h) (address_at rs h) s s' r
