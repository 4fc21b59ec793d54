-- What marking from all holds answers and leaves, on any memory, hold table and source.
use Rattle.std.specs.Prelude.{◌≡◌, ℕ, List, length, replicate, Some, None, Ok, Err, Result}
use Rattle.refusals.specs.declared.refusal.Refusal.{Refusal}
use Rattle.layouts.specs.Types.{Types}
use Rattle.cells.specs.declared.content.Content.{Content}
use Rattle.calls.specs.declared.record.HoldRecord.{HoldRecord}
use Rattle.calls.specs.Rows.{memory_due}
use Rattle.scan.specs.Visits.{Visit}
use Rattle.scan.specs.Endings.{Ending, refusal_of}
use Rattle.marking.specs.Roots.{Roots, roots}
use Rattle.marking.specs.Laws.{MarkLaws}

-- what the ending of a scan and the number of its visits answer
abbrev pub told : Ending → ℕ → Result ℕ Refusal
told (Ok x) n = Ok n
told (Err stop) n = Err (refusal_of stop)

-- the contents ks were scanned, from marks m to m', with the answer r
pub record Scans (t : Types) (w : List ℕ) (ks : List Content) (m m' : List ℕ) (r : Result ℕ Refusal) : Type 0 where
  pub visits : List Visit
  pub ending : Ending
  pub run : Roots t w ks m visits m' ending
  pub answer : r ≡ told ending (length visits)

-- the marks stay where the marking is done, and are zero again where it is not
abbrev pub kept : ℕ → List ℕ → Ending → List ℕ
kept L m (Ok x) = m
kept L m (Err stop) = replicate L 0

-- the marking from the holds rs, from zero marks to m'
pub record Marked (t : Types) (w : List ℕ) (rs : List HoldRecord) (m' : List ℕ) (r : Result ℕ Refusal) : Type 0 where
  pub visits : List Visit
  pub left : List ℕ
  pub ending : Ending
  pub run : Roots t w (roots rs) (replicate (length w) 0) visits left ending
  pub answer : r ≡ told ending (length visits)
  pub kept_marks : m' ≡ kept (length w) left ending
  pub laws : MarkLaws t w (roots rs) visits left ending

-- marks m before and m' after, where P pending places are lent
pub record Marks (t : Types) (w : List ℕ) (rs : List HoldRecord) (P : ℕ) (m m' : List ℕ) (r : Result ℕ Refusal) : Type 0 where
  -- number 1 writes nothing
  pub small : (f : Refusal) → memory_due (length w) (length m) P ≡ Some f → (r ≡ Err f) × (m' ≡ m)
  pub marked : memory_due (length w) (length m) P ≡ None → Marked t w rs m' r
