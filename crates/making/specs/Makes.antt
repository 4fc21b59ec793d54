-- What making a cell answers and leaves, on any memory, hold table and source.
use Rattle.std.specs.Prelude.{◌≡◌, ℕ, List, length, replicate, Some, None, Ok, Err, Result, slice_set}
use Rattle.refusals.specs.declared.refusal.Refusal.{Refusal}
use Rattle.refusals.specs.declared.refusal.Refusal.TheVariants.{Broken, NoRun}
use Rattle.layouts.specs.Types.{Types}
use Rattle.cells.specs.declared.content.Content.TheVariants.{Cell}
use Rattle.cells.specs.Words.{words_in}
use Rattle.calls.specs.declared.record.HoldRecord.{HoldRecord}
use Rattle.calls.specs.Holds.{holding}
use Rattle.calls.specs.Rows.{memory_due}
use Rattle.calls.specs.Calls.{make_due}
use Rattle.free_list.specs.Free.{NoFit, proper, broken}
use Rattle.free_list.specs.Taken.{Given}
use Rattle.marking.specs.Marking.{Marked}
use Rattle.sweeping.specs.Sweeping.{Swept}

-- all that the holds rs reach is marked, and the rest becomes the free list, from the words w to u
pub data Collected (t : Types) (w : List ℕ) (rs : List HoldRecord) : List ℕ → Result (Unit {0}) Refusal → Type 0 where
  swept : {m u : List ℕ} {k : ℕ} → Marked t w rs m (Ok k) → Swept w m u → Collected t w rs u (Ok tt)
  stopped : {m : List ℕ} {f : Refusal} → Marked t w rs m (Err f) → Collected t w rs w (Err f)

-- n words for a cell, from the words w to w': cut from the first run that has room; where no run has, all that the holds rs reach
-- is marked, the rest becomes the free list, and the first run of that has room, or none has and the list is left so
pub data Found (t : Types) (w : List ℕ) (rs : List HoldRecord) (n : ℕ) : List ℕ → Result ℕ Refusal → Type 0 where
  at_hand : {w' : List ℕ} {a : ℕ} → Given w n w' a → Found t w rs n w' (Ok a)
  broken_link : {q : ℕ} → NoFit w n (broken q) → Found t w rs n w (Err (Broken q))
  broken_content : {u : List ℕ} {f : Refusal} → NoFit w n proper → Collected t w rs u (Err f) → Found t w rs n u (Err f)
  collected : {u w' : List ℕ} {a : ℕ} → NoFit w n proper → Collected t w rs u (Ok tt) → Given u n w' a → Found t w rs n w' (Ok a)
  no_run : {u : List ℕ} → NoFit w n proper → Collected t w rs u (Ok tt) → NoFit u n proper → Found t w rs n u (Err (NoRun n))

-- the hold has the new cell, or the holds are as they were
abbrev pub with_cell : List HoldRecord → ℕ → ℕ → Result ℕ Refusal → List HoldRecord
with_cell rs h c (Ok a) = slice_set rs h (holding (Cell c a))
with_cell rs h c (Err f) = rs

-- words w, holds rs and marks m before, w', rs' and m' after, where P pending places are lent
pub record Makes (t : Types) (w : List ℕ) (rs : List HoldRecord) (h c P : ℕ) (m w' : List ℕ) (rs' : List HoldRecord) (m' : List ℕ) (r : Result ℕ Refusal) : Type 0 where
  -- number 1 writes nothing
  pub small : (f : Refusal) → memory_due (length w) (length m) P ≡ Some f → (r ≡ Err f) × (w' ≡ w) × (rs' ≡ rs) × (m' ≡ m)
  -- on every other way out the marks are zero
  pub zeroed : memory_due (length w) (length m) P ≡ None → m' ≡ replicate (length w) 0
  pub refused : memory_due (length w) (length m) P ≡ None → (f : Refusal) → make_due t rs h c ≡ Some f → (r ≡ Err f) × (w' ≡ w) × (rs' ≡ rs)
  pub made : memory_due (length w) (length m) P ≡ None → make_due t rs h c ≡ None → Found t w rs (words_in (t.size c)) w' r × (rs' ≡ with_cell rs h c r)
