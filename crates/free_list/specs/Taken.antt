-- What the taking of a cell answers, and leaves, on every input.
use Rattle.std.specs.Prelude.{◌≡◌, ℕ, ◌+◌, ◌-◌, ◌≤◌, List, length, Some, None, Ok, Err, Option, Result}
use Rattle.free_list.specs.declared.fault.Fault.{Fault}
use Rattle.free_list.specs.declared.fault.Fault.TheVariants.{Length, Size, Broken}
use Rattle.free_list.specs.Free.{FirstFit, NoFit, proper, broken}
use Rattle.free_list.specs.Cells.{Cut, ListAfter}

-- so many words make a heap
pub record Heap (w : List ℕ) : Type 0 where
  pub some : 2 ≤ length w
  pub long : length w ≤ 65536

-- a cell of n words at c is cut from the first run that has room
pub record Given (w : List ℕ) (n : ℕ) (v : List ℕ) (c : ℕ) : Type 0 where
  pub heap : Heap w
  pub words : 1 ≤ n
  pub link : ℕ
  pub run : ℕ
  pub size : ℕ
  pub first : FirstFit w n link run size
  pub cell : c ≡ run + (size - n)
  pub cut : Cut w link run size n v
  pub list : ListAfter w link run size n v

abbrev pub Taken : List ℕ → ℕ → List ℕ → Result (Option ℕ) Fault → Type 0
Taken w n v (Ok None) = Heap w × (1 ≤ n) × NoFit w n proper × (v ≡ w)
Taken w n v (Ok (Some c)) = Given w n v c
Taken w n v (Err Length) = (Heap w → ⊥) × (v ≡ w)
Taken w n v (Err Size) = Heap w × (n ≡ 0) × (v ≡ w)
Taken w n v (Err (Broken q)) = Heap w × (1 ≤ n) × NoFit w n (broken q) × (v ≡ w)

-- taking a cell has one answer, and leaves one list of words
abbrev pub OneAnswer : Type 0
OneAnswer = (w : List ℕ) (n : ℕ) (u v : List ℕ) (r s : Result (Option ℕ) Fault) → Taken w n u r → Taken w n v s → (r ≡ s) × (u ≡ v)
