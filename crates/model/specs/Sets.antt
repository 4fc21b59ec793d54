-- Lists of numbers as sets, and how many numbers a set has.
use Rattle.std.specs.Prelude.{◌≡◌, ℕ, ◌⊎◌, List, [], ◌∷◌, length}

-- k is in the list
abbrev pub Among : ℕ → List ℕ → Type 0
Among k [] = ⊥
Among k (x ∷ xs) = (k ≡ x) ⊎ Among k xs

-- nothing is in the list twice
abbrev pub Distinct : List ℕ → Type 0
Distinct [] = Unit {0}
Distinct (x ∷ xs) = (Among x xs → ⊥) × Distinct xs

-- the list has exactly what P holds of, each once
pub record Lists (P : ℕ → Type 0) (xs : List ℕ) : Type 0 where
  pub distinct : Distinct xs
  pub sound : (k : ℕ) → Among k xs → P k
  pub complete : (k : ℕ) → P k → Among k xs

-- P holds of exactly n numbers
abbrev pub Number : (ℕ → Type 0) → ℕ → Type 0
Number P n = (xs : List ℕ) × Lists P xs × (length xs ≡ n)
