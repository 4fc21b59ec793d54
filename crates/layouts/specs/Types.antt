-- What a template source means, and the laws that every source keeps.
use Rattle.std.specs.Prelude.{◌≡◌, ℕ, ◌+◌, ◌≤◌, Some, Option}
use Rattle.layouts.specs.declared.entry.Entry.{Entry}
use Rattle.layouts.specs.declared.entry.Entry.TheVariants.{Z, P, Code}

pub record Types : Type 0 where
  -- no type, or how many words a cell of the type has
  pub size : ℕ → Option ℕ
  -- what a word of a cell of the type holds; the words count from 1
  pub entry : ℕ → ℕ → Entry

-- c is a type, and i is one of its words
abbrev pub Within : Types → ℕ → ℕ → Type 0
Within t c i = (n : ℕ) × (t.size c ≡ Some n) × (1 ≤ i) × (i ≤ n)

-- c is a type that has cells
abbrev pub HasCells : Types → ℕ → Type 0
HasCells t c = (n : ℕ) × (t.size c ≡ Some n) × (1 ≤ n)

pub record Lawful (t : Types) : Type 0 where
  -- only 1 to 65,535 are types, of at most 255 words
  pub sized : (c n : ℕ) → t.size c ≡ Some n → (1 ≤ c) × (c ≤ 65535) × (n ≤ 255)
  -- P is never last, and Z follows it
  pub paired : (c i : ℕ) → t.entry c i ≡ P → Within t c (i + 1) × (t.entry c (i + 1) ≡ Z)
  -- an entry that names a code names a type that has cells
  pub named : (c i k : ℕ) → t.entry c i ≡ Code k → HasCells t k
  -- outside a type's words the entry reads Z
  pub outside : (c i : ℕ) → (Within t c i → ⊥) → t.entry c i ≡ Z
