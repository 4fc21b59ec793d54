-- The sizes of lent memory that a heap may stand on.
use Rattle.std.specs.Prelude.{◌≡◌, ℕ, ◌≤◌}

-- from 2 to 65,536 words, and as many marks
abbrev pub HeapSize : ℕ → ℕ → Type 0
HeapSize L M = (2 ≤ L) × (L ≤ 65536) × (M ≡ L)
