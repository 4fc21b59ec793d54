-- Marks that are exactly those of a set of cells.
use Rattle.std.specs.Prelude.{ℕ, List}
use Rattle.layouts.specs.Types.{Types}
use Rattle.scan.specs.Marks.{IsMarked}
use Rattle.model.specs.Model.{Made}
use Rattle.model.specs.Agrees.{Covers}

-- the bytes that are 1 are those of the words of the cells of R
pub record MarksExactly (t : Types) (cs : List Made) (R : ℕ → Type 0) (m : List ℕ) : Type 0 where
  pub sound : (j : ℕ) → IsMarked m j → (k : ℕ) × R k × Covers t cs k j
  pub complete : (k j : ℕ) → R k → Covers t cs k j → IsMarked m j
