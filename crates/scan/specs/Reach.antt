-- The cells that contents reach.
use Rattle.std.specs.Prelude.{◌≡◌, ℕ, ◌+◌, ◌<◌, ◌≤◌, List, [], ◌∷◌, ◌≢◌, slice_index_or}
use Rattle.layouts.specs.Types.{Types}
use Rattle.cells.specs.declared.content.Content.{Content}
use Rattle.cells.specs.declared.content.Content.TheVariants.{Nothing as NoContent, Cell as CellContent}
use Rattle.scan.specs.Marks.{IsMarked}
use Rattle.scan.specs.Children.{width, child_at}
use Rattle.scan.specs.declared.frame.Child.TheVariants.{Cell, Misfit}

-- the cell is reached from the contents, as of holds: it is in one of them, or a word of a reached cell leads to it
pub data Reach (t : Types) (w : List ℕ) (roots : List Content) : ℕ → ℕ → Type 0 where
  root : {c a : ℕ} (h : ℕ) → slice_index_or roots h NoContent ≡ CellContent c a → Reach t w roots c a
  through : {c a c' a' : ℕ} (i : ℕ) → Reach t w roots c a → 1 ≤ i → i ≤ width t c → child_at t w c a i ≡ Cell c' a' → Reach t w roots c' a'

-- the one pointer of code c at a
abbrev pub lone : ℕ → ℕ → List Content
lone c a = CellContent c a ∷ []

-- each word of each reached cell is in order
abbrev pub InOrder : Types → List ℕ → List Content → Type 0
InOrder t w roots = (c a i : ℕ) → Reach t w roots c a → 1 ≤ i → i ≤ width t c → child_at t w c a i ≢ Misfit

-- no two reached cells overlap
abbrev pub Apart : Types → List ℕ → List Content → Type 0
Apart t w roots = (c₁ a₁ c₂ a₂ : ℕ) → Reach t w roots c₁ a₁ → Reach t w roots c₂ a₂ → a₁ ≤ a₂ → a₂ < a₁ + width t c₁ → (c₁ ≡ c₂) × (a₁ ≡ a₂)

-- no reached cell is marked
abbrev pub Unmarked : Types → List ℕ → List Content → List ℕ → Type 0
Unmarked t w roots m = (c a : ℕ) → Reach t w roots c a → IsMarked m a → ⊥

-- the byte stands for a word of the cell
abbrev pub InCell : Types → ℕ → ℕ → ℕ → Type 0
InCell t c a j = (a ≤ j) × (j < a + width t c)

-- every word of the cell is marked
abbrev pub CellMarked : Types → List ℕ → ℕ → ℕ → Type 0
CellMarked t m c a = (j : ℕ) → InCell t c a j → IsMarked m j

-- each child of the cell, from its word i on, is marked
abbrev pub ChildrenMarked : Types → List ℕ → List ℕ → ℕ → ℕ → ℕ → Type 0
ChildrenMarked t w m c a i = (j c' a' : ℕ) → i ≤ j → j ≤ width t c → child_at t w c a j ≡ Cell c' a' → IsMarked m a'

-- a reached cell that is marked is marked in all its words, and so is each of its children at its first
abbrev pub Closed : Types → List ℕ → List Content → List ℕ → Type 0
Closed t w roots m = (c a : ℕ) → Reach t w roots c a → IsMarked m a → CellMarked t m c a × ChildrenMarked t w m c a 1
