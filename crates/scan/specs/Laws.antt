-- What holds of every scan.
use Rattle.std.specs.Prelude.{◌≡◌, ℕ, ◌+◌, ◌≤◌, ◌⊎◌, List, [], ◌∷◌, ◌++◌, length, Some, None, Err, Option, ◌≢◌, slice_index}
use Rattle.std.specs.List.{AllByRecursion}
use Rattle.layouts.specs.Types.{Types}
use Rattle.cells.specs.declared.content.Content.{Content}
use Rattle.cells.specs.Words.{place}
use Rattle.scan.specs.Visits.{Visit, holds, Seen, Once}
use Rattle.scan.specs.Marks.{IsMarked, unmarked}
use Rattle.scan.specs.Children.{width, child_at, cell_visit}
use Rattle.scan.specs.Scan.{Run, pointer}
use Rattle.scan.specs.Reach.{Reach, lone, InOrder, Apart, Unmarked, InCell, CellMarked, Closed}
use Rattle.scan.specs.declared.frame.Child.TheVariants.{Cell, Misfit}
use Rattle.scan.specs.Endings.{Ending, Done}
use Rattle.scan.specs.declared.scanned.Stop.TheVariants.{Broken, Full}

-- a visit of a cell that the pointer reaches and that was not marked, with the words of that cell
pub record Due (t : Types) (w : List ℕ) (c a : ℕ) (m m' : List ℕ) (v : Visit) : Type 0 where
  pub reached : Reach t w (lone c a) v.code v.address
  pub is_cell : v ≡ cell_visit t w v.code v.address
  pub was_unmarked : IsMarked m v.address → ⊥
  pub now_marked : IsMarked m' v.address

-- each child of the visited cell was marked in m, is among the visits before, or leads to the cell itself
abbrev pub Settled : Types → List ℕ → List ℕ → List Visit → Visit → Type 0
Settled t w m before v = (i c a : ℕ) → 1 ≤ i → i ≤ width t v.code → child_at t w v.code v.address i ≡ Cell c a → IsMarked m a ⊎ (Seen before c a ⊎ Reach t w (lone c a) v.code v.address)

-- children before parents: so it is with each visit
abbrev pub ChildrenFirst : Types → List ℕ → List ℕ → List Visit → List Visit → Type 0
ChildrenFirst t w m before [] = Unit {0}
ChildrenFirst t w m before (v ∷ vs) = Settled t w m before v × ChildrenFirst t w m (before ++ (v ∷ [])) vs

-- what a scan that ends undisturbed makes of marks that are closed under some roots, of which its pointer is reached
pub record Completes (t : Types) (w : List ℕ) (roots : List Content) (c a : ℕ) (m : List ℕ) (vs : List Visit) (m' : List ℕ) : Type 0 where
  -- they stay closed
  pub closed : Closed t w roots m'
  -- what the pointer reaches is marked, in all its words
  pub covered : (c₁ a₁ : ℕ) → Reach t w (lone c a) c₁ a₁ → CellMarked t m' c₁ a₁ × IsMarked m' a₁
  -- each cell that is marked anew was visited
  pub seen : (c₁ a₁ : ℕ) → Reach t w roots c₁ a₁ → IsMarked m' a₁ → IsMarked m a₁ ⊎ Seen vs c₁ a₁

-- the laws of the scan of the pointer of code c at a
pub record ScanLaws (t : Types) (w : List ℕ) {S : Type 0} (step : S → Visit → Option S) (c a : ℕ) (m : List ℕ) (s : S) (vs : List Visit) (m' : List ℕ) (s' : S) (e : Ending) : Type 0 where
  -- the same start has the same end
  pub alone : (us : List Visit) (m'' : List ℕ) (s'' : S) (e'' : Ending) → Run t w step (pointer c a) m s us m'' s'' e'' → (vs ≡ us) × (m' ≡ m'') × (s' ≡ s'') × (e ≡ e'')
  -- the inspector holds what the visits make of what it held
  pub held : holds step s vs ≡ Some s'
  -- a byte stays as it is or becomes 1, so that what is marked stays marked
  pub same_length : length m' ≡ length m
  pub written : (j : ℕ) → (slice_index m' j ≡ slice_index m j) ⊎ IsMarked m' j
  pub grown : (j : ℕ) → IsMarked m j → IsMarked m' j
  -- what is marked anew lies in a cell that is reached
  pub only : (j : ℕ) → IsMarked m' j → IsMarked m j ⊎ ((c₁ : ℕ) × (a₁ : ℕ) × Reach t w (lone c a) c₁ a₁ × InCell t c₁ a₁ j)
  -- each cell is visited at most once, and only what is reached and was not marked
  pub once : Once vs
  pub due : AllByRecursion (Due t w c a m m') vs
  -- each visit is of a cell with a byte that is marked anew
  pub room : length vs + unmarked m' ≤ unmarked m
  -- the pointer's own cell is visited last
  pub last : e ≡ Done → (IsMarked m a → ⊥) → (front : List Visit) × (vs ≡ front ++ (cell_visit t w c a ∷ []))
  -- where reached cells do not overlap, children are visited before their parents
  pub children_first : Apart t w (lone c a) → ChildrenFirst t w m [] vs
  -- a broken word is a word of a reached cell whose child does not fit; so where all is in order nothing is broken
  pub broken : (p : ℕ) → e ≡ Err (Broken p) → (c₁ : ℕ) × (a₁ : ℕ) × (i : ℕ) × Reach t w (lone c a) c₁ a₁ × (1 ≤ i) × (i ≤ width t c₁) × (child_at t w c₁ a₁ i ≡ Misfit) × (p ≡ place a₁ i)
  pub whole : InOrder t w (lone c a) → (p : ℕ) → e ≢ Err (Broken p)
  -- a full inspector refuses the visit of a reached cell, which was not visited before
  pub full : (b : ℕ) → e ≡ Err (Full b) → (c₁ : ℕ) × Reach t w (lone c a) c₁ b × (step s' (cell_visit t w c₁ b) ≡ None)
  pub unvisited : (b : ℕ) → e ≡ Err (Full b) → AllByRecursion (λ (v : Visit). v.address ≢ b) vs
  -- where all is in order and the inspector is never full, the scan is done
  pub done : InOrder t w (lone c a) → ((x : S) (v : Visit) → step x v ≢ None) → e ≡ Done
  -- one pointer after the other: reached cells that do not overlap
  pub completes : e ≡ Done → (roots : List Content) → Reach t w roots c a → Apart t w roots → Closed t w roots m → Completes t w roots c a m vs m'
  -- from marks that have none of the reached cells, the visits are exactly the reached cells
  pub exactly : e ≡ Done → Apart t w (lone c a) → Unmarked t w (lone c a) m → (c₁ a₁ : ℕ) → (Reach t w (lone c a) c₁ a₁ → Seen vs c₁ a₁) × (Seen vs c₁ a₁ → Reach t w (lone c a) c₁ a₁)
