-- What holds of every marking from zero marks.
use Rattle.std.specs.Prelude.{◌≡◌, ℕ, ◌≤◌, true, false, ◌⊎◌, List, length, replicate, ◌≢◌, slice_index, slice_index_or, Err}
use Rattle.std.specs.List.{AllByRecursion}
use Rattle.layouts.specs.Types.{Types}
use Rattle.cells.specs.declared.content.Content.{Content}
use Rattle.cells.specs.declared.content.Content.TheVariants.{Nothing, Cell}
use Rattle.cells.specs.Words.{fits, place}
use Rattle.scan.specs.Visits.{Visit, Seen, Once}
use Rattle.scan.specs.Marks.{IsMarked}
use Rattle.scan.specs.Children.{width, child_at, cell_visit}
use Rattle.scan.specs.Reach.{Reach, InOrder, Apart, InCell, CellMarked}
use Rattle.scan.specs.declared.frame.Child.TheVariants.{Misfit}
use Rattle.scan.specs.Endings.{Ending, Done}
use Rattle.scan.specs.declared.scanned.Stop.TheVariants.{Broken, Full}
use Rattle.marking.specs.Roots.{Roots}

-- a visit of a reached cell that fits, with the words of that cell
pub record OfCell (t : Types) (w : List ℕ) (ks : List Content) (v : Visit) : Type 0 where
  pub reached : Reach t w ks v.code v.address
  pub fit : fits t (length w) v.code v.address ≡ true
  pub is_cell : v ≡ cell_visit t w v.code v.address

-- each cell among the contents fits
abbrev pub RootsFit : Types → List ℕ → List Content → Type 0
RootsFit t w ks = (h c a : ℕ) → slice_index_or ks h Nothing ≡ Cell c a → fits t (length w) c a ≡ true

-- one of the contents is a cell that does not fit
abbrev pub UnfitRoot : Types → List ℕ → List Content → Type 0
UnfitRoot t w ks = (h : ℕ) × (c : ℕ) × (a : ℕ) × (slice_index_or ks h Nothing ≡ Cell c a) × (fits t (length w) c a ≡ false)

-- the word at p belongs to a reached cell, and its child does not fit
abbrev pub BrokenAt : Types → List ℕ → List Content → ℕ → Type 0
BrokenAt t w ks p = (c : ℕ) × (a : ℕ) × (i : ℕ) × Reach t w ks c a × (1 ≤ i) × (i ≤ width t c) × (child_at t w c a i ≡ Misfit) × (p ≡ place a i)

-- the laws of the marking from the contents ks
pub record MarkLaws (t : Types) (w : List ℕ) (ks : List Content) (vs : List Visit) (m' : List ℕ) (e : Ending) : Type 0 where
  -- the same start has the same end
  pub alone : (us : List Visit) (m'' : List ℕ) (e'' : Ending) → Roots t w ks (replicate (length w) 0) us m'' e'' → (vs ≡ us) × (m' ≡ m'') × (e ≡ e'')
  -- there is a byte for each word, 0 or 1; and what is marked lies in a cell that is reached
  pub long : length m' ≡ length w
  pub bytes : (j : ℕ) → (slice_index m' j ≡ 0) ⊎ IsMarked m' j
  pub only : (j : ℕ) → IsMarked m' j → (c : ℕ) × (a : ℕ) × Reach t w ks c a × InCell t c a j
  -- each cell is visited at most once, and only what is reached and fits
  pub once : Once vs
  pub due : AllByRecursion (OfCell t w ks) vs
  -- what is broken is a root that does not fit, told by address 0, or a word of a reached cell
  pub broken : (p : ℕ) → e ≡ Err (Broken p) → ((p ≡ 0) × UnfitRoot t w ks) ⊎ BrokenAt t w ks p
  pub never_full : (b : ℕ) → e ≢ Err (Full b)
  -- where all is in order, the marking is done
  pub done : InOrder t w ks → RootsFit t w ks → e ≡ Done
  -- where reached cells do not overlap, the visits are exactly the reached cells, and these are marked in all their words
  pub exactly : e ≡ Done → Apart t w ks → (c a : ℕ) → (Reach t w ks c a → Seen vs c a) × (Seen vs c a → Reach t w ks c a)
  pub covered : e ≡ Done → Apart t w ks → (c a : ℕ) → Reach t w ks c a → CellMarked t m' c a
