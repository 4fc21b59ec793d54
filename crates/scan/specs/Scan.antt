-- The scan of Fenichel's memo MAC TM-19, as the recursion that it is.
use Rattle.std.specs.Prelude.{◌≡◌, ℕ, ◌+◌, ◌<◌, ◌≤◌, List, [], ◌∷◌, ◌++◌, Some, None, Ok, Err, Option}
use Rattle.layouts.specs.Types.{Types}
use Rattle.cells.specs.Words.{place}
use Rattle.scan.specs.Visits.{Visit}
use Rattle.scan.specs.Marks.{IsMarked, mark_words}
use Rattle.scan.specs.Children.{width, child_at, cell_visit}
use Rattle.scan.specs.declared.frame.Child.TheVariants.{Nothing, Cell, Misfit}
use Rattle.scan.specs.Endings.{Ending, Done}
use Rattle.scan.specs.declared.scanned.Stop.TheVariants.{Broken, Full}

pub data Task : Type 0 where
  -- the scan of the pointer of code c at address a
  pointer : ℕ → ℕ → Task
  -- the rest of the cell of code c at a: its words from i on, then its visit
  rest : ℕ → ℕ → ℕ → Task

-- the ending ends the whole scan
abbrev pub Stops : Ending → Type 0
Stops (Ok x) = ⊥
Stops (Err stop) = Unit {0}

-- A task turns marks m and what the inspector holds, s, into m' and s' by visits in their order, and ends. A pointer whose byte is
-- marked is left alone; else all bytes of its cell are marked, its words are gone through upward, each child is scanned, and
-- then the cell is visited. A child that does not fit ends the scan whatever is marked.
pub data Run (t : Types) (w : List ℕ) {S : Type 0} (step : S → Visit → Option S) : Task → List ℕ → S → List Visit → List ℕ → S → Ending → Type 0 where
  marked : {c a : ℕ} {m : List ℕ} {s : S} → IsMarked m a → Run t w step (pointer c a) m s [] m s Done
  opened : {c a : ℕ} {m m' : List ℕ} {s s' : S} {vs : List Visit} {e : Ending} → (IsMarked m a → ⊥) → Run t w step (rest c a 1) (mark_words m a (width t c)) s vs m' s' e → Run t w step (pointer c a) m s vs m' s' e
  visited : {c a i : ℕ} {m : List ℕ} {s s' : S} → width t c < i → step s (cell_visit t w c a) ≡ Some s' → Run t w step (rest c a i) m s (cell_visit t w c a ∷ []) m s' Done
  refused : {c a i : ℕ} {m : List ℕ} {s : S} → width t c < i → step s (cell_visit t w c a) ≡ None → Run t w step (rest c a i) m s [] m s (Err (Full a))
  plain : {c a i : ℕ} {m m' : List ℕ} {s s' : S} {vs : List Visit} {e : Ending} → i ≤ width t c → child_at t w c a i ≡ Nothing → Run t w step (rest c a (i + 1)) m s vs m' s' e → Run t w step (rest c a i) m s vs m' s' e
  misfit : {c a i : ℕ} {m : List ℕ} {s : S} → i ≤ width t c → child_at t w c a i ≡ Misfit → Run t w step (rest c a i) m s [] m s (Err (Broken (place a i)))
  child : {c a i c' a' : ℕ} {m m₁ m₂ : List ℕ} {s s₁ s₂ : S} {vs₁ vs₂ : List Visit} {e : Ending} → i ≤ width t c → child_at t w c a i ≡ Cell c' a' → Run t w step (pointer c' a') m s vs₁ m₁ s₁ Done → Run t w step (rest c a (i + 1)) m₁ s₁ vs₂ m₂ s₂ e → Run t w step (rest c a i) m s (vs₁ ++ vs₂) m₂ s₂ e
  stopped : {c a i c' a' : ℕ} {m m₁ : List ℕ} {s s₁ : S} {vs : List Visit} {e : Ending} → i ≤ width t c → child_at t w c a i ≡ Cell c' a' → Run t w step (pointer c' a') m s vs m₁ s₁ e → Stops e → Run t w step (rest c a i) m s vs m₁ s₁ e
