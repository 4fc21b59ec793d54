-- What a call of the scan answers.
use Rattle.std.specs.Prelude.{◌≡◌, ℕ, ◌≤◌, cond, not, ◌||◌, List, length, Some, None, Ok, Err, Option, Result, ◌==◌, nat_lt}
use Rattle.layouts.specs.Types.{Types}
use Rattle.cells.specs.Words.{fits}
use Rattle.scan.specs.Visits.{Visit}
use Rattle.scan.specs.Scan.{Run, pointer}
use Rattle.scan.specs.Laws.{ScanLaws}
use Rattle.scan.specs.declared.frame.Frame.{Frame}
use Rattle.scan.specs.declared.scanned.Scanned.{Scanned}
use Rattle.scan.specs.declared.scanned.Unscanned.{Unscanned}
use Rattle.scan.specs.declared.scanned.Unscanned.TheVariants.{Memory, Root}

-- why no scan is made, where L words, M marks and P pending places are lent
abbrev pub unscanned : Types → ℕ → ℕ → ℕ → ℕ → ℕ → Option Unscanned
unscanned t L M P c a = cond (not (M == L) || nat_lt P L) (Some Memory) (cond (fits t L c a) None (Some Root))

-- a scan that was made: its visits, and that they are as many as it answers
pub record Traced (t : Types) (w : List ℕ) {S : Type 0} (step : S → Visit → Option S) (c a : ℕ) (m : List ℕ) (s : S) (m' : List ℕ) (s' : S) (r : Scanned) : Type 0 where
  pub visits_made : List Visit
  pub run : Run t w step (pointer c a) m s visits_made m' s' r.ending
  pub counted : r.visits ≡ length visits_made
  pub few : r.visits ≤ length w
  pub laws : ScanLaws t w step c a m s visits_made m' s' r.ending

-- no scan leaves everything as it was; what a scan leaves in the pending places is not said
abbrev pub Answers : (t : Types) (w : List ℕ) {S : Type 0} (step : S → Visit → Option S) → ℕ → ℕ → List ℕ → List Frame → S → List ℕ → List Frame → S → Result Scanned Unscanned → Type 0
Answers t w step c a m ps s m' ps' s' (Err u) = (unscanned t (length w) (length m) (length ps) c a ≡ Some u) × (m' ≡ m) × (ps' ≡ ps) × (s' ≡ s)
Answers t w step c a m ps s m' ps' s' (Ok r) = (unscanned t (length w) (length m) (length ps) c a ≡ None) × Traced t w step c a m s m' s' r
