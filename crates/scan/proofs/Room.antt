-- How many bytes the visits of a scan take.
use Rattle.std.proofs.Common.{◌≡◌, ℕ, ◌+◌, ◌<◌, ◌≤◌, List, length, Option, ◌∙◌, arith, length-append}
use Rattle.layouts.specs.Types.{Types}
use Rattle.scan.specs.Visits.{Visit}
use Rattle.scan.specs.Marks.{mark_words, unmarked}
use Rattle.scan.specs.Children.{width}
use Rattle.scan.specs.Scan.{Run, Task, pointer, rest, marked, opened, visited, refused, plain, misfit, child, stopped}
use Rattle.scan.specs.Endings.{Ending}
use Rattle.scan.proofs.Counts.{mark_lt, length_mark}
use Rattle.scan.proofs.Inside.{Inside, inside_child}
use Rattle.scan.proofs.Grown.{run_length}

module _ (t : Types) (w : List ℕ) {S : Type 0} (step : S → Visit → Option S) where
  -- a pointer pays for its visits by bytes; the rest of a cell has one that is marked already
  abbrev Pays : Task → ℕ → ℕ → Type 0
  Pays (pointer c a) n b = n ≤ b
  Pays (rest c a i) n b = n ≤ b + 1

  abbrev Within : Task → Type 0
  Within (pointer c a) = Inside t (length w) c a
  Within (rest c a i) = Unit {0}

  pays : {k : Task} {m m' : List ℕ} {s s' : S} {vs : List Visit} {e : Ending} → Run t w step k m s vs m' s' e → length m ≡ length w → Within k → Pays k (length vs + unmarked m') (unmarked m)
  pays (marked one) len at = omega arith
  pays (opened {c = c} {a = a} {m = m} none r) len at =
      let fewer : unmarked (mark_words m a (width t c)) < unmarked m = mark_lt m a (width t c) (omega (arith, at.some, at.within)) at.some none in
      let ih = pays r (length_mark m a (width t c) ∙ len) tt in
      omega arith
  pays (visited past took) len at = omega arith
  pays (refused past none) len at = omega arith
  pays (plain le is r) len at = pays r len tt
  pays (misfit le is) len at = omega arith
  pays (child {c = c} {a = a} {i = i} {c' = c'} {a' = a'} {vs₁ = vs₁} {vs₂ = vs₂} le is r q) len at =
      let first = pays r len (inside_child t w c a i c' a' is) in
      let second = pays q (run_length t w step r ∙ len) tt in
      omega (arith, length-append vs₁ vs₂)
  pays (stopped {c = c} {a = a} {i = i} {c' = c'} {a' = a'} le is r stop) len at =
      let first = pays r len (inside_child t w c a i c' a' is) in
      omega arith

  pub room : {c a : ℕ} {m m' : List ℕ} {s s' : S} {vs : List Visit} {e : Ending} → Run t w step (pointer c a) m s vs m' s' e → length m ≡ length w → Inside t (length w) c a → length vs + unmarked m' ≤ unmarked m
  room r len inside = pays r len inside
