-- The search for a row, and a visit's two answers.
use Rattle.std.proofs.Common.{◌≡◌, ℕ, ◌+◌, ◌^◌, ◌<◌, ◌≤◌, Bool, true, false, cond, ltb, suc, List, length, get_or, set, Some, None, Ok, Option, Result, IsErr, position, sym, refl, ap, subst, arith}
use Rattle.std.specs.List.{position_or_len}
use Rattle.std.proofs.lemmas.List.Recursion.{is_position_or_len}
use Rattle.std.proofs.lemmas.Bool.Decides.{nat_tests}
use Rattle.scan.specs.Visits.{Visited}
use Rattle.scan.specs.declared.inspector.Full.{Full}
use Rattle.inspectors.specs.declared.tally.Tally.{Tally}
use Rattle.inspectors.specs.Tallies.{serves, place, blank, takes, counted, tally_at}
use Rattle.inspectors.specs.declared.tally.Row.{Row}
use Rattle.inspectors.proofs.Made.{made, skipped}

one_more : (n : ℕ) → 1 + n ≡ suc n
one_more n = omega arith

is_place : (code : ℕ) (rows : List Row) → place code rows ≡ position_or_len (serves code) rows
is_place code rows = is_position_or_len (place code) (serves code) refl (λ r rs. ap (λ n. cond (serves code r) 0 n) (sym (one_more (place code rs)))) rows

found : (k L i : ℕ) → cond (ltb k L) (Some k) None ≡ Some i → (i ≡ k) × (k < L)
found k L i e = (grind (arith, nat_tests), grind (arith, nat_tests))

absent : (k L : ℕ) → ◌≡◌ {A = Option ℕ} (cond (ltb k L) (Some k) None) None → L ≤ k
absent k L e = grind (arith, nat_tests)

module _ (code : ℕ) (rows : List Row) where
  pub placed : (i : ℕ) → position (serves code) rows ≡ Some i → (i ≡ place code rows) × (i < length rows)
  placed i e = let f = found _ _ i e in let p = is_place code rows in (omega arith, omega arith)

  pub no_place : position (serves code) rows ≡ None → length rows ≤ place code rows
  no_place e = let f = absent _ _ e in let p = is_place code rows in omega arith

module _ (rows : List Row) (i n : ℕ) where
  -- both counts of row i stay below 2^32
  abbrev pub Below : Type 0
  Below = ((get_or rows i blank).cells + 1 < 2 ^ 32) × ((get_or rows i blank).words + n < 2 ^ 32)

  pub takes_yes : i < length rows → Below → takes rows i n ≡ true
  takes_yes h below = grind (arith, nat_tests, below.0, below.1)

  pub takes_past : length rows ≤ i → takes rows i n ≡ false
  takes_past h = grind (arith, nat_tests)

  pub takes_not : (Below → ⊥) → takes rows i n ≡ false
  takes_not past = by_test _ refl
    where
      by_test : (b : Bool) → takes rows i n ≡ b → takes rows i n ≡ false
      by_test true e = absurd (past (grind (arith, nat_tests), grind (arith, nat_tests)))
      by_test false e = e

pub made_at : (s t : Tally) (i j code n : ℕ) → i ≡ j → takes s.rows i n ≡ true → t ≡ record { rows = set s.rows i (counted code n (get_or s.rows i blank)) } → Visited (tally_at s j code n) s t (Ok tt)
made_at s t i j code n e h f = subst (λ k. Visited (tally_at s k code n) s t (Ok tt)) e (made _ s _ t h f)

pub skipped_at : (s : Tally) (i j code n : ℕ) (r : Result (Unit {0}) Full) → IsErr r → i ≡ j → takes s.rows i n ≡ false → Visited (tally_at s j code n) s s r
skipped_at s i j code n r err e h = subst (λ k. Visited (tally_at s k code n) s s r) e (skipped _ s _ r err h)
