-- How many bytes are unmarked from a word on, and from the next.
use Rattle.std.proofs.Common.{◌≡◌, ℕ, suc, ◌+◌, ◌<◌, cond, eqb, List, length, get_or, drop, sym, ap, ◌∙◌, arith}
use Rattle.std.proofs.lemmas.List.{at_drop_more}
use Rattle.std.proofs.lemmas.Bool.Decides.{nat_tests}
use Rattle.scan.specs.Marks.{IsMarked, unmarked}
use Rattle.sweeping.specs.Sweeping.{IsFree}

pub count_marked : (m : List ℕ) (a n : ℕ) → a < length m → IsMarked m a → n ≡ unmarked (drop (a + 1) m) → n ≡ unmarked (drop a m)
count_marked m a n h marked e =
    let more = at_drop_more unmarked m a 0 h in
    e ∙ sym (more ∙ ap (λ (b : ℕ). cond (eqb b 1) (unmarked (drop (a + 1) m)) (suc (unmarked (drop (a + 1) m)))) marked)

pub count_unmarked_lem : (m : List ℕ) (a n : ℕ) → a < length m → IsFree m a → n ≡ unmarked (drop (a + 1) m)
    → n + 1 ≡ unmarked (drop a m)
count_unmarked_lem m a n h free e =
    let more = at_drop_more unmarked m a 0 h in
    let rest = unmarked (drop (a + 1) m) in
    let one : ◌≡◌ {A = ℕ} (cond (eqb (get_or m a 0) 1) rest (suc rest)) (suc rest) = grind (arith, nat_tests) in
    omega (arith, more, one, e)
