-- Where the words of an accepted table's templates stand.
use Rattle.std.proofs.Common.{◌≡◌, ℕ, ◌+◌, ◌<◌, ◌&&◌, Bool, true, cond, leb, Some, None, List, length, get_or, arith}
use Rattle.std.proofs.lemmas.Bool.Decides.{nat_tests}
use Rattle.layouts.specs.Table.{Accepted, begins}
use Rattle.layouts.proofs.Sound.{sound}
use Rattle.layouts.proofs.TableLaws.{entry_within}

pub within : (ws : List ℕ) (c i n : ℕ) → Accepted ws → cond (begins ws c) (Some (get_or ws c 0)) None ≡ Some n → (leb 1 i && leb i n) ≡ true → c + i < length ws
within ws c i n a e h =
    entry_within ws (sound ws a) c i (grind (arith, nat_tests)) (grind (arith, nat_tests)) (grind (arith, nat_tests))

-- the answer at a template of n entries, by the test of the word's number
pub by_test : (ws : List ℕ) (c i n x : ℕ) (b : Bool) → cond (begins ws c) (Some (get_or ws c 0)) None ≡ Some n → (leb 1 i && leb i n) ≡ b → cond (begins ws c && (leb 1 i && leb i (get_or ws c 0))) (Some x) None ≡ cond b (Some x) None
by_test ws c i n x b e h =
    let s : begins ws c ≡ true = grind (arith, nat_tests) in
    let z : get_or ws c 0 ≡ n = grind (arith, nat_tests) in
    rw (s, z, h)
