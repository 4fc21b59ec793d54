-- One more byte in a line buffer.
use Rattle.std.proofs.Common.{◌≡◌, ℕ, ◌+◌, ◌<◌, ◌≤◌, List, [], ◌∷◌, ◌++◌, length, take, set, sym, ◌∙◌, arith}
use Rattle.std.proofs.lemmas.List.{length_push, length-take-le, take_all, take_at, take_more_set}

pub pushed_below : (bs : List ℕ) (n b : ℕ) → n < 401 → length bs ≡ 401 → take (n + 1) (set bs n b) ≡ take 401 (take n bs ++ b ∷ [])
pushed_below bs n b h l =
    take_more_set bs n b (omega arith) ∙ sym (take_all 401 (take n bs ++ b ∷ []) (omega (arith, length_push (take n bs) b, length-take-le n bs (omega arith))))

pub pushed_past : (bs : List ℕ) (n b : ℕ) → 401 ≤ n → n ≤ 401 → length bs ≡ 401 → take n bs ≡ take 401 (take n bs ++ b ∷ [])
pushed_past bs n b h k l = sym (take_at (take n bs) (b ∷ []) 401 (omega (arith, length-take-le n bs (omega arith))))
