-- The words of a new heap, as they are written.
use Rattle.std.proofs.Common.{◌≡◌, ℕ, zero, suc, ◌-◌, ◌*◌, ◌≤◌, List, ◌∷◌, length, set, replicate, None, sym, ap, ◌∙◌, arith, length-set}
use lib.ListN.{length-replicate}
use Rattle.std.proofs.lemmas.Bool.Decides.{nat_tests}
use Rattle.calls.specs.Rows.{row_1}
use Rattle.heap.specs.Memory.{new_words}

same_rest : (k : ℕ) → suc (suc k) - 2 ≡ k
same_rest k = omega arith

by_zeros : (L : ℕ) (v : ℕ) → 2 ≤ L → set (set (replicate L 0) 0 1) 1 v ≡ 1 ∷ v ∷ replicate (L - 2) 0
by_zeros zero v h = absurd (omega arith)
by_zeros (suc zero) v h = absurd (omega arith)
by_zeros (suc (suc k)) v h = ap (λ n. 1 ∷ v ∷ replicate n 0) (sym (same_rest k))

pub written_new : (L : ℕ) (zeros : List ℕ) (first run : ℕ) → 2 ≤ L → zeros ≡ replicate L 0 → first ≡ 1 → run ≡ (L - 1) * 65536 → set (set zeros 0 first) 1 run ≡ new_words L
written_new L zeros first run h zeroed one whole =
    ap (λ (x : List ℕ). set (set x 0 first) 1 run) zeroed
    ∙ ap (λ (n : ℕ). set (set (replicate L 0) 0 n) 1 run) one
    ∙ ap (λ (n : ℕ). set (set (replicate L 0) 0 1) 1 n) whole
    ∙ by_zeros L ((L - 1) * 65536) h

pub served : (L M : ℕ) → row_1 L M ≡ None → (2 ≤ L) × (L ≤ 65536)
served L M e = (grind (arith, nat_tests), grind (arith, nat_tests))
