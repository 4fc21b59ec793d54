-- How many entries are due at each word of a template, in any words.
use Rattle.std.proofs.Common.{◌≡◌, ℕ, zero, suc, ◌+◌, ◌-◌, ◌<◌, ◌≤◌, true, cond, eqb, List, length, get_or, ◌∙◌, subst, add-one, arith}
use Rattle.std.proofs.lemmas.Bool.Decides.{nat_tests}
use Rattle.layouts.specs.Table.{due, begins}

next_in : (d w : ℕ) → 1 ≤ d → cond (eqb d 0) w (d - 1) ≡ d - 1
next_in d w h = grind (arith, nat_tests)

next_first : (d w : ℕ) → d ≡ 0 → cond (eqb d 0) w (d - 1) ≡ w
next_first d w h = grind (arith, nat_tests)

pub due_step : (ws : List ℕ) (k : ℕ) → due ws (k + 1) ≡ cond (eqb (due ws k) 0) (get_or ws k 0) (due ws k - 1)
due_step ws k = rw add-one

run : (ws : List ℕ) (c : ℕ) → due ws c ≡ 0 → (j : ℕ) → j ≤ get_or ws c 0 → due ws (suc (c + j)) ≡ get_or ws c 0 - j
run ws c e zero h =
    let z : c + 0 ≡ c = omega arith in
    rw z (next_first (due ws c) (get_or ws c 0) e ∙ omega arith)
run ws c e (suc j) h =
    let z : c + suc j ≡ suc (c + j) = omega arith in
    let before = run ws c e j (omega arith) in
    rw z (next_in (due ws (suc (c + j))) (get_or ws (suc (c + j)) 0) (omega arith) ∙ omega arith)

-- at entry i of the template that begins at c, it and those after it are due; past the last none is
pub due_inside : (ws : List ℕ) (c i : ℕ) → due ws c ≡ 0 → 1 ≤ i → i ≤ get_or ws c 0 + 1 → due ws (c + i) ≡ get_or ws c 0 + 1 - i
due_inside ws c i e l h =
    let z : suc (c + (i - 1)) ≡ c + i = omega arith in
    subst (λ (m : ℕ). due ws m ≡ get_or ws c 0 - (i - 1)) z (run ws c e (i - 1) (omega arith)) ∙ omega arith

pub due_next : (ws : List ℕ) (c : ℕ) → due ws c ≡ 0 → due ws (c + 1 + get_or ws c 0) ≡ 0
due_next ws c e =
    let z : c + (get_or ws c 0 + 1) ≡ c + 1 + get_or ws c 0 = omega arith in
    subst (λ (m : ℕ). due ws m ≡ 0) z (due_inside ws c (get_or ws c 0 + 1) e (omega arith) (omega arith) ∙ omega arith)

pub begins_parts : (ws : List ℕ) (c : ℕ) → begins ws c ≡ true → (1 ≤ c) × (c < length ws) × (due ws c ≡ 0)
begins_parts ws c e = (grind (arith, nat_tests), grind (arith, nat_tests), grind (arith, nat_tests))

pub begins_from : (ws : List ℕ) (c : ℕ) → 1 ≤ c → c < length ws → due ws c ≡ 0 → begins ws c ≡ true
begins_from ws c l h e = grind (arith, nat_tests)
