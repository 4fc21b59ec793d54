-- How many bytes are unmarked, before and after a mark.
use Rattle.std.proofs.Common.{◌≡◌, ℕ, zero, suc, ◌+◌, ◌<◌, ◌≤◌, List, [], ◌∷◌, ◌++◌, length, take, drop, get_or, set, replicate, sym, refl, ap, ap₂, subst, ◌∙◌, drop-drop, add-zero, add-suc, arith, length-set, length-append}
use Rattle.std.proofs.lemmas.Bool.Decides.{nat_tests}
use Rattle.std.proofs.lemmas.List.{append_assoc, take-append-drop, length-take-le, length-replicate}
use Rattle.std.proofs.Math.Seq.{drop-cons, set-append_seam}
use borrow.Rule.Slice.PartMut.{put_mid}
use Rattle.scan.specs.Marks.{IsMarked, mark_words, unmarked}

pub unmarked_cons : (b : ℕ) (m : List ℕ) → unmarked m ≤ unmarked (b ∷ m)
unmarked_cons b m = grind (arith, nat_tests)

pub unmarked_some : (m : List ℕ) (a : ℕ) → a < length m → (IsMarked m a → ⊥) → 0 < unmarked m
unmarked_some [] a lt no_one = absurd (omega arith)
unmarked_some (b ∷ m) zero lt no_one = grind (arith, nat_tests)
unmarked_some (b ∷ m) (suc a) lt no_one =
    let h : 0 < unmarked m = unmarked_some m a (omega arith) no_one in omega (arith, unmarked_cons b m)

pub unmarked_all : (m : List ℕ) → unmarked m ≤ length m
unmarked_all [] = omega arith
unmarked_all (b ∷ m) = let h = unmarked_all m in grind (arith, nat_tests)

pub set_le : (m : List ℕ) (a : ℕ) → unmarked (set m a 1) ≤ unmarked m
set_le [] a = omega arith
set_le (b ∷ m) zero = unmarked_cons b m
set_le (b ∷ m) (suc a) = let h = set_le m a in grind (arith, nat_tests)

pub set_lt : (m : List ℕ) (a : ℕ) → a < length m → (IsMarked m a → ⊥) → unmarked (set m a 1) < unmarked m
set_lt [] a lt no_one = absurd (omega arith)
set_lt (b ∷ m) zero lt no_one = grind (arith, nat_tests)
set_lt (b ∷ m) (suc a) lt no_one =
    let h : unmarked (set m a 1) < unmarked m = set_lt m a (omega arith) no_one in grind (arith, nat_tests)

pub mark_lt : (m : List ℕ) (a n : ℕ) → a < length m → 0 < n → (IsMarked m a → ⊥) → unmarked (mark_words m a n) < unmarked m
mark_lt m a zero lt pos no_one = absurd (omega arith)
mark_lt m a (suc zero) lt pos no_one = rw add-zero (set_lt m a lt no_one)
mark_lt m a (suc (suc n)) lt pos no_one =
    let h : unmarked (mark_words m a (suc n)) < unmarked m = mark_lt m a (suc n) lt (omega arith) no_one in
    omega (arith, set_le (mark_words m a (suc n)) (a + suc n))

pub length_mark : (m : List ℕ) (a n : ℕ) → length (mark_words m a n) ≡ length m
length_mark m a zero = refl
length_mark m a (suc n) = length-set (mark_words m a n) (a + n) 1 ∙ length_mark m a n

ones_more : (n : ℕ) (ys : List ℕ) → replicate n 1 ++ (1 ∷ ys) ≡ 1 ∷ (replicate n 1 ++ ys)
ones_more zero ys = refl
ones_more (suc n) ys = ap (λ xs. 1 ∷ xs) (ones_more n ys)

filled : (m : List ℕ) (a n k : ℕ) → a + n ≤ length m → k ≡ n → take a m ++ (replicate n 1 ++ drop (a + k) m) ≡ mark_words m a n
filled m a zero k le same = rw (same, add-zero) (take-append-drop a m)
filled m a (suc n) k le same =
    let front : List ℕ = take a m ++ replicate n 1 in
    let ys : List ℕ = drop (suc (a + n)) m in
    let len : length front ≡ a + n = length-append (take a m) (replicate n 1) ∙ ap₂ (λ x y. x + y) (length-take-le a m (omega arith)) (length-replicate n 1) in
    let rest : drop (a + n) m ≡ get_or m (a + n) 0 ∷ ys = drop-cons m (a + n) 0 (omega arith) in
    let was : front ++ (get_or m (a + n) 0 ∷ ys) ≡ mark_words m a n = append_assoc (take a m) (replicate n 1) _ ∙ ap (λ xs. take a m ++ (replicate n 1 ++ xs)) (sym rest) ∙ filled m a n n (omega arith) refl in
    let here : set (front ++ (get_or m (a + n) 0 ∷ ys)) (a + n) 1 ≡ front ++ (1 ∷ ys) = subst (λ i. set (front ++ (get_or m (a + n) 0 ∷ ys)) i 1 ≡ front ++ (1 ∷ ys)) len (set-append_seam front (get_or m (a + n) 0) ys 1) in
    rw (same, add-suc) (ap (λ xs. take a m ++ xs) (sym (ones_more n ys)) ∙ sym (append_assoc (take a m) (replicate n 1) (1 ∷ ys)) ∙ sym here ∙ ap (λ xs. set xs (a + n) 1) was)

-- the bytes of a cell filled with 1 at once
pub put_ones : (m ys : List ℕ) (a n k : ℕ) → a + n ≤ length m → k ≡ n → ys ≡ replicate n 1 → put_mid a k m ys ≡ mark_words m a n
put_ones m ys a n k le same ones = rw ones (ap (λ xs. take a m ++ (replicate n 1 ++ xs)) (drop-drop k a m) ∙ filled m a n k le same)
