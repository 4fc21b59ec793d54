-- Lists without repetition.
use Rattle.std.proofs.Common.{◌≡◌, ℕ, suc, ◌≤◌, ◌⊎◌, List, [], ◌∷◌, ◌++◌, length, sym, refl, ap, ◌∙◌, subst, inl, inr, arith}
use Rattle.model.specs.Sets.{Among, Distinct, Number}
use Rattle.std.proofs.lemmas.Bool.{cases_eq}

pub among_join : (k : ℕ) (xs ys : List ℕ) → Among k (xs ++ ys) → Among k xs ⊎ Among k ys
among_join k [] ys h = inr h
among_join k (x ∷ xs) ys (inl e) = inl (inl e)
among_join k (x ∷ xs) ys (inr h) = elim (among_join k xs ys h) [ inl p ↦ inl (inr p) | inr q ↦ inr q ]

pub among_left : (k : ℕ) (xs ys : List ℕ) → Among k xs → Among k (xs ++ ys)
among_left k [] ys h = absurd h
among_left k (x ∷ xs) ys (inl e) = inl e
among_left k (x ∷ xs) ys (inr h) = inr (among_left k xs ys h)

pub among_right : (k : ℕ) (xs ys : List ℕ) → Among k ys → Among k (xs ++ ys)
among_right k [] ys h = h
among_right k (x ∷ xs) ys h = inr (among_right k xs ys h)

pub distinct_join : (xs ys : List ℕ) → Distinct xs → Distinct ys → ((k : ℕ) → Among k xs → Among k ys → ⊥) → Distinct (xs ++ ys)
distinct_join [] ys o p apart = p
distinct_join (x ∷ xs) ys o p apart =
    ((λ h. elim (among_join x xs ys h) [ inl q ↦ o.0 q | inr q ↦ apart x (inl refl) q ]), distinct_join xs ys o.1 p (λ k q. apart k (inr q)))

-- the list without its k
without : ℕ → List ℕ → List ℕ
without k [] = []
without k (x ∷ xs) = elim (cases_eq k x) [ inl same ↦ xs | inr other ↦ x ∷ without k xs ]

without_length : (k : ℕ) (xs : List ℕ) → Among k xs → suc (length (without k xs)) ≡ length xs
unfolding without
without_length k [] h = absurd h
without_length k (x ∷ xs) h = at (without_length k xs) (cases_eq k x)
  where
    below : (k ≡ x → ⊥) → (k ≡ x) ⊎ Among k xs → Among k xs
    below other (inl e) = absurd (other e)
    below other (inr q) = q

    at : (Among k xs → suc (length (without k xs)) ≡ length xs) → (d : (k ≡ x) ⊎ (k ≡ x → ⊥)) → suc (length {A = ℕ} (elim d [ inl same ↦ xs | inr other ↦ x ∷ without k xs ])) ≡ suc (length xs)
    at ih (inl same) = refl
    at ih (inr other) = ap suc (ih (below other h))

without_among : (k l : ℕ) (xs : List ℕ) → Among l xs → (l ≡ k → ⊥) → Among l (without k xs)
unfolding without
without_among k l [] h ne = absurd h
without_among k l (x ∷ xs) h ne = at (λ q. without_among k l xs q ne) (cases_eq k x) h
  where
    at : (Among l xs → Among l (without k xs)) → (d : (k ≡ x) ⊎ (k ≡ x → ⊥)) → (l ≡ x) ⊎ Among l xs → Among l (elim d [ inl same ↦ xs | inr other ↦ x ∷ without k xs ])
    at ih (inl same) (inl e) = absurd (ne (e ∙ sym same))
    at ih (inl same) (inr q) = q
    at ih (inr other) (inl e) = inl e
    at ih (inr other) (inr q) = inr (ih q)

-- a list without repetition is no longer than a list that has all of it
pub fewer : (xs ys : List ℕ) → Distinct xs → ((k : ℕ) → Among k xs → Among k ys) → length xs ≤ length ys
fewer [] ys o sub = omega arith
fewer (x ∷ xs) ys o sub =
    let h : length xs ≤ length (without x ys) = fewer xs (without x ys) o.1 (λ k q. without_among x k ys (sub k (inr q)) (λ e. o.0 (subst (λ z. Among z xs) e q))) in
    omega (arith, without_length x ys (sub x (inl refl)))

-- a set has one number
pub number_unique : (P : ℕ → Type 0) (m n : ℕ) → Number P m → Number P n → m ≡ n
number_unique P m n p q =
    let le : length p.0 ≤ length q.0 = fewer p.0 q.0 p.1.distinct (λ k h. q.1.complete k (p.1.sound k h)) in
    let ge : length q.0 ≤ length p.0 = fewer q.0 p.0 q.1.distinct (λ k h. p.1.complete k (q.1.sound k h)) in
    omega (arith, p.2, q.2)
