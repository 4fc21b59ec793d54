-- A sweep leaves one list of words.
use Rattle.std.proofs.Common.{◌≡◌, ℕ, ◌+◌, ◌<◌, ◌≤◌, ◌⊎◌, List, [], ◌∷◌, get_or, sym, refl, ◌∙◌, subst, inl, inr, ⊎_elim, arith}
use Rattle.std.proofs.lemmas.Bool.{cases_lt}
use Rattle.std.proofs.lemmas.List.{ext_get_or}
use Rattle.free_list.specs.Free.{size_of, link_of, Run, span, proper, Free}
use Rattle.scan.specs.Marks.{IsMarked}
use Rattle.sweeping.specs.Sweeping.{Stretch, Stretches, NoStart}
use Rattle.sweeping.specs.Laws.{OneSweep}

-- the stretches of some marks are one list
stretches_once : (m : List ℕ) (e : ℕ) (xs ys : List Run) → Stretches m e xs → Stretches m e ys → xs ≡ ys
stretches_once m e [] [] x y = refl
stretches_once m e [] (span b t ∷ ys) x y =
    absurd (y.0.free b (omega arith) (omega (arith, y.0.some)) (x b y.1 (omega (arith, y.0.some, y.0.within))))
stretches_once m e (span a s ∷ xs) [] x y =
    absurd (x.0.free a (omega arith) (omega (arith, x.0.some)) (y a x.1 (omega (arith, x.0.some, x.0.within))))
stretches_once m e (span a s ∷ xs) (span b t ∷ ys) x y =
    let same_at : a ≡ b = starts_once m e a s b t x.0 x.1 x.2 y.0 y.1 y.2 in
    let same_size : s ≡ t = sizes_once m a s b t x.0 y.0 same_at in
    let P : ℕ → Type 0 = λ k. Stretches m k ys in
    let at : b + t ≡ a + s = omega arith in
    let rest : xs ≡ ys = stretches_once m (a + s) xs ys x.3 (subst P at y.3) in
    cc
  where
    not_before : (m : List ℕ) (e a s b : ℕ) → Stretch m a s → e ≤ a → ((k : ℕ) → e ≤ k → k < b → IsMarked m k) → a < b → ⊥
    not_before m e a s b x past marked l = x.free a (omega arith) (omega (arith, x.some)) (marked a past l)

    starts_once : (m : List ℕ) (e a s b t : ℕ) → Stretch m a s → e ≤ a → ((k : ℕ) → e ≤ k → k < a → IsMarked m k)
        → Stretch m b t → e ≤ b → ((k : ℕ) → e ≤ k → k < b → IsMarked m k) → a ≡ b
    starts_once m e a s b t x past marked y past' marked' =
        ⊎_elim
        (λ l. absurd (not_before m e a s b x past marked' l))
        (λ g. ⊎_elim
        (λ l. absurd (not_before m e b t a y past' marked l))
        (λ g'. let same : a ≡ b = omega arith in same)
        (cases_lt b a))
        (cases_lt a b)

    not_shorter : (m : List ℕ) (a s b t : ℕ) → Stretch m a s → Stretch m b t → a ≡ b → s < t → ⊥
    not_shorter m a s b t x y same l = y.free (a + s) (omega arith) (omega arith) (x.last (omega (arith, y.within)))

    sizes_once : (m : List ℕ) (a s b t : ℕ) → Stretch m a s → Stretch m b t → a ≡ b → s ≡ t
    sizes_once m a s b t x y same =
        ⊎_elim
        (λ l. absurd (not_shorter m a s b t x y same l))
        (λ g. ⊎_elim
        (λ l. absurd (not_shorter m b t a s y x (sym same) l))
        (λ g'. let e : s ≡ t = omega arith in e)
        (cases_lt t s))
        (cases_lt s t)

word_once : (x y : ℕ) → size_of x ≡ size_of y → link_of x ≡ link_of y → x ≡ y
word_once x y s l = omega arith

links_once : (u v : List ℕ) (p e : ℕ) (runs : List Run) → Free u p e runs proper → Free v p e runs proper
    → link_of (get_or u p 0) ≡ link_of (get_or v p 0)
links_once u v p e [] x y = x ∙ sym y
links_once u v p e (span a s ∷ runs) x y = x.0.link ∙ sym y.0.link

-- two lists of words that read as the same runs have the same first words of runs
first_words : (u v : List ℕ) (p e : ℕ) (runs : List Run) → Free u p e runs proper → Free v p e runs proper
    → (k : ℕ) → NoStart k runs ⊎ (get_or u k 0 ≡ get_or v k 0)
first_words u v p e [] x y k = inl tt
first_words u v p e (span a s ∷ runs) x y k =
    ⊎_elim
    (λ (here : k ≡ a).
    let P : ℕ → Type 0 = λ j. get_or u j 0 ≡ get_or v j 0 in
    inr (subst P (sym here)
    (word_once (get_or u a 0) (get_or v a 0) (x.0.size ∙ sym y.0.size) (links_once u v a (a + s) runs x.1 y.1))))
    (λ (ne : k ≡ a → ⊥).
    ⊎_elim (λ apart. inl (ne, apart)) (λ (same : get_or u k 0 ≡ get_or v k 0). inr same)
    (first_words u v a (a + s) runs x.1 y.1 k))
    (at_or_not k a)
  where
    at_or_not : (k a : ℕ) → (k ≡ a) ⊎ (k ≡ a → ⊥)
    at_or_not k a = ⊎_elim (λ l. inr (λ e. omega arith)) (λ g. ⊎_elim (λ l. inr (λ e. omega arith)) (λ h. inl (omega arith)) (cases_lt a k)) (cases_lt k a)

pub one_sweep : OneSweep
one_sweep w m u v x y =
    let same : y.runs ≡ x.runs = stretches_once m 1 y.runs x.runs y.stretches x.stretches in
    let F : List Run → Type 0 = λ runs. Free v 0 1 runs proper in
    let O : List Run → Type 0 = λ runs. (k : ℕ) → 1 ≤ k → NoStart k runs → get_or v k 0 ≡ get_or w k 0 in
    let list : Free v 0 1 x.runs proper = subst F same y.list in
    let others : (k : ℕ) → 1 ≤ k → NoStart k x.runs → get_or v k 0 ≡ get_or w k 0 = subst O same y.others in
    ext_get_or 0 u v (x.long ∙ sym y.long) (λ k h.
    ⊎_elim
    (λ (l : k < 1).
    let P : ℕ → Type 0 = λ j. get_or u j 0 ≡ get_or v j 0 in
    let zero_is : 0 ≡ k = omega arith in
    subst P zero_is (word_once (get_or u 0 0) (get_or v 0 0) (x.high ∙ sym y.high) (links_once u v 0 1 x.runs x.list list)))
    (λ (g : 1 ≤ k).
    ⊎_elim
    (λ apart. x.others k g apart ∙ sym (others k g apart))
    (λ (e : get_or u k 0 ≡ get_or v k 0). e)
    (first_words u v 0 1 x.runs x.list list k))
    (cases_lt k 1))
