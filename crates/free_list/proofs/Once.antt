-- A free list reads in one way, so taking a cell has one answer.
use Rattle.std.proofs.Common.{◌≡◌, ℕ, ◌+◌, ◌<◌, ◌≤◌, List, [], ◌∷◌, get_or, Some, None, Ok, Err, sym, refl, ap, ◌∙◌, subst, ⊎_elim, arith}
use Rattle.std.proofs.Math.Nat.{eq-or-lt_of_le}
use Rattle.free_list.specs.declared.fault.Fault.TheVariants.{Length, Size, Broken}
use Rattle.free_list.specs.Free.{size_of, Run, span, Next, Ending, proper, broken, Ends, Free, Reach, Smaller, FirstFit, NoFit}
use Rattle.free_list.specs.Cells.{Cut}
use Rattle.free_list.specs.Taken.{Given, OneAnswer}

-- a link leads to one run
pub next_once : (w : List ℕ) (p e a s b t : ℕ) → Next w p e a s → Next w p e b t → (a ≡ b) × (s ≡ t)
next_once w p e a s b t x y =
    let same : a ≡ b = sym x.link ∙ y.link in
    (same, sym x.size ∙ ap (λ (k : ℕ). size_of (get_or w k 0)) same ∙ y.size)

-- what is read behind a run is read behind the same run
pub free_at : (w : List ℕ) (a s b t : ℕ) (runs : List Run) (ending : Ending) → (a ≡ b) × (s ≡ t)
    → Free w b (b + t) runs ending → Free w a (a + s) runs ending
free_at w a s b t runs ending same free =
    let P : ℕ → Type 0 = λ x. Free w x (x + t) runs ending in
    let Q : ℕ → Type 0 = λ x. Free w a (a + x) runs ending in
    subst Q (sym same.1) (subst P (sym same.0) free)

reach_at : (w : List ℕ) (a s b t : ℕ) (runs : List Run) (q f : ℕ) → (a ≡ b) × (s ≡ t)
    → Reach w b (b + t) runs q f → Reach w a (a + s) runs q f
reach_at w a s b t runs q f same r =
    let P : ℕ → Type 0 = λ x. Reach w x (x + t) runs q f in
    let Q : ℕ → Type 0 = λ x. Reach w a (a + x) runs q f in
    subst Q (sym same.1) (subst P (sym same.0) r)

-- a link leads to a run, or the list ends there
pub ends_next : (w : List ℕ) (p e a s : ℕ) (ending : Ending) → Ends w p e ending → Next w p e a s → ⊥
ends_next w p e a s proper ends next = omega (arith, ends, next.link, next.there)
ends_next w p e a s (broken q) ends next = ends.1.none a s next

ends_once : (w : List ℕ) (p e : ℕ) (x y : Ending) → Ends w p e x → Ends w p e y → x ≡ y
ends_once w p e proper proper x y = refl
ends_once w p e proper (broken r) x y = absurd (omega (arith, x, y.1.link))
ends_once w p e (broken q) proper x y = absurd (omega (arith, y, x.1.link))
ends_once w p e (broken q) (broken r) x y = ap broken (x.0 ∙ sym y.0)

-- the runs and the end are the same in two readings
pub free_once : (w : List ℕ) (p e : ℕ) (xs ys : List Run) (f g : Ending) → Free w p e xs f → Free w p e ys g → (xs ≡ ys) × (f ≡ g)
free_once w p e [] [] f g x y = (refl, ends_once w p e f g x y)
free_once w p e [] (span b t ∷ ys) f g x y = absurd (ends_next w p e b t f x y.0)
free_once w p e (span a s ∷ xs) [] f g x y = absurd (ends_next w p e a s g y x.0)
free_once w p e (span a s ∷ xs) (span b t ∷ ys) f g x y =
    let same = next_once w p e a s b t x.0 y.0 in
    let rest = free_once w a (a + s) xs ys f g x.1 (free_at w a s b t ys g same y.1) in
    (ap (λ (c : ℕ). span c s ∷ xs) same.0 ∙ ap (λ (u : ℕ). span b u ∷ xs) same.1 ∙ ap (λ (zs : List Run). span b t ∷ zs) rest.0, rest.1)

pub next_moved : (w : List ℕ) (p e q f a s : ℕ) → (p ≡ q) × (e ≡ f) → Next w q f a s → Next w p e a s
next_moved w p e q f a s r next =
    let P : ℕ → Type 0 = λ k. Next w k f a s in
    let Q : ℕ → Type 0 = λ k. Next w p k a s in
    subst Q (sym r.1) (subst P (sym r.0) next)

-- a run that is found is one of the list
found_in : (w : List ℕ) (p e n : ℕ) (front xs : List Run) (ending : Ending) (q f a s : ℕ) → Reach w p e front q f
    → Next w q f a s → n ≤ s → Free w p e xs ending → Smaller n xs → ⊥
found_in w p e n [] [] ending q f a s r next large x h = ends_next w p e a s ending x (next_moved w p e q f a s r next)
found_in w p e n [] (span b t ∷ xs) ending q f a s r next large x h =
    let same = next_once w p e a s b t (next_moved w p e q f a s r next) x.0 in
    omega (arith, same.1, h.0)
found_in w p e n (span b t ∷ front) [] ending q f a s r next large x h = ends_next w p e b t ending x r.0
found_in w p e n (span b t ∷ front) (span c u ∷ xs) ending q f a s r next large x h =
    let same = next_once w p e b t c u r.0 x.0 in
    found_in w b (b + t) n front xs ending q f a s r.1 next large (free_at w b t c u xs ending same x.1) h.1

-- two first runs of n words are one
found_once : (w : List ℕ) (p e n : ℕ) (xs ys : List Run) (q f a s q' f' b t : ℕ)
    → Reach w p e xs q f → Smaller n xs → Next w q f a s → n ≤ s
    → Reach w p e ys q' f' → Smaller n ys → Next w q' f' b t → n ≤ t → (q ≡ q') × (a ≡ b) × (s ≡ t)
found_once w p e n [] [] q f a s q' f' b t r h x large r' h' y large' =
    let same = next_once w p e a s b t (next_moved w p e q f a s r x) (next_moved w p e q' f' b t r' y) in
    (sym r.0 ∙ r'.0, same.0, same.1)
found_once w p e n [] (span c u ∷ ys) q f a s q' f' b t r h x large r' h' y large' =
    let same = next_once w p e a s c u (next_moved w p e q f a s r x) r'.0 in
    absurd (omega (arith, same.1, h'.0))
found_once w p e n (span c u ∷ xs) [] q f a s q' f' b t r h x large r' h' y large' =
    let same = next_once w p e b t c u (next_moved w p e q' f' b t r' y) r.0 in
    absurd (omega (arith, same.1, h.0))
found_once w p e n (span c u ∷ xs) (span d v ∷ ys) q f a s q' f' b t r h x large r' h' y large' =
    let same = next_once w p e c u d v r.0 r'.0 in
    found_once w c (c + u) n xs ys q f a s q' f' b t r.1 h.1 x large (reach_at w c u d v ys q' f' same r'.1) h'.1 y large'

pub first_once : {w : List ℕ} {n p a s q b t : ℕ} → FirstFit w n p a s → FirstFit w n q b t → (p ≡ q) × (a ≡ b) × (s ≡ t)
first_once {w} {n} {p} {a} {s} {q} {b} {t} x y =
    found_once w 0 1 n x.walked.front y.walked.front p x.before a s q y.before b t
    x.walked.reads x.walked.small x.next x.enough y.walked.reads y.walked.small y.next y.enough

pub none_or_first : {w : List ℕ} {n p a s : ℕ} (ending : Ending) → NoFit w n ending → FirstFit w n p a s → ⊥
none_or_first {w} {n} {p} {a} {s} ending x y =
    found_in w 0 1 n y.walked.front x.runs ending p y.before a s y.walked.reads y.next y.enough x.reads x.small

pub end_once : {w : List ℕ} {n k : ℕ} (f g : Ending) → NoFit w n f → NoFit w k g → f ≡ g
end_once {w} f g x y = (free_once w 0 1 x.runs y.runs f g x.reads y.reads).1

proper_broken : (q : ℕ) → proper ≡ broken q → ⊥
proper_broken q e = let z : ◌≡◌ {A = ℕ} 0 1 = cc in omega arith

cut_once : (w : List ℕ) (p a s n : ℕ) (u v : List ℕ) → n ≤ s → Cut w p a s n u → Cut w p a s n v → u ≡ v
cut_once w p a s n u v enough x y =
    ⊎_elim
    (λ (same : n ≡ s). x.whole (sym same) ∙ sym (y.whole (sym same)))
    (λ (less : n < s). x.part less ∙ sym (y.part less))
    (eq-or-lt_of_le enough)

given_once : (w : List ℕ) (n : ℕ) (u v : List ℕ) (c d : ℕ) → Given w n u c → Given w n v d → (c ≡ d) × (u ≡ v)
given_once w n u v c d x y =
    let same = first_once x.first y.first in
    let P : ℕ → Type 0 = λ k. Cut w k y.run y.size n v in
    let Q : ℕ → Type 0 = λ k. Cut w x.link k y.size n v in
    let R : ℕ → Type 0 = λ k. Cut w x.link x.run k n v in
    let cut : Cut w x.link x.run x.size n v =
    subst R (sym same.2) (subst Q (sym same.1) (subst P (sym same.0) y.cut)) in
    (omega (arith, x.cell, y.cell, same.1, same.2), cut_once w x.link x.run x.size n u v x.first.enough x.cut cut)

pub one_answer : OneAnswer
one_answer w n u v (Ok None) (Ok None) x y = (refl, x.3 ∙ sym y.3)
one_answer w n u v (Ok None) (Ok (Some d)) x y = absurd (none_or_first proper x.2 y.first)
one_answer w n u v (Ok None) (Err Length) x y = absurd (y.0 x.0)
one_answer w n u v (Ok None) (Err Size) x y = absurd (omega (arith, x.1, y.1))
one_answer w n u v (Ok None) (Err (Broken r)) x y = absurd (proper_broken r (end_once proper (broken r) x.2 y.2))
one_answer w n u v (Ok (Some c)) (Ok None) x y = absurd (none_or_first proper y.2 x.first)
one_answer w n u v (Ok (Some c)) (Ok (Some d)) x y =
    let same = given_once w n u v c d x y in (ap (λ (k : ℕ). Ok (Some k)) same.0, same.1)
one_answer w n u v (Ok (Some c)) (Err Length) x y = absurd (y.0 x.heap)
one_answer w n u v (Ok (Some c)) (Err Size) x y = absurd (omega (arith, x.words, y.1))
one_answer w n u v (Ok (Some c)) (Err (Broken r)) x y = absurd (none_or_first (broken r) y.2 x.first)
one_answer w n u v (Err Length) (Ok None) x y = absurd (x.0 y.0)
one_answer w n u v (Err Length) (Ok (Some d)) x y = absurd (x.0 y.heap)
one_answer w n u v (Err Length) (Err Length) x y = (refl, x.1 ∙ sym y.1)
one_answer w n u v (Err Length) (Err Size) x y = absurd (x.0 y.0)
one_answer w n u v (Err Length) (Err (Broken r)) x y = absurd (x.0 y.0)
one_answer w n u v (Err Size) (Ok None) x y = absurd (omega (arith, y.1, x.1))
one_answer w n u v (Err Size) (Ok (Some d)) x y = absurd (omega (arith, y.words, x.1))
one_answer w n u v (Err Size) (Err Length) x y = absurd (y.0 x.0)
one_answer w n u v (Err Size) (Err Size) x y = (refl, x.2 ∙ sym y.2)
one_answer w n u v (Err Size) (Err (Broken r)) x y = absurd (omega (arith, y.1, x.1))
one_answer w n u v (Err (Broken q)) (Ok None) x y = absurd (proper_broken q (end_once proper (broken q) y.2 x.2))
one_answer w n u v (Err (Broken q)) (Ok (Some d)) x y = absurd (none_or_first (broken q) x.2 y.first)
one_answer w n u v (Err (Broken q)) (Err Length) x y = absurd (y.0 x.0)
one_answer w n u v (Err (Broken q)) (Err Size) x y = absurd (omega (arith, x.1, y.1))
one_answer w n u v (Err (Broken q)) (Err (Broken r)) x y =
    let e = end_once (broken q) (broken r) x.2 y.2 in
    let same : q ≡ r = cc in
    (ap (λ (k : ℕ). Err (Broken k)) same, x.3 ∙ sym y.3)
