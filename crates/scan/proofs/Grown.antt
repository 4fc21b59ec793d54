-- What a scan makes of the marks and of what the inspector holds.
use Rattle.std.proofs.Common.{◌≡◌, ℕ, zero, suc, ◌+◌, ◌<◌, ◌≤◌, ◌⊎◌, List, [], ◌∷◌, ◌++◌, length, get_or, set, Some, None, Option, sym, refl, ap, ◌∙◌, subst, inl, inr, arith}
use Rattle.std.proofs.lemmas.Bool.{cases_eq}
use Rattle.std.proofs.lemmas.List.{get_or-set_same, get_or-set_other}
use Rattle.layouts.specs.Types.{Types}
use Rattle.scan.specs.Visits.{Visit, holds, then_holds}
use Rattle.scan.specs.Marks.{IsMarked, mark_words}
use Rattle.scan.specs.Children.{width}
use Rattle.scan.specs.Scan.{Run, Task, marked, opened, visited, refused, plain, misfit, child, stopped}
use Rattle.scan.specs.Endings.{Ending}
use Rattle.scan.proofs.Counts.{length_mark}

-- what is marked stays marked
abbrev pub Grown : List ℕ → List ℕ → Type 0
Grown m m' = (j : ℕ) → IsMarked m j → IsMarked m' j

set_grown : (m : List ℕ) (a j : ℕ) → IsMarked m j → IsMarked (set m a 1) j
set_grown [] a j h = h
set_grown (b ∷ m) zero zero h = refl
set_grown (b ∷ m) zero (suc j) h = h
set_grown (b ∷ m) (suc a) zero h = h
set_grown (b ∷ m) (suc a) (suc j) h = set_grown m a j h

pub mark_grown : (m : List ℕ) (a n : ℕ) → Grown m (mark_words m a n)
mark_grown m a zero j h = h
mark_grown m a (suc n) j h = set_grown (mark_words m a n) (a + n) j (mark_grown m a n j h)

-- every byte from a on is marked
pub mark_all : (m : List ℕ) (a n j : ℕ) → a + n ≤ length m → a ≤ j → j < a + n → IsMarked (mark_words m a n) j
mark_all m a zero j fit low high = absurd (omega arith)
mark_all m a (suc n) j fit low high =
    elim (cases_eq j (a + n)) [
      | inl same ↦ subst (λ x. IsMarked (set (mark_words m a n) (a + n) 1) x) (sym same) (get_or-set_same (mark_words m a n) (a + n) 1 0 (omega (arith, length_mark m a n)))
      | inr other ↦ set_grown (mark_words m a n) (a + n) j (mark_all m a n j (omega arith) low (omega arith))
    ]

set_only : (m : List ℕ) (i j : ℕ) → IsMarked (set m i 1) j → IsMarked m j ⊎ (j ≡ i)
set_only m i j h =
    elim (cases_eq j i) [ inl same ↦ inr same | inr other ↦ inl (sym (get_or-set_other m i j 1 0 other) ∙ h) ]

pub mark_only : (m : List ℕ) (a n j : ℕ) → IsMarked (mark_words m a n) j → IsMarked m j ⊎ ((a ≤ j) × (j < a + n))
mark_only m a zero j h = inl h
mark_only m a (suc n) j h =
    elim (set_only (mark_words m a n) (a + n) j h) [
      | inl before ↦ elim (mark_only m a n j before) [ inl old ↦ inl old | inr new ↦ inr (new.0, omega (arith, new.1)) ]
      | inr same ↦ inr (omega arith, omega arith)
    ]

-- a byte stays as it is or becomes 1
abbrev pub Written : List ℕ → List ℕ → Type 0
Written m m' = (j : ℕ) → (get_or m' j 0 ≡ get_or m j 0) ⊎ IsMarked m' j

pub then_written : (m m₁ m₂ : List ℕ) → Grown m₁ m₂ → Written m m₁ → Written m₁ m₂ → Written m m₂
then_written m m₁ m₂ gr first second j =
    elim (second j) [ inl same ↦ elim (first j) [ inl same₁ ↦ inl (same ∙ same₁) | inr one ↦ inr (gr j one) ] | inr one ↦ inr one ]

set_written : (m : List ℕ) (a : ℕ) → Written m (set m a 1)
set_written [] a j = inl refl
set_written (b ∷ m) zero zero = inr refl
set_written (b ∷ m) zero (suc j) = inl refl
set_written (b ∷ m) (suc a) zero = inl refl
set_written (b ∷ m) (suc a) (suc j) = set_written m a j

mark_written : (m : List ℕ) (a n : ℕ) → Written m (mark_words m a n)
mark_written m a zero j = inl refl
mark_written m a (suc n) j = then_written m (mark_words m a n) (set (mark_words m a n) (a + n) 1) (set_grown (mark_words m a n) (a + n)) (mark_written m a n) (set_written (mark_words m a n) (a + n)) j

-- what is held after visits and further visits
after_one : {S : Type 0} (step : S → Visit → Option S) (o : Option S) (s₁ : S) (vs us : List Visit) → ((s : S) → holds step s vs ≡ Some s₁ → holds step s (vs ++ us) ≡ holds step s₁ us) → then_holds o (λ s. holds step s vs) ≡ Some s₁ → then_holds o (λ s. holds step s (vs ++ us)) ≡ holds step s₁ us
after_one step None s₁ vs us more e = let z : ◌≡◌ {A = ℕ} 0 1 = cc in absurd (omega arith)
after_one step (Some s) s₁ vs us more e = more s e

holds_append : {S : Type 0} (step : S → Visit → Option S) (s s₁ : S) (vs us : List Visit) → holds step s vs ≡ Some s₁ → holds step s (vs ++ us) ≡ holds step s₁ us
holds_append step s s₁ [] us e = let same : s ≡ s₁ = cc in ap (λ x. holds step x us) same
holds_append step s s₁ (v ∷ vs) us e = after_one step (step s v) s₁ vs us (λ x. holds_append step x s₁ vs us) e

module _ (t : Types) (w : List ℕ) {S : Type 0} (step : S → Visit → Option S) where
  pub grown : {k : Task} {m m' : List ℕ} {s s' : S} {vs : List Visit} {e : Ending} → Run t w step k m s vs m' s' e → Grown m m'
  grown (marked one) j h = h
  grown (opened {c = c} {a = a} {m = m} none r) j h = grown r j (mark_grown m a (width t c) j h)
  grown (visited past took) j h = h
  grown (refused past none) j h = h
  grown (plain le is r) j h = grown r j h
  grown (misfit le is) j h = h
  grown (child le is r q) j h = grown q j (grown r j h)
  grown (stopped le is r stop) j h = grown r j h

  pub run_length : {k : Task} {m m' : List ℕ} {s s' : S} {vs : List Visit} {e : Ending} → Run t w step k m s vs m' s' e → length m' ≡ length m
  run_length (marked one) = refl
  run_length (opened {c = c} {a = a} {m = m} none r) = run_length r ∙ length_mark m a (width t c)
  run_length (visited past took) = refl
  run_length (refused past none) = refl
  run_length (plain le is r) = run_length r
  run_length (misfit le is) = refl
  run_length (child le is r q) = run_length q ∙ run_length r
  run_length (stopped le is r stop) = run_length r

  pub run_written : {k : Task} {m m' : List ℕ} {s s' : S} {vs : List Visit} {e : Ending} → Run t w step k m s vs m' s' e → Written m m'
  run_written (marked one) j = inl refl
  run_written (opened {c = c} {a = a} {m = m} {m' = m'} none r) j = then_written m (mark_words m a (width t c)) m' (grown r) (mark_written m a (width t c)) (run_written r) j
  run_written (visited past took) j = inl refl
  run_written (refused past none) j = inl refl
  run_written (plain le is r) j = run_written r j
  run_written (misfit le is) j = inl refl
  run_written (child {m = m} {m₁ = m₁} {m₂ = m₂} le is r q) j = then_written m m₁ m₂ (grown q) (run_written r) (run_written q) j
  run_written (stopped le is r stop) j = run_written r j

  pub held : {k : Task} {m m' : List ℕ} {s s' : S} {vs : List Visit} {e : Ending} → Run t w step k m s vs m' s' e → holds step s vs ≡ Some s'
  held (marked one) = refl
  held (opened none r) = held r
  held (visited past took) = ap (λ o. then_holds o (λ x. Some x)) took
  held (refused past none) = refl
  held (plain le is r) = held r
  held (misfit le is) = refl
  held (child {s = s} {s₁ = s₁} {vs₁ = vs₁} {vs₂ = vs₂} le is r q) = holds_append step s s₁ vs₁ vs₂ (held r) ∙ held q
  held (stopped le is r stop) = held r
