-- A scan has one end.
use Rattle.std.proofs.Common.{◌≡◌, ℕ, ◌+◌, ◌<◌, ◌≤◌, ◌⊎◌, List, [], ◌∷◌, ◌++◌, Some, None, Err, Option, sym, refl, ap, ◌∙◌, subst, inl, inr, arith}
use Rattle.layouts.specs.Types.{Types}
use Rattle.cells.specs.Words.{place}
use Rattle.scan.specs.Visits.{Visit}
use Rattle.scan.specs.Marks.{IsMarked, mark_words}
use Rattle.scan.specs.Children.{width, child_at, cell_visit}
use Rattle.scan.specs.Scan.{Run, Task, pointer, rest, marked, opened, visited, refused, plain, misfit, child, stopped, Stops}
use Rattle.scan.specs.declared.frame.Child.{Child}
use Rattle.scan.specs.declared.frame.Child.TheVariants.{Nothing, Cell, Misfit}
use Rattle.scan.specs.Endings.{Ending, Done}
use Rattle.scan.specs.declared.scanned.Stop.TheVariants.{Broken, Full}

module _ (t : Types) (w : List ℕ) {S : Type 0} (step : S → Visit → Option S) where
  -- how the word i of a cell can have gone, by what it leads to
  abbrev By : ℕ → ℕ → ℕ → List ℕ → S → List Visit → List ℕ → S → Ending → Child → Type 0
  By c a i m s vs m' s' e Nothing = Run t w step (rest c a (i + 1)) m s vs m' s' e
  By c a i m s vs m' s' e Misfit = ([] ≡ vs) × (m ≡ m') × (s ≡ s') × (Err (Broken (place a i)) ≡ e)
  By c a i m s vs m' s' e (Cell c' a') = ((m₁ : List ℕ) × (s₁ : S) × (vs₁ : List Visit) × (vs₂ : List Visit) × Run t w step (pointer c' a') m s vs₁ m₁ s₁ Done × Run t w step (rest c a (i + 1)) m₁ s₁ vs₂ m' s' e × (vs₁ ++ vs₂ ≡ vs)) ⊎ (Run t w step (pointer c' a') m s vs m' s' e × Stops e)

  -- how a pointer, and the rest of a cell, can have gone
  abbrev Shape : Task → List ℕ → S → List Visit → List ℕ → S → Ending → Type 0
  Shape (pointer c a) m s vs m' s' e = (IsMarked m a × ([] ≡ vs) × (m ≡ m') × (s ≡ s') × (Done ≡ e)) ⊎ ((IsMarked m a → ⊥) × Run t w step (rest c a 1) (mark_words m a (width t c)) s vs m' s' e)
  Shape (rest c a i) m s vs m' s' e = ((width t c < i) × (m ≡ m') × (((step s (cell_visit t w c a) ≡ Some s') × (cell_visit t w c a ∷ [] ≡ vs) × (Done ≡ e)) ⊎ ((step s (cell_visit t w c a) ≡ None) × ([] ≡ vs) × (s ≡ s') × (Err (Full a) ≡ e)))) ⊎ ((i ≤ width t c) × By c a i m s vs m' s' e (child_at t w c a i))

  shape : {k : Task} {m m' : List ℕ} {s s' : S} {vs : List Visit} {e : Ending} → Run t w step k m s vs m' s' e → Shape k m s vs m' s' e
  shape (marked one) = inl (one, refl, refl, refl, refl)
  shape (opened none r) = inr (none, r)
  shape (visited past took) = inl (past, refl, inl (took, refl, refl))
  shape (refused past none) = inl (past, refl, inr (none, refl, refl, refl))
  shape (plain {c = c} {a = a} {i = i} {m = m} {m' = m'} {s = s} {s' = s'} {vs = vs} {e = e} le is r) = inr (le, subst (By c a i m s vs m' s' e) (sym is) r)
  shape (misfit {c = c} {a = a} {i = i} {m = m} {s = s} le is) = inr (le, subst (By c a i m s [] m s (Err (Broken (place a i)))) (sym is) (refl, refl, refl, refl))
  shape (child {c = c} {a = a} {i = i} {m = m} {m₁ = m₁} {m₂ = m₂} {s = s} {s₁ = s₁} {s₂ = s₂} {vs₁ = vs₁} {vs₂ = vs₂} {e = e} le is r q) = inr (le, subst (By c a i m s (vs₁ ++ vs₂) m₂ s₂ e) (sym is) (inl (m₁, s₁, vs₁, vs₂, r, q, refl)))
  shape (stopped {c = c} {a = a} {i = i} {m = m} {m₁ = m₁} {s = s} {s₁ = s₁} {vs = vs} {e = e} le is r stop) = inr (le, subst (By c a i m s vs m₁ s₁ e) (sym is) (inr (r, stop)))

  abbrev Same : List Visit → List ℕ → S → Ending → List Visit → List ℕ → S → Ending → Type 0
  Same vs m s e vs' m' s' e' = (vs ≡ vs') × (m ≡ m') × (s ≡ s') × (e ≡ e')

  pub unique : {k : Task} {m m₁ m₂ : List ℕ} {s s₁ s₂ : S} {vs₁ vs₂ : List Visit} {e₁ e₂ : Ending} → Run t w step k m s vs₁ m₁ s₁ e₁ → Run t w step k m s vs₂ m₂ s₂ e₂ → Same vs₁ m₁ s₁ e₁ vs₂ m₂ s₂ e₂
  unique (marked one) q = elim (shape q) [ inl x ↦ (x.1, x.2, x.3, x.4) | inr x ↦ absurd (x.0 one) ]
  unique (opened none r) q = elim (shape q) [ inl x ↦ absurd (none x.0) | inr x ↦ unique r x.1 ]
  unique (visited {s' = s'} past took) q =
      elim (shape q) [
        | inl x ↦
            elim x.2 [
              | inl y ↦ let same : Some s' ≡ Some _ = sym took ∙ y.0 in (y.1, x.1, (cc), y.2)
              | inr y ↦ let z : ◌≡◌ {A = ℕ} 0 1 = cc (took, y.0) in absurd (omega arith)
            ]
        | inr x ↦ absurd (omega (arith, x.0))
      ]
  unique (refused past none) q =
      elim (shape q) [
        | inl x ↦
            elim x.2 [
              | inl y ↦ let z : ◌≡◌ {A = ℕ} 0 1 = cc (none, y.0) in absurd (omega arith)
              | inr y ↦ (y.1, x.1, y.2, y.3)
            ]
        | inr x ↦ absurd (omega (arith, x.0))
      ]
  unique (plain {c = c} {a = a} {i = i} {m = m} {s = s} le is r) q =
      elim (shape q) [ inl x ↦ absurd (omega (arith, x.0)) | inr x ↦ unique r (subst (By c a i m s _ _ _ _) is x.1) ]
  unique (misfit {c = c} {a = a} {i = i} {m = m} {s = s} le is) q =
      elim (shape q) [ inl x ↦ absurd (omega (arith, x.0)) | inr x ↦ subst (By c a i m s _ _ _ _) is x.1 ]
  unique {m₂ = m''} {s₂ = s''} {vs₂ = vs''} {e₂ = e''} (child {c = c} {a = a} {i = i} {c' = c'} {a' = a'} {m = m} {s = s} {s₁ = s₁} {vs₁ = vs₁} {vs₂ = vs₂} le is r q) q' =
      elim (shape q') [
        | inl x ↦ absurd (omega (arith, x.0))
        | inr x ↦
            let by : By c a i m s vs'' m'' s'' e'' (Cell c' a') = subst (By c a i m s vs'' m'' s'' e'') is x.1 in
            elim by [
              | inl y ↦
                  let first = unique r y.4 in
                  let second = unique q (subst (λ z. Run t w step (rest c a (i + 1)) z s₁ y.3 m'' s'' e'') (sym first.1) (subst (λ z. Run t w step (rest c a (i + 1)) y.0 z y.3 m'' s'' e'') (sym first.2) y.5)) in
                  (ap (λ z. z ++ vs₂) first.0 ∙ ap (λ z. y.2 ++ z) second.0 ∙ y.6, second.1, second.2, second.3)
              | inr y ↦ absurd (subst Stops (sym (unique r y.0).3) y.1)
            ]
      ]
  unique {m₂ = m''} {s₂ = s''} {vs₂ = vs''} {e₂ = e''} (stopped {c = c} {a = a} {i = i} {c' = c'} {a' = a'} {m = m} {s = s} le is r stop) q' =
      elim (shape q') [
        | inl x ↦ absurd (omega (arith, x.0))
        | inr x ↦
            let by : By c a i m s vs'' m'' s'' e'' (Cell c' a') = subst (By c a i m s vs'' m'' s'' e'') is x.1 in
            elim by [ inl y ↦ absurd (subst Stops (unique r y.4).3 stop) | inr y ↦ unique r y.0 ]
      ]
