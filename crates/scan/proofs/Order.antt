-- Children before parents: a scan visits a cell after its children, but for those that lead back to it.
use Rattle.std.proofs.Common.{◌≡◌, ℕ, ◌+◌, ◌<◌, ◌≤◌, ◌⊎◌, List, [], ◌∷◌, ◌++◌, length, Option, sym, refl, ap, ◌∙◌, subst, inl, inr, arith}
use Rattle.std.proofs.lemmas.Bool.{cases_eq}
use Rattle.std.proofs.lemmas.List.{append_assoc, append-nil}
use Rattle.layouts.specs.Types.{Types}
use Rattle.cells.specs.declared.content.Content.{Content}
use Rattle.scan.specs.Visits.{Visit, Seen}
use Rattle.scan.specs.Marks.{IsMarked, mark_words}
use Rattle.scan.specs.Children.{width, child_at, cell_visit}
use Rattle.scan.specs.Scan.{Run, Task, pointer, rest, marked, opened, visited, refused, plain, misfit, child, stopped}
use Rattle.scan.specs.Reach.{Reach, through, lone, Apart}
use Rattle.scan.specs.Laws.{Settled, ChildrenFirst}
use Rattle.scan.specs.declared.frame.Child.TheVariants.{Cell}
use Rattle.scan.specs.Endings.{Ending}
use Rattle.scan.proofs.Counts.{length_mark}
use Rattle.scan.proofs.Inside.{Inside, inside_child}
use Rattle.scan.proofs.Grown.{mark_only, run_length}
use Rattle.scan.proofs.Reached.{own}
use Rattle.scan.proofs.Filled.{seen_left, seen_right, Filled, filled}

module _ (t : Types) (w : List ℕ) {S : Type 0} (step : S → Visit → Option S) (roots : List Content) (apart : Apart t w roots) (m₀ : List ℕ) where
  first_append : (before vs us : List Visit) → ChildrenFirst t w m₀ before vs → ChildrenFirst t w m₀ (before ++ vs) us → ChildrenFirst t w m₀ before (vs ++ us)
  first_append before [] us one two = subst (λ x. ChildrenFirst t w m₀ x us) (append-nil before) two
  first_append before (v ∷ vs) us one two =
      (one.0, first_append (before ++ (v ∷ [])) vs us one.1 (subst (λ x. ChildrenFirst t w m₀ x us) (sym (append_assoc before (v ∷ []) vs)) two))

  -- the cell was marked before the scan, was visited, or leads to the cell (c, a)
  abbrev Told : List Visit → ℕ → ℕ → ℕ → ℕ → Type 0
  Told before c a c₁ a₁ = IsMarked m₀ a₁ ⊎ (Seen before c₁ a₁ ⊎ Reach t w (lone c₁ a₁) c a)

  -- so it is with each reached cell that is marked
  Known : List ℕ → List Visit → ℕ → ℕ → Type 0
  Known m before c a = (c₁ a₁ : ℕ) → Reach t w roots c₁ a₁ → IsMarked m a₁ → Told before c a c₁ a₁

  -- and with the children of the cell (c, a) below its word i
  Below : List Visit → ℕ → ℕ → ℕ → Type 0
  Below before c a i = (j c₁ a₁ : ℕ) → 1 ≤ j → j < i → child_at t w c a j ≡ Cell c₁ a₁ → Told before c a c₁ a₁

  abbrev Ready : Task → List ℕ → List Visit → Type 0
  Ready (pointer c a) m before = Reach t w roots c a × Inside t (length w) c a × Known m before c a
  Ready (rest c a i) m before = Reach t w roots c a × (1 ≤ i) × Known m before c a × Below before c a i

  told_later : (before vs : List Visit) (c a c₁ a₁ : ℕ) → Told before c a c₁ a₁ → Told (before ++ vs) c a c₁ a₁
  told_later before vs c a c₁ a₁ h =
      elim h [ inl old ↦ inl old | inr new ↦ elim new [ inl seen ↦ inr (inl (seen_left before vs c₁ a₁ seen)) | inr back ↦ inr (inr back) ] ]

  known_opened : (c a : ℕ) (m : List ℕ) (before : List Visit) → Reach t w roots c a → Known m before c a → Known (mark_words m a (width t c)) before c a
  unfolding Known
  known_opened c a m before at known c₁ a₁ at₁ h =
      elim (mark_only m a (width t c) a₁ h) [
        | inl old ↦ known c₁ a₁ at₁ old
        | inr within ↦
            let same = apart c a c₁ a₁ at at₁ within.0 within.1 in
            inr (inr (subst (λ x. Reach t w (lone x a₁) c a) same.0 (subst (λ x. Reach t w (lone c x) c a) same.1 (own t w c a))))
      ]

  known_child : (c a i c' a' : ℕ) (m : List ℕ) (before : List Visit) → 1 ≤ i → i ≤ width t c → child_at t w c a i ≡ Cell c' a' → Known m before c a → Known m before c' a'
  unfolding Known
  known_child c a i c' a' m before low le is known c₁ a₁ at₁ h =
      elim (known c₁ a₁ at₁ h) [
        | inl old ↦ inl old
        | inr new ↦ elim new [ inl seen ↦ inr (inl seen) | inr back ↦ inr (inr (through i back low le is)) ]
      ]

  known_after : (c a : ℕ) (m m₁ : List ℕ) (before vs : List Visit) → Filled t w step roots apart m m₁ vs → Known m before c a → Known m₁ (before ++ vs) c a
  unfolding Known Filled
  known_after c a m m₁ before vs f known c₁ a₁ at₁ h =
      elim (f c₁ a₁ at₁ h) [
        | inl old ↦ told_later before vs c a c₁ a₁ (known c₁ a₁ at₁ old)
        | inr new ↦ inr (inl (seen_right before vs c₁ a₁ new.seen))
      ]

  below_none : (before : List Visit) (c a : ℕ) → Below before c a 1
  unfolding Below
  below_none before c a j c₁ a₁ low lt is = absurd (omega arith)

  below_next : (before : List Visit) (c a i : ℕ) → ((c₁ a₁ : ℕ) → child_at t w c a i ≡ Cell c₁ a₁ → Told before c a c₁ a₁) → Below before c a i → Below before c a (i + 1)
  unfolding Below
  below_next before c a i here below j c₁ a₁ low lt is =
      elim (cases_eq j i) [
        | inl same ↦ here c₁ a₁ (sym (ap (λ x. child_at t w c a x) same) ∙ is)
        | inr other ↦ below j c₁ a₁ low (omega arith) is
      ]

  below_later : (before vs : List Visit) (c a i : ℕ) → Below before c a i → Below (before ++ vs) c a i
  unfolding Below
  below_later before vs c a i below j c₁ a₁ low lt is = told_later before vs c a c₁ a₁ (below j c₁ a₁ low lt is)

  settled : (before : List Visit) (c a i : ℕ) → width t c < i → Below before c a i → Settled t w m₀ before (cell_visit t w c a)
  unfolding Below
  settled before c a i past below j c₁ a₁ low le is = below j c₁ a₁ low (omega arith) is

  known_here : (c a i c' a' : ℕ) (m : List ℕ) (before : List Visit) → Known m before c a → Reach t w roots c' a' → IsMarked m a' → child_at t w c a i ≡ Cell c' a' → (c₁ a₁ : ℕ) → child_at t w c a i ≡ Cell c₁ a₁ → Told before c a c₁ a₁
  unfolding Known
  known_here c a i c' a' m before known at one is c₁ a₁ so =
      let same-c : c' ≡ c₁ = cc in
      let same-a : a' ≡ a₁ = cc in
      subst (λ x. Told before c a x a₁) same-c (subst (λ x. Told before c a c' x) same-a (known c' a' at one))

  ordered : {k : Task} {m m' : List ℕ} {s s' : S} {vs : List Visit} {e : Ending} → Run t w step k m s vs m' s' e → length m ≡ length w → (before : List Visit) → Ready k m before → ChildrenFirst t w m₀ before vs
  ordered (marked one) len before at = tt
  ordered (opened {c = c} {a = a} {m = m} none r) len before at = ordered r (length_mark m a (width t c) ∙ len) before (at.0, omega arith, known_opened c a m before at.0 at.2, below_none before c a)
  ordered (visited {c = c} {a = a} {i = i} past took) len before at = (settled before c a i past at.3, tt)
  ordered (refused past none) len before at = tt
  ordered (plain {c = c} {a = a} {i = i} le is r) len before at =
      ordered r len before (at.0, omega arith, at.2, below_next before c a i (λ c₁ a₁ so. let z : ◌≡◌ {A = ℕ} 0 1 = cc in absurd (omega arith)) at.3)
  ordered (misfit le is) len before at = tt
  ordered (child {c = c} {a = a} {i = i} {c' = c'} {a' = a'} {m = m} {m₁ = m₁} {vs₁ = vs₁} {vs₂ = vs₂} le is r q) len before at =
      let inside = inside_child t w c a i c' a' is in
      let to : Reach t w roots c' a' = through i at.0 at.1 le is in
      let first = filled t w step roots apart r len (to, inside) refl in
      let known : Known m₁ (before ++ vs₁) c a = known_after c a m m₁ before vs₁ first.1 at.2 in
      first_append before vs₁ vs₂ (ordered r len before (to, inside, known_child c a i c' a' m before at.1 le is at.2)) (ordered q (run_length t w step r ∙ len) (before ++ vs₁) (at.0, omega arith, known, below_next (before ++ vs₁) c a i (known_here c a i c' a' m₁ (before ++ vs₁) known to first.0 is) (below_later before vs₁ c a i at.3)))
  ordered (stopped {c = c} {a = a} {i = i} {c' = c'} {a' = a'} {m = m} le is r stop) len before at =
      ordered r len before (through i at.0 at.1 le is, inside_child t w c a i c' a' is, known_child c a i c' a' m before at.1 le is at.2)

  at_first : (c a : ℕ) → Known m₀ [] c a
  unfolding Known
  at_first c a c₁ a₁ at h = inl h

  pub children_first : (c a : ℕ) (s : S) (vs : List Visit) (m' : List ℕ) (s' : S) (e : Ending) → Run t w step (pointer c a) m₀ s vs m' s' e → length m₀ ≡ length w → Inside t (length w) c a → Reach t w roots c a → ChildrenFirst t w m₀ [] vs
  children_first c a s vs m' s' e r len inside at = ordered r len [] (at, inside, at_first c a)
