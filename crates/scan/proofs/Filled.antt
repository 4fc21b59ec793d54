-- What a scan that ends undisturbed marks and visits, where reached cells do not overlap.
use Rattle.std.proofs.Common.{◌≡◌, ℕ, ◌+◌, ◌<◌, ◌≤◌, ◌⊎◌, List, [], ◌∷◌, ◌++◌, length, Option, sym, refl, ap, ◌∙◌, subst, inl, inr, arith}
use Rattle.std.specs.List.{AllByRecursion}
use Rattle.std.proofs.lemmas.Bool.{cases_eq}
use Rattle.layouts.specs.Types.{Types}
use Rattle.cells.specs.declared.content.Content.{Content}
use Rattle.scan.specs.Visits.{Visit, Seen}
use Rattle.scan.specs.Marks.{IsMarked, mark_words}
use Rattle.scan.specs.Children.{width, child_at, cell_visit}
use Rattle.scan.specs.Scan.{Run, Task, pointer, rest, marked, opened, visited, refused, plain, misfit, child, stopped, Stops}
use Rattle.scan.specs.Reach.{Reach, root, through, lone, Apart, CellMarked, ChildrenMarked, Closed}
use Rattle.scan.specs.Laws.{Completes}
use Rattle.scan.specs.declared.frame.Child.TheVariants.{Cell}
use Rattle.scan.specs.Endings.{Ending, Done}
use Rattle.scan.proofs.Counts.{length_mark}
use Rattle.scan.proofs.Inside.{Inside, inside_child}
use Rattle.scan.proofs.Grown.{Grown, mark_all, mark_only, grown, run_length}
use Rattle.scan.proofs.Reached.{own_only, reach_on}

pub seen_left : (vs us : List Visit) (c a : ℕ) → Seen vs c a → Seen (vs ++ us) c a
seen_left [] us c a h = absurd h
seen_left (v ∷ vs) us c a h = elim h [ inl here ↦ inl here | inr later ↦ inr (seen_left vs us c a later) ]

pub seen_right : (vs us : List Visit) (c a : ℕ) → Seen us c a → Seen (vs ++ us) c a
seen_right [] us c a h = h
seen_right (v ∷ vs) us c a h = inr (seen_right vs us c a h)

-- what holds of every visit holds of a cell that was seen
pub all_seen : (P : ℕ → ℕ → Type 0) (vs : List Visit) (c a : ℕ) → AllByRecursion (λ (v : Visit). P v.code v.address) vs → Seen vs c a → P c a
all_seen P [] c a all h = absurd h
all_seen P (v ∷ vs) c a all h =
    elim h [
      | inl here ↦ subst (λ x. P x a) here.0 (subst (λ x. P v.code x) here.1 all.0)
      | inr later ↦ all_seen P vs c a all.1 later
    ]

module _ (t : Types) (w : List ℕ) {S : Type 0} (step : S → Visit → Option S) (roots : List Content) (apart : Apart t w roots) where
  -- marked in all its words, with its children, and visited
  pub record Anew (m' : List ℕ) (vs : List Visit) (c a : ℕ) : Type 0 where
    pub cell : CellMarked t m' c a
    pub children : ChildrenMarked t w m' c a 1
    pub seen : Seen vs c a

  unfoldable pub Filled : List ℕ → List ℕ → List Visit → Type 0
  Filled m m' vs = (c a : ℕ) → Reach t w roots c a → IsMarked m' a → IsMarked m a ⊎ Anew m' vs c a

  abbrev pub Result : Task → List ℕ → List ℕ → List Visit → Type 0
  Result (pointer c a) m m' vs = IsMarked m' a × Filled m m' vs
  Result (rest c a i) m m' vs = ChildrenMarked t w m' c a i × Seen vs c a × Filled m m' vs

  abbrev pub Within : Task → Type 0
  Within (pointer c a) = Reach t w roots c a × Inside t (length w) c a
  Within (rest c a i) = Reach t w roots c a × (1 ≤ i)

  same_filled : (m : List ℕ) (vs : List Visit) → Filled m m vs
  unfolding Filled
  same_filled m vs c a at h = inl h

  joined : (m m₁ m₂ : List ℕ) (vs us : List Visit) → Grown m₁ m₂ → Filled m m₁ vs → Filled m₁ m₂ us → Filled m m₂ (vs ++ us)
  unfolding Filled
  joined m m₁ m₂ vs us gr f₁ f₂ c a at h =
      elim (f₂ c a at h) [
        | inl before ↦
            elim (f₁ c a at before) [
              | inl old ↦ inl old
              | inr new ↦
                  inr (record { cell = λ j in_Cell. gr j (new.cell j in_Cell); children = λ j c' a' low le is. gr a' (new.children j c' a' low le is); seen = seen_left vs us c a new.seen })
            ]
        | inr new ↦ inr (record { cell = new.cell; children = new.children; seen = seen_right vs us c a new.seen })
      ]

  no_children : (c a i : ℕ) (m : List ℕ) → width t c < i → ChildrenMarked t w m c a i
  no_children c a i m past j c' a' low le is = absurd (omega arith)

  -- one word more, of which what it leads to is known
  more_children : (c a i : ℕ) (m : List ℕ) → ((c' a' : ℕ) → child_at t w c a i ≡ Cell c' a' → IsMarked m a') → ChildrenMarked t w m c a (i + 1) → ChildrenMarked t w m c a i
  more_children c a i m here-marked ch j c' a' low le is =
      elim (cases_eq j i) [
        | inl same ↦ here-marked c' a' (sym (ap (λ x. child_at t w c a x) same) ∙ is)
        | inr other ↦ ch j c' a' (omega arith) le is
      ]

  opened_filled : (c a : ℕ) (m m' : List ℕ) (vs : List Visit) → Reach t w roots c a → Anew m' vs c a → Filled (mark_words m a (width t c)) m' vs → Filled m m' vs
  unfolding Filled
  opened_filled c a m m' vs at new f c₁ a₁ at₁ h =
      elim (f c₁ a₁ at₁ h) [
        | inl before ↦
            elim (mark_only m a (width t c) a₁ before) [
              | inl old ↦ inl old
              | inr within ↦
                  let same = apart c a c₁ a₁ at at₁ within.0 within.1 in
                  inr (subst (λ x. Anew m' vs x a₁) same.0 (subst (λ x. Anew m' vs c x) same.1 new))
            ]
        | inr done ↦ inr done
      ]

  pub filled : {k : Task} {m m' : List ℕ} {s s' : S} {vs : List Visit} {e : Ending} → Run t w step k m s vs m' s' e → length m ≡ length w → Within k → e ≡ Done → Result k m m' vs
  filled (marked {m = m} one) len at done = (one, same_filled m [])
  filled (opened {c = c} {a = a} {m = m} {m' = m'} {vs = vs} none r) len at done =
      let i = at.1 in
      let ih = filled r (length_mark m a (width t c) ∙ len) (at.0, omega arith) done in
      let whole : CellMarked t m' c a = λ j in_Cell. grown t w step r j (mark_all m a (width t c) j (omega (arith, i.within)) in_Cell.0 in_Cell.1) in
      (whole a (omega arith, omega (arith, i.some)), opened_filled c a m m' vs at.0 (record { cell = whole; children = ih.0; seen = ih.1 }) ih.2)
  filled (visited {c = c} {a = a} {i = i} {m = m} past took) len at done = (no_children c a i m past, inl (refl, refl), same_filled m (cell_visit t w c a ∷ []))
  filled (refused past none) len at done = let z : ◌≡◌ {A = ℕ} 0 1 = cc in absurd (omega arith)
  filled (plain {c = c} {a = a} {i = i} {m' = m'} le is r) len at done =
      let ih = filled r len (at.0, omega arith) done in
      (more_children c a i m' (λ c' a' so. let z : ◌≡◌ {A = ℕ} 0 1 = cc in absurd (omega arith)) ih.0, ih.1, ih.2)
  filled (misfit le is) len at done = let z : ◌≡◌ {A = ℕ} 0 1 = cc in absurd (omega arith)
  filled (child {c = c} {a = a} {i = i} {c' = c'} {a' = a'} {m = m} {m₁ = m₁} {m₂ = m₂} {vs₁ = vs₁} {vs₂ = vs₂} le is r q) len at done =
      let first = filled r len (through i at.0 at.1 le is, inside_child t w c a i c' a' is) refl in
      let second = filled q (run_length t w step r ∙ len) (at.0, omega arith) done in
      (more_children c a i m₂ (λ c'' a'' so. let same : a' ≡ a'' = cc in subst (λ x. IsMarked m₂ x) same (grown t w step q a' first.0)) second.0, seen_right vs₁ vs₂ c a second.1, joined m m₁ m₂ vs₁ vs₂ (grown t w step q) first.1 second.2)
  filled (stopped le is r stop) len at done = absurd (subst Stops done stop)

  module _ (c a : ℕ) (m : List ℕ) (s : S) (vs : List Visit) (m' : List ℕ) (s' : S) (r : Run t w step (pointer c a) m s vs m' s' Done) (len : length m ≡ length w) (inside : Inside t (length w) c a) (at : Reach t w roots c a) (before : Closed t w roots m) where
    after : Closed t w roots m'
    unfolding Filled
    after c₁ a₁ at₁ h =
        elim ((filled r len (at, inside) refl).1 c₁ a₁ at₁ h) [
          | inl old ↦
              let was = before c₁ a₁ at₁ old in
              (λ j in_Cell. grown t w step r j (was.0 j in_Cell), λ j c' a' low le is. grown t w step r a' (was.1 j c' a' low le is))
          | inr new ↦ (new.cell, new.children)
        ]

    reached_marked : (c₁ a₁ : ℕ) → Reach t w (lone c a) c₁ a₁ → IsMarked m' a₁
    reached_marked c₁ a₁ (root h e) = subst (λ x. IsMarked m' x) (own_only c a c₁ a₁ h e).1 (filled r len (at, inside) refl).0
    reached_marked c₁ a₁ (through {c = c₂} {a = a₂} i from low le is) =
        (after c₂ a₂ (reach_on t w roots c a at c₂ a₂ from) (reached_marked c₂ a₂ from)).1 i c₁ a₁ low le is

    pub completes : Completes t w roots c a m vs m'
    unfolding Filled
    completes = record {
      closed = after;
      covered = λ c₁ a₁ from. ((after c₁ a₁ (reach_on t w roots c a at c₁ a₁ from) (reached_marked c₁ a₁ from)).0, reached_marked c₁ a₁ from);
      seen = λ c₁ a₁ at₁ h. elim ((filled r len (at, inside) refl).1 c₁ a₁ at₁ h) [ inl old ↦ inl old | inr new ↦ inr new.seen ];
    }
