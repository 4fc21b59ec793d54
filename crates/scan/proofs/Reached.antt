-- What a scan marks, breaks at and is refused at, against what is reached.
use Rattle.std.proofs.Common.{◌≡◌, ℕ, zero, suc, ◌≤◌, ◌⊎◌, List, [], ◌∷◌, ◌++◌, length, get_or, None, Err, Option, sym, refl, ap, ◌∙◌, subst, inl, inr, arith}
use Rattle.std.specs.List.{AllByRecursion}
use Rattle.std.proofs.lemmas.List.{append_assoc}
use Rattle.std.proofs.ByRecursion.{All-append, All-weaker}
use Rattle.layouts.specs.Types.{Types}
use Rattle.cells.specs.declared.content.Content.{Content}
use Rattle.cells.specs.declared.content.Content.TheVariants.{Nothing as NoContent, Cell as CellContent}
use Rattle.cells.specs.Words.{place}
use Rattle.scan.specs.Visits.{Visit, Once}
use Rattle.scan.specs.Marks.{IsMarked, mark_words}
use Rattle.scan.specs.Children.{width, child_at, cell_visit}
use Rattle.scan.specs.Scan.{Run, Task, pointer, rest, marked, opened, visited, refused, plain, misfit, child, stopped, Stops}
use Rattle.scan.specs.Reach.{Reach, root, through, lone, InCell}
use Rattle.scan.specs.declared.frame.Child.TheVariants.{Misfit}
use Rattle.scan.specs.Endings.{Ending, Done}
use Rattle.scan.specs.declared.scanned.Stop.TheVariants.{Broken, Full}
use Rattle.scan.proofs.Counts.{length_mark}
use Rattle.scan.proofs.Inside.{Inside, inside_child}
use Rattle.scan.proofs.Grown.{Grown, mark_grown, mark_all, mark_only, grown, run_length}

-- the one pointer reaches its own cell, and that is its only root
pub own : (t : Types) (w : List ℕ) (c a : ℕ) → Reach t w (lone c a) c a
own t w c a = root 0 refl

pub own_only : (c a c₁ a₁ h : ℕ) → get_or (lone c a) h NoContent ≡ CellContent c₁ a₁ → (c ≡ c₁) × (a ≡ a₁)
own_only c a c₁ a₁ zero e = ((cc), (cc))
own_only c a c₁ a₁ (suc h) e = let z : ◌≡◌ {A = ℕ} 0 1 = cc in absurd (omega arith)

-- what a reached cell reaches is reached
pub reach_on : (t : Types) (w : List ℕ) (roots : List Content) (c a : ℕ) → Reach t w roots c a → (c₁ a₁ : ℕ) → Reach t w (lone c a) c₁ a₁ → Reach t w roots c₁ a₁
reach_on t w roots c a at c₁ a₁ (root h e) =
    let same = own_only c a c₁ a₁ h e in
    subst (λ x. Reach t w roots x a₁) same.0 (subst (λ x. Reach t w roots c x) same.1 at)
reach_on t w roots c a at c₁ a₁ (through {c = c₂} {a = a₂} i before low le is) = through i (reach_on t w roots c a at c₂ a₂ before) low le is

-- the visits of two runs, one after the other
pub once_append : (vs us : List Visit) → Once vs → Once us → AllByRecursion (λ (v : Visit). AllByRecursion (λ (u : Visit). u.address ≡ v.address → ⊥) us) vs → Once (vs ++ us)
once_append [] us o₁ o₂ cross = o₂
once_append (v ∷ vs) us o₁ o₂ cross = (All-append (λ (u : Visit). u.address ≡ v.address → ⊥) vs us o₁.0 cross.0, once_append vs us o₁.1 o₂ cross.1)

module _ (t : Types) (w : List ℕ) {S : Type 0} (step : S → Visit → Option S) (roots : List Content) where
  -- the cell that a task is about is reached
  abbrev About : Task → Type 0
  About (pointer c a) = Reach t w roots c a
  About (rest c a i) = Reach t w roots c a × (1 ≤ i)

  abbrev pub Misfitting : ℕ → Type 0
  Misfitting p = (c : ℕ) × (a : ℕ) × (i : ℕ) × Reach t w roots c a × (1 ≤ i) × (i ≤ width t c) × (child_at t w c a i ≡ Misfit) × (p ≡ place a i)

  pub breaks : {k : Task} {m m' : List ℕ} {s s' : S} {vs : List Visit} {e : Ending} → Run t w step k m s vs m' s' e → About k → (p : ℕ) → e ≡ Err (Broken p) → Misfitting p
  breaks (marked one) at p is-broken = let z : ◌≡◌ {A = ℕ} 0 1 = cc in absurd (omega arith)
  breaks (opened none r) at p is-broken = breaks r (at, omega arith) p is-broken
  breaks (visited past took) at p is-broken = let z : ◌≡◌ {A = ℕ} 0 1 = cc in absurd (omega arith)
  breaks (refused past none) at p is-broken = let z : ◌≡◌ {A = ℕ} 0 1 = cc in absurd (omega arith)
  breaks (plain le is r) at p is-broken = breaks r (at.0, omega arith) p is-broken
  breaks (misfit {c = c} {a = a} {i = i} le is) at p is-broken = (c, a, i, at.0, at.1, le, is, (cc))
  breaks (child le is r q) at p is-broken = breaks q (at.0, omega arith) p is-broken
  breaks (stopped {i = i} le is r stop) at p is-broken = breaks r (through i at.0 at.1 le is) p is-broken

  pub refuses : {k : Task} {m m' : List ℕ} {s s' : S} {vs : List Visit} {e : Ending} → Run t w step k m s vs m' s' e → About k → (b : ℕ) → e ≡ Err (Full b) → (c : ℕ) × Reach t w roots c b × (step s' (cell_visit t w c b) ≡ None)
  refuses (marked one) at b is-full = let z : ◌≡◌ {A = ℕ} 0 1 = cc in absurd (omega arith)
  refuses (opened none r) at b is-full = refuses r (at, omega arith) b is-full
  refuses (visited past took) at b is-full = let z : ◌≡◌ {A = ℕ} 0 1 = cc in absurd (omega arith)
  refuses (refused {c = c} {a = a} {s = s} past none) at b is-full =
      let same : a ≡ b = cc in
      (c, subst (λ x. Reach t w roots c x) same at.0, subst (λ x. step s (cell_visit t w c x) ≡ None) same none)
  refuses (plain le is r) at b is-full = refuses r (at.0, omega arith) b is-full
  refuses (misfit le is) at b is-full = let z : ◌≡◌ {A = ℕ} 0 1 = cc in absurd (omega arith)
  refuses (child le is r q) at b is-full = refuses q (at.0, omega arith) b is-full
  refuses (stopped {i = i} le is r stop) at b is-full = refuses r (through i at.0 at.1 le is) b is-full

  -- what is marked anew lies in a cell that is reached
  abbrev pub Only : List ℕ → List ℕ → Type 0
  Only m m' = (j : ℕ) → IsMarked m' j → IsMarked m j ⊎ ((c : ℕ) × (a : ℕ) × Reach t w roots c a × InCell t c a j)

  pub only : {k : Task} {m m' : List ℕ} {s s' : S} {vs : List Visit} {e : Ending} → Run t w step k m s vs m' s' e → About k → Only m m'
  only (marked one) at j h = inl h
  only (opened {c = c} {a = a} {m = m} none r) at j h =
      elim (only r (at, omega arith) j h) [
        | inl before ↦ elim (mark_only m a (width t c) j before) [ inl old ↦ inl old | inr new ↦ inr (c, a, at, new) ]
        | inr new ↦ inr new
      ]
  only (visited past took) at j h = inl h
  only (refused past none) at j h = inl h
  only (plain le is r) at j h = only r (at.0, omega arith) j h
  only (misfit le is) at j h = inl h
  only (child {i = i} le is r q) at j h =
      let first = only r (through i at.0 at.1 le is) j in
      elim (only q (at.0, omega arith) j h) [ inl before ↦ first before | inr new ↦ inr new ]
  only (stopped {i = i} le is r stop) at j h = only r (through i at.0 at.1 le is) j h

  -- a visit of a reached cell that is marked in the end
  pub record Told (m' : List ℕ) (v : Visit) : Type 0 where
    pub reached : Reach t w roots v.code v.address
    pub is_cell : v ≡ cell_visit t w v.code v.address
    pub now_marked : IsMarked m' v.address

  later_told : (m m' : List ℕ) → Grown m m' → (v : Visit) → Told m v → Told m' v
  later_told m m' gr v h = record { reached = h.reached; is_cell = h.is_cell; now_marked = gr v.address h.now_marked }

  -- the visits of a pointer are of cells that were not marked; the rest of a marked cell adds that cell
  abbrev Anew : List ℕ → List ℕ → Visit → Type 0
  Anew m m' v = Told m' v × (IsMarked m v.address → ⊥)

  abbrev AnewOr : ℕ → List ℕ → List ℕ → Visit → Type 0
  AnewOr a m m' v = Told m' v × ((IsMarked m v.address → ⊥) ⊎ (v.address ≡ a))

  abbrev Tells : Task → List ℕ → List ℕ → List Visit → Type 0
  Tells (pointer c a) m m' vs = AllByRecursion (Anew m m') vs × Once vs
  Tells (rest c a i) m m' vs = AllByRecursion (AnewOr a m m') vs × Once vs

  abbrev Within : Task → List ℕ → Type 0
  Within (pointer c a) m = Reach t w roots c a × Inside t (length w) c a
  Within (rest c a i) m = Reach t w roots c a × (1 ≤ i) × IsMarked m a

  opened_anew : (c a : ℕ) (m m' : List ℕ) → (IsMarked m a → ⊥) → (v : Visit) → AnewOr a (mark_words m a (width t c)) m' v → Anew m m' v
  opened_anew c a m m' none v h =
      (h.0, elim h.1 [ inl new ↦ λ one. new (mark_grown m a (width t c) v.address one) | inr same ↦ λ one. none (subst (λ x. IsMarked m x) same one) ])

  first_anew : (a : ℕ) (m m₁ m₂ : List ℕ) → Grown m₁ m₂ → (v : Visit) → Anew m m₁ v → AnewOr a m m₂ v
  first_anew a m m₁ m₂ gr v h = (later_told m₁ m₂ gr v h.0, inl h.1)

  second_anew : (a : ℕ) (m m₁ m₂ : List ℕ) → Grown m m₁ → (v : Visit) → AnewOr a m₁ m₂ v → AnewOr a m m₂ v
  second_anew a m m₁ m₂ gr v h = (h.0, elim h.1 [ inl new ↦ inl (λ one. new (gr v.address one)) | inr same ↦ inr same ])

  -- a cell that was visited before is not visited again
  cross_one : (a : ℕ) (m m₁ m₂ : List ℕ) → IsMarked m a → (v u : Visit) → Anew m m₁ v → AnewOr a m₁ m₂ u → u.address ≡ v.address → ⊥
  cross_one a m m₁ m₂ one v u hv hu same =
      elim hu.1 [
        | inl new ↦ new (subst (λ x. IsMarked m₁ x) (sym same) hv.0.now_marked)
        | inr here ↦ hv.1 (subst (λ x. IsMarked m x) (sym here ∙ same) one)
      ]

  crossed : (a : ℕ) (m m₁ m₂ : List ℕ) → IsMarked m a → (vs us : List Visit) → AllByRecursion (Anew m m₁) vs → AllByRecursion (AnewOr a m₁ m₂) us → AllByRecursion (λ (v : Visit). AllByRecursion (λ (u : Visit). u.address ≡ v.address → ⊥) us) vs
  crossed a m m₁ m₂ one [] us hv hu = tt
  crossed a m m₁ m₂ one (v ∷ vs) us hv hu = (All-weaker (AnewOr a m₁ m₂) (λ (u : Visit). u.address ≡ v.address → ⊥) (λ u h. cross_one a m m₁ m₂ one v u hv.0 h) us hu, crossed a m m₁ m₂ one vs us hv.1 hu)

  pub tells : {k : Task} {m m' : List ℕ} {s s' : S} {vs : List Visit} {e : Ending} → Run t w step k m s vs m' s' e → length m ≡ length w → Within k m → Tells k m m' vs
  tells (marked one) len at = (tt, tt)
  tells (opened {c = c} {a = a} {m = m} {m' = m'} {vs = vs} none r) len at =
      let i = at.1 in
      let one : IsMarked (mark_words m a (width t c)) a = mark_all m a (width t c) a (omega (arith, i.within)) (omega arith) (omega (arith, i.some)) in
      let ih = tells r (length_mark m a (width t c) ∙ len) (at.0, omega arith, one) in
      (All-weaker (AnewOr a (mark_words m a (width t c)) m') (Anew m m') (opened_anew c a m m' none) vs ih.0, ih.1)
  tells (visited {c = c} {a = a} past took) len at = (((record { reached = at.0; is_cell = refl; now_marked = at.2 }, inr refl), tt), (tt, tt))
  tells (refused past none) len at = (tt, tt)
  tells (plain le is r) len at = tells r len (at.0, omega arith, at.2)
  tells (misfit le is) len at = (tt, tt)
  tells (child {c = c} {a = a} {i = i} {c' = c'} {a' = a'} {m = m} {m₁ = m₁} {m₂ = m₂} {vs₁ = vs₁} {vs₂ = vs₂} le is r q) len at =
      let first = tells r len (through i at.0 at.1 le is, inside_child t w c a i c' a' is) in
      let second = tells q (run_length t w step r ∙ len) (at.0, omega arith, grown t w step r a at.2) in
      (All-append (AnewOr a m m₂) vs₁ vs₂ (All-weaker (Anew m m₁) (AnewOr a m m₂) (first_anew a m m₁ m₂ (grown t w step q)) vs₁ first.0) (All-weaker (AnewOr a m₁ m₂) (AnewOr a m m₂) (second_anew a m m₁ m₂ (grown t w step r)) vs₂ second.0), once_append vs₁ vs₂ first.1 second.1 (crossed a m m₁ m₂ at.2 vs₁ vs₂ first.0 second.0))
  tells (stopped {c = c} {a = a} {i = i} {c' = c'} {a' = a'} {m = m} {m₁ = m₁} {vs = vs} le is r stop) len at =
      let first = tells r len (through i at.0 at.1 le is, inside_child t w c a i c' a' is) in
      (All-weaker (Anew m m₁) (AnewOr a m m₁) (first_anew a m m₁ m₁ (λ j h. h)) vs first.0, first.1)

  -- the cell whose visit is refused was not marked before its pointer was scanned
  abbrev Left : Task → List ℕ → ℕ → Type 0
  Left (pointer c a) m b = IsMarked m b → ⊥
  Left (rest c a i) m b = (IsMarked m b → ⊥) ⊎ (b ≡ a)

  left : {k : Task} {m m' : List ℕ} {s s' : S} {vs : List Visit} {e : Ending} → Run t w step k m s vs m' s' e → (b : ℕ) → e ≡ Err (Full b) → Left k m b
  left (marked one) b is-full = let z : ◌≡◌ {A = ℕ} 0 1 = cc in absurd (omega arith)
  left (opened {c = c} {a = a} {m = m} none r) b is-full =
      elim (left r b is-full) [ inl new ↦ λ one. new (mark_grown m a (width t c) b one) | inr same ↦ λ one. none (subst (λ x. IsMarked m x) same one) ]
  left (visited past took) b is-full = let z : ◌≡◌ {A = ℕ} 0 1 = cc in absurd (omega arith)
  left (refused past none) b is-full = inr (cc)
  left (plain le is r) b is-full = left r b is-full
  left (misfit le is) b is-full = let z : ◌≡◌ {A = ℕ} 0 1 = cc in absurd (omega arith)
  left (child le is r q) b is-full = elim (left q b is-full) [ inl new ↦ inl (λ one. new (grown t w step r b one)) | inr same ↦ inr same ]
  left (stopped le is r stop) b is-full = inl (left r b is-full)

  pub unvisited : {k : Task} {m m' : List ℕ} {s s' : S} {vs : List Visit} {e : Ending} → Run t w step k m s vs m' s' e → length m ≡ length w → Within k m → (b : ℕ) → e ≡ Err (Full b) → AllByRecursion (λ (v : Visit). v.address ≡ b → ⊥) vs
  unvisited (marked one) len at b is-full = tt
  unvisited (opened {c = c} {a = a} {m = m} none r) len at b is-full =
      let i = at.1 in
      let one : IsMarked (mark_words m a (width t c)) a = mark_all m a (width t c) a (omega (arith, i.within)) (omega arith) (omega (arith, i.some)) in
      unvisited r (length_mark m a (width t c) ∙ len) (at.0, omega arith, one) b is-full
  unvisited (visited past took) len at b is-full = let z : ◌≡◌ {A = ℕ} 0 1 = cc in absurd (omega arith)
  unvisited (refused past none) len at b is-full = tt
  unvisited (plain le is r) len at b is-full = unvisited r len (at.0, omega arith, at.2) b is-full
  unvisited (misfit le is) len at b is-full = tt
  unvisited (child {c = c} {a = a} {i = i} {c' = c'} {a' = a'} {m = m} {m₁ = m₁} {vs₁ = vs₁} {vs₂ = vs₂} le is r q) len at b is-full =
      let first = tells r len (through i at.0 at.1 le is, inside_child t w c a i c' a' is) in
      let second = unvisited q (run_length t w step r ∙ len) (at.0, omega arith, grown t w step r a at.2) b is-full in
      All-append (λ (v : Visit). v.address ≡ b → ⊥) vs₁ vs₂
      (All-weaker (Anew m m₁) (λ (v : Visit). v.address ≡ b → ⊥) (λ v h same. elim (left q b is-full) [ inl new ↦ new (subst (λ x. IsMarked m₁ x) same h.0.now_marked) | inr here ↦ h.1 (subst (λ x. IsMarked m x) (sym (same ∙ here)) at.2) ]) vs₁ first.0)
      second
  unvisited (stopped {c = c} {a = a} {i = i} {c' = c'} {a' = a'} le is r stop) len at b is-full = unvisited r len (through i at.0 at.1 le is, inside_child t w c a i c' a' is) b is-full

-- the rest of a cell ends with its visit
module _ (t : Types) (w : List ℕ) {S : Type 0} (step : S → Visit → Option S) where
  abbrev Ends : Task → List Visit → Type 0
  Ends (pointer c a) vs = Unit {0}
  Ends (rest c a i) vs = (front : List Visit) × (vs ≡ front ++ (cell_visit t w c a ∷ []))

  ends : {k : Task} {m m' : List ℕ} {s s' : S} {vs : List Visit} {e : Ending} → Run t w step k m s vs m' s' e → e ≡ Done → Ends k vs
  ends (marked one) done = tt
  ends (opened none r) done = tt
  ends (visited past took) done = ([], refl)
  ends (refused past none) done = let z : ◌≡◌ {A = ℕ} 0 1 = cc in absurd (omega arith)
  ends (plain le is r) done = ends r done
  ends (misfit le is) done = let z : ◌≡◌ {A = ℕ} 0 1 = cc in absurd (omega arith)
  ends (child {c = c} {a = a} {vs₁ = vs₁} le is r q) done =
      let last = ends q done in (vs₁ ++ last.0, ap (λ x. vs₁ ++ x) last.1 ∙ sym (append_assoc vs₁ last.0 (cell_visit t w c a ∷ [])))
  ends (stopped le is r stop) done = absurd (subst Stops done stop)

  pub visited_last : {c a : ℕ} {m m' : List ℕ} {s s' : S} {vs : List Visit} {e : Ending} → Run t w step (pointer c a) m s vs m' s' e → e ≡ Done → (IsMarked m a → ⊥) → (front : List Visit) × (vs ≡ front ++ (cell_visit t w c a ∷ []))
  visited_last (marked one) done none = absurd (none one)
  visited_last (opened was r) done none = ends r done
