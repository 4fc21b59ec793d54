-- What the scans of contents, one after the other, make of the marks.
use Rattle.std.proofs.Common.{◌≡◌, ℕ, zero, suc, ◌+◌, ◌≤◌, true, ◌⊎◌, List, [], ◌∷◌, ◌++◌, length, get_or, sym, refl, ◌∙◌, subst, inl, inr, arith, length-append, Err}
use Rattle.std.specs.List.{AllByRecursion}
use Rattle.std.proofs.ByRecursion.{All-append, All-weaker}
use Rattle.std.proofs.lemmas.Bool.{and_from, le-leb}
use Rattle.layouts.specs.Types.{Types}
use Rattle.cells.specs.declared.content.Content.{Content}
use Rattle.cells.specs.declared.content.Content.TheVariants.{Nothing, Cell, Immediate}
use Rattle.cells.specs.Words.{fits}
use Rattle.scan.specs.Visits.{Visit, Seen, Once}
use Rattle.scan.specs.Marks.{IsMarked, unmarked}
use Rattle.scan.specs.Scan.{Run, pointer, Stops}
use Rattle.scan.specs.Reach.{Reach, root, through, lone, InOrder, Apart, InCell, Closed}
use Rattle.scan.specs.Laws.{Due, ScanLaws, Completes}
use Rattle.scan.specs.declared.inspector.Nobody.{Nobody}
use Rattle.scan.specs.Endings.{Ending, Done}
use Rattle.scan.specs.declared.scanned.Stop.TheVariants.{Broken, Full}
use Rattle.scan.proofs.Inside.{Inside, inside_fits, inside_child}
use Rattle.scan.proofs.Grown.{Grown, Written, then_written, grown, run_length, run_written}
use Rattle.scan.proofs.Reached.{own_only, reach_on, once_append}
use Rattle.scan.proofs.Filled.{seen_left, seen_right}
use Rattle.scan.proofs.Laws.{laws_hold}
use Rattle.marking.specs.Roots.{Roots, takes_all, finished, nothing, immediate, unfit, scanned, stopped}
use Rattle.marking.specs.Laws.{OfCell, RootsFit, UnfitRoot, BrokenAt}

fits_inside : (t : Types) (L c a : ℕ) → Inside t L c a → fits t L c a ≡ true
fits_inside t L c a i = and_from _ _ (le-leb 1 _ i.some) (and_from _ _ (le-leb 1 a i.high) (le-leb _ L i.within))

-- what a cell that fits reaches fits
reach_fits : (t : Types) (w : List ℕ) (c a : ℕ) → fits t (length w) c a ≡ true → (c₁ a₁ : ℕ) → Reach t w (lone c a) c₁ a₁ → fits t (length w) c₁ a₁ ≡ true
reach_fits t w c a fit c₁ a₁ (root h e) =
    let same = own_only c a c₁ a₁ h e in
    subst (λ x. fits t (length w) x a₁ ≡ true) same.0 (subst (λ x. fits t (length w) c x ≡ true) same.1 fit)
reach_fits t w c a fit c₁ a₁ (through {c = c₂} {a = a₂} i before low le is) = fits_inside t (length w) c₁ a₁ (inside_child t w c₂ a₂ i c₁ a₁ is)

module _ (t : Types) (w : List ℕ) where
  pub marks_grown : {ks : List Content} {m m' : List ℕ} {vs : List Visit} {e : Ending} → Roots t w ks m vs m' e → Grown m m'
  marks_grown finished j h = h
  marks_grown (nothing r) j h = marks_grown r j h
  marks_grown (immediate r) j h = marks_grown r j h
  marks_grown (unfit out) j h = h
  marks_grown (scanned fit r q) j h = marks_grown q j (grown t w takes_all r j h)
  marks_grown (stopped fit r stop) j h = grown t w takes_all r j h

  pub marks_long : {ks : List Content} {m m' : List ℕ} {vs : List Visit} {e : Ending} → Roots t w ks m vs m' e → length m' ≡ length m
  marks_long finished = refl
  marks_long (nothing r) = marks_long r
  marks_long (immediate r) = marks_long r
  marks_long (unfit out) = refl
  marks_long (scanned fit r q) = marks_long q ∙ run_length t w takes_all r
  marks_long (stopped fit r stop) = run_length t w takes_all r

  pub marks_written : {ks : List Content} {m m' : List ℕ} {vs : List Visit} {e : Ending} → Roots t w ks m vs m' e → Written m m'
  marks_written finished j = inl refl
  marks_written (nothing r) j = marks_written r j
  marks_written (immediate r) j = marks_written r j
  marks_written (unfit out) j = inl refl
  marks_written (scanned {m = m} {m₁ = m₁} {m₂ = m₂} fit r q) j = then_written m m₁ m₂ (marks_grown q) (run_written t w takes_all r) (marks_written q) j
  marks_written (stopped fit r stop) j = run_written t w takes_all r j

  -- the laws of the scan of one of them
  one_laws : {c a : ℕ} {m m' : List ℕ} {s s' : Nobody} {vs : List Visit} {e : Ending} → fits t (length w) c a ≡ true → Run t w takes_all (pointer c a) m s vs m' s' e → length m ≡ length w → ScanLaws t w takes_all c a m s vs m' s' e
  one_laws {c} {a} {m} {m'} {s} {s'} {vs} {e} fit r len = laws_hold t w takes_all c a m s vs m' s' len (inside_fits t (length w) c a fit) e r

  pub marks_room : {ks : List Content} {m m' : List ℕ} {vs : List Visit} {e : Ending} → Roots t w ks m vs m' e → length m ≡ length w → length vs + unmarked m' ≤ unmarked m
  marks_room finished len = omega arith
  marks_room (nothing r) len = marks_room r len
  marks_room (immediate r) len = marks_room r len
  marks_room (unfit out) len = omega arith
  marks_room (scanned {vs₁ = vs₁} {vs₂ = vs₂} fit r q) len =
      let first = (one_laws fit r len).room in
      let second = marks_room q (run_length t w takes_all r ∙ len) in
      omega (arith, length-append vs₁ vs₂)
  marks_room (stopped fit r stop) len = (one_laws fit r len).room

  pub never_full : {ks : List Content} {m m' : List ℕ} {vs : List Visit} {e : Ending} → Roots t w ks m vs m' e → length m ≡ length w → (b : ℕ) → e ≡ Err (Full b) → ⊥
  never_full finished len b is = let z : ◌≡◌ {A = ℕ} 0 1 = cc in omega arith
  never_full (nothing r) len b is = never_full r len b is
  never_full (immediate r) len b is = never_full r len b is
  never_full (unfit out) len b is = let z : ◌≡◌ {A = ℕ} 0 1 = cc in omega arith
  never_full (scanned fit r q) len b is = never_full q (run_length t w takes_all r ∙ len) b is
  never_full (stopped fit r stop) len b is =
      let f = ((one_laws fit r len).full b is).2 in
      let z : ◌≡◌ {A = ℕ} 0 1 = cc in omega arith

-- against what some contents reach, among which all are
module _ (t : Types) (w : List ℕ) (all : List Content) where
  abbrev pub Among : List Content → Type 0
  Among ks = (h c a : ℕ) → get_or ks h Nothing ≡ Cell c a → Reach t w all c a

  pub marks_only : {ks : List Content} {m m' : List ℕ} {vs : List Visit} {e : Ending} → Roots t w ks m vs m' e → length m ≡ length w → Among ks → (j : ℕ) → IsMarked m' j → IsMarked m j ⊎ ((c : ℕ) × (a : ℕ) × Reach t w all c a × InCell t c a j)
  marks_only finished len at j h = inl h
  marks_only (nothing r) len at j h = marks_only r len (λ i. at (suc i)) j h
  marks_only (immediate r) len at j h = marks_only r len (λ i. at (suc i)) j h
  marks_only (unfit out) len at j h = inl h
  marks_only (scanned {c = c} {a = a} fit r q) len at j h =
      elim (marks_only q (run_length t w takes_all r ∙ len) (λ i. at (suc i)) j h) [
        | inl before ↦
            elim ((one_laws t w fit r len).only j before) [
              | inl old ↦ inl old
              | inr new ↦ inr (new.0, new.1, reach_on t w all c a (at 0 c a refl) new.0 new.1 new.2, new.3)
            ]
        | inr new ↦ inr new
      ]
  marks_only (stopped {c = c} {a = a} fit r stop) len at j h =
      elim ((one_laws t w fit r len).only j h) [
        | inl old ↦ inl old
        | inr new ↦ inr (new.0, new.1, reach_on t w all c a (at 0 c a refl) new.0 new.1 new.2, new.3)
      ]

  -- a visit of a cell that was not marked and is so in the end
  pub record New (m m' : List ℕ) (v : Visit) : Type 0 where
    pub of_cell : OfCell t w all v
    pub was_unmarked : IsMarked m v.address → ⊥
    pub now_marked : IsMarked m' v.address

  abbrev pub Tells : List ℕ → List ℕ → List Visit → Type 0
  Tells m m' vs = AllByRecursion (New m m') vs × Once vs

  one_new : (c a : ℕ) (m m' : List ℕ) → fits t (length w) c a ≡ true → Reach t w all c a → (v : Visit) → Due t w c a m m' v → New m m' v
  one_new c a m m' fit at v h = record {
    of_cell = record { reached = reach_on t w all c a at v.code v.address h.reached; fit = reach_fits t w c a fit v.code v.address h.reached; is_cell = h.is_cell };
    was_unmarked = h.was_unmarked;
    now_marked = h.now_marked;
  }

  one_tells : {c a : ℕ} {m m' : List ℕ} {s s' : Nobody} {vs : List Visit} {e : Ending} → fits t (length w) c a ≡ true → Run t w takes_all (pointer c a) m s vs m' s' e → length m ≡ length w → Reach t w all c a → Tells m m' vs
  one_tells {c} {a} {m} {m'} {s} {s'} {vs} {e} fit r len at =
      let laws = one_laws t w fit r len in
      (All-weaker (Due t w c a m m') (New m m') (one_new c a m m' fit at) vs laws.due, laws.once)

  earlier : (m m₁ m₂ : List ℕ) → Grown m₁ m₂ → (v : Visit) → New m m₁ v → New m m₂ v
  earlier m m₁ m₂ gr v h = record { of_cell = h.of_cell; was_unmarked = h.was_unmarked; now_marked = gr v.address h.now_marked }

  later : (m m₁ m₂ : List ℕ) → Grown m m₁ → (v : Visit) → New m₁ m₂ v → New m m₂ v
  later m m₁ m₂ gr v h = record { of_cell = h.of_cell; was_unmarked = λ one. h.was_unmarked (gr v.address one); now_marked = h.now_marked }

  crossed : (m m₁ m₂ : List ℕ) (vs us : List Visit) → AllByRecursion (New m m₁) vs → AllByRecursion (New m₁ m₂) us → AllByRecursion (λ (v : Visit). AllByRecursion (λ (u : Visit). u.address ≡ v.address → ⊥) us) vs
  crossed m m₁ m₂ [] us hv hu = tt
  crossed m m₁ m₂ (v ∷ vs) us hv hu = (All-weaker (New m₁ m₂) (λ (u : Visit). u.address ≡ v.address → ⊥) (λ u h same. h.was_unmarked (subst (λ x. IsMarked m₁ x) (sym same) hv.0.now_marked)) us hu, crossed m m₁ m₂ vs us hv.1 hu)

  pub marks_tell : {ks : List Content} {m m' : List ℕ} {vs : List Visit} {e : Ending} → Roots t w ks m vs m' e → length m ≡ length w → Among ks → Tells m m' vs
  marks_tell finished len at = (tt, tt)
  marks_tell (nothing r) len at = marks_tell r len (λ i. at (suc i))
  marks_tell (immediate r) len at = marks_tell r len (λ i. at (suc i))
  marks_tell (unfit out) len at = (tt, tt)
  marks_tell (scanned {c = c} {a = a} {m = m} {m₁ = m₁} {m₂ = m₂} {vs₁ = vs₁} {vs₂ = vs₂} fit r q) len at =
      let first = one_tells fit r len (at 0 c a refl) in
      let second = marks_tell q (run_length t w takes_all r ∙ len) (λ i. at (suc i)) in
      (All-append (New m m₂) vs₁ vs₂ (All-weaker (New m m₁) (New m m₂) (earlier m m₁ m₂ (marks_grown t w q)) vs₁ first.0) (All-weaker (New m₁ m₂) (New m m₂) (later m m₁ m₂ (grown t w takes_all r)) vs₂ second.0), once_append vs₁ vs₂ first.1 second.1 (crossed m m₁ m₂ vs₁ vs₂ first.0 second.0))
  marks_tell (stopped {c = c} {a = a} fit r stop) len at = one_tells fit r len (at 0 c a refl)

  -- what is broken further on
  further : (k : Content) (ks : List Content) (p : ℕ) → ((p ≡ 0) × UnfitRoot t w ks) ⊎ BrokenAt t w all p → ((p ≡ 0) × UnfitRoot t w (k ∷ ks)) ⊎ BrokenAt t w all p
  further k ks p (inl x) = inl (x.0, (suc x.1.0, x.1.1, x.1.2, x.1.3, x.1.4))
  further k ks p (inr x) = inr x

  pub breaks : {ks : List Content} {m m' : List ℕ} {vs : List Visit} {e : Ending} → Roots t w ks m vs m' e → length m ≡ length w → Among ks → (p : ℕ) → e ≡ Err (Broken p) → ((p ≡ 0) × UnfitRoot t w ks) ⊎ BrokenAt t w all p
  breaks finished len at p is = let z : ◌≡◌ {A = ℕ} 0 1 = cc in absurd (omega arith)
  breaks (nothing {ks = ks} r) len at p is = further Nothing ks p (breaks r len (λ i. at (suc i)) p is)
  breaks (immediate {c = c} {x = x} {ks = ks} r) len at p is = further (Immediate c x) ks p (breaks r len (λ i. at (suc i)) p is)
  breaks (unfit {c = c} {a = a} out) len at p is = inl ((cc), (0, c, a, refl, out))
  breaks (scanned {c = c} {a = a} {ks = ks} fit r q) len at p is = further (Cell c a) ks p (breaks q (run_length t w takes_all r ∙ len) (λ i. at (suc i)) p is)
  breaks (stopped {c = c} {a = a} fit r stop) len at p is =
      let b = (one_laws t w fit r len).broken p is in
      inr (b.0, b.1, b.2, reach_on t w all c a (at 0 c a refl) b.0 b.1 b.3, b.4, b.5, b.6, b.7)

  pub comes_to_end : {ks : List Content} {m m' : List ℕ} {vs : List Visit} {e : Ending} → Roots t w ks m vs m' e → length m ≡ length w → Among ks → InOrder t w all → RootsFit t w ks → e ≡ Done
  comes_to_end finished len at ok fit = refl
  comes_to_end (nothing r) len at ok fit = comes_to_end r len (λ i. at (suc i)) ok (λ i. fit (suc i))
  comes_to_end (immediate r) len at ok fit = comes_to_end r len (λ i. at (suc i)) ok (λ i. fit (suc i))
  comes_to_end (unfit {c = c} {a = a} out) len at ok fit = let yes = fit 0 c a refl in let z : ◌≡◌ {A = ℕ} 0 1 = cc in absurd (omega arith)
  comes_to_end (scanned is r q) len at ok fit = comes_to_end q (run_length t w takes_all r ∙ len) (λ i. at (suc i)) ok (λ i. fit (suc i))
  comes_to_end (stopped {c = c} {a = a} is r stop) len at ok fit =
      (one_laws t w is r len).done (λ c₁ a₁ i from. ok c₁ a₁ i (reach_on t w all c a (at 0 c a refl) c₁ a₁ from)) (λ x v none. let z : ◌≡◌ {A = ℕ} 0 1 = cc in omega arith)

  -- what contents that come to their end make of closed marks
  pub record Complete (ks : List Content) (m : List ℕ) (vs : List Visit) (m' : List ℕ) : Type 0 where
    pub closed : Closed t w all m'
    pub root_marked : (h c a : ℕ) → get_or ks h Nothing ≡ Cell c a → IsMarked m' a
    pub seen : (c a : ℕ) → Reach t w all c a → IsMarked m' a → IsMarked m a ⊎ Seen vs c a

  root_or : (k : Content) (ks : List Content) (m' : List ℕ) → ((c a : ℕ) → k ≡ Cell c a → IsMarked m' a) → ((h c a : ℕ) → get_or ks h Nothing ≡ Cell c a → IsMarked m' a) → (h c a : ℕ) → get_or (k ∷ ks) h Nothing ≡ Cell c a → IsMarked m' a
  root_or k ks m' here there zero c a e = here c a e
  root_or k ks m' here there (suc h) c a e = there h c a e

  passed : (k : Content) (ks : List Content) (m : List ℕ) (vs : List Visit) (m' : List ℕ) → ((c a : ℕ) → k ≡ Cell c a → IsMarked m' a) → Complete ks m vs m' → Complete (k ∷ ks) m vs m'
  passed k ks m vs m' here h = record { closed = h.closed; root_marked = root_or k ks m' here h.root_marked; seen = h.seen }

  scanned_first : (c a : ℕ) (ks : List Content) (m m₁ m₂ : List ℕ) (vs₁ vs₂ : List Visit) → Grown m₁ m₂ → IsMarked m₁ a → ((c₁ a₁ : ℕ) → Reach t w all c₁ a₁ → IsMarked m₁ a₁ → IsMarked m a₁ ⊎ Seen vs₁ c₁ a₁) → Complete ks m₁ vs₂ m₂ → Complete (Cell c a ∷ ks) m (vs₁ ++ vs₂) m₂
  scanned_first c a ks m m₁ m₂ vs₁ vs₂ gr one saw h = record {
    closed = h.closed;
    root_marked = root_or (Cell c a) ks m₂ (λ c₁ a₁ e. let same : a ≡ a₁ = cc in subst (λ x. IsMarked m₂ x) same (gr a one)) h.root_marked;
    seen = λ c₁ a₁ at now.
        elim (h.seen c₁ a₁ at now) [
          | inl before ↦ elim (saw c₁ a₁ at before) [ inl old ↦ inl old | inr new ↦ inr (seen_left vs₁ vs₂ c₁ a₁ new) ]
          | inr new ↦ inr (seen_right vs₁ vs₂ c₁ a₁ new)
        ];
  }

  pub completes : {ks : List Content} {m m' : List ℕ} {vs : List Visit} {e : Ending} → Roots t w ks m vs m' e → length m ≡ length w → Among ks → e ≡ Done → Apart t w all → Closed t w all m → Complete ks m vs m'
  completes finished len at done apart before = record {
    closed = before;
    root_marked = λ h c a e. let z : ◌≡◌ {A = ℕ} 0 1 = cc in absurd (omega arith);
    seen = λ c a at now. inl now;
  }
  completes (nothing {ks = ks} {m = m} {m' = m'} {vs = vs} r) len at done apart before =
      passed Nothing ks m vs m' (λ c a e. let z : ◌≡◌ {A = ℕ} 0 1 = cc in absurd (omega arith)) (completes r len (λ i. at (suc i)) done apart before)
  completes (immediate {c = c} {x = x} {ks = ks} {m = m} {m' = m'} {vs = vs} r) len at done apart before =
      passed (Immediate c x) ks m vs m' (λ c a e. let z : ◌≡◌ {A = ℕ} 0 1 = cc in absurd (omega arith)) (completes r len (λ i. at (suc i)) done apart before)
  completes (unfit out) len at done apart before = let z : ◌≡◌ {A = ℕ} 0 1 = cc in absurd (omega arith)
  completes (scanned {c = c} {a = a} {ks = ks} {m = m} {m₁ = m₁} {m₂ = m₂} {vs₁ = vs₁} {vs₂ = vs₂} fit r q) len at done apart before =
      let first : Completes t w all c a m vs₁ m₁ = (one_laws t w fit r len).completes refl all (at 0 c a refl) apart before in
      let second = completes q (run_length t w takes_all r ∙ len) (λ i. at (suc i)) done apart first.closed in
      scanned_first c a ks m m₁ m₂ vs₁ vs₂ (marks_grown t w q) (first.covered c a (root 0 refl)).1 first.seen second
  completes (stopped fit r stop) len at done apart before = absurd (subst Stops done stop)
