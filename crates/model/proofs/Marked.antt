-- What a marking and a trace visit and mark, in a heap that agrees with a model.
use Rattle.std.proofs.Common.{◌≡◌, ℕ, zero, suc, List, [], ◌∷◌, map, length, get_or, replicate, None, Ok, Err, Option, Result, sym, refl, ap, ◌∙◌, subst, ap₂, subst₂, inl, inr, arith}
use Rattle.std.specs.List.{AllByRecursion}
use Rattle.std.proofs.lemmas.List.{length-map}
use Rattle.std.proofs.ByRecursion.{All-weaker}
use Rattle.refusals.specs.declared.refusal.Refusal.{Refusal}
use Rattle.layouts.specs.Types.{Types}
use Rattle.cells.specs.declared.content.Content.{Content}
use Rattle.cells.specs.declared.content.Content.TheVariants.{Nothing, Cell}
use Rattle.calls.specs.declared.record.HoldRecord.{HoldRecord}
use Rattle.scan.specs.Visits.{Visit, Seen, Once}
use Rattle.scan.specs.Marks.{IsMarked}
use Rattle.scan.specs.Children.{cell_visit}
use Rattle.scan.specs.Reach.{Reach, lone, Apart, InCell}
use Rattle.scan.specs.Laws.{Due, ScanLaws}
use Rattle.scan.specs.Endings.{Ending, Done}
use Rattle.scan.specs.declared.scanned.Stop.TheVariants.{Broken, Full}
use Rattle.marking.specs.Roots.{roots}
use Rattle.calls.specs.Holds.{root_of}
use Rattle.marking.specs.Laws.{OfCell, MarkLaws}
use Rattle.marking.specs.Marking.{told, kept, Marked}
use Rattle.model.specs.Sets.{Among, Distinct, Lists, Number}
use Rattle.model.specs.Model.{Made, Model, Hold, free, held, nothing, cell, immediate, code_of, address_of, hold_of, shown_hold, From, InHold, InHolds, Reached, ReachedFrom}
use Rattle.model.specs.Agrees.{Tidy, Agrees}
use Rattle.model.specs.MarksExactly.{MarksExactly}
use Rattle.model.proofs.Reaching.{RootsOf, one_address, known, reached, in_order, apart, roots_fit, lone_root, tidy_hold}

-- the visit of the cell k
abbrev pub visit : Types → List Made → List ℕ → ℕ → Visit
visit t cs w k = cell_visit t w (code_of cs k) (address_of cs k)

module _ (t : Types) (cs : List Made) (w : List ℕ) (R : ℕ → Type 0) where
  -- a visit of a cell of R
  abbrev Of : Visit → Type 0
  Of v = (k : ℕ) × R k × (v ≡ visit t cs w k)

  -- visits of cells of R as a list of cells
  pub cells_of : (vs : List Visit) → AllByRecursion Of vs → (ks : List ℕ) × (vs ≡ map (visit t cs w) ks) × ((k : ℕ) → Among k ks → R k)
  cells_of [] all = ([], refl, λ k h. absurd h)
  cells_of (v ∷ vs) all =
      let one = all.0 in
      let rest = cells_of vs all.1 in
      (one.0 ∷ rest.0, ap₂ (λ (x : Visit) (xs : List Visit). x ∷ xs) one.2 rest.1, λ k h. elim h [ inl e ↦ subst R (sym e) one.1 | inr later ↦ rest.2 k later ])

not_again : (t : Types) (cs : List Made) (w : List ℕ) (k : ℕ) (ks : List ℕ) → Among k ks → AllByRecursion (λ (u : Visit). u.address ≡ address_of cs k → ⊥) (map (visit t cs w) ks) → ⊥
not_again t cs w k [] h all = h
not_again t cs w k (x ∷ ks) (inl e) all = all.0 (ap (address_of cs) (sym e))
not_again t cs w k (x ∷ ks) (inr h) all = not_again t cs w k ks h all.1

-- visits at no address twice are of no cell twice
pub distinct_cells : (t : Types) (cs : List Made) (w : List ℕ) (ks : List ℕ) → Once (map (visit t cs w) ks) → Distinct ks
distinct_cells t cs w [] o = tt
distinct_cells t cs w (k ∷ ks) o = ((λ h. not_again t cs w k ks h o.0), distinct_cells t cs w ks o.1)

pub seen_among : (t : Types) (cs : List Made) (w : List ℕ) (ks : List ℕ) (c a : ℕ) → Seen (map (visit t cs w) ks) c a → (k : ℕ) × Among k ks × (address_of cs k ≡ a)
seen_among t cs w [] c a h = absurd h
seen_among t cs w (x ∷ ks) c a (inl here) = (x, inl refl, here.1)
seen_among t cs w (x ∷ ks) c a (inr later) = let q = seen_among t cs w ks c a later in (q.0, inr q.1, q.2)

-- visits of all cells of R and of nothing else list R
pub listed : (t : Types) (cs : List Made) (w : List ℕ) (R : ℕ → Type 0) → Tidy t cs w R → (vs : List Visit) → Once vs → AllByRecursion (λ v. (k : ℕ) × R k × (v ≡ visit t cs w k)) vs → ((k : ℕ) → R k → Seen vs (code_of cs k) (address_of cs k)) → (ks : List ℕ) × Lists R ks × (vs ≡ map (visit t cs w) ks)
listed t cs w R tidy vs once all seen =
    let q = cells_of t cs w R vs all in (
      q.0,
      record {
        distinct = distinct_cells t cs w q.0 (subst Once q.1 once);
        sound = q.2;
        complete = λ k r.
            let s = seen_among t cs w q.0 (code_of cs k) (address_of cs k) (subst (λ us. Seen us (code_of cs k) (address_of cs k)) q.1 (seen k r)) in
            subst (λ x. Among x q.0) (one_address t cs w R tidy s.0 k (q.2 s.0 s.1) r s.2) s.1;
      },
      q.1,
    )

-- the visit of a cell that memory reaches is of a cell that the model reaches
pub known_visit : (t : Types) (cs : List Made) (w : List ℕ) (P : ℕ → Type 0) (ks : List Content) → Tidy t cs w (From cs P) → RootsOf cs P ks → (v : Visit) → Reach t w ks v.code v.address → v ≡ cell_visit t w v.code v.address → (k : ℕ) × From cs P k × (v ≡ visit t cs w k)
known_visit t cs w P ks tidy are v at is =
    let s = known t cs w P ks tidy are v.code v.address at in
    (s.0, s.1, is ∙ ap₂ (cell_visit t w) s.2 s.3)

-- the contents of hold records
root_at : (cs : List Made) (hs : List Hold) (h : ℕ) → get_or (map root_of (map (shown_hold cs) hs)) h Nothing ≡ root_of (shown_hold cs (get_or hs h free))
root_at cs [] h = refl
root_at cs (x ∷ hs) zero = refl
root_at cs (x ∷ hs) (suc h) = root_at cs hs h

root_cell : (cs : List Made) (x : Hold) (c a : ℕ) → root_of (shown_hold cs x) ≡ Cell c a → (k : ℕ) × (x ≡ held (cell k)) × (c ≡ code_of cs k) × (a ≡ address_of cs k)
root_cell cs free c a e = absurd cc
root_cell cs (held nothing) c a e = absurd cc
root_cell cs (held (cell k)) c a e = (k, refl, cc, cc)
root_cell cs (held (immediate k x)) c a e = absurd cc

pub holds_roots : (cs : List Made) (hs : List Hold) → RootsOf cs (InHolds hs) (roots (map (shown_hold cs) hs))
holds_roots cs hs = record {
  sound = λ h c a e. let s = root_cell cs (get_or hs h free) c a (sym (root_at cs hs h) ∙ e) in (s.0, (h, s.1), s.2, s.3);
  complete = λ k so. (so.0, root_at cs hs so.0 ∙ ap (λ x. root_of (shown_hold cs x)) so.1);
}

module _ (t : Types) (b : Model) (w : List ℕ) (rs : List HoldRecord) (agrees : Agrees t b w rs) where
  pub all_roots : RootsOf b.cells (InHolds b.holds) (roots rs)
  all_roots = subst (λ x. RootsOf b.cells (InHolds b.holds) (roots x)) (sym agrees.held) (holds_roots b.cells b.holds)

  module _ (vs : List Visit) (m' : List ℕ) (e : Ending) (laws : MarkLaws t w (roots rs) vs m' e) where
    all_apart : Apart t w (roots rs)
    all_apart = apart t b.cells w (InHolds b.holds) (roots rs) agrees.tidy all_roots

    pub mark_done : e ≡ Done
    mark_done = laws.done (in_order t b.cells w (InHolds b.holds) (roots rs) agrees.tidy all_roots) (roots_fit t b.cells w (InHolds b.holds) (roots rs) agrees.tidy all_roots)

    -- a marking visits each reached cell once
    pub mark_visits : (ks : List ℕ) × Lists (Reached b) ks × (vs ≡ map (visit t b.cells w) ks)
    mark_visits =
        listed t b.cells w (Reached b) agrees.tidy vs laws.once
        (All-weaker (OfCell t w (roots rs)) (λ v. (k : ℕ) × Reached b k × (v ≡ visit t b.cells w k)) (λ v h. known_visit t b.cells w (InHolds b.holds) (roots rs) agrees.tidy all_roots v h.reached h.is_cell) vs laws.due)
        (λ k r. (laws.exactly mark_done all_apart (code_of b.cells k) (address_of b.cells k)).0 (reached t b.cells w (InHolds b.holds) (roots rs) agrees.tidy all_roots k r))

    pub mark_number : Number (Reached b) (length vs)
    mark_number = let q = mark_visits in (q.0, q.1, sym (ap length q.2 ∙ length-map q.0 (visit t b.cells w)))

    -- and marks their words
    pub mark_exactly : MarksExactly t b.cells (Reached b) m'
    mark_exactly = record {
      sound = λ j one.
          let o = laws.only j one in
          let s = known t b.cells w (InHolds b.holds) (roots rs) agrees.tidy all_roots o.0 o.1 o.2 in
          (s.0, s.1, subst₂ (λ c a. InCell t c a j) s.2 s.3 o.3);
      complete = λ k j r c. laws.covered mark_done all_apart (code_of b.cells k) (address_of b.cells k) (reached t b.cells w (InHolds b.holds) (roots rs) agrees.tidy all_roots k r) j c;
    }

  -- a marking answers the number of reached cells
  pub marked_all : (m' : List ℕ) (r : Result ℕ Refusal) → Marked t w rs m' r → (n : ℕ) × (r ≡ Ok n) × Number (Reached b) n × MarksExactly t b.cells (Reached b) m'
  marked_all m' r made =
      let done = mark_done made.visits made.left made.ending made.laws in
      (length made.visits, made.answer ∙ ap (λ e. told e (length made.visits)) done, mark_number made.visits made.left made.ending made.laws, subst (MarksExactly t b.cells (Reached b)) (sym (made.kept_marks ∙ ap (kept (length w) made.left) done)) (mark_exactly made.visits made.left made.ending made.laws))

pub unmarked_zeros : (n j : ℕ) → IsMarked (replicate n 0) j → ⊥
unmarked_zeros zero j e = omega arith
unmarked_zeros (suc n) zero e = omega arith
unmarked_zeros (suc n) (suc j) e = unmarked_zeros n j e

-- where the inspector is full at the address a: the cells visited so far, and the one whose visit is refused
pub record Refused (t : Types) (b : Model) (w : List ℕ) {S : Type 0} (step : S → Visit → Option S) (h : ℕ) (vs : List Visit) (s' : S) (a : ℕ) : Type 0 where
  pub cells : List ℕ
  pub distinct : Distinct cells
  pub reached : (k : ℕ) → Among k cells → ReachedFrom b h k
  pub visits : vs ≡ map (visit t b.cells w) cells
  pub next : ℕ
  pub next_reached : ReachedFrom b h next
  pub next_new : Among next cells → ⊥
  pub next_place : a ≡ address_of b.cells next
  pub refused : step s' (visit t b.cells w next) ≡ None

module _ (t : Types) (b : Model) (w : List ℕ) (rs : List HoldRecord) (agrees : Agrees t b w rs) (h k : ℕ) (is : hold_of b h ≡ held (cell k)) {S : Type 0} (step : S → Visit → Option S) (s : S) (vs : List Visit) (m' : List ℕ) (s' : S) (e : Ending) (laws : ScanLaws t w step (code_of b.cells k) (address_of b.cells k) (replicate (length w) 0) s vs m' s' e) where
  abbrev one_root : List Content
  one_root = lone (code_of b.cells k) (address_of b.cells k)

  one_tidy : Tidy t b.cells w (ReachedFrom b h)
  one_tidy = tidy_hold t b w h agrees.tidy

  one_are : RootsOf b.cells (InHold b.holds h) one_root
  one_are = lone_root b.cells b.holds h k is

  pub trace_unbroken : (p : ℕ) → e ≡ Err (Broken p) → ⊥
  trace_unbroken = laws.whole (in_order t b.cells w (InHold b.holds h) one_root one_tidy one_are)

  one_visits : AllByRecursion (λ v. (l : ℕ) × ReachedFrom b h l × (v ≡ visit t b.cells w l)) vs
  one_visits =
      All-weaker (Due t w (code_of b.cells k) (address_of b.cells k) (replicate (length w) 0) m') (λ v. (l : ℕ) × ReachedFrom b h l × (v ≡ visit t b.cells w l)) (λ v d. known_visit t b.cells w (InHold b.holds h) one_root one_tidy one_are v d.reached d.is_cell) vs laws.due

  -- a trace that is done visits each cell that its hold reaches, once
  pub trace_visits : e ≡ Done → (ks : List ℕ) × Lists (ReachedFrom b h) ks × (vs ≡ map (visit t b.cells w) ks)
  trace_visits done =
      listed t b.cells w (ReachedFrom b h) one_tidy vs laws.once one_visits
      (λ l r. (laws.exactly done (apart t b.cells w (InHold b.holds h) one_root one_tidy one_are) (λ c a at. unmarked_zeros (length w) a) (code_of b.cells l) (address_of b.cells l)).0 (reached t b.cells w (InHold b.holds h) one_root one_tidy one_are l r))

  pub trace_number : e ≡ Done → Number (ReachedFrom b h) (length vs)
  trace_number done = let q = trace_visits done in (q.0, q.1, sym (ap length q.2 ∙ length-map q.0 (visit t b.cells w)))

  pub trace_full : (a : ℕ) → e ≡ Err (Full a) → Refused t b w step h vs s' a
  trace_full a is-full =
      let q = cells_of t b.cells w (ReachedFrom b h) vs one_visits in
      let f = laws.full a is-full in
      let n = known t b.cells w (InHold b.holds h) one_root one_tidy one_are f.0 a f.1 in
      record {
        cells = q.0;
        distinct = distinct_cells t b.cells w q.0 (subst Once q.1 laws.once);
        reached = q.2;
        visits = q.1;
        next = n.0;
        next_reached = n.1;
        next_new = λ again. not_again t b.cells w n.0 q.0 again (subst₂ (λ us x. AllByRecursion (λ (u : Visit). u.address ≡ x → ⊥) us) q.1 n.3 (laws.unvisited a is-full));
        next_place = n.3;
        refused = subst₂ (λ x y. step s' (cell_visit t w x y) ≡ None) n.2 n.3 f.2;
      }
