-- What memory reaches where cells are in order is what the model reaches.
use Rattle.std.proofs.Common.{◌≡◌, ℕ, zero, suc, ◌<◌, ◌≤◌, true, List, length, get_or, sym, refl, ap, ◌∙◌, subst, subst₂, inl, inr, arith}
use Rattle.std.proofs.lemmas.List.{get_or_past}
use Rattle.std.proofs.lemmas.Bool.{cases_lt}
use Rattle.layouts.specs.declared.entry.Class.{Class}
use Rattle.layouts.specs.declared.entry.Class.TheVariants.{Plain, Pointer, Typed, SecondHalf}
use Rattle.layouts.specs.Types.{Types}
use Rattle.layouts.specs.Classes.{class_of}
use Rattle.cells.specs.declared.content.Content.{Content}
use Rattle.cells.specs.declared.content.Content.TheVariants.{Nothing as NoContent, Cell as CellContent}
use Rattle.cells.specs.Words.{fits, place}
use Rattle.scan.specs.Children.{width, child_in, child_by, child_at}
use Rattle.scan.specs.Reach.{Reach, through, lone, InOrder, Apart, InCell}
use Rattle.scan.specs.declared.frame.Child.{Child}
use Rattle.scan.specs.declared.frame.Child.TheVariants.{Nothing, Cell, Misfit}
use Rattle.scan.proofs.Inside.{Inside, inside_fits}
use Rattle.scan.proofs.Reached.{own_only}
use Rattle.model.specs.Model.{Made, Model, Hold, Word, number, second, value, nothing, cell, immediate, made, code_of, address_of, word_of, From, word, InHold, InHolds, Reached, ReachedFrom}
use Rattle.model.specs.Said.{Said, plain, half, content, said_by, shown_word}
use Rattle.model.specs.Agrees.{Covers, Tidy}

-- what of a word's meaning leads to a cell
child_of : Said → Child
child_of (plain x) = Nothing
child_of half = Nothing
child_of (content k) = child_in k

followed_by : (t : Types) (w : List ℕ) (p : ℕ) (k : Class) → child_by t w p k ≡ child_of (said_by t w p k)
unfolding child_of
followed_by t w p Plain = refl
followed_by t w p Pointer = refl
followed_by t w p (Typed c) = refl
followed_by t w p SecondHalf = refl

target : (cs : List Made) (x : Word) (c a : ℕ) → child_of (shown_word cs x) ≡ Cell c a → (l : ℕ) × (x ≡ value (cell l)) × (c ≡ code_of cs l) × (a ≡ address_of cs l)
unfolding child_of
target cs (number x) c a e = absurd cc
target cs second c a e = absurd cc
target cs (value nothing) c a e = absurd cc
target cs (value (cell l)) c a e = (l, refl, cc, cc)
target cs (value (immediate k x)) c a e = absurd cc

unbroken : (cs : List Made) (x : Word) → child_of (shown_word cs x) ≡ Misfit → ⊥
unfolding child_of
unbroken cs (number x) e = cc
unbroken cs second e = cc
unbroken cs (value nothing) e = cc
unbroken cs (value (cell l)) e = cc
unbroken cs (value (immediate k x)) e = cc

leading : (cs : List Made) (x : Word) (l : ℕ) → x ≡ value (cell l) → child_of (shown_word cs x) ≡ Cell (code_of cs l) (address_of cs l)
unfolding child_of
leading cs x l e = ap (λ y. child_of (shown_word cs y)) e

-- fewer cells are in order where more are
pub smaller : (t : Types) (cs : List Made) (w : List ℕ) (R Q : ℕ → Type 0) → ((k : ℕ) → Q k → R k) → Tidy t cs w R → Tidy t cs w Q
smaller t cs w R Q sub tidy = record {
  inside = λ k q. tidy.inside k (sub k q);
  apart = λ k l j q r. tidy.apart k l j (sub k q) (sub l r);
  sized = λ k q. tidy.sized k (sub k q);
  says = λ k j q. tidy.says k j (sub k q);
}

module _ (t : Types) (cs : List Made) (w : List ℕ) (R : ℕ → Type 0) (tidy : Tidy t cs w R) where
  -- a cell of R lies within the words, and has its first word
  pub lies : (k : ℕ) → R k → Inside t (length w) (code_of cs k) (address_of cs k)
  lies k r = inside_fits t (length w) (code_of cs k) (address_of cs k) (tidy.inside k r)

  pub first : (k : ℕ) → R k → Covers t cs k (address_of cs k)
  first k r = (omega arith, omega (arith, (lies k r).some))

  -- cells of R at one address are one cell
  pub one_address : (k l : ℕ) → R k → R l → address_of cs k ≡ address_of cs l → k ≡ l
  one_address k l r q e = tidy.apart k l (address_of cs k) r q (first k r) (subst (λ x. Covers t cs l x) (sym e) (first l q))

  child_shown : (k j : ℕ) → R k → j < width t (code_of cs k) → child_at t w (code_of cs k) (address_of cs k) (suc j) ≡ child_of (shown_word cs (word_of cs k j))
  child_shown k j r lt = followed_by t w (place (address_of cs k) (suc j)) (class_of t (code_of cs k) (suc j)) ∙ ap child_of (tidy.says k j r lt)

  -- a word that leads to a cell of the heap has a cell of the model
  pub word_from_child : (k j c a : ℕ) → R k → j < width t (code_of cs k) → child_at t w (code_of cs k) (address_of cs k) (suc j) ≡ Cell c a → (l : ℕ) × (word_of cs k j ≡ value (cell l)) × (c ≡ code_of cs l) × (a ≡ address_of cs l)
  word_from_child k j c a r lt e = target cs (word_of cs k j) c a (sym (child_shown k j r lt) ∙ e)

  pub word_within : (k j l : ℕ) → R k → word_of cs k j ≡ value (cell l) → j < width t (code_of cs k)
  word_within k j l r e =
      elim (cases_lt j (width t (code_of cs k))) [
        | inl lt ↦ lt
        | inr past ↦
            let none : word_of cs k j ≡ second = get_or_past (made cs k).words j second (omega (arith, tidy.sized k r)) in
            absurd cc
      ]

  -- and the other way round
  pub child_from_word : (k j l : ℕ) → R k → word_of cs k j ≡ value (cell l) → child_at t w (code_of cs k) (address_of cs k) (suc j) ≡ Cell (code_of cs l) (address_of cs l)
  child_from_word k j l r e = child_shown k j r (word_within k j l r e) ∙ leading cs (word_of cs k j) l e

  pub no_misfit : (k j : ℕ) → R k → j < width t (code_of cs k) → child_at t w (code_of cs k) (address_of cs k) (suc j) ≡ Misfit → ⊥
  no_misfit k j r lt e = unbroken cs (word_of cs k j) (sym (child_shown k j r lt) ∙ e)

-- the cells among the contents are those of P, as memory has them
pub record RootsOf (cs : List Made) (P : ℕ → Type 0) (roots : List Content) : Type 0 where
  pub sound : (h c a : ℕ) → get_or roots h NoContent ≡ CellContent c a → (k : ℕ) × P k × (c ≡ code_of cs k) × (a ≡ address_of cs k)
  pub complete : (k : ℕ) → P k → (h : ℕ) × (get_or roots h NoContent ≡ CellContent (code_of cs k) (address_of cs k))

-- the cell of code c at a is one that the model reaches from P
abbrev pub Known : List Made → (ℕ → Type 0) → ℕ → ℕ → Type 0
Known cs P c a = (k : ℕ) × From cs P k × (c ≡ code_of cs k) × (a ≡ address_of cs k)

module _ (t : Types) (cs : List Made) (w : List ℕ) (P : ℕ → Type 0) (roots : List Content) (tidy : Tidy t cs w (From cs P)) (are : RootsOf cs P roots) where
  known_child : (k i c a : ℕ) → From cs P k → 1 ≤ i → i ≤ width t (code_of cs k) → child_at t w (code_of cs k) (address_of cs k) i ≡ Cell c a → Known cs P c a
  known_child k zero c a r low le e = absurd (omega arith)
  known_child k (suc j) c a r low le e =
      let q = word_from_child t cs w (From cs P) tidy k j c a r le e in
      (q.0, word j r q.1, q.2, q.3)

  known_misfit : (k i : ℕ) → From cs P k → 1 ≤ i → i ≤ width t (code_of cs k) → child_at t w (code_of cs k) (address_of cs k) i ≡ Misfit → ⊥
  known_misfit k zero r low le e = absurd (omega arith)
  known_misfit k (suc j) r low le e = no_misfit t cs w (From cs P) tidy k j r le e

  -- what memory reaches, the model reaches
  pub known : (c a : ℕ) → Reach t w roots c a → Known cs P c a
  known c a (Reach.root h e) = let s = are.sound h c a e in (s.0, From.root s.1, s.2, s.3)
  known c a (through {c = c₁} {a = a₁} i before low le is) =
      let s = known c₁ a₁ before in
      known_child s.0 i c a s.1 low (subst (λ x. i ≤ width t x) s.2 le) (subst₂ (λ x y. child_at t w x y i ≡ Cell c a) s.2 s.3 is)

  -- and what the model reaches, memory reaches
  pub reached : (k : ℕ) → From cs P k → Reach t w roots (code_of cs k) (address_of cs k)
  reached k (From.root p) = let s = are.complete k p in Reach.root s.0 s.1
  reached k (word {k = k₁} j before e) =
      through (suc j) (reached k₁ before) (omega arith) (word_within t cs w (From cs P) tidy k₁ j k before e) (child_from_word t cs w (From cs P) tidy k₁ j k before e)

  pub in_order : InOrder t w roots
  in_order c a i at low le e =
      let s = known c a at in
      known_misfit s.0 i s.1 low (subst (λ x. i ≤ width t x) s.2 le) (subst₂ (λ x y. child_at t w x y i ≡ Misfit) s.2 s.3 e)

  pub apart : Apart t w roots
  apart c₁ a₁ c₂ a₂ at₁ at₂ low high =
      let s = known c₁ a₁ at₁ in
      let q = known c₂ a₂ at₂ in
      let here : Covers t cs s.0 a₂ = subst₂ (λ x y. InCell t x y a₂) s.2 s.3 (low, high) in
      let there : Covers t cs q.0 a₂ = subst (λ x. Covers t cs q.0 x) (sym q.3) (first t cs w (From cs P) tidy q.0 q.1) in
      let same : s.0 ≡ q.0 = tidy.apart s.0 q.0 a₂ s.1 q.1 here there in
      (s.2 ∙ ap (code_of cs) same ∙ sym q.2, s.3 ∙ ap (address_of cs) same ∙ sym q.3)

  pub roots_fit : (h c a : ℕ) → get_or roots h NoContent ≡ CellContent c a → fits t (length w) c a ≡ true
  roots_fit h c a e = let s = are.sound h c a e in subst₂ (λ x y. fits t (length w) x y ≡ true) (sym s.2) (sym s.3) (tidy.inside s.0 (From.root s.1))

-- one hold: the one pointer that it has
pub from_hold : (cs : List Made) (hs : List Hold) (h k : ℕ) → From cs (InHold hs h) k → From cs (InHolds hs) k
from_hold cs hs h k (From.root p) = From.root (h, p)
from_hold cs hs h k (word j before e) = word j (from_hold cs hs h _ before) e

pub lone_root : (cs : List Made) (hs : List Hold) (h k : ℕ) → InHold hs h k → RootsOf cs (InHold hs h) (lone (code_of cs k) (address_of cs k))
lone_root cs hs h k is = record {
  sound = λ i c a e. let s = own_only (code_of cs k) (address_of cs k) c a i e in (k, is, sym s.0, sym s.1);
  complete = λ l so. let same : k ≡ l = cc in (0, ap (λ x. CellContent (code_of cs x) (address_of cs x)) same);
}

pub tidy_hold : (t : Types) (b : Model) (w : List ℕ) (h : ℕ) → Tidy t b.cells w (Reached b) → Tidy t b.cells w (ReachedFrom b h)
tidy_hold t b w h tidy = smaller t b.cells w (Reached b) (ReachedFrom b h) (from_hold b.cells b.holds h) tidy
