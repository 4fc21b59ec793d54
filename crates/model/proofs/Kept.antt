-- What words say stays, where the words of their cells stay.
use Rattle.std.proofs.Common.{◌≡◌, ℕ, suc, ◌+◌, ◌<◌, ◌≤◌, true, false, eqb, List, [], ◌∷◌, length, get_or, Some, None, Option, sym, refl, ap, ◌∙◌, inl, inr, add-one, arith}
use Rattle.std.proofs.lemmas.Bool.{ne_eqb, cond-true, cond-false}
use Rattle.layouts.specs.declared.entry.Class.{Class}
use Rattle.layouts.specs.declared.entry.Class.TheVariants.{Plain, Pointer, Typed, SecondHalf}
use Rattle.layouts.specs.Types.{Types, Lawful}
use Rattle.layouts.specs.Classes.{class_of}
use Rattle.cells.specs.declared.content.Content.TheVariants.{Cell, Immediate}
use Rattle.cells.specs.Words.{words_in, cell_free, fits, pointer_says, typed_says, place, code_word, value_word}
use Rattle.scan.specs.Children.{width}
use Rattle.scan.proofs.Inside.{inside_fits}
use Rattle.free_list.specs.Free.{Run, span, proper, Free}
use Rattle.model.specs.Model.{Made, Value, Word, number, second, value, nothing, cell, immediate, Hold, free, held, code_of, address_of, shown, shown_hold}
use Rattle.model.specs.Said.{plain, content, said_by, said, shown_word}
use Rattle.model.specs.Agrees.{Covers, Tidy}
use Rattle.model.specs.Spares.{InRuns}
use Rattle.model.proofs.Laws.{paired, no_width, not_free}
use Rattle.calls.specs.Holds.{holding}

said_by_kept : (t : Types) (w w' : List ℕ) (p : ℕ) (k : Class) → length w' ≡ length w → ((k ≡ SecondHalf → ⊥) → get_or w' p 0 ≡ get_or w p 0) → (k ≡ Pointer → get_or w' (p + 1) 0 ≡ get_or w (p + 1) 0) → said_by t w' p k ≡ said_by t w p k
said_by_kept t w w' p Plain len one two = ap plain (one (λ f. cc))
said_by_kept t w w' p Pointer len one two =
    let first : get_or w' p 0 ≡ get_or w p 0 = one (λ f. cc) in
    rw (len, first, two refl)
said_by_kept t w w' p (Typed c) len one two =
    let first : get_or w' p 0 ≡ get_or w p 0 = one (λ f. cc) in
    rw (len, first)
said_by_kept t w w' p SecondHalf len one two = refl

at_place : (a j : ℕ) → place a (suc j) ≡ a + j
at_place a j = omega arith

-- word j + 1, by its place
pub said_at : (t : Types) (w : List ℕ) (c a j : ℕ) → said t w c a (suc j) ≡ said_by t w (a + j) (class_of t c (suc j))
said_at t w c a j = ap (λ p. said_by t w p (class_of t c (suc j))) (at_place a j)

pub said_kept : (t : Types) (w w' : List ℕ) (c a j : ℕ) → length w' ≡ length w → ((class_of t c (suc j) ≡ SecondHalf → ⊥) → get_or w' (a + j) 0 ≡ get_or w (a + j) 0) → (class_of t c (suc j) ≡ Pointer → get_or w' (suc (a + j)) 0 ≡ get_or w (suc (a + j)) 0) → said t w' c a (suc j) ≡ said t w c a (suc j)
said_kept t w w' c a j len one two =
    said_at t w' c a j ∙ said_by_kept t w w' (a + j) (class_of t c (suc j)) len one (λ e. rw add-one (two e)) ∙ sym (said_at t w c a j)

-- a cell none of whose words has changed
pub said_same : (t : Types) (w w' : List ℕ) (c a j : ℕ) → Lawful t → length w' ≡ length w → j < width t c → ((q : ℕ) → a ≤ q → q < a + width t c → get_or w' q 0 ≡ get_or w q 0) → said t w' c a (suc j) ≡ said t w c a (suc j)
said_same t w w' c a j law len lt same =
    said_kept t w w' c a j len (λ _. same (a + j) (omega arith) (omega arith)) (λ e. same (suc (a + j)) (omega arith) (omega (arith, paired t c (suc j) law e)))

named : (t : Types) (c : ℕ) → Lawful t → 0 < width t c → eqb c 0 ≡ false
named t c law some = ne_eqb c 0 (λ e. let z : width t c ≡ 0 = ap (width t) e ∙ no_width t law in omega arith)

has_cells : (o : Option ℕ) → 0 < words_in o → cell_free o ≡ false
has_cells None pos = refl
has_cells (Some n) pos = ne_eqb n 0 (λ e. omega arith)

pointed : (t : Types) (L c a : ℕ) → Lawful t → fits t L c a ≡ true → pointer_says t L c a ≡ Some (Cell c a)
pointed t L c a law fit =
    let i = inside_fits t L c a fit in
    cond-false (eqb c 0) _ _ (named t c law i.some) ∙ cond-false (cell_free (t.size c)) _ _ (has_cells (t.size c) i.some) ∙ cond-true (fits t L c a) _ _ fit

pub typed_says_cell : (t : Types) (L c a : ℕ) → fits t L c a ≡ true → typed_says t L c a ≡ Some (Cell c a)
typed_says_cell t L c a fit =
    let i = inside_fits t L c a fit in
    cond-false (eqb a 0) _ _ (ne_eqb a 0 (λ e. omega (arith, i.high))) ∙ cond-true (fits t L c a) _ _ fit

numbered : (t : Types) (L c x : ℕ) → Lawful t → cell_free (t.size c) ≡ true → pointer_says t L c x ≡ Some (Immediate c x)
numbered t L c x law e =
    cond-false (eqb c 0) _ _ (ne_eqb c 0 (λ z. let no : cell_free (t.size c) ≡ false = ap (λ y. cell_free (t.size y)) z ∙ not_free t law in cc)) ∙ cond-true (cell_free (t.size c)) _ _ e

-- a pointer says the value whose words were put there
pub pointer_says_put : (t : Types) (cs : List Made) (L : ℕ) (x : Value) → Lawful t → ((l : ℕ) → x ≡ cell l → fits t L (code_of cs l) (address_of cs l) ≡ true) → ((c n : ℕ) → x ≡ immediate c n → cell_free (t.size c) ≡ true) → pointer_says t L (code_word (shown cs x)) (value_word (shown cs x)) ≡ Some (shown cs x)
pointer_says_put t cs L nothing law fit kind = refl
pointer_says_put t cs L (cell l) law fit kind = pointed t L (code_of cs l) (address_of cs l) law (fit l refl)
pointer_says_put t cs L (immediate c n) law fit kind = numbered t L c n law (kind c n refl)

pub shown_same : (cs cs' : List Made) (x : Value) → ((l : ℕ) → x ≡ cell l → (code_of cs' l ≡ code_of cs l) × (address_of cs' l ≡ address_of cs l)) → shown cs' x ≡ shown cs x
shown_same cs cs' nothing same = refl
shown_same cs cs' (cell l) same = let s = same l refl in let c = s.0 in let a = s.1 in cc
shown_same cs cs' (immediate c n) same = refl

pub shown_word_same : (cs cs' : List Made) (x : Word) → ((l : ℕ) → x ≡ value (cell l) → (code_of cs' l ≡ code_of cs l) × (address_of cs' l ≡ address_of cs l)) → shown_word cs' x ≡ shown_word cs x
shown_word_same cs cs' (number n) same = refl
shown_word_same cs cs' second same = refl
shown_word_same cs cs' (value x) same = ap (λ k. content (Some k)) (shown_same cs cs' x (λ l e. same l (ap value e)))

pub shown_hold_same : (cs cs' : List Made) (y : Hold) → ((l : ℕ) → y ≡ held (cell l) → (code_of cs' l ≡ code_of cs l) × (address_of cs' l ≡ address_of cs l)) → shown_hold cs' y ≡ shown_hold cs y
shown_hold_same cs cs' free same = refl
shown_hold_same cs cs' (held x) same = ap holding (shown_same cs cs' x (λ l e. same l (ap held e)))

-- fewer cells are in order too
pub smaller : (t : Types) (cs : List Made) (w : List ℕ) (R Q : ℕ → Type 0) → ((k : ℕ) → Q k → R k) → Tidy t cs w R → Tidy t cs w Q
smaller t cs w R Q sub tidy = record {
  inside = λ k q. tidy.inside k (sub k q);
  apart = λ k l j q r. tidy.apart k l j (sub k q) (sub l r);
  sized = λ k q. tidy.sized k (sub k q);
  says = λ k j q. tidy.says k j (sub k q);
}

-- cells none of whose words has changed are in order as before
pub tidy_kept : (t : Types) (cs : List Made) (w v : List ℕ) (R : ℕ → Type 0) → Lawful t → length v ≡ length w → ((k q : ℕ) → R k → Covers t cs k q → get_or v q 0 ≡ get_or w q 0) → Tidy t cs w R → Tidy t cs v R
tidy_kept t cs w v R law len same tidy = record {
  inside = λ k r. rw len (tidy.inside k r);
  apart = tidy.apart;
  sized = tidy.sized;
  says = λ k j r lt. said_same t w v (code_of cs k) (address_of cs k) j law len lt (λ q lo hi. same k q r (lo, hi)) ∙ tidy.says k j r lt;
}

-- a free list that no write has touched reads as before
pub free_kept : (w v : List ℕ) (p e : ℕ) (runs : List Run) → length v ≡ length w → get_or v p 0 ≡ get_or w p 0 → ((j : ℕ) → InRuns j runs → get_or v j 0 ≡ get_or w j 0) → Free w p e runs proper → Free v p e runs proper
free_kept w v p e [] len here same f = rw here f
free_kept w v p e (span a s ∷ runs) len here same f =
    let n = f.0 in
    let first : get_or v a 0 ≡ get_or w a 0 = same a (inl (omega arith, omega (arith, n.some))) in (
      record {
        link = rw here n.link;
        there = n.there;
        past = n.past;
        size = rw first n.size;
        some = n.some;
        within = rw len n.within;
      },
      free_kept w v a (a + s) runs len first (λ j i. same j (inr i)) f.1,
    )
