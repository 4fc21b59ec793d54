-- A word of a reached cell is set, or what a hold has is put into it.
use Rattle.std.proofs.Common.{◌≡◌, ℕ, suc, ◌+◌, ◌<◌, ◌≤◌, true, List, length, get_or, set, Some, sym, refl, ap, ◌∙◌, arith, length-set}
use Rattle.std.proofs.lemmas.List.{get_or-set_same, get_or-set_other}
use Rattle.std.proofs.lemmas.Bool.{eqb-true}
use Rattle.layouts.specs.declared.entry.Class.{Class}
use Rattle.layouts.specs.declared.entry.Class.TheVariants.{Plain, Pointer, Typed, SecondHalf}
use Rattle.layouts.specs.Types.{Types, Lawful}
use Rattle.layouts.specs.Classes.{class_of}
use Rattle.cells.specs.Words.{fits, typed_says, code_word, value_word, with_content}
use Rattle.calls.specs.declared.record.HoldRecord.{HoldRecord}
use Rattle.calls.specs.Rows.{takes}
use Rattle.scan.specs.Children.{width}
use Rattle.scan.proofs.Inside.{inside_fits}
use Rattle.model.specs.Model.{Model, held, Value, nothing, immediate, number, value, cell, code_of, address_of, hold_of, Reached, root, shown, has_value}
use Rattle.model.specs.Said.{content, said, said_by}
use Rattle.model.specs.Told.{with_word}
use Rattle.model.specs.Spares.{Stands}
use Rattle.model.proofs.Laws.{paired, second_half}
use Rattle.model.proofs.Kept.{said_at, said_kept, pointer_says_put, typed_says_cell}
use Rattle.model.proofs.Writes.{write_stands}

-- two neighbouring words are written
abbrev both : List ℕ → ℕ → ℕ → ℕ → List ℕ
both w p c n = set (set w p c) (p + 1) n

module _ (w : List ℕ) (p c n : ℕ) where
  both_long : length (both w p c n) ≡ length w
  both_long = length-set (set w p c) (p + 1) n ∙ length-set w p c

  both_other : (q : ℕ) → (q ≡ p → ⊥) → (q ≡ p + 1 → ⊥) → get_or (both w p c n) q 0 ≡ get_or w q 0
  both_other q no_one no-two = get_or-set_other (set w p c) (p + 1) q n 0 no-two ∙ get_or-set_other w p q c 0 no_one

  both_one : p + 1 < length w → get_or (both w p c n) p 0 ≡ c
  both_one lt = get_or-set_other (set w p c) (p + 1) p n 0 (λ e. omega arith) ∙ get_or-set_same w p c 0 (omega arith)

  both_two : p + 1 < length w → get_or (both w p c n) (p + 1) 0 ≡ n
  both_two lt = get_or-set_same (set w p c) (p + 1) n 0 (omega (arith, length-set w p c))

-- of the other words of the cell, none says anything else: j + 1 is a pointer
pointer_others : (t : Types) (w : List ℕ) (c a j x y i : ℕ) → Lawful t → class_of t c (suc j) ≡ Pointer → (i ≡ j → ⊥) → said t (both w (a + j) x y) c a (suc i) ≡ said t w c a (suc i)
pointer_others t w c a j x y i law is other =
    said_kept t w (both w (a + j) x y) c a i (both_long w (a + j) x y)
    (λ not-half. both_other w (a + j) x y (a + i) (λ e. other (omega arith)) (λ e.
    let next : i ≡ suc j = omega arith in
    not-half (ap (λ z. class_of t c (suc z)) next ∙ second_half t c (suc j) law is)))
    (λ pointer. both_other w (a + j) x y (suc (a + i)) (λ e.
    let next : suc i ≡ j = omega arith in
    let half : class_of t c (suc j) ≡ SecondHalf = ap (λ z. class_of t c (suc z)) (sym next) ∙ second_half t c (suc i) law pointer in
    cc) (λ e. other (omega arith)))

-- one word is written that is no second half
module _ (t : Types) (w : List ℕ) (c a j n : ℕ) (law : Lawful t) (lt : j < width t c) where
  one_other : (q : ℕ) → (a ≤ q → q < a + width t c → ⊥) → get_or (set w (a + j) n) q 0 ≡ get_or w q 0
  one_other q out = get_or-set_other w (a + j) q n 0 (λ e. out (omega arith) (omega arith))

  one_others : (class_of t c (suc j) ≡ SecondHalf → ⊥) → (i : ℕ) → (i ≡ j → ⊥) → said t (set w (a + j) n) c a (suc i) ≡ said t w c a (suc i)
  one_others not-half i other =
      said_kept t w (set w (a + j) n) c a i (length-set w (a + j) n)
      (λ _. get_or-set_other w (a + j) (a + i) n 0 (λ e. other (omega arith)))
      (λ pointer. get_or-set_other w (a + j) (suc (a + i)) n 0 (λ e.
      let next : suc i ≡ j = omega arith in
      not-half (ap (λ z. class_of t c (suc z)) (sym next) ∙ second_half t c (suc i) law pointer)))

-- a number is written into a plain word
pub set_stands : (t : Types) (b : Model) (w : List ℕ) (rs : List HoldRecord) (k j n : ℕ) → Lawful t → Reached b k → j < width t (code_of b.cells k) → class_of t (code_of b.cells k) (suc j) ≡ Plain → Stands t b w rs → Stands t (with_word b k j (number n)) (set w (address_of b.cells k + j) n) rs
set_stands t b w rs k j n law rk lt is st =
    let c : ℕ = code_of b.cells k in
    let a : ℕ = address_of b.cells k in
    let lies = inside_fits t (length w) c a (st.agrees.tidy.inside k rk) in
    let room : a + j < length w = omega (arith, lies.within) in
    let w' : List ℕ = set w (a + j) n in
    write_stands t b w rs law st k j (number n) rk lt
    (λ l e. absurd cc)
    w' (length-set w (a + j) n)
    (λ q out. one_other t w c a j n law lt q (λ lo hi. out (lo, hi)))
    (said_at t w' c a j
    ∙ ap (said_by t w' (a + j)) is
    ∙ rw (get_or-set_same w (a + j) n 0 room) refl)
    (λ i other lti. one_others t w c a j n law lt (λ half. cc) i other)

module _ (t : Types) (b : Model) (w : List ℕ) (rs : List HoldRecord) (g k j : ℕ) (x : Value) (law : Lawful t) (rk : Reached b k) (lt : j < width t (code_of b.cells k)) (has : hold_of b g ≡ held x) (st : Stands t b w rs) where
  fit : (l : ℕ) → x ≡ cell l → fits t (length w) (code_of b.cells l) (address_of b.cells l) ≡ true
  fit l e = st.agrees.tidy.inside l (root (g, has ∙ ap held e))

  put_pointer : class_of t (code_of b.cells k) (suc j) ≡ Pointer → Stands t (with_word b k j (value x)) (with_content w (address_of b.cells k + j) Pointer (shown b.cells x)) rs
  put_pointer is =
      let c : ℕ = code_of b.cells k in
      let a : ℕ = address_of b.cells k in
      let s = shown b.cells x in
      let lies = inside_fits t (length w) c a (st.agrees.tidy.inside k rk) in
      let pair : suc j < width t c = paired t c (suc j) law is in
      let room : a + j + 1 < length w = omega (arith, lies.within) in
      let w' : List ℕ = both w (a + j) (code_word s) (value_word s) in
      write_stands t b w rs law st k j (value x) rk lt
      (λ l e. root (g, (let v : x ≡ cell l = cc in has ∙ ap held v)))
      w' (both_long w (a + j) (code_word s) (value_word s))
      (λ q out. both_other w (a + j) (code_word s) (value_word s) q (λ e. out (omega arith, omega arith)) (λ e. out (omega arith, omega arith)))
      (said_at t w' c a j
      ∙ ap (said_by t w' (a + j)) is
      ∙ ap content (rw (both_one w (a + j) (code_word s) (value_word s) room, both_two w (a + j) (code_word s) (value_word s) room, both_long w (a + j) (code_word s) (value_word s))
      (pointer_says_put t b.cells (length w) x law fit (λ d n e. st.agrees.kinds g d n (has ∙ ap held e)))))
      (λ i other lti. pointer_others t w c a j (code_word s) (value_word s) i law is other)

  typed_said : (d : ℕ) (y : Value) → takes (has_value b.cells y) (Typed d) ≡ true → ((l : ℕ) → y ≡ cell l → fits t (length w) (code_of b.cells l) (address_of b.cells l) ≡ true) → typed_says t (length w) d (value_word (shown b.cells y)) ≡ Some (shown b.cells y)
  typed_said d nothing ok in_heap = refl
  typed_said d (cell l) ok in_heap = rw (← (eqb-true (code_of b.cells l) d ok)) (typed_says_cell t (length w) (code_of b.cells l) (address_of b.cells l) (in_heap l refl))
  typed_said d (immediate c n) ok in_heap = absurd cc

  put_typed : (d : ℕ) → class_of t (code_of b.cells k) (suc j) ≡ Typed d → takes (has_value b.cells x) (Typed d) ≡ true → Stands t (with_word b k j (value x)) (with_content w (address_of b.cells k + j) (Typed d) (shown b.cells x)) rs
  put_typed d is ok =
      let c : ℕ = code_of b.cells k in
      let a : ℕ = address_of b.cells k in
      let n : ℕ = value_word (shown b.cells x) in
      let lies = inside_fits t (length w) c a (st.agrees.tidy.inside k rk) in
      let room : a + j < length w = omega (arith, lies.within) in
      let w' : List ℕ = set w (a + j) n in
      write_stands t b w rs law st k j (value x) rk lt
      (λ l e. root (g, (let v : x ≡ cell l = cc in has ∙ ap held v)))
      w' (length-set w (a + j) n)
      (λ q out. one_other t w c a j n law lt q (λ lo hi. out (lo, hi)))
      (said_at t w' c a j
      ∙ ap (said_by t w' (a + j)) is
      ∙ ap content (rw (get_or-set_same w (a + j) n 0 room, length-set w (a + j) n) (typed_said d x ok fit)))
      (λ i other lti. one_others t w c a j n law lt (λ half. cc) i other)

  put_by : (K : Class) → class_of t (code_of b.cells k) (suc j) ≡ K → takes (has_value b.cells x) K ≡ true → Stands t (with_word b k j (value x)) (with_content w (address_of b.cells k + j) K (shown b.cells x)) rs
  put_by Plain is ok = absurd cc
  put_by Pointer is ok = put_pointer is
  put_by (Typed d) is ok = put_typed d is ok
  put_by SecondHalf is ok = absurd cc

-- what a hold has is put into a pointer or a typed word that takes it
pub put_stands : (t : Types) (b : Model) (w : List ℕ) (rs : List HoldRecord) (g k j : ℕ) (x : Value) → Lawful t → Reached b k → j < width t (code_of b.cells k) → hold_of b g ≡ held x → takes (has_value b.cells x) (class_of t (code_of b.cells k) (suc j)) ≡ true → Stands t b w rs → Stands t (with_word b k j (value x)) (with_content w (address_of b.cells k + j) (class_of t (code_of b.cells k) (suc j)) (shown b.cells x)) rs
put_stands t b w rs g k j x law rk lt has ok st = put_by t b w rs g k j x law rk lt has st (class_of t (code_of b.cells k) (suc j)) refl ok
