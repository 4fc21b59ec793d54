-- A hold gets another content.
use Rattle.std.proofs.Common.{◌≡◌, ℕ, zero, suc, ◌+◌, Bool, true, false, cond, eqb, ◌⊎◌, List, [], ◌∷◌, map, length, get_or, set, replicate, Some, None, sym, refl, ap, ◌∙◌, inl, inr, arith}
use Rattle.std.proofs.lemmas.Bool.{cases_eq, cases_lt}
use Rattle.std.proofs.lemmas.List.{get_or-set_same, get_or-set_other, set_past, map-set, get_or_past}
use Rattle.layouts.specs.declared.entry.Class.{Class}
use Rattle.layouts.specs.declared.entry.Class.TheVariants.{Plain, Pointer, Typed, SecondHalf}
use Rattle.layouts.specs.Types.{Types}
use Rattle.layouts.specs.Classes.{class_of}
use Rattle.cells.specs.declared.content.Content.TheVariants.{Nothing, Cell, Immediate}
use Rattle.cells.specs.Words.{cell_free, fits}
use Rattle.calls.specs.declared.record.HoldRecord.{HoldRecord}
use Rattle.calls.specs.Holds.{unheld, holding}
use Rattle.scan.specs.Children.{width}
use Rattle.free_list.specs.Free.{Run, proper, Free}
use Rattle.model.specs.Model.{Model, Made, Value, nothing, cell, immediate, second, value, Hold, free, held, made, code_of, address_of, word_of, hold_of, From, root, word, InHolds, Reached, shown, shown_hold}
use Rattle.model.specs.Said.{content, said_by, shown_word}
use Rattle.model.specs.Agrees.{Agrees}
use Rattle.model.specs.Told.{with_hold, new_model}
use Rattle.model.specs.Spares.{Stands}
use Rattle.model.proofs.Kept.{said_at, smaller}

-- what a hold has after the hold h got y
pub hold_cases : (hs : List Hold) (h i : ℕ) (x y : Hold) → get_or (set hs h y) i free ≡ x → (get_or hs i free ≡ x) ⊎ (y ≡ x)
hold_cases hs h i x y e =
    elim (cases_eq i h) [
      | inl same ↦
          elim (cases_lt h (length hs)) [
            | inl lt ↦ inr (sym (get_or-set_same hs h y free lt) ∙ (rw same at e))
            | inr past ↦ inl (ap (λ xs. get_or xs i free) (sym (set_past hs h y past)) ∙ e)
          ]
      | inr other ↦ inl (sym (get_or-set_other hs h i y free other) ∙ e)
    ]

-- what is reached now was reached before
pub reached_less : (cs : List Made) (hs : List Hold) (h : ℕ) (y : Hold) (k : ℕ) → ((l : ℕ) → y ≡ held (cell l) → From cs (InHolds hs) l) → From cs (InHolds (set hs h y)) k → From cs (InHolds hs) k
reached_less cs hs h y k new (root p) =
    elim (hold_cases hs h p.0 (held (cell k)) y p.1) [ inl old ↦ root (p.0, old) | inr is ↦ new k is ]
reached_less cs hs h y k new (word {k = k₁} j at e) = word j (reached_less cs hs h y k₁ new at) e

pub hold_agrees : (t : Types) (b : Model) (w : List ℕ) (rs : List HoldRecord) (h : ℕ) (y : Hold) → ((l : ℕ) → y ≡ held (cell l) → Reached b l) → ((c x : ℕ) → y ≡ held (immediate c x) → cell_free (t.size c) ≡ true) → Agrees t b w rs → Agrees t (with_hold b h y) w (set rs h (shown_hold b.cells y))
hold_agrees t b w rs h y new kind ag = record {
  held = ap (λ xs. set xs h (shown_hold b.cells y)) ag.held ∙ sym (map-set (shown_hold b.cells) b.holds h y);
  kinds = λ i c x e. elim (hold_cases b.holds h i (held (immediate c x)) y e) [ inl old ↦ ag.kinds i c x old | inr is ↦ kind c x is ];
  tidy = smaller t b.cells w (Reached b) (Reached (with_hold b h y)) (λ k. reached_less b.cells b.holds h y k new) ag.tidy;
}

pub hold_stands : (t : Types) (b : Model) (w : List ℕ) (rs : List HoldRecord) (h : ℕ) (y : Hold) → ((l : ℕ) → y ≡ held (cell l) → Reached b l) → ((c x : ℕ) → y ≡ held (immediate c x) → cell_free (t.size c) ≡ true) → Stands t b w rs → Stands t (with_hold b h y) w (set rs h (shown_hold b.cells y))
hold_stands t b w rs h y new kind st = record {
  agrees = hold_agrees t b w rs h y new kind st.agrees;
  beside = record {
    runs = st.beside.runs;
    reads = st.beside.reads;
    spare = λ j i k r. st.beside.spare j i k (reached_less b.cells b.holds h y k new r);
  };
}

-- a hold is given up
pub release_stands : (t : Types) (b : Model) (w : List ℕ) (rs : List HoldRecord) (h : ℕ) → Stands t b w rs → Stands t (with_hold b h free) w (set rs h unheld)
release_stands t b w rs h st =
    hold_stands t b w rs h free (λ l e. absurd cc) (λ c x e. absurd cc) st

-- a hold is taken
pub take_hold_stands : (t : Types) (b : Model) (w : List ℕ) (rs : List HoldRecord) (h : ℕ) → Stands t b w rs → Stands t (with_hold b h (held nothing)) w (set rs h (holding Nothing))
take_hold_stands t b w rs h st =
    hold_stands t b w rs h (held nothing) (λ l e. absurd cc) (λ c x e. absurd cc) st

-- a hold gets what another has
pub copy_stands : (t : Types) (b : Model) (w : List ℕ) (rs : List HoldRecord) (g h : ℕ) (x : Value) → hold_of b g ≡ held x → Stands t b w rs → Stands t (with_hold b h (held x)) w (set rs h (holding (shown b.cells x)))
copy_stands t b w rs g h x has st =
    hold_stands t b w rs h (held x) (λ l e. root (g, has ∙ e)) (λ c n e. st.agrees.kinds g c n (has ∙ e)) st

-- a hold gets an immediate
pub note_stands : (t : Types) (b : Model) (w : List ℕ) (rs : List HoldRecord) (h c n : ℕ) → cell_free (t.size c) ≡ true → Stands t b w rs → Stands t (with_hold b h (held (immediate c n))) w (set rs h (holding (Immediate c n)))
note_stands t b w rs h c n ok st =
    hold_stands t b w rs h (held (immediate c n)) (λ l e. absurd cc) (λ d x e. let same : c ≡ d = cc in rw (← same) ok) st

-- a word that says an immediate names a type that has no cells
fit_not : (f : Bool) (k a c x : ℕ) → cond f (Some (Cell k a)) None ≡ Some (Immediate c x) → ⊥
fit_not true k a c x e = cc
fit_not false k a c x e = cc

pointer_kind : (s i f : Bool) (k a c x : ℕ) → cond s (Some Nothing) (cond i (Some (Immediate k a)) (cond f (Some (Cell k a)) None)) ≡ Some (Immediate c x) → (i ≡ true) × (k ≡ c)
pointer_kind true i f k a c x e = absurd cc
pointer_kind false true f k a c x e = (refl, cc)
pointer_kind false false f k a c x e = absurd (fit_not f k a c x e)

typed_kind : (s f : Bool) (k a c x : ℕ) → cond s (Some Nothing) (cond f (Some (Cell k a)) None) ≡ Some (Immediate c x) → ⊥
typed_kind true f k a c x e = cc
typed_kind false f k a c x e = fit_not f k a c x e

said_kind : (t : Types) (w : List ℕ) (p : ℕ) (k : Class) (c x : ℕ) → said_by t w p k ≡ content (Some (Immediate c x)) → cell_free (t.size c) ≡ true
said_kind t w p Plain c x is = absurd cc
said_kind t w p Pointer c x is =
    let k = pointer_kind (eqb (get_or w p 0) 0) (cell_free (t.size (get_or w p 0))) (fits t (length w) (get_or w p 0) (get_or w (p + 1) 0)) (get_or w p 0) (get_or w (p + 1) 0) c x (cc) in
    rw (← k.1) k.0
said_kind t w p (Typed d) c x is = absurd (typed_kind (eqb (get_or w p 0) 0) (fits t (length w) d (get_or w p 0)) d (get_or w p 0) c x (cc))
said_kind t w p SecondHalf c x is = absurd cc

-- a hold gets what a word of a reached cell has
pub fetch_stands : (t : Types) (b : Model) (w : List ℕ) (rs : List HoldRecord) (h k j : ℕ) (x : Value) → Reached b k → word_of b.cells k j ≡ value x → Stands t b w rs → Stands t (with_hold b h (held x)) w (set rs h (holding (shown b.cells x)))
fetch_stands t b w rs h k j x rk has st =
    hold_stands t b w rs h (held x)
    (λ l e. word j rk (let v : x ≡ cell l = cc in has ∙ ap value v))
    (λ c n e.
    let v : x ≡ immediate c n = cc in
    let in-word : word_of b.cells k j ≡ value (immediate c n) = has ∙ ap value v in
    elim (cases_lt j (width t (code_of b.cells k))) [
      | inl lt ↦ said_kind t w (address_of b.cells k + j) (class_of t (code_of b.cells k) (suc j)) c n (sym (said_at t w (code_of b.cells k) (address_of b.cells k) j) ∙ st.agrees.tidy.says k j rk lt ∙ ap (shown_word b.cells) in-word)
      | inr past ↦
          let none : word_of b.cells k j ≡ second = get_or_past (made b.cells k).words j second (omega (arith, st.agrees.tidy.sized k rk)) in
          absurd cc
    ])
    st

all_free : (n h : ℕ) → get_or (replicate n free) h free ≡ free
all_free zero h = refl
all_free (suc n) zero = refl
all_free (suc n) (suc h) = all_free n h

map_free : (n : ℕ) → replicate n unheld ≡ map (shown_hold []) (replicate n free)
map_free zero = refl
map_free (suc n) = ap (λ rs. unheld ∷ rs) (map_free n)

pub nothing_reached : (k : ℕ) → Reached new_model k → ⊥
nothing_reached k (root p) = let e = all_free 64 p.0 in let f = p.1 in cc
nothing_reached k (word {k = k₁} j at e) = nothing_reached k₁ at

-- a new heap, whose free list reads to a proper end
pub new_stands : (t : Types) (w : List ℕ) (runs : List Run) → Free w 0 1 runs proper → Stands t new_model w (replicate 64 unheld)
new_stands t w runs reads = record {
  agrees = record {
    held = map_free 64;
    kinds = λ h c x f. let e = all_free 64 h in absurd cc;
    tidy = record {
      inside = λ k r. absurd (nothing_reached k r);
      apart = λ k l j r. absurd (nothing_reached k r);
      sized = λ k r. absurd (nothing_reached k r);
      says = λ k j r. absurd (nothing_reached k r);
    };
  };
  beside = record { runs = runs; reads = reads; spare = λ j i k r. absurd (nothing_reached k r) };
}
