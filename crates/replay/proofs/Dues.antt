-- The refusal table, read on the hold records, is the table read on the model.
use Rattle.std.proofs.Common.{◌≡◌, ℕ, suc, ◌-◌, ◌<◌, ◌≤◌, Bool, true, false, List, [], ◌∷◌, ◌++◌, length, Some, None, Option, sym, refl, ap, ◌∙◌, arith}
use mathlib.Core.Path.{fun_ext}
use Rattle.std.specs.List.{AllByRecursion}
use Rattle.std.specs.Option.{option_or}
use Rattle.std.proofs.lemmas.Bool.{and_parts, leb-true}
use Rattle.refusals.specs.declared.refusal.Refusal.{Refusal}
use Rattle.refusals.specs.declared.refusal.Refusal.TheVariants.{HoldState}
use Rattle.layouts.specs.declared.entry.Class.{Class}
use Rattle.layouts.specs.Types.{Types}
use Rattle.layouts.specs.Classes.{class_of}
use Rattle.calls.specs.declared.record.HoldRecord.{HoldRecord}
use Rattle.calls.specs.Holds.{reads, is_held, is_cell}
use Rattle.calls.specs.Rows.{first_due, unless, row_2, row_3, row_4, row_5, row_6, row_8, row_9, plain, reference, takes}
use Rattle.calls.specs.Calls as calls
use Rattle.scan.specs.Children.{width}
use Rattle.model.specs.Model.{Model, Made, Value, nothing, cell, immediate, value, Hold, free, held, code_of, address_of, word_of, hold_of, has_hold, shown, root, reading}
use Rattle.model.specs.Agrees.{Agrees}
use Rattle.model.proofs.Readings.{at_agree, reads_agree, fetch_agree}
use Rattle.replay.specs.declared.call.CellCall.TheVariants.{Take, Release, Note, Copy, Look, Put, Fetch}
use Rattle.replay.specs.Table.{cell_due}

none_of : (x y : Option Refusal) → option_or x y ≡ None → (x ≡ None) × (y ≡ None)
none_of None y e = (refl, e)
none_of (Some f) y e = absurd cc

-- no row of the list is due
pub nones : (xs : List (Option Refusal)) → first_due xs ≡ None → AllByRecursion (λ (o : Option Refusal). o ≡ None) xs
nones [] e = tt
nones (x ∷ xs) e = let p = none_of x (first_due xs) e in (p.0, nones xs p.1)

pub unless_none : (b : Bool) (f : Refusal) → unless b f ≡ None → b ≡ true
unless_none true f e = refl
unless_none false f e = absurd cc

pub held_of : (cs : List Made) (y : Hold) → is_held (has_hold cs y) ≡ true → (x : Value) × (y ≡ held x)
held_of cs free e = absurd cc
held_of cs (held x) e = (x, refl)

pub cell_of : (cs : List Made) (y : Hold) → is_cell (has_hold cs y) ≡ true → (k : ℕ) × (y ≡ held (cell k))
cell_of cs free e = absurd cc
cell_of cs (held nothing) e = absurd cc
cell_of cs (held (cell k)) e = (k, refl)
cell_of cs (held (immediate c x)) e = absurd cc

-- holds that row 3 wants held
pub held_row : (b : Model) (h : ℕ) (hs : List ℕ) → row_3 true (reading b) (h ∷ hs) ≡ None → ((x : Value) × (hold_of b h ≡ held x)) × (row_3 true (reading b) hs ≡ None)
held_row b h hs e =
    let p = none_of (unless (is_held (reading b h)) (HoldState h)) (row_3 true (reading b) hs) e in
    (held_of b.cells (hold_of b h) (unless_none _ _ p.0), p.1)

-- the hold has a cell, and i is one of its words
pub record Found (t : Types) (b : Model) (h i : ℕ) : Type 0 where
  pub found : ℕ
  pub in_hold : hold_of b h ≡ held (cell found)
  pub next : suc (i - 1) ≡ i
  pub within : i - 1 < width t (code_of b.cells found)

pub find : (t : Types) (b : Model) (h i : ℕ) → row_6 (reading b) h ≡ None → row_8 t (reading b) h i ≡ None → Found t b h i
find t b h i no-6 no-8 =
    let c = cell_of b.cells (hold_of b h) (unless_none _ _ no-6) in
    let eight = and_parts _ _ (unless_none _ _ no-8) in
    let low : 1 ≤ i = leb-true 1 i eight.0 in
    let high : i ≤ width t (code_of b.cells c.0) = leb-true i _ (rw c.1 at eight.1) in
    record { found = c.0; in_hold = c.1; next = omega arith; within = omega arith }

-- the class of the word that was found
pub class_found : (t : Types) (b : Model) (h i : ℕ) (right : Class → Bool) (f : Found t b h i) → row_9 right t (reading b) h i ≡ None → right (class_of t (code_of b.cells f.found) (suc (i - 1))) ≡ true
class_found t b h i right f no_9 = rw f.next (rw f.in_hold at (unless_none _ _ no_9))

-- rows one after the other
due_append : (xs ys : List (Option Refusal)) → first_due (xs ++ ys) ≡ option_or (first_due xs) (first_due ys)
due_append [] ys = refl
due_append (None ∷ xs) ys = due_append xs ys
due_append (Some f ∷ xs) ys = refl

-- a row that is never due where the row before it is not
never_next : (x y z : Option Refusal) → (x ≡ None → y ≡ None) → option_or x (option_or y z) ≡ option_or x z
never_next None y z never = ap (λ o. option_or o z) (never refl)
never_next (Some f) y z never = refl

never_last : (x y z : Option Refusal) → (x ≡ None → y ≡ None → z ≡ None) → first_due (x ∷ y ∷ z ∷ []) ≡ first_due (x ∷ y ∷ [])
never_last None None z never = ap (λ o. option_or o None) (never refl refl)
never_last None (Some f) z never = refl
never_last (Some f) y z never = refl

-- the rows that put and fetch share, on the model
abbrev pub shared : Types → Model → ℕ → ℕ → ℕ → List (Option Refusal)
shared t b h i g = row_2 (h ∷ g ∷ []) ∷ row_3 true (reading b) (h ∷ g ∷ []) ∷ row_6 (reading b) h ∷ row_8 t (reading b) h i ∷ []

-- nothing of these is due: the word is found
pub shared_found : (t : Types) (b : Model) (h i g : ℕ) → first_due (shared t b h i g) ≡ None → Found t b h i
shared_found t b h i g e =
    let rows = nones (shared t b h i g) e in
    find t b h i rows.1.1.0 rows.1.1.1.0

module _ (t : Types) (b : Model) (w : List ℕ) (rs : List HoldRecord) (ag : Agrees t b w rs) where
  pub readings : reads rs ≡ reading b
  readings = fun_ext (reads_agree t b w rs ag)

  -- the record of a hold that has a cell
  pub code_there : (h k : ℕ) → hold_of b h ≡ held (cell k) → calls.code_at rs h ≡ code_of b.cells k
  code_there h k e = rw (at_agree t b w rs ag h, e)

  pub address_there : (h k : ℕ) → hold_of b h ≡ held (cell k) → calls.address_at rs h ≡ address_of b.cells k
  address_there h k e = rw (at_agree t b w rs ag h, e)

  -- the cell of a hold lies in the heap
  pub fits_there : (h : ℕ) → row_6 (reading b) h ≡ None → calls.row_7 t (length w) rs h ≡ None
  fits_there h no-6 =
      let c = cell_of b.cells (hold_of b h) (unless_none _ _ no-6) in
      rw (code_there h c.0 c.1, address_there h c.0 c.1, ag.tidy.inside c.0 (root (h, c.1)))

  pub take_table : (h : ℕ) → calls.take_due rs h ≡ cell_due t b (Take h)
  take_table h = ap (λ r. first_due (row_2 (h ∷ []) ∷ row_3 false r (h ∷ []) ∷ [])) readings

  pub held_table : (h : ℕ) → calls.held_due rs h ≡ cell_due t b (Release h)
  held_table h = ap (λ r. first_due (row_2 (h ∷ []) ∷ row_3 true r (h ∷ []) ∷ [])) readings

  pub note_table : (h c x : ℕ) → calls.note_due t rs h c ≡ cell_due t b (Note h c x)
  note_table h c x = ap (λ r. first_due (row_2 (h ∷ []) ∷ row_3 true r (h ∷ []) ∷ row_4 t c ∷ row_5 t c ∷ [])) readings

  pub copy_table : (g h : ℕ) → calls.copy_due rs g h ≡ cell_due t b (Copy g h)
  copy_table g h = ap (λ r. first_due (row_2 (g ∷ h ∷ []) ∷ row_3 true r (g ∷ h ∷ []) ∷ [])) readings

  -- rows 6 and 7, and what comes after them
  pub fits_row : (h : ℕ) (rest : Option Refusal) → option_or (row_6 (reading b) h) (option_or (calls.row_7 t (length w) rs h) rest) ≡ option_or (row_6 (reading b) h) rest
  fits_row h rest = never_next (row_6 (reading b) h) (calls.row_7 t (length w) rs h) rest (fits_there h)

  pub plain_table : (h i : ℕ) → calls.plain_due t (length w) rs h i ≡ cell_due t b (Look h i)
  plain_table h i =
      ap (λ r. first_due (row_2 (h ∷ []) ∷ row_3 true r (h ∷ []) ∷ row_6 r h ∷ calls.row_7 t (length w) rs h ∷ row_8 t r h i ∷ row_9 plain t r h i ∷ [])) readings
      ∙ ap (λ o. option_or (row_2 (h ∷ [])) (option_or (row_3 true (reading b) (h ∷ [])) o)) (fits_row h (first_due (row_8 t (reading b) h i ∷ row_9 plain t (reading b) h i ∷ [])))

  pair_table : (h i g : ℕ) → calls.pair_due t (length w) rs h i g ≡ first_due (shared t b h i g)
  pair_table h i g =
      ap (λ r. first_due (row_2 (h ∷ g ∷ []) ∷ row_3 true r (h ∷ g ∷ []) ∷ row_6 r h ∷ calls.row_7 t (length w) rs h ∷ row_8 t r h i ∷ [])) readings
      ∙ ap (λ o. option_or (row_2 (h ∷ g ∷ [])) (option_or (row_3 true (reading b) (h ∷ g ∷ [])) o)) (fits_row h (first_due (row_8 t (reading b) h i ∷ [])))

  pub put_table : (h i g : ℕ) → calls.put_due t (length w) rs h i g ≡ cell_due t b (Put h i g)
  put_table h i g =
      ap (λ r. first_due (calls.pair_due t (length w) rs h i g ∷ row_9 (takes (r g)) t r h i ∷ [])) readings
      ∙ ap (λ o. first_due (o ∷ row_9 (takes (reading b g)) t (reading b) h i ∷ [])) (pair_table h i g)
      ∙ sym (due_append (shared t b h i g) (row_9 (takes (reading b g)) t (reading b) h i ∷ []))

  -- a pointer or a typed word that was found says what the model has there
  pub says_found : (h i : ℕ) (f : Found t b h i) → row_9 reference t (reading b) h i ≡ None → (x : Value) × (word_of b.cells f.found (i - 1) ≡ value x) × (calls.says_at t w rs h i ≡ Some (shown b.cells x))
  says_found h i f no_9 =
      let p = fetch_agree t b w rs f.found (i - 1) ag (root (h, f.in_hold)) f.within (class_found t b h i reference f no_9) in
      (p.0, p.1, rw (code_there h f.found f.in_hold, address_there h f.found f.in_hold) (rw f.next at p.2))

  word_there : (h i g : ℕ) → first_due (shared t b h i g) ≡ None → row_9 reference t (reading b) h i ≡ None → calls.row_10 t w rs h i ≡ None
  word_there h i g e no_9 = ap (calls.broken_at (calls.place_at rs h i)) (says_found h i (shared_found t b h i g e) no_9).2

  pub fetch_table : (h i g : ℕ) → calls.fetch_due t w rs h i g ≡ cell_due t b (Fetch h i g)
  fetch_table h i g =
      ap (λ r. first_due (calls.pair_due t (length w) rs h i g ∷ row_9 reference t r h i ∷ calls.row_10 t w rs h i ∷ [])) readings
      ∙ ap (λ o. first_due (o ∷ row_9 reference t (reading b) h i ∷ calls.row_10 t w rs h i ∷ [])) (pair_table h i g)
      ∙ never_last (first_due (shared t b h i g)) (row_9 reference t (reading b) h i) (calls.row_10 t w rs h i) (word_there h i g)
      ∙ sym (due_append (shared t b h i g) (row_9 reference t (reading b) h i ∷ []))
