-- What each call by hold number answers and leaves, on any hold table, words and source.
use Rattle.std.specs.Prelude.{◌≡◌, ℕ, true, false, ◌&&◌, List, [], ◌∷◌, length, Some, None, Ok, Err, Option, Result, nat_le, slice_index, slice_set}
use Rattle.refusals.specs.declared.refusal.Refusal.{Refusal}
use Rattle.refusals.specs.declared.refusal.Refusal.TheVariants.{NoCell, UnfitCell, NoWord, Broken}
use Rattle.layouts.specs.Types.{Types}
use Rattle.layouts.specs.Classes.{class_of}
use Rattle.cells.specs.declared.content.Content.{Content}
use Rattle.cells.specs.declared.content.Content.TheVariants.{Nothing, Immediate}
use Rattle.calls.specs.declared.record.HoldRecord.{HoldRecord}
use Rattle.calls.specs.Holds.{unheld, holding, at, has, reads, is_cell, code_of}
use Rattle.cells.specs.Words.{words_in, fits, says, place, value_word, with_content}
use Rattle.calls.specs.Rows.{first_due, unless, row_2, row_3, row_4, row_5, row_5_cell, row_6, row_8, row_9, plain, reference, takes}

-- refused exactly where a row is due, by the first that is, and then all is as it was; else done
abbrev pub Answers : {X : Type 0} → Option Refusal → Type 0 → (X → Type 0) → Result X Refusal → Type 0
Answers due same done (Ok x) = (due ≡ None) × done x
Answers due same done (Err f) = (due ≡ Some f) × same

-- the code and the address of the cell in hold h
abbrev pub code_at : List HoldRecord → ℕ → ℕ
code_at rs h = code_of (has (at rs h).content)

abbrev pub address_at : List HoldRecord → ℕ → ℕ
address_at rs h = value_word (at rs h).content

-- 7: the cell of the hold does not fit the L words
abbrev pub row_7 : Types → ℕ → List HoldRecord → ℕ → Option Refusal
row_7 t L rs h = unless (fits t L (code_at rs h) (address_at rs h)) (UnfitCell h)

-- where word i of the cell in hold h stands, and what it says
abbrev pub place_at : List HoldRecord → ℕ → ℕ → ℕ
place_at rs h i = place (address_at rs h) i

abbrev pub says_at : Types → List ℕ → List HoldRecord → ℕ → ℕ → Option Content
says_at t w rs h i = says t w (place_at rs h i) (class_of t (code_at rs h) i)

-- 10: the child of the word does not fit
abbrev pub broken_at : ℕ → Option Content → Option Refusal
broken_at p None = Some (Broken p)
broken_at p (Some k) = None

abbrev pub row_10 : Types → List ℕ → List HoldRecord → ℕ → ℕ → Option Refusal
row_10 t w rs h i = broken_at (place_at rs h i) (says_at t w rs h i)

-- 6 and 7 of a hold that has the content k: what stands between a hold and its cell
abbrev pub cell_in_due : Types → ℕ → Content → ℕ → Option Refusal
cell_in_due t L k h = first_due
    (unless (is_cell (has k)) (NoCell h)
    ∷ unless (fits t L (code_of (has k)) (value_word k)) (UnfitCell h)
    ∷ [])

-- 6, 7 and 8 of a hold that has the content k: what stands between a hold and a word of its cell
abbrev pub word_due : Types → ℕ → Content → ℕ → ℕ → Option Refusal
word_due t L k h i = first_due
    (unless (is_cell (has k)) (NoCell h)
    ∷ unless (fits t L (code_of (has k)) (value_word k)) (UnfitCell h)
    ∷ unless (nat_le 1 i && nat_le i (words_in (t.size (code_of (has k))))) (NoWord i)
    ∷ [])

-- the rows of each call, in their order

abbrev pub take_due : List HoldRecord → ℕ → Option Refusal
take_due rs h = first_due (row_2 (h ∷ []) ∷ row_3 false (reads rs) (h ∷ []) ∷ [])

abbrev pub held_due : List HoldRecord → ℕ → Option Refusal
held_due rs h = first_due (row_2 (h ∷ []) ∷ row_3 true (reads rs) (h ∷ []) ∷ [])

abbrev pub note_due : Types → List HoldRecord → ℕ → ℕ → Option Refusal
note_due t rs h c = first_due (row_2 (h ∷ []) ∷ row_3 true (reads rs) (h ∷ []) ∷ row_4 t c ∷ row_5 t c ∷ [])

abbrev pub make_due : Types → List HoldRecord → ℕ → ℕ → Option Refusal
make_due t rs h c = first_due (row_2 (h ∷ []) ∷ row_3 true (reads rs) (h ∷ []) ∷ row_4 t c ∷ row_5_cell t c ∷ [])

abbrev pub copy_due : List HoldRecord → ℕ → ℕ → Option Refusal
copy_due rs g h = first_due (row_2 (g ∷ h ∷ []) ∷ row_3 true (reads rs) (g ∷ h ∷ []) ∷ [])

-- the rows of a call that goes to the cell of a hold as a whole
abbrev pub cell_due : Types → ℕ → List HoldRecord → ℕ → Option Refusal
cell_due t L rs h = first_due
    (row_2 (h ∷ []) ∷ row_3 true (reads rs) (h ∷ []) ∷ row_6 (reads rs) h ∷ row_7 t L rs h ∷ [])

abbrev pub plain_due : Types → ℕ → List HoldRecord → ℕ → ℕ → Option Refusal
plain_due t L rs h i = first_due
    (row_2 (h ∷ []) ∷ row_3 true (reads rs) (h ∷ []) ∷ row_6 (reads rs) h ∷ row_7 t L rs h ∷ row_8 t (reads rs) h i ∷ row_9 plain t (reads rs) h i ∷ [])

-- the rows that put and fetch share
abbrev pub pair_due : Types → ℕ → List HoldRecord → ℕ → ℕ → ℕ → Option Refusal
pair_due t L rs h i g = first_due
    (row_2 (h ∷ g ∷ []) ∷ row_3 true (reads rs) (h ∷ g ∷ []) ∷ row_6 (reads rs) h ∷ row_7 t L rs h ∷ row_8 t (reads rs) h i ∷ [])

abbrev pub put_due : Types → ℕ → List HoldRecord → ℕ → ℕ → ℕ → Option Refusal
put_due t L rs h i g = first_due (pair_due t L rs h i g ∷ row_9 (takes (reads rs g)) t (reads rs) h i ∷ [])

abbrev pub fetch_due : Types → List ℕ → List HoldRecord → ℕ → ℕ → ℕ → Option Refusal
fetch_due t w rs h i g = first_due (pair_due t (length w) rs h i g ∷ row_9 reference t (reads rs) h i ∷ row_10 t w rs h i ∷ [])

-- the calls: rs and w before, rs' and w' after

abbrev pub Takes : List HoldRecord → ℕ → List HoldRecord → Result (Unit {0}) Refusal → Type 0
Takes rs h rs' r = Answers (take_due rs h) (rs' ≡ rs) (λ _. rs' ≡ slice_set rs h (holding Nothing)) r

abbrev pub Releases : List HoldRecord → ℕ → List HoldRecord → Result (Unit {0}) Refusal → Type 0
Releases rs h rs' r = Answers (held_due rs h) (rs' ≡ rs) (λ _. rs' ≡ slice_set rs h unheld) r

abbrev pub Notes : Types → List HoldRecord → ℕ → ℕ → ℕ → List HoldRecord → Result (Unit {0}) Refusal → Type 0
Notes t rs h c x rs' r = Answers (note_due t rs h c) (rs' ≡ rs) (λ _. rs' ≡ slice_set rs h (holding (Immediate c x))) r

abbrev pub Copies : List HoldRecord → ℕ → ℕ → List HoldRecord → Result (Unit {0}) Refusal → Type 0
Copies rs g h rs' r = Answers (copy_due rs g h) (rs' ≡ rs) (λ _. rs' ≡ slice_set rs h (holding (at rs g).content)) r

abbrev pub Tells : List HoldRecord → ℕ → Result Content Refusal → Type 0
Tells rs h r = Answers (held_due rs h) (Unit {0}) (λ k. k ≡ (at rs h).content) r

abbrev pub Looks : Types → List ℕ → List HoldRecord → ℕ → ℕ → Result ℕ Refusal → Type 0
Looks t w rs h i r = Answers (plain_due t (length w) rs h i) (Unit {0}) (λ x. x ≡ slice_index w (place_at rs h i)) r

abbrev pub Sets : Types → List ℕ → List HoldRecord → ℕ → ℕ → ℕ → List ℕ → Result (Unit {0}) Refusal → Type 0
Sets t w rs h i x w' r = Answers (plain_due t (length w) rs h i) (w' ≡ w) (λ _. w' ≡ slice_set w (place_at rs h i) x) r

abbrev pub Puts : Types → List ℕ → List HoldRecord → ℕ → ℕ → ℕ → List ℕ → Result (Unit {0}) Refusal → Type 0
Puts t w rs h i g w' r = Answers (put_due t (length w) rs h i g) (w' ≡ w)
    (λ _. w' ≡ with_content w (place_at rs h i) (class_of t (code_at rs h) i) (at rs g).content) r

abbrev pub Fetches : Types → List ℕ → List HoldRecord → ℕ → ℕ → ℕ → List HoldRecord → Result (Unit {0}) Refusal → Type 0
Fetches t w rs h i g rs' r = Answers (fetch_due t w rs h i g) (rs' ≡ rs)
    (λ _. (k : Content) × (says_at t w rs h i ≡ Some k) × (rs' ≡ slice_set rs g (holding k))) r
