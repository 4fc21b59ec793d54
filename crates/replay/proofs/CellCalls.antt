-- Each call that reads or writes holds and cells answers and leaves what the model tells.
use Rattle.std.proofs.Common.{◌≡◌, ℕ, suc, ◌+◌, ◌-◌, Bool, true, eqb, List, [], ◌∷◌, ◌++◌, length, get_or, set, is_some, Some, None, Ok, Err, Option, Result, sym, refl, ap, ◌∙◌, length-set}
use Rattle.refusals.specs.declared.refusal.Refusal.{Refusal}
use Rattle.layouts.specs.declared.entry.Class.{Class}
use Rattle.layouts.specs.declared.entry.Class.TheVariants.{Plain, Pointer, Typed, SecondHalf}
use Rattle.layouts.specs.Types.{Types, Lawful}
use Rattle.layouts.specs.Classes.{class_of}
use Rattle.cells.specs.declared.content.Content.{Content}
use Rattle.cells.specs.Words.{words_in, cell_free, code_word, value_word, with_content}
use Rattle.calls.specs.declared.record.HoldRecord.{HoldRecord}
use Rattle.calls.specs.Holds.{at, holding}
use Rattle.calls.specs.Rows.{first_due, row_2, row_3, row_4, row_5, row_6, row_8, row_9, plain, reference, takes}
use Rattle.calls.specs.Calls.{Answers, code_at, place_at}
use Rattle.model.specs.Model.{Model, Value, nothing, immediate, number, value, Hold, free, held, code_of, address_of, word_of, hold_of, root, shown, has_value, reading}
use Rattle.model.specs.Told.{with_hold, with_word}
use Rattle.model.specs.Spares.{Stands}
use Rattle.model.proofs.Readings.{at_agree, look_agree}
use Rattle.model.proofs.Holds.{take_hold_stands, release_stands, copy_stands, note_stands, fetch_stands}
use Rattle.model.proofs.Puts.{set_stands, put_stands}
use Rattle.replay.specs.declared.call.CellCall.{CellCall}
use Rattle.replay.specs.declared.call.CellCall.TheVariants.{Take, Release, Note, Copy, Tell, Look, Set, Put, Fetch}
use Rattle.replay.specs.declared.call.Answer.{Answer}
use Rattle.replay.specs.declared.call.Answer.TheVariants.{Done, Told, Number}
use Rattle.replay.specs.States.{answer_of}
use Rattle.replay.specs.Steps.{done, CellStep}
use Rattle.replay.specs.Telling.{cell_told, unless_refused}
use Rattle.replay.specs.Table.{cell_due}
use Rattle.replay.specs.Right.{cell_answer, by_due, tells}
use Rattle.replay.proofs.Dues.{Found, nones, shared, unless_none, held_row, find, class_found, code_there, address_there, says_found, take_table, held_table, note_table, copy_table, plain_table, put_table, fetch_table}

-- the answer is the model's, and words and records stand with what the model is told
abbrev pub CellSim : Types → Model → CellCall → List ℕ → Result Answer Refusal → List ℕ → List HoldRecord → Type 0
CellSim t b c w a w' rs' = (a ≡ by_due (cell_due t b c) (cell_answer b c))
    × Stands t (unless_refused a b (cell_told b c)) w' rs'
    × (length w' ≡ length w)
    × (length (unless_refused a b (cell_told b c)).holds ≡ 64)

module _ (t : Types) (b : Model) (c : CellCall) (w w' : List ℕ) (rs rs' : List HoldRecord) (a : Result Answer Refusal) (st : Stands t b w rs) (sixty-four : length b.holds ≡ 64) where
  refused_sim : (f : Refusal) → a ≡ Err f → cell_due t b c ≡ Some f → w' ≡ w → rs' ≡ rs → CellSim t b c w a w' rs'
  refused_sim f is due words records = rw (is, due, words, records) (refl, st, refl, sixty-four)

  -- the model m is what is told
  accepted_sim : (m : Model) → a ≡ Ok (cell_answer b c) → cell_due t b c ≡ None → unless_refused a b (cell_told b c) ≡ m → Stands t m w' rs' → length w' ≡ length w → length m.holds ≡ 64 → CellSim t b c w a w' rs'
  accepted_sim m is due told stands long holds = (is ∙ ap (λ o. by_due o (cell_answer b c)) (sym due), rw told stands, long, rw told holds)

  -- by what the call's own relation says, whose rows are those of the model
  answers_sim : {X : Type 0} (given : X → Answer) (due : Option Refusal) (same : Type 0) (does : X → Type 0) (r : Result X Refusal) → a ≡ answer_of given r → Answers due same does r → due ≡ cell_due t b c → (same → (w' ≡ w) × (rs' ≡ rs)) → ((x : X) → a ≡ Ok (given x) → cell_due t b c ≡ None → does x → CellSim t b c w a w' rs') → CellSim t b c w a w' rs'
  answers_sim given due same does (Ok x) is rel table as-was accepted = accepted x is (sym table ∙ rel.0) rel.1
  answers_sim given due same does (Err f) is rel table as-was accepted = refused_sim f is (sym table ∙ rel.0) (as-was rel.1).0 (as-was rel.1).1

hold_count : (b : Model) (h : ℕ) (y : Hold) → length b.holds ≡ 64 → length (with_hold b h y).holds ≡ 64
hold_count b h y holds = length-set b.holds h y ∙ holds

-- a type that has no words has no cells
free_type : (o : Option ℕ) → is_some o ≡ true → eqb (words_in o) 0 ≡ true → cell_free o ≡ true
free_type None e z = absurd cc
free_type (Some n) e z = z

module _ (t : Types) (b : Model) (w w' : List ℕ) (rs rs' : List HoldRecord) (a : Result Answer Refusal) (st : Stands t b w rs) (sixty-four : length b.holds ≡ 64) where
  sim_take : (h : ℕ) → CellStep t (Take h) w rs a w' rs' → CellSim t b (Take h) w a w' rs'
  sim_take h (words, step) =
      answers_sim t b (Take h) w w' rs rs' a st sixty-four done _ _ _ step.result step.is step.related
      (take_table t b w rs st.agrees h) (λ records. (words, records))
      (λ x is due records. accepted_sim t b (Take h) w w' rs rs' a st sixty-four (with_hold b h (held nothing)) is due (rw is)
      (rw (words, records) (take_hold_stands t b w rs h st)) (ap length words) (hold_count b h (held nothing) sixty-four))

  sim_release : (h : ℕ) → CellStep t (Release h) w rs a w' rs' → CellSim t b (Release h) w a w' rs'
  sim_release h (words, step) =
      answers_sim t b (Release h) w w' rs rs' a st sixty-four done _ _ _ step.result step.is step.related
      (held_table t b w rs st.agrees h) (λ records. (words, records))
      (λ x is due records. accepted_sim t b (Release h) w w' rs rs' a st sixty-four (with_hold b h free) is due (rw is)
      (rw (words, records) (release_stands t b w rs h st)) (ap length words) (hold_count b h free sixty-four))

  content_there : (g : ℕ) (x : Value) → hold_of b g ≡ held x → (at rs g).content ≡ shown b.cells x
  content_there g x has = rw (at_agree t b w rs st.agrees g, has)

  sim_note : (h c x : ℕ) → CellStep t (Note h c x) w rs a w' rs' → CellSim t b (Note h c x) w a w' rs'
  sim_note h c x (words, step) =
      answers_sim t b (Note h c x) w w' rs rs' a st sixty-four done _ _ _ step.result step.is step.related
      (note_table t b w rs st.agrees h c x) (λ records. (words, records))
      (λ u is due records.
      let rows = nones (row_2 (h ∷ []) ∷ row_3 true (reading b) (h ∷ []) ∷ row_4 t c ∷ row_5 t c ∷ []) due in
      let no_cells = free_type (t.size c) (unless_none _ _ rows.1.1.0) (unless_none _ _ rows.1.1.1.0) in
      accepted_sim t b (Note h c x) w w' rs rs' a st sixty-four (with_hold b h (held (immediate c x))) is due (rw is)
      (rw (words, records) (note_stands t b w rs h c x no_cells st)) (ap length words) (hold_count b h (held (immediate c x)) sixty-four))

  sim_copy : (g h : ℕ) → CellStep t (Copy g h) w rs a w' rs' → CellSim t b (Copy g h) w a w' rs'
  sim_copy g h (words, step) =
      answers_sim t b (Copy g h) w w' rs rs' a st sixty-four done _ _ _ step.result step.is step.related
      (copy_table t b w rs st.agrees g h) (λ records. (words, records))
      (λ u is due records.
      let rows = nones (row_2 (g ∷ h ∷ []) ∷ row_3 true (reading b) (g ∷ h ∷ []) ∷ []) due in
      let has = (held_row b g (h ∷ []) rows.1.0).0 in
      accepted_sim t b (Copy g h) w w' rs rs' a st sixty-four (with_hold b h (held has.0)) is due (rw is (ap (with_hold b h) has.1))
      (rw (words, records, content_there g has.0 has.1) (copy_stands t b w rs g h has.0 has.1 st)) (ap length words) (hold_count b h (held has.0) sixty-four))

  sim_tell : (h : ℕ) → CellStep t (Tell h) w rs a w' rs' → CellSim t b (Tell h) w a w' rs'
  sim_tell h (words, records, step) =
      answers_sim t b (Tell h) w w' rs rs' a st sixty-four Told _ _ _ step.result step.is step.related
      (held_table t b w rs st.agrees h) (λ _. (words, records))
      (λ k is due reads.
      let rows = nones (row_2 (h ∷ []) ∷ row_3 true (reading b) (h ∷ []) ∷ []) due in
      let has = (held_row b h [] rows.1.0).0 in
      accepted_sim t b (Tell h) w w' rs rs' a st sixty-four b
      (is ∙ ap (λ x. Ok (Told x)) (reads ∙ content_there h has.0 has.1) ∙ ap (λ y. Ok (tells b.cells y)) (sym has.1)) due (rw is)
      (rw (words, records) st) (ap length words) sixty-four)

plain_only : (c : Class) → plain c ≡ true → c ≡ Plain
plain_only Plain e = refl
plain_only Pointer e = absurd cc
plain_only (Typed d) e = absurd cc
plain_only SecondHalf e = absurd cc

same_some : (k l : Content) → ◌≡◌ {A = Option Content} (Some k) (Some l) → k ≡ l
same_some k l e = cc

content_long : (w : List ℕ) (p : ℕ) (c : Class) (k : Content) → length (with_content w p c k) ≡ length w
content_long w p Plain k = refl
content_long w p Pointer k = length-set (set w p (code_word k)) (p + 1) (value_word k) ∙ length-set w p (code_word k)
content_long w p (Typed d) k = length-set w p (value_word k)
content_long w p SecondHalf k = refl

-- the rows of look and set
abbrev plain_rows : Types → Model → ℕ → ℕ → List (Option Refusal)
plain_rows t b h i = row_2 (h ∷ []) ∷ row_3 true (reading b) (h ∷ []) ∷ row_6 (reading b) h ∷ row_8 t (reading b) h i ∷ row_9 plain t (reading b) h i ∷ []

plain_found : (t : Types) (b : Model) (h i : ℕ) → first_due (plain_rows t b h i) ≡ None → (f : Found t b h i) × (class_of t (code_of b.cells f.found) (suc (i - 1)) ≡ Plain)
plain_found t b h i due =
    let rows = nones (plain_rows t b h i) due in
    let f = find t b h i rows.1.1.0 rows.1.1.1.0 in
    (f, plain_only _ (class_found t b h i plain f rows.1.1.1.1.0))

-- the rows of put and fetch
abbrev pair_rows : (Class → Bool) → Types → Model → ℕ → ℕ → ℕ → List (Option Refusal)
pair_rows right t b h i g = shared t b h i g ++ (row_9 right t (reading b) h i ∷ [])

module _ (t : Types) (b : Model) (w w' : List ℕ) (rs rs' : List HoldRecord) (a : Result Answer Refusal) (law : Lawful t) (st : Stands t b w rs) (sixty-four : length b.holds ≡ 64) where
  place_found : (h i : ℕ) (f : Found t b h i) → place_at rs h i ≡ address_of b.cells f.found + (i - 1)
  place_found h i f = ap (λ x. x + (i - 1)) (address_there t b w rs st.agrees h f.found f.in_hold)

  look_done : (h i x : ℕ) (f : Found t b h i) → class_of t (code_of b.cells f.found) (suc (i - 1)) ≡ Plain → a ≡ Ok (Number x) → cell_due t b (Look h i) ≡ None → x ≡ get_or w (place_at rs h i) 0 → w' ≡ w → rs' ≡ rs → CellSim t b (Look h i) w a w' rs'
  look_done h i x f class is due reads words records =
      let has : word_of b.cells f.found (i - 1) ≡ number x =
      look_agree t b w rs f.found (i - 1) st.agrees (root (h, f.in_hold)) f.within class
      ∙ ap number (sym (reads ∙ ap (λ q. get_or w q 0) (place_found h i f))) in
      accepted_sim t b (Look h i) w w' rs rs' a st sixty-four b (is ∙ rw (f.in_hold, has)) due (rw is) (rw (words, records) st) (ap length words) sixty-four

  sim_look : (h i : ℕ) → CellStep t (Look h i) w rs a w' rs' → CellSim t b (Look h i) w a w' rs'
  sim_look h i (words, records, step) =
      answers_sim t b (Look h i) w w' rs rs' a st sixty-four Number _ _ _ step.result step.is step.related
      (plain_table t b w rs st.agrees h i) (λ _. (words, records))
      (λ x is due reads. let p = plain_found t b h i due in look_done h i x p.0 p.1 is due reads words records)

  set_done : (h i x : ℕ) (f : Found t b h i) → class_of t (code_of b.cells f.found) (suc (i - 1)) ≡ Plain → a ≡ Ok Done → cell_due t b (Set h i x) ≡ None → w' ≡ set w (place_at rs h i) x → rs' ≡ rs → CellSim t b (Set h i x) w a w' rs'
  set_done h i x f class is due words records =
      accepted_sim t b (Set h i x) w w' rs rs' a st sixty-four (with_word b f.found (i - 1) (number x)) is due (rw (is, f.in_hold))
      (rw (records, words, place_found h i f) (set_stands t b w rs f.found (i - 1) x law (root (h, f.in_hold)) f.within class st))
      (ap length words ∙ length-set w (place_at rs h i) x) sixty-four

  sim_set : (h i x : ℕ) → CellStep t (Set h i x) w rs a w' rs' → CellSim t b (Set h i x) w a w' rs'
  sim_set h i x (records, step) =
      answers_sim t b (Set h i x) w w' rs rs' a st sixty-four done _ _ _ step.result step.is step.related
      (plain_table t b w rs st.agrees h i) (λ words. (words, records))
      (λ u is due words. let p = plain_found t b h i due in set_done h i x p.0 p.1 is due words records)

  put_done : (h i g : ℕ) (f : Found t b h i) (y : Value) → hold_of b g ≡ held y → takes (reading b g) (class_of t (code_of b.cells f.found) (suc (i - 1))) ≡ true → a ≡ Ok Done → cell_due t b (Put h i g) ≡ None → w' ≡ with_content w (place_at rs h i) (class_of t (code_at rs h) i) (at rs g).content → rs' ≡ rs → CellSim t b (Put h i g) w a w' rs'
  put_done h i g f y has right is due words records =
      let right-value : takes (has_value b.cells y) (class_of t (code_of b.cells f.found) (suc (i - 1))) ≡ true = rw has at right in
      let written : w' ≡ with_content w (address_of b.cells f.found + (i - 1)) (class_of t (code_of b.cells f.found) (suc (i - 1))) (shown b.cells y) =
      words ∙ rw (address_there t b w rs st.agrees h f.found f.in_hold, code_there t b w rs st.agrees h f.found f.in_hold, content_there t b w w' rs rs' a st sixty-four g y has, f.next) in
      accepted_sim t b (Put h i g) w w' rs rs' a st sixty-four (with_word b f.found (i - 1) (value y)) is due (rw (is, f.in_hold, has))
      (rw (records, written) (put_stands t b w rs g f.found (i - 1) y law (root (h, f.in_hold)) f.within has right-value st))
      (ap length words ∙ content_long w _ _ _) sixty-four

  sim_put : (h i g : ℕ) → CellStep t (Put h i g) w rs a w' rs' → CellSim t b (Put h i g) w a w' rs'
  sim_put h i g (records, step) =
      answers_sim t b (Put h i g) w w' rs rs' a st sixty-four done _ _ _ step.result step.is step.related
      (put_table t b w rs st.agrees h i g) (λ words. (words, records))
      (λ u is due words.
      let rows = nones (pair_rows (takes (reading b g)) t b h i g) due in
      let f = find t b h i rows.1.1.0 rows.1.1.1.0 in
      let has = (held_row b g [] (held_row b h (g ∷ []) rows.1.0).1).0 in
      put_done h i g f has.0 has.1 (class_found t b h i (takes (reading b g)) f rows.1.1.1.1.0) is due words records)

  fetch_done : (h i g : ℕ) (f : Found t b h i) (y : Value) (k : Content) → word_of b.cells f.found (i - 1) ≡ value y → k ≡ shown b.cells y → a ≡ Ok Done → cell_due t b (Fetch h i g) ≡ None → w' ≡ w → rs' ≡ set rs g (holding k) → CellSim t b (Fetch h i g) w a w' rs'
  fetch_done h i g f y k has same is due words records =
      accepted_sim t b (Fetch h i g) w w' rs rs' a st sixty-four (with_hold b g (held y)) is due (rw (is, f.in_hold, has))
      (rw (words, records, same) (fetch_stands t b w rs g f.found (i - 1) y (root (h, f.in_hold)) has st))
      (ap length words) (hold_count b g (held y) sixty-four)

  sim_fetch : (h i g : ℕ) → CellStep t (Fetch h i g) w rs a w' rs' → CellSim t b (Fetch h i g) w a w' rs'
  sim_fetch h i g (words, step) =
      answers_sim t b (Fetch h i g) w w' rs rs' a st sixty-four done _ _ _ step.result step.is step.related
      (fetch_table t b w rs st.agrees h i g) (λ records. (words, records))
      (λ u is due fetch.
      let rows = nones (pair_rows reference t b h i g) due in
      let f = find t b h i rows.1.1.0 rows.1.1.1.0 in
      let says = says_found t b w rs st.agrees h i f rows.1.1.1.1.0 in
      fetch_done h i g f says.0 fetch.0 says.1 (same_some fetch.0 (shown b.cells says.0) (sym fetch.1 ∙ says.2)) is due words fetch.2)

pub cell_sim : (t : Types) (b : Model) (c : CellCall) (w w' : List ℕ) (rs rs' : List HoldRecord) (a : Result Answer Refusal) → Lawful t → Stands t b w rs → length b.holds ≡ 64 → CellStep t c w rs a w' rs' → CellSim t b c w a w' rs'
cell_sim t b (Take h) w w' rs rs' a law st holds step = sim_take t b w w' rs rs' a st holds h step
cell_sim t b (Release h) w w' rs rs' a law st holds step = sim_release t b w w' rs rs' a st holds h step
cell_sim t b (Note h c x) w w' rs rs' a law st holds step = sim_note t b w w' rs rs' a st holds h c x step
cell_sim t b (Copy g h) w w' rs rs' a law st holds step = sim_copy t b w w' rs rs' a st holds g h step
cell_sim t b (Tell h) w w' rs rs' a law st holds step = sim_tell t b w w' rs rs' a st holds h step
cell_sim t b (Look h i) w w' rs rs' a law st holds step = sim_look t b w w' rs rs' a law st holds h i step
cell_sim t b (Set h i x) w w' rs rs' a law st holds step = sim_set t b w w' rs rs' a law st holds h i x step
cell_sim t b (Put h i g) w w' rs rs' a law st holds step = sim_put t b w w' rs rs' a law st holds h i g step
cell_sim t b (Fetch h i g) w w' rs rs' a law st holds step = sim_fetch t b w w' rs rs' a law st holds h i g step
