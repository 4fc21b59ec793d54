-- What a visit adds to the rows of a tally, and visits one after the other.
use Rattle.std.proofs.Common.{◌≡◌, ℕ, zero, suc, ◌+◌, ◌^◌, ◌<◌, ◌≤◌, Bool, true, false, cond, ◌||◌, eqb, ◌⊎◌, List, [], ◌∷◌, length, get_or, set, replicate, Some, None, sym, refl, ap, ◌∙◌, subst, add-zero, arith, length-set, ne_eqb, eqb-true}
use borrow.Author.Tests.{eqb-false}
use Rattle.std.proofs.lemmas.Bool.Decides.{nat_tests}
use Rattle.scan.specs.Visits.{Visit, holds, then_holds}
use Rattle.inspectors.specs.declared.tally.Row.{Row}
use Rattle.inspectors.specs.declared.tally.Tally.{Tally}
use Rattle.inspectors.specs.Tallies.{serves, place, blank, counted, takes, tally_step, empty}
use Rattle.inspectors.specs.Counts.{in_row, cells_of, words_of, in_use, also, also_seen, Full, Counts}
use Rattle.inspectors.proofs.Made.{refused_none, none_refused}

-- rows that count nothing
abbrev Idle : List Row → Type 0
Idle [] = Unit {0}
Idle (r ∷ rs) = (r.cells ≡ 0) × (r.words ≡ 0) × Idle rs

-- the rows in use come first
abbrev Sound : List Row → Type 0
Sound [] = Unit {0}
Sound (r ∷ rs) = (r.cells ≡ 0 → Idle (r ∷ rs)) × Sound rs

-- the rows with one cell more, of n words
abbrev bumped : ℕ → ℕ → List Row → List Row
bumped code n [] = []
bumped code n (r ∷ rs) = cond (serves code r) (counted code n r ∷ rs) (r ∷ bumped code n rs)

set_first : (code n : ℕ) (r : Row) (rs : List Row) (b : Bool) (p : ℕ) → set (r ∷ rs) (cond b 0 (suc p)) (counted code n (get_or (r ∷ rs) (cond b 0 (suc p)) blank)) ≡ cond b (counted code n r ∷ rs) (r ∷ set rs p (counted code n (get_or rs p blank)))
set_first code n r rs true p = refl
set_first code n r rs false p = refl

set_bumped : (code n : ℕ) (rows : List Row) → set rows (place code rows) (counted code n (get_or rows (place code rows) blank)) ≡ bumped code n rows
set_bumped code n [] = refl
set_bumped code n (r ∷ rs) = set_first code n r rs (serves code r) (place code rs) ∙ ap (λ l. cond (serves code r) (counted code n r ∷ rs) (r ∷ l)) (set_bumped code n rs)

used : (n : ℕ) → eqb (n + 1) 0 ≡ false
used n = ne_eqb (n + 1) 0 (λ e. omega arith)

idle_codes : (rows : List Row) → Idle rows → in_use rows ≡ []
idle_codes [] h = refl
idle_codes (r ∷ rs) h = grind (arith, nat_tests, h.0)

-- what is read of a row: nothing where it counts nothing
module _ (f : Row → ℕ) (none : (r : Row) → r.cells ≡ 0 → r.words ≡ 0 → f r ≡ 0) (c : ℕ) where
  idle_none : (rows : List Row) → Idle rows → in_row f c rows ≡ 0
  idle_none [] h = refl
  idle_none (r ∷ rs) h = let x = none r h.0 h.1 in let y = idle_none rs h.2 in grind (arith, nat_tests)

  at_first : (r : Row) (rs : List Row) (e z : Bool) → eqb r.code c ≡ e → eqb r.cells 0 ≡ z → Sound (r ∷ rs) → f (get_or rs (place c rs) blank) ≡ in_row f c rs → f (get_or (r ∷ rs) (cond (e || z) 0 (suc (place c rs))) blank) ≡ cond e (f r) (in_row f c rs)
  at_first r rs true z p q s ih = refl
  at_first r rs false true p q s ih = let i = s.0 (eqb-true _ _ q) in none r i.0 i.1 ∙ sym (idle_none rs i.2)
  at_first r rs false false p q s ih = ih

  pub at_place : (rows : List Row) → Sound rows → f (get_or rows (place c rows) blank) ≡ in_row f c rows
  at_place [] s = none blank refl refl
  at_place (r ∷ rs) s = at_first r rs _ _ refl refl s (at_place rs s.1)

same_code : (a code c x y k : ℕ) → a ≡ code → cond (eqb code c) (y + k) x ≡ cond (eqb a c) y x + cond (eqb code c) k 0
same_code a code c x y k e = grind (arith, nat_tests)

no_code : (a code c x y k : ℕ) → y ≡ 0 → x ≡ 0 → cond (eqb code c) (y + k) x ≡ cond (eqb a c) y x + cond (eqb code c) k 0
no_code a code c x y k e g = grind (arith, nat_tests)

other_code : (a code c x w y k : ℕ) → eqb a code ≡ false → w ≡ x + cond (eqb code c) k 0 → cond (eqb a c) y w ≡ cond (eqb a c) y x + cond (eqb code c) k 0
other_code a code c x w y k e g = grind (arith, nat_tests)

module _ (code n : ℕ) where
  module _ (f : Row → ℕ) (none : (r : Row) → r.cells ≡ 0 → r.words ≡ 0 → f r ≡ 0) (k : ℕ) (more : (r : Row) → f (counted code n r) ≡ f r + k) (c : ℕ) where
    added_first : (r : Row) (rs : List Row) (e z : Bool) → eqb r.code code ≡ e → eqb r.cells 0 ≡ z → Sound (r ∷ rs)
        → (place code rs < length rs → in_row f c (bumped code n rs) ≡ in_row f c rs + cond (eqb code c) k 0)
        → cond (e || z) 0 (suc (place code rs)) < suc (length rs)
        → in_row f c (cond (e || z) (counted code n r ∷ rs) (r ∷ bumped code n rs)) ≡ in_row f c (r ∷ rs) + cond (eqb code c) k 0
    added_first r rs true z p q s ih h = ap (λ y. cond (eqb code c) y (in_row f c rs)) (more r) ∙ same_code r.code code c (in_row f c rs) (f r) k (eqb-true _ _ p)
    added_first r rs false true p q s ih h =
        let i = s.0 (eqb-true _ _ q) in
        ap (λ y. cond (eqb code c) y (in_row f c rs)) (more r) ∙ no_code r.code code c (in_row f c rs) (f r) k (none r i.0 i.1) (idle_none f none c rs i.2)
    added_first r rs false false p q s ih h = other_code r.code code c (in_row f c rs) (in_row f c (bumped code n rs)) (f r) k p (ih (omega arith))

    added : (rows : List Row) → Sound rows → place code rows < length rows → in_row f c (bumped code n rows) ≡ in_row f c rows + cond (eqb code c) k 0
    added [] s h = absurd (omega arith)
    added (r ∷ rs) s h = added_first r rs _ _ refl refl s (added rs s.1) h

  sound_first : (r : Row) (rs : List Row) (e z : Bool) → eqb r.cells 0 ≡ z → Sound (r ∷ rs) → Sound (bumped code n rs) → Sound (cond (e || z) (counted code n r ∷ rs) (r ∷ bumped code n rs))
  sound_first r rs true z q s ih = (λ x. absurd (omega arith), s.1)
  sound_first r rs false true q s ih = (λ x. absurd (omega arith), s.1)
  sound_first r rs false false q s ih = (λ x. absurd (eqb-false _ _ q x), ih)

  sound_bumped : (rows : List Row) → Sound rows → Sound (bumped code n rows)
  sound_bumped [] s = tt
  sound_bumped (r ∷ rs) s = sound_first r rs (eqb r.code code) _ refl s (sound_bumped rs s.1)

  new_code : (r : Row) (rs : List Row) → eqb r.cells 0 ≡ true → Sound (r ∷ rs) → in_use (counted code n r ∷ rs) ≡ also (in_use (r ∷ rs)) code
  new_code r rs q s =
      let i = s.0 (eqb-true _ _ q) in
      ap (λ b. cond b [] (code ∷ in_use rs)) (used r.cells) ∙ ap (λ l. code ∷ l) (idle_codes rs i.2) ∙ sym (ap (λ b. also (cond b [] (r.code ∷ in_use rs)) code) q)

  codes_first : (r : Row) (rs : List Row) (e z : Bool) → eqb r.code code ≡ e → eqb r.cells 0 ≡ z → Sound (r ∷ rs)
      → (place code rs < length rs → in_use (bumped code n rs) ≡ also (in_use rs) code)
      → cond (e || z) 0 (suc (place code rs)) < suc (length rs)
      → in_use (cond (e || z) (counted code n r ∷ rs) (r ∷ bumped code n rs)) ≡ also (in_use (r ∷ rs)) code
  codes_first r rs true true p q s ih h = new_code r rs q s
  codes_first r rs false true p q s ih h = new_code r rs q s
  codes_first r rs true false p q s ih h =
      ap (λ b. cond b [] (code ∷ in_use rs)) (used r.cells) ∙ ap (λ k. k ∷ in_use rs) (sym (eqb-true _ _ p)) ∙ sym (ap (λ b. cond b (r.code ∷ in_use rs) (r.code ∷ also (in_use rs) code)) p) ∙ sym (ap (λ b. also (cond b [] (r.code ∷ in_use rs)) code) q)
  codes_first r rs false false p q s ih h =
      ap (λ b. cond b [] (r.code ∷ in_use (bumped code n rs))) q ∙ ap (λ l. r.code ∷ l) (ih (omega arith)) ∙ sym (ap (λ b. cond b (r.code ∷ in_use rs) (r.code ∷ also (in_use rs) code)) p) ∙ sym (ap (λ b. also (cond b [] (r.code ∷ in_use rs)) code) q)

  codes_bumped : (rows : List Row) → Sound rows → place code rows < length rows → in_use (bumped code n rows) ≡ also (in_use rows) code
  codes_bumped [] s h = absurd (omega arith)
  codes_bumped (r ∷ rs) s h = codes_first r rs _ _ refl refl s (codes_bumped rs s.1) h

short : (rows : List Row) → length (in_use rows) ≤ length rows
short [] = omega arith
short (r ∷ rs) = let x = short rs in grind (arith, nat_tests)

past_first : (code : ℕ) (r : Row) (rs : List Row) (e z : Bool) → eqb r.code code ≡ e → eqb r.cells 0 ≡ z
    → (length rs ≤ place code rs → length rs < length (also (in_use rs) code))
    → suc (length rs) ≤ cond (e || z) 0 (suc (place code rs))
    → suc (length rs) < length (also (in_use (r ∷ rs)) code)
past_first code r rs true z p q ih h = absurd (omega arith)
past_first code r rs false true p q ih h = absurd (omega arith)
past_first code r rs false false p q ih h =
    let x : length rs < length (also (in_use rs) code) = ih (omega arith) in
    let is = ap (λ b. also (cond b [] (r.code ∷ in_use rs)) code) q ∙ ap (λ b. cond b (r.code ∷ in_use rs) (r.code ∷ also (in_use rs) code)) p in
    omega (arith, ap length is)

-- no row is left, just where the code is one more than there are rows
past : (code : ℕ) (rows : List Row) → length rows ≤ place code rows → length rows < length (also (in_use rows) code)
past code [] h = omega arith
past code (r ∷ rs) h = past_first code r rs _ _ refl refl (past code rs) h

room_first : (code : ℕ) (r : Row) (rs : List Row) (e z : Bool) → eqb r.code code ≡ e → eqb r.cells 0 ≡ z
    → (place code rs < length rs → length (also (in_use rs) code) ≤ length rs)
    → cond (e || z) 0 (suc (place code rs)) < suc (length rs)
    → length (also (in_use (r ∷ rs)) code) ≤ suc (length rs)
room_first code r rs true true p q ih h = omega (arith, ap (λ b. length (also (cond b [] (r.code ∷ in_use rs)) code)) q)
room_first code r rs false true p q ih h = omega (arith, ap (λ b. length (also (cond b [] (r.code ∷ in_use rs)) code)) q)
room_first code r rs true false p q ih h =
    let is = ap (λ b. also (cond b [] (r.code ∷ in_use rs)) code) q ∙ ap (λ b. cond b (r.code ∷ in_use rs) (r.code ∷ also (in_use rs) code)) p in
    omega (arith, ap length is, short rs)
room_first code r rs false false p q ih h =
    let x : length (also (in_use rs) code) ≤ length rs = ih (omega arith) in
    let is = ap (λ b. also (cond b [] (r.code ∷ in_use rs)) code) q ∙ ap (λ b. cond b (r.code ∷ in_use rs) (r.code ∷ also (in_use rs) code)) p in
    omega (arith, ap length is)

room : (code : ℕ) (rows : List Row) → place code rows < length rows → length (also (in_use rows) code) ≤ length rows
room code [] h = absurd (omega arith)
room code (r ∷ rs) h = room_first code r rs _ _ refl refl (room code rs) h

no_cells : (r : Row) → r.cells ≡ 0 → r.words ≡ 0 → r.cells ≡ 0
no_cells r h k = h

no_words : (r : Row) → r.cells ≡ 0 → r.words ≡ 0 → r.words ≡ 0
no_words r h k = k

-- a table of 32 rows, and a visit of a code that shows n words
module _ (code n : ℕ) (rows : List Row) (sound : Sound rows) (many : length rows ≡ 32) where
  abbrev Past : Type 0
  Past = (32 < length (also (in_use rows) code)) ⊎ ((2 ^ 32 ≤ in_row (λ r. r.cells) code rows + 1) ⊎ (2 ^ 32 ≤ in_row (λ r. r.words) code rows + n))

  refused_past : takes rows (place code rows) n ≡ false → Past
  refused_past h =
      let x = at_place (λ r. r.cells) no_cells code rows sound in let y = at_place (λ r. r.words) no_words code rows sound in
      let p = past code rows in grind (arith, nat_tests)

  past_refused : Past → takes rows (place code rows) n ≡ false
  past_refused h =
      let x = at_place (λ r. r.cells) no_cells code rows sound in let y = at_place (λ r. r.words) no_words code rows sound in
      let p = room code rows in grind (arith, nat_tests)

  made_within : takes rows (place code rows) n ≡ true → place code rows < length rows
  made_within h = grind (arith, nat_tests)

-- what holds of a tally that has counted visits since another
record Since (s : Tally) (vs : List Visit) (t : Tally) : Type 0 where
  sound : Sound t.rows
  many : length t.rows ≡ 32
  types : in_use t.rows ≡ also_seen (in_use s.rows) vs
  cells : (c : ℕ) → in_row (λ r. r.cells) c t.rows ≡ in_row (λ r. r.cells) c s.rows + cells_of c vs
  words : (c : ℕ) → in_row (λ r. r.words) c t.rows ≡ in_row (λ r. r.words) c s.rows + words_of c vs

-- one visit, and those after it
module _ (s t : Tally) (v : Visit) (vs : List Visit) (sound : Sound s.rows) (many : length s.rows ≡ 32)
    (rest : (u : Tally) → Sound u.rows → length u.rows ≡ 32 → holds tally_step u vs ≡ Some t → Since u vs t) where
  after_made : (u : Tally) → u.rows ≡ bumped v.code (length v.words) s.rows → length u.rows ≡ 32 → place v.code s.rows < length s.rows → holds tally_step u vs ≡ Some t → Since s (v ∷ vs) t
  after_made u is long within h =
      let so = subst Sound (sym is) (sound_bumped v.code (length v.words) s.rows sound) in
      let r = rest u so long h in
      record {
        sound = r.sound;
        many = r.many;
        types = r.types ∙ ap (λ ks. also_seen ks vs) (ap in_use is ∙ codes_bumped v.code (length v.words) s.rows sound within);
        cells = λ c. let one = ap (in_row (λ r. r.cells) c) is ∙ added v.code (length v.words) (λ r. r.cells) no_cells 1 (λ r. refl) c s.rows sound within in omega (arith, r.cells c, one);
        words = λ c. let one = ap (in_row (λ r. r.words) c) is ∙ added v.code (length v.words) (λ r. r.words) no_words (length v.words) (λ r. refl) c s.rows sound within in omega (arith, r.words c, one);
      }

  after : (b : Bool) (u : Tally) → takes s.rows (place v.code s.rows) (length v.words) ≡ b → u.rows ≡ bumped v.code (length v.words) s.rows → length u.rows ≡ 32 → then_holds (cond b (Some u) None) (λ w. holds tally_step w vs) ≡ Some t → Since s (v ∷ vs) t
  after true u e is long h = after_made u is long (made_within v.code (length v.words) s.rows sound many e) h
  after false u e is long h = let z : ◌≡◌ {A = ℕ} 0 1 = cc in absurd (omega arith)

since : (vs : List Visit) (s t : Tally) → Sound s.rows → length s.rows ≡ 32 → holds tally_step s vs ≡ Some t → Since s vs t
since [] s t sound many h =
    let e : s ≡ t = cc in
    subst (Since s []) e (record { sound = sound; many = many; types = refl; cells = λ c. sym (add-zero _); words = λ c. sym (add-zero _) })
since (v ∷ vs) s t sound many h =
    after s t v vs sound many (λ u so long g. since vs u t so long g) _ _ refl (set_bumped v.code (length v.words) s.rows) (length-set _ _ _ ∙ many) h

idle_blank : (k : ℕ) → Idle (replicate k blank)
idle_blank zero = tt
idle_blank (suc k) = (refl, refl, idle_blank k)

sound_blank : (k : ℕ) → Sound (replicate k blank)
sound_blank zero = tt
sound_blank (suc k) = (λ e. idle_blank (suc k), sound_blank k)

-- a tally that has counted visits since it was empty
module _ (vs : List Visit) (t : Tally) (r : Since empty vs t) where
  counted_cells : (c : ℕ) → in_row (λ r. r.cells) c t.rows ≡ cells_of c vs
  counted_cells c = omega (arith, r.cells c, idle_none (λ r. r.cells) no_cells c empty.rows (idle_blank 32))

  counted_words : (c : ℕ) → in_row (λ r. r.words) c t.rows ≡ words_of c vs
  counted_words c = omega (arith, r.words c, idle_none (λ r. r.words) no_words c empty.rows (idle_blank 32))

  refuses : (v : Visit) → (tally_step t v ≡ None → Full vs v) × (Full vs v → tally_step t v ≡ None)
  refuses v =
      let types = ap (λ ks. length (also ks v.code)) r.types in
      let cells = counted_cells v.code in let words = counted_words v.code in
      (λ e. let h = refused_past v.code (length v.words) t.rows r.sound r.many (refused_none _ _ e) in grind arith, λ f. let h : Past v.code (length v.words) t.rows r.sound r.many = grind arith in none_refused _ _ (past_refused v.code (length v.words) t.rows r.sound r.many h))

pub counts_empty : Counts empty
counts_empty vs t h =
    let r = since vs empty t (sound_blank 32) refl h in
    ((r.types, λ c. (counted_cells vs t r c, counted_words vs t r c)), refuses vs t r)

pub counts_none : (s : Tally) → s ≡ empty → Counts s
counts_none s is = subst Counts (sym is) counts_empty
