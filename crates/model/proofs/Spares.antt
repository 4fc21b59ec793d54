-- What a sweep and a survey mean, where the marks are those of the reached cells.
use Rattle.std.proofs.Common.{◌≡◌, ℕ, zero, suc, ◌+◌, ◌-◌, ◌<◌, ◌≤◌, cond, eqb, ◌⊎◌, List, [], ◌∷◌, length, get_or, drop, refl, subst, inl, inr, arith}
use Rattle.std.proofs.lemmas.Bool.{cases_eq, cases_lt, eq-eqb, ne_eqb}
use Rattle.layouts.specs.Types.{Types, Lawful}
use Rattle.calls.specs.declared.record.HoldRecord.{HoldRecord}
use Rattle.scan.specs.Marks.{IsMarked, unmarked}
use Rattle.scan.proofs.Inside.{inside_fits}
use Rattle.free_list.specs.Free.{Run, span}
use Rattle.sweeping.specs.Sweeping.{IsFree, Stretches, NoStart, Swept}
use Rattle.sweeping.specs.Room.{Room as MarkRoom}
use Rattle.model.specs.Sets.{Among, Distinct, Number}
use Rattle.model.specs.Model.{Model, code_of, address_of, Reached}
use Rattle.model.specs.Agrees.{Covers, Agrees}
use Rattle.model.specs.Spares.{Spare, SpareIn, Room, InRuns, Stands}
use Rattle.model.specs.MarksExactly.{MarksExactly}
use Rattle.model.proofs.Kept.{tidy_kept}

runs_free : (m : List ℕ) (e j : ℕ) (runs : List Run) → Stretches m e runs → InRuns j runs → IsFree m j
runs_free m e j [] st i = absurd i
runs_free m e j (span a s ∷ runs) st (inl i) = st.0.free j i.0 i.1
runs_free m e j (span a s ∷ runs) st (inr i) = runs_free m (a + s) j runs st.3 i

free_runs : (m : List ℕ) (e j : ℕ) (runs : List Run) → Stretches m e runs → e ≤ j → j < length m → IsFree m j → InRuns j runs
free_runs m e j [] st lo hi none = absurd (none (st j lo hi))
free_runs m e j (span a s ∷ runs) st lo hi none =
    elim (cases_lt j a) [
      | inl before ↦ absurd (none (st.2 j lo before))
      | inr le ↦
          elim (cases_lt j (a + s)) [ inl lt ↦ inl (le, lt) | inr past ↦ inr (free_runs m (a + s) j runs st.3 past hi none) ]
    ]

no_start : (m : List ℕ) (e j : ℕ) (runs : List Run) → Stretches m e runs → IsMarked m j → NoStart j runs
no_start m e j [] st one = tt
no_start m e j (span a s ∷ runs) st one =
    ((λ same. st.0.free j (omega arith) (omega (arith, st.0.some)) one), no_start m (a + s) j runs st.3 one)

-- the places from a on of the bytes that are not 1
places : ℕ → List ℕ → List ℕ
places a [] = []
places a (x ∷ xs) = cond (eqb x 1) (places (a + 1) xs) (a ∷ places (a + 1) xs)

Opens : ℕ → List ℕ → ℕ → Type 0
Opens a xs j = (i : ℕ) × (j ≡ a + i) × (i < length xs) × (get_or xs i 0 ≡ 1 → ⊥)

opens_more : (a x j : ℕ) (xs : List ℕ) → Opens (a + 1) xs j → Opens a (x ∷ xs) j
unfolding Opens
opens_more a x j xs o = (suc o.0, omega (arith, o.1), omega (arith, o.2), o.3)

places_open : (a j : ℕ) (xs : List ℕ) → Among j (places a xs) → Opens a xs j
unfolding places Opens
places_open a j [] h = absurd h
places_open a j (x ∷ xs) h =
    elim (cases_eq x 1) [
      | inl one ↦ opens_more a x j xs (places_open (a + 1) j xs (rw (eq-eqb x 1 one) at h))
      | inr none ↦
          let h' : (j ≡ a) ⊎ Among j (places (a + 1) xs) = rw (ne_eqb x 1 none) at h in
          elim h' [ inl e ↦ (0, omega arith, omega arith, none) | inr i ↦ opens_more a x j xs (places_open (a + 1) j xs i) ]
    ]

open_places : (a j i : ℕ) (xs : List ℕ) → j ≡ a + i → i < length xs → (get_or xs i 0 ≡ 1 → ⊥) → Among j (places a xs)
unfolding places
open_places a j i [] e lt none = absurd (omega arith)
open_places a j zero (x ∷ xs) e lt none = rw (ne_eqb x 1 none) (inl (omega arith))
open_places a j (suc i) (x ∷ xs) e lt none =
    let ih = open_places (a + 1) j i xs (omega arith) (omega arith) none in
    elim (cases_eq x 1) [ inl one ↦ rw (eq-eqb x 1 one) ih | inr other ↦ rw (ne_eqb x 1 other) (inr ih) ]

places_distinct : (a : ℕ) (xs : List ℕ) → Distinct (places a xs)
unfolding places Opens
places_distinct a [] = tt
places_distinct a (x ∷ xs) =
    elim (cases_eq x 1) [
      | inl one ↦ rw (eq-eqb x 1 one) (places_distinct (a + 1) xs)
      | inr none ↦ rw (ne_eqb x 1 none) ((λ h. omega (arith, (places_open (a + 1) a xs h).1)), places_distinct (a + 1) xs)
    ]

places_length : (a : ℕ) (xs : List ℕ) → length (places a xs) ≡ unmarked xs
unfolding places
places_length a [] = refl
places_length a (x ∷ xs) =
    let ih = places_length (a + 1) xs in
    elim (cases_eq x 1) [
      | inl one ↦ rw (eq-eqb x 1 one) (omega arith)
      | inr none ↦ rw (ne_eqb x 1 none) (omega arith)
    ]

module _ (t : Types) (b : Model) (m : List ℕ) (marks : MarksExactly t b.cells (Reached b) m) where
  -- a word is unmarked just if no reached cell has it
  pub free_spare : (j : ℕ) → IsFree m j → Spare t b j
  free_spare j none k r c = none (marks.complete k j r c)

  pub spare_free : (j : ℕ) → Spare t b j → IsFree m j
  spare_free j spare one = let c = marks.sound j one in spare c.0 c.1 c.2

  -- each word from 1 on is in a run or in a reached cell, and not in both
  pub split : (runs : List Run) → Stretches m 1 runs → (j : ℕ) → 1 ≤ j → j < length m → (InRuns j runs × Spare t b j) ⊎ ((InRuns j runs → ⊥) × ((k : ℕ) × Reached b k × Covers t b.cells k j))
  split runs st j lo hi =
      elim (cases_eq (get_or m j 0) 1) [
        | inl one ↦ inr ((λ i. runs_free m 1 j runs st i one), marks.sound j one)
        | inr none ↦ inl (free_runs m 1 j runs st lo hi none, free_spare j none)
      ]

  -- the marks have room just if there is room beside the reached cells
  pub room_from_marks : (n : ℕ) → MarkRoom m n → Room t b (length m) n
  room_from_marks n r = record { at = r.at; there = r.there; within = r.within; spare = λ j lo hi. free_spare j (r.free j lo hi) }

  pub room_in_marks : (n : ℕ) → Room t b (length m) n → MarkRoom m n
  room_in_marks n r = record { at = r.at; there = r.there; within = r.within; free = λ j lo hi. spare_free j (r.spare j lo hi) }

-- the unmarked bytes from word 1 on are as many as the words that no reached cell has
pub survey : (t : Types) (b : Model) (m : List ℕ) → MarksExactly t b.cells (Reached b) m → Number (SpareIn t b (length m)) (unmarked (drop 1 m))
unfolding Opens
survey t b [] marks = ([], record { distinct = tt; sound = λ j h. absurd h; complete = λ j s. absurd (omega (arith, s.0, s.1)) }, refl)
survey t b (x ∷ m) marks = (
  places 1 m,
  record {
    distinct = places_distinct 1 m;
    sound = λ j h.
        let o = places_open 1 j m h in
        let next : suc o.0 ≡ j = omega (arith, o.1) in
        (omega (arith, o.1), omega (arith, o.1, o.2), free_spare t b (x ∷ m) marks j (subst (λ z. IsFree (x ∷ m) z) next o.3));
    complete = λ j s.
        let none = spare_free t b (x ∷ m) marks j s.2 in
        let next : j ≡ suc (j - 1) = omega (arith, s.0) in
        open_places 1 j (j - 1) m (omega (arith, s.0)) (omega (arith, s.0, s.1)) (subst (λ z. IsFree (x ∷ m) z) next none);
  },
  places_length 1 m,
)

-- after a sweep by the marks of the reached cells, heap and model stand together, whatever the free list was
pub sweep_stands : (t : Types) (b : Model) (w m v : List ℕ) (rs : List HoldRecord) → Lawful t → Agrees t b w rs → MarksExactly t b.cells (Reached b) m → Swept w m v → Stands t b v rs
sweep_stands t b w m v rs law agrees marks swept =
    let kept : (k j : ℕ) → Reached b k → Covers t b.cells k j → get_or v j 0 ≡ get_or w j 0 = λ k j r c.
    let i = inside_fits t (length w) (code_of b.cells k) (address_of b.cells k) (agrees.tidy.inside k r) in
    swept.others j (omega (arith, i.high, c.0)) (no_start m 1 j swept.runs swept.stretches (marks.complete k j r c)) in
    record {
      agrees = record {
        held = agrees.held;
        kinds = agrees.kinds;
        tidy = tidy_kept t b.cells w v (Reached b) law swept.long kept agrees.tidy;
      };
      beside = record {
        runs = swept.runs;
        reads = swept.list;
        spare = λ j i. free_spare t b m marks j (runs_free m 1 j swept.runs swept.stretches i);
      };
    }
