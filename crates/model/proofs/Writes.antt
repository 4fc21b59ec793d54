-- A word of a reached cell gets another content.
use Rattle.std.proofs.Common.{◌≡◌, ℕ, suc, ◌<◌, ◌⊎◌, List, map, length, get_or, set, sym, ap, ◌∙◌, subst, inl, inr, arith, length-set}
use mathlib.Core.Path.{fun_ext}
use Rattle.std.proofs.lemmas.Bool.{cases_eq, cases_lt}
use Rattle.std.proofs.lemmas.List.{get_or-set_same, get_or-set_other, get_or_past}
use Rattle.layouts.specs.Types.{Types, Lawful}
use Rattle.calls.specs.declared.record.HoldRecord.{HoldRecord}
use Rattle.scan.specs.Children.{width}
use Rattle.scan.proofs.Inside.{Inside, inside_fits}
use Rattle.model.specs.Model.{Model, Made, Word, second, value, cell, unmade, made, code_of, address_of, word_of, From, root, word, InHolds, Reached}
use Rattle.model.specs.Said.{said, shown_word}
use Rattle.model.specs.Agrees.{Covers, Agrees}
use Rattle.model.specs.Told.{written, with_word}
use Rattle.model.specs.Spares.{Beside, Stands}
use Rattle.model.proofs.Laws.{no_width}
use Rattle.model.proofs.Kept.{said_same, shown_word_same, shown_hold_same, free_kept}

-- a cell that has words was made
pub was_made : (t : Types) (cs : List Made) (k : ℕ) → Lawful t → 0 < width t (code_of cs k) → k < length cs
was_made t cs k law some =
    elim (cases_lt k (length cs)) [
      | inl lt ↦ lt
      | inr past ↦
          let z : width t (code_of cs k) ≡ 0 = ap (λ (r : Made). width t r.code) (get_or_past cs k unmade past) ∙ no_width t law in
          absurd (omega arith)
    ]

module _ (t : Types) (b : Model) (w : List ℕ) (rs : List HoldRecord) (law : Lawful t) (st : Stands t b w rs) (k j : ℕ) (x : Word) (rk : Reached b k) (lt : j < width t (code_of b.cells k)) (new : (l : ℕ) → x ≡ value (cell l) → Reached b l) where
  ag : Agrees t b w rs
  ag = st.agrees

  abbrev pub cs : List Made
  cs = b.cells

  abbrev pub cs' : List Made
  cs' = written cs k j x

  lies : Inside t (length w) (code_of cs k) (address_of cs k)
  lies = inside_fits t (length w) (code_of cs k) (address_of cs k) (ag.tidy.inside k rk)

  made_here : made cs' k ≡ record { code = code_of cs k; address = address_of cs k; words = set (made cs k).words j x }
  made_here = get_or-set_same cs k _ unmade (was_made t cs k law lies.some)

  made_other : (l : ℕ) → (l ≡ k → ⊥) → made cs' l ≡ made cs l
  made_other l other = get_or-set_other cs k l _ unmade other

  code_same : (l : ℕ) → code_of cs' l ≡ code_of cs l
  code_same l =
      elim (cases_eq l k) [
        | inl same ↦ rw same (ap (λ (r : Made). r.code) made_here)
        | inr other ↦ ap (λ (r : Made). r.code) (made_other l other)
      ]

  address_same : (l : ℕ) → address_of cs' l ≡ address_of cs l
  address_same l =
      elim (cases_eq l k) [
        | inl same ↦ rw same (ap (λ (r : Made). r.address) made_here)
        | inr other ↦ ap (λ (r : Made). r.address) (made_other l other)
      ]

  word_here : word_of cs' k j ≡ x
  word_here = ap (λ (r : Made). get_or r.words j second) made_here ∙ get_or-set_same (made cs k).words j x second (omega (arith, ag.tidy.sized k rk))

  word_other : (l i : ℕ) → (l ≡ k → i ≡ j → ⊥) → word_of cs' l i ≡ word_of cs l i
  word_other l i no-match =
      elim (cases_eq l k) [
        | inl same ↦ rw same (ap (λ (r : Made). get_or r.words i second) made_here ∙ get_or-set_other (made cs k).words j i x second (no-match same))
        | inr other ↦ ap (λ (r : Made). get_or r.words i second) (made_other l other)
      ]

  -- what is reached now was reached before
  pub reached : (l : ℕ) → From cs' (InHolds b.holds) l → From cs (InHolds b.holds) l
  reached l (root p) = root p
  reached l (word {k = k₁} i at e) = step (reached k₁ at) (cases_eq k₁ k) (cases_eq i j)
    where
      step : From cs (InHolds b.holds) k₁ → (k₁ ≡ k) ⊎ (k₁ ≡ k → ⊥) → (i ≡ j) ⊎ (i ≡ j → ⊥) → From cs (InHolds b.holds) l
      step before (inl same-k) (inl same-i) = new l (sym word_here ∙ (rw (same-k, same-i) at e))
      step before (inl same-k) (inr other) = word i before (sym (word_other k₁ i (λ p q. other q)) ∙ e)
      step before (inr other) c = word i before (sym (word_other k₁ i (λ p q. other p)) ∙ e)

  pub covers_same : (l q : ℕ) → Covers t cs' l q → Covers t cs l q
  covers_same l q c = (omega (arith, address_same l, c.0), omega (arith, address_same l, ap (width t) (code_same l), c.1))

  sized : (l : ℕ) → Reached b l → length (made cs' l).words ≡ width t (code_of cs l)
  sized l r =
      elim (cases_eq l k) [
        | inl same ↦ rw same (ap (λ (r : Made). length r.words) made_here ∙ length-set (made cs k).words j x ∙ ag.tidy.sized k rk)
        | inr other ↦ ap (λ (r : Made). length r.words) (made_other l other) ∙ ag.tidy.sized l r
      ]

  module _ (w' : List ℕ) (len : length w' ≡ length w) (kept : (q : ℕ) → (Covers t b.cells k q → ⊥) → get_or w' q 0 ≡ get_or w q 0) (here : said t w' (code_of b.cells k) (address_of b.cells k) (suc j) ≡ shown_word b.cells x) (others : (i : ℕ) → (i ≡ j → ⊥) → i < width t (code_of b.cells k) → said t w' (code_of b.cells k) (address_of b.cells k) (suc i) ≡ said t w (code_of b.cells k) (address_of b.cells k) (suc i)) where
    Says : ℕ → ℕ → Type 0
    Says l i = said t w' (code_of cs l) (address_of cs l) (suc i) ≡ shown_word cs (word_of cs' l i)

    says_here : (i : ℕ) → i < width t (code_of cs k) → Says k i
    unfolding Says
    says_here i lti =
        elim (cases_eq i j) [
          | inl same ↦ rw same (here ∙ ap (shown_word cs) (sym word_here))
          | inr other ↦ others i other lti ∙ ag.tidy.says k i rk lti ∙ ap (shown_word cs) (sym (word_other k i (λ p q. other q)))
        ]

    says : (l i : ℕ) → Reached b l → i < width t (code_of cs l) → Says l i
    unfolding Says
    says l i r lti =
        elim (cases_eq l k) [
          | inl same ↦ subst (λ z. Says z i) (sym same) (says_here i (rw same at lti))
          | inr other ↦
              said_same t w w' (code_of cs l) (address_of cs l) i law len lti (λ q lo hi. kept q (λ c. other (ag.tidy.apart l k q r rk (lo, hi) c))) ∙ ag.tidy.says l i r lti ∙ ap (shown_word cs) (sym (word_other l i (λ p q. other p)))
        ]

    write_agrees : Agrees t (with_word b k j x) w' rs
    unfolding Says
    write_agrees = record {
      held = ag.held ∙ ap (λ f. map f b.holds) (sym (fun_ext (λ y. shown_hold_same cs cs' y (λ l e. (code_same l, address_same l)))));
      kinds = ag.kinds;
      tidy = record {
        inside = λ l r. rw (code_same l, address_same l, len) (ag.tidy.inside l (reached l r));
        apart = λ l i q rl ri c d. ag.tidy.apart l i q (reached l rl) (reached i ri) (covers_same l q c) (covers_same i q d);
        sized = λ l r. sized l (reached l r) ∙ sym (ap (width t) (code_same l));
        says = λ l i r lti.
            ap (λ c. said t w' c (address_of cs' l) (suc i)) (code_same l) ∙ ap (λ a. said t w' (code_of cs l) a (suc i)) (address_same l) ∙ says l i (reached l r) (rw (code_same l) at lti) ∙ sym (shown_word_same cs cs' (word_of cs' l i) (λ h e. (code_same h, address_same h)));
      };
    }

    write_beside : Beside t (with_word b k j x) w'
    write_beside =
        let f = st.beside in
        record {
          runs = f.runs;
          reads = free_kept w w' 0 1 f.runs len (kept 0 (λ c. omega (arith, lies.high, c.0))) (λ q i. kept q (λ c. f.spare q i k rk c)) f.reads;
          spare = λ q i l r c. f.spare q i l (reached l r) (covers_same l q c);
        }

    pub write_stands : Stands t (with_word b k j x) w' rs
    write_stands = record { agrees = write_agrees; beside = write_beside }
