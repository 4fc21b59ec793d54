-- A new cell.
use Rattle.std.proofs.Common.{◌≡◌, ℕ, suc, ◌+◌, ◌<◌, ◌≤◌, true, ◌⊎◌, List, [], ◌∷◌, ◌++◌, map, length, get_or, set, sym, refl, ap, ◌∙◌, subst, inl, inr, arith}
use Rattle.std.specs.List.{range_with_len}
use Rattle.std.proofs.lemmas.List.FromFn.{length-map-range_with_len, get_or-map-range_with_len}
use Rattle.std.proofs.lemmas.Bool.{cases_lt}
use Rattle.std.proofs.lemmas.List.{get_or_append_left, get_or_past, get_or_push, map-set}
use Rattle.layouts.specs.declared.entry.Class.{Class}
use Rattle.layouts.specs.declared.entry.Class.TheVariants.{Plain, Pointer, Typed, SecondHalf}
use Rattle.layouts.specs.Types.{Types, Lawful}
use Rattle.layouts.specs.Classes.{class_of}
use Rattle.cells.specs.declared.content.Content.TheVariants.{Cell}
use Rattle.cells.specs.Words.{fits}
use Rattle.calls.specs.declared.record.HoldRecord.{HoldRecord}
use Rattle.calls.specs.Holds.{holding}
use Rattle.scan.specs.Children.{width}
use Rattle.scan.proofs.Inside.{inside_fits}
use Rattle.model.specs.Model.{Model, Made, Hold, free, held, Word, second, value, cell, immediate, unmade, made, code_of, address_of, word_of, shown_hold, root, word, Reached}
use Rattle.model.specs.Said.{plain, said_by, said, shown_word}
use Rattle.model.specs.Agrees.{Covers, Agrees}
use Rattle.model.specs.Told.{blank_word, blank, with_new}
use Rattle.model.proofs.Kept.{said_at, said_same, shown_word_same, shown_hold_same}
use Rattle.model.proofs.Holds.{hold_cases}
use Rattle.model.proofs.Writes.{was_made}

-- n words from a on are 0 in w', and those of the reached cells are as in w
pub record Cleared (t : Types) (b : Model) (w w' : List ℕ) (a n : ℕ) : Type 0 where
  pub long : length w' ≡ length w
  pub zero : (q : ℕ) → a ≤ q → q < a + n → get_or w' q 0 ≡ 0
  pub kept : (k q : ℕ) → Reached b k → Covers t b.cells k q → get_or w' q 0 ≡ get_or w q 0

map_same : (f g : Hold → HoldRecord) (hs : List Hold) → ((h : ℕ) → f (get_or hs h free) ≡ g (get_or hs h free)) → map f hs ≡ map g hs
map_same f g [] same = refl
map_same f g (x ∷ hs) same = let first : f x ≡ g x = same 0 in let others = map_same f g hs (λ h. same (suc h)) in cc

-- words of 0 say that there is nothing
blank_said : (t : Types) (cs : List Made) (w : List ℕ) (p : ℕ) (k : Class) → get_or w p 0 ≡ 0 → said_by t w p k ≡ shown_word cs (blank_word k)
blank_said t cs w p Plain zero_word = ap plain zero_word
blank_said t cs w p Pointer zero_word = rw zero_word
blank_said t cs w p (Typed c) zero_word = rw zero_word
blank_said t cs w p SecondHalf zero_word = refl

blank_no_cell : (k : Class) (l : ℕ) → blank_word k ≡ value (cell l) → ⊥
blank_no_cell Plain l e = cc
blank_no_cell Pointer l e = cc
blank_no_cell (Typed d) l e = cc
blank_no_cell SecondHalf l e = cc

module _ (t : Types) (b : Model) (w w' : List ℕ) (rs : List HoldRecord) (h c a : ℕ) (law : Lawful t) (ag : Agrees t b w rs) (inside : fits t (length w) c a ≡ true) (apart : (k q : ℕ) → Reached b k → Covers t b.cells k q → a ≤ q → q < a + width t c → ⊥) (cut : Cleared t b w w' a (width t c)) where
  abbrev pub cs : List Made
  cs = b.cells

  abbrev pub cs' : List Made
  cs' = cs ++ (blank t c a ∷ [])

  -- the number of the new cell
  abbrev pub new : ℕ
  new = length cs

  abbrev pub b' : Model
  b' = with_new t b h c a

  made_new : made cs' new ≡ blank t c a
  made_new = get_or_push cs (blank t c a) unmade new refl

  made_old : (k : ℕ) → Reached b k → made cs' k ≡ made cs k
  made_old k r = get_or_append_left cs (blank t c a ∷ []) unmade k (was_made t cs k law (inside_fits t (length w) (code_of cs k) (address_of cs k) (ag.tidy.inside k r)).some)

  same_place : (k : ℕ) → Reached b k → (code_of cs' k ≡ code_of cs k) × (address_of cs' k ≡ address_of cs k)
  same_place k r = (ap (λ (x : Made). x.code) (made_old k r), ap (λ (x : Made). x.address) (made_old k r))

  old_word : (k j : ℕ) → Reached b k → word_of cs' k j ≡ word_of cs k j
  old_word k j r = ap (λ (x : Made). get_or x.words j second) (made_old k r)

  abbrev new_content : ℕ → Word
  new_content j = blank_word (class_of t c (suc j))

  new_word : (j : ℕ) → j < width t c → word_of cs' new j ≡ new_content j
  new_word j lt = ap (λ (x : Made). get_or x.words j second) made_new ∙ get_or-map-range_with_len new_content 0 (width t c) j j second lt (omega arith)

  new_past : (j : ℕ) → width t c ≤ j → word_of cs' new j ≡ second
  new_past j le =
      ap (λ (x : Made). get_or x.words j second) made_new ∙ get_or_past (map new_content (range_with_len 0 (width t c))) j second (omega (arith, length-map-range_with_len new_content 0 (width t c)))

  no_edge : (j l : ℕ) → word_of cs' new j ≡ value (cell l) → ⊥
  no_edge j l e =
      elim (cases_lt j (width t c)) [
        | inl lt ↦ blank_no_cell (class_of t c (suc j)) l (sym (new_word j lt) ∙ e)
        | inr past ↦ let p = new_past j past in cc
      ]

  -- a cell that is reached now was reached before, or is the new one
  pub cases : (k : ℕ) → Reached b' k → Reached b k ⊎ (k ≡ new)
  cases k (root p) =
      elim (hold_cases b.holds h p.0 (held (cell k)) (held (cell new)) p.1) [ inl old ↦ inl (root (p.0, old)) | inr is ↦ inr cc ]
  cases k (word {k = k₁} j at e) =
      elim (cases k₁ at) [
        | inl r ↦ inl (word j r (sym (old_word k₁ j r) ∙ e))
        | inr same ↦ absurd (no_edge j k (subst (λ z. word_of cs' z j ≡ value (cell k)) same e))
      ]

  pub covers_old : (k q : ℕ) → Reached b k → Covers t cs' k q → Covers t cs k q
  covers_old k q r cov =
      let s = same_place k r in
      (omega (arith, s.1, cov.0), omega (arith, s.1, ap (width t) s.0, cov.1))

  pub covers_new : (k q : ℕ) → k ≡ new → Covers t cs' k q → (a ≤ q) × (q < a + width t c)
  covers_new k q same cov =
      let here : Covers t cs' new q = subst (λ z. Covers t cs' z q) same cov in
      let code : width t (code_of cs' new) ≡ width t c = ap (λ (x : Made). width t x.code) made_new in
      let at : address_of cs' new ≡ a = ap (λ (x : Made). x.address) made_new in
      (omega (arith, here.0), omega (arith, here.1))

  still_apart : (k l q : ℕ) → Reached b k ⊎ (k ≡ new) → Reached b l ⊎ (l ≡ new) → Covers t cs' k q → Covers t cs' l q → k ≡ l
  still_apart k l q (inl r) (inl s) ck cl = ag.tidy.apart k l q r s (covers_old k q r ck) (covers_old l q s cl)
  still_apart k l q (inl r) (inr same) ck cl =
      let n = covers_new l q same cl in absurd (apart k q r (covers_old k q r ck) n.0 n.1)
  still_apart k l q (inr same) (inl s) ck cl =
      let n = covers_new k q same ck in absurd (apart l q s (covers_old l q s cl) n.0 n.1)
  still_apart k l q (inr same) (inr also) ck cl = same ∙ sym also

  old_says : (k j : ℕ) → Reached b k → j < width t (code_of cs k) → said t w' (code_of cs k) (address_of cs k) (suc j) ≡ shown_word cs' (word_of cs k j)
  old_says k j r lt =
      said_same t w w' (code_of cs k) (address_of cs k) j law cut.long lt (λ q lo hi. cut.kept k q r (lo, hi)) ∙ ag.tidy.says k j r lt ∙ sym (shown_word_same cs cs' (word_of cs k j) (λ l e. same_place l (word j r e)))

  -- what is asked of each cell, by what was made
  Fine : Made → Type 0
  Fine x = (fits t (length w') x.code x.address ≡ true) × (length x.words ≡ width t x.code) × ((j : ℕ) → j < width t x.code → said t w' x.code x.address (suc j) ≡ shown_word cs' (get_or x.words j second))

  fine_old : (k : ℕ) → Reached b k → Fine (made cs k)
  unfolding Fine
  fine_old k r = (rw cut.long (ag.tidy.inside k r), ag.tidy.sized k r, λ j lt. old_says k j r lt)

  fine_new : Fine (blank t c a)
  unfolding Fine
  fine_new = (
    rw cut.long inside,
    length-map-range_with_len new_content 0 (width t c),
    λ j lt.
        said_at t w' c a j ∙ blank_said t cs' w' (a + j) (class_of t c (suc j)) (cut.zero (a + j) (omega arith) (omega arith)) ∙ ap (shown_word cs') (sym (get_or-map-range_with_len new_content 0 (width t c) j j second lt (omega arith))),
  )

  fine : (k : ℕ) → Reached b' k → Fine (made cs' k)
  fine k r =
      elim (cases k r) [
        | inl old ↦ subst Fine (sym (made_old k old)) (fine_old k old)
        | inr same ↦ subst Fine (sym (ap (made cs') same ∙ made_new)) fine_new
      ]

  -- a new cell, of words outside every reached cell
  pub make_agrees : Agrees t b' w' (set rs h (holding (Cell c a)))
  unfolding Fine
  make_agrees = record {
    held =
        ap (λ xs. set xs h (holding (Cell c a))) (ag.held ∙ map_same (shown_hold cs) (shown_hold cs') b.holds (λ i. sym (shown_hold_same cs cs' (get_or b.holds i free) (λ l e. same_place l (root (i, e))))))
        ∙ ap (λ r. set (map (shown_hold cs') b.holds) h (holding (Cell r.code r.address))) (sym made_new)
        ∙ sym (map-set (shown_hold cs') b.holds h (held (cell new)));
    kinds = λ i d x e. elim (hold_cases b.holds h i (held (immediate d x)) (held (cell new)) e) [
      | inl old ↦ ag.kinds i d x old
      | inr is ↦ absurd cc
    ];
    tidy = record {
      inside = λ k r. (fine k r).0;
      apart = λ k l q rk rl ck cl. still_apart k l q (cases k rk) (cases l rl) ck cl;
      sized = λ k r. (fine k r).1;
      says = λ k j r lt. (fine k r).2 j lt;
    };
  }
