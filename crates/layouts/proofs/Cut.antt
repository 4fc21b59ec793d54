-- Words that get no refusal follow the template rule: cut into templates, they are those templates written out.
use Rattle.std.proofs.Common.{◌≡◌, ℕ, zero, suc, ◌+◌, ◌-◌, ◌<◌, ◌≤◌, true, List, [], ◌∷◌, ◌++◌, map, length, get_or, take, drop, sym, refl, ap, ◌∙◌, subst, inl, inr, arith}
use Rattle.std.specs.List.{AllByRecursion}
use Rattle.std.proofs.lemmas.List.{length-map, length-take-le, length-drop, get_or-map, get_or-take, get_or-drop, drop_more, drop_all}
use Rattle.std.proofs.lemmas.Bool.Decides.{nat_tests}
use Rattle.std.proofs.lemmas.Bool.{cases_lt}
use Rattle.layouts.specs.declared.entry.Entry.{Entry}
use Rattle.layouts.specs.declared.entry.Entry.TheVariants.{Z, P, Code}
use Rattle.layouts.specs.Templates.{Template, word_of, in_a_row, Names, ZFirst, Entries, FollowsRule}
use Rattle.layouts.specs.Table.{due, begins, entry_of}
use Rattle.layouts.proofs.Due.{due_inside, due_next, begins_parts}
use Rattle.layouts.proofs.Sound.{Sound, said_pointer, said_code}
use Rattle.layouts.proofs.Stands.{Written, Stands, stands_short, stands_at, stands_has}

word_back : (w : ℕ) → word_of (entry_of w) ≡ w
word_back w = grind (arith, nat_tests)

-- the template that is read at word k
abbrev read_at : List ℕ → ℕ → Template
read_at ws k = map entry_of (take (get_or ws k 0) (drop (k + 1) ws))

-- the words cut into the templates that are read there, from word k to the end
abbrev Cuts : List ℕ → ℕ → List Template → Type 0
Cuts ws k [] = k ≡ length ws
Cuts ws k (es ∷ ts) = (k < length ws) × (due ws k ≡ 0) × (es ≡ read_at ws k) × Cuts ws (k + 1 + length es) ts

z_from : (es : Template) → 1 ≤ length es → get_or es 0 Z ≡ Z → ZFirst es
z_from [] h e = absurd (omega arith)
z_from (Z ∷ es) h e = tt
z_from (P ∷ es) h e = let z : ◌≡◌ {A = ℕ} 0 1 = cc in absurd (omega arith)
z_from (Code k ∷ es) h e = let z : ◌≡◌ {A = ℕ} 0 1 = cc in absurd (omega arith)

read_pointer : (w : ℕ) → entry_of w ≡ P → w ≡ 65536
read_pointer w e = grind (arith, nat_tests)

read_code : (w k : ℕ) → entry_of w ≡ Code k → (w ≡ k) × (w ≡ 65536 → ⊥) × (w ≡ 65537 → ⊥)
read_code w k e = (grind (arith, nat_tests), λ f. grind (arith, nat_tests), λ f. grind (arith, nat_tests))

-- words that are entries of a template, written out
row_of : (ws : List ℕ) (m : ℕ) (es : Template) → m + length es ≤ length ws → ((i : ℕ) → i < length es → get_or ws (m + i) 0 ≡ word_of (get_or es i Z)) → drop m ws ≡ map word_of es ++ drop (m + length es) ws
row_of ws m [] h e = let z : m + 0 ≡ m = omega arith in rw z
row_of ws m (x ∷ es) h e =
    let z : m + 0 ≡ m = omega arith in
    let first : get_or ws m 0 ≡ word_of x = subst (λ (j : ℕ). get_or ws j 0 ≡ word_of x) z (e 0 (omega arith)) in
    let rest = row_of ws (m + 1) es (omega arith) (λ i l.
    let s : m + suc i ≡ m + 1 + i = omega arith in subst (λ (j : ℕ). get_or ws j 0 ≡ word_of (get_or es i Z)) s (e (suc i) (omega arith))) in
    let t : m + 1 + length es ≡ m + suc (length es) = omega arith in
    drop_more ws m 0 (omega arith) ∙ ap (λ w. w ∷ drop (m + 1) ws) first ∙ ap (λ (xs : List ℕ). word_of x ∷ xs) (rest ∙ ap (λ (j : ℕ). map word_of es ++ drop j ws) t)

-- es are the entries that are read from word m on, the last ones of a template
record Rest (ws : List ℕ) (m : ℕ) (es : Template) : Type 0 where
  ends : m + length es ≤ length ws
  reads : (i : ℕ) → i < length es → get_or es i Z ≡ entry_of (get_or ws (m + i) 0)
  dues : (i : ℕ) → i < length es → due ws (m + i) ≡ length es - i

rest_head : (ws : List ℕ) (m : ℕ) (e : Entry) (es : Template) → Rest ws m (e ∷ es) → (m < length ws) × (entry_of (get_or ws m 0) ≡ e) × (due ws m ≡ suc (length es))
rest_head ws m e es r =
    let z : m + 0 ≡ m = omega arith in
    let ends = r.ends in (
      omega arith,
      sym (subst (λ (j : ℕ). e ≡ entry_of (get_or ws j 0)) z (r.reads 0 (omega arith))),
      subst (λ (j : ℕ). due ws j ≡ suc (length es) - 0) z (r.dues 0 (omega arith)) ∙ omega arith,
    )

rest_tail : (ws : List ℕ) (m : ℕ) (e : Entry) (es : Template) → Rest ws m (e ∷ es) → Rest ws (m + 1) es
rest_tail ws m e es r = let ends = r.ends in record {
  ends = omega arith;
  reads = λ i l. let t : m + suc i ≡ m + 1 + i = omega arith in
      subst (λ (j : ℕ). get_or es i Z ≡ entry_of (get_or ws j 0)) t (r.reads (suc i) (omega arith));
  dues = λ i l. let t : m + suc i ≡ m + 1 + i = omega arith in
      subst (λ (j : ℕ). due ws j ≡ length es - i) t (r.dues (suc i) (omega arith) ∙ omega arith);
}

module _ (ws : List ℕ) (s : Sound ws) where
  read_length : (k : ℕ) → k < length ws → due ws k ≡ 0 → length (read_at ws k) ≡ get_or ws k 0
  read_length k h d =
      let z = s.sizes k h d in
      let a = length-drop (k + 1) ws in
      length-map (take (get_or ws k 0) (drop (k + 1) ws)) entry_of ∙ length-take-le (get_or ws k 0) (drop (k + 1) ws) (omega arith)

  read_entry : (k : ℕ) → k < length ws → due ws k ≡ 0 → (i : ℕ) → i < length (read_at ws k) → get_or (read_at ws k) i Z ≡ entry_of (get_or ws (k + 1 + i) 0)
  read_entry k h d i l =
      let n = read_length k h d in
      let t = length-map (take (get_or ws k 0) (drop (k + 1) ws)) entry_of in
      get_or-map entry_of (take (get_or ws k 0) (drop (k + 1) ws)) i 0 Z (omega arith)
      ∙ ap entry_of (get_or-take (get_or ws k 0) (drop (k + 1) ws) i 0 (omega arith) ∙ get_or-drop (k + 1) ws i 0)

  cut : (fuel k : ℕ) → length ws ≤ k + fuel → k ≤ length ws → due ws k ≡ 0 → (ts : List Template) × Cuts ws k ts
  cut zero k f h d = ([], omega arith)
  cut (suc fuel) k f h d = elim (cases_lt k (length ws)) [
    | inl l ↦ (let z = s.sizes k l d in
        let n = read_length k l d in
        let e = sym n in
        let next : due ws (k + 1 + length (read_at ws k)) ≡ 0 = subst (λ (m : ℕ). due ws (k + 1 + m) ≡ 0) e (due_next ws k d) in
        let r = cut fuel (k + 1 + length (read_at ws k)) (omega arith) (omega arith) next in
        (read_at ws k ∷ r.0, (l, d, refl, r.1)))
    | inr l ↦ ([], omega arith)
  ]

  written : (k : ℕ) → k < length ws → due ws k ≡ 0 → Written ws k (read_at ws k)
  written k h d = record {
    size = sym (read_length k h d);
    words = λ i l. sym (ap word_of (read_entry k h d i l) ∙ word_back (get_or ws (k + 1 + i) 0));
  }

  cuts_stand : (k : ℕ) (ts : List Template) → Cuts ws k ts → Stands ws k ts
  cuts_stand k [] c = c
  cuts_stand k (es ∷ ts) c =
      (subst (λ (x : Template). Written ws k x) (sym c.2) (written k c.0 c.1), cuts_stand (k + 1 + length es) ts c.3)

  stand_out : (k : ℕ) (ts : List Template) → Stands ws k ts → drop k ws ≡ in_a_row ts
  stand_out k [] e = drop_all k ws (omega arith)
  stand_out k (es ∷ ts) w =
      let short = stands_short ws (k + 1 + length es) ts w.1 in
      drop_more ws k 0 (omega arith)
      ∙ ap (λ n. n ∷ drop (k + 1) ws) w.0.size
      ∙ ap (λ (xs : List ℕ). length es ∷ xs) (row_of ws (k + 1) es short w.0.words ∙ ap (λ (xs : List ℕ). map word_of es ++ xs) (stand_out (k + 1 + length es) ts w.1))

  cuts_small : (k : ℕ) (ts : List Template) → Cuts ws k ts → AllByRecursion (λ es. length es ≤ 255) ts
  cuts_small k [] c = tt
  cuts_small k (es ∷ ts) c =
      let z = s.sizes k c.0 c.1 in
      let n = ap length c.2 ∙ read_length k c.0 c.1 in
      (omega arith, cuts_small (k + 1 + length es) ts c.3)

  module _ (names : ℕ → Type 0) (named : (k : ℕ) → begins ws k ≡ true → 1 ≤ get_or ws k 0 → names k) where
    entries_from : (m : ℕ) (es : Template) → Rest ws m es → Entries names es
    entries_from m [] r = tt
    entries_from m (Z ∷ es) r = entries_from (m + 1) es (rest_tail ws m Z es r)
    entries_from m (P ∷ es) r =
        let f = rest_head ws m P es r in
        let n = f.2 in
        let q = said_pointer ws m (s.entries m f.0 (omega arith)) (read_pointer (get_or ws m 0) f.1) in
        let two = q.0 in
        let some : 1 ≤ length es = omega arith in
        (z_from es some (r.reads 1 (omega arith) ∙ ap entry_of q.1), entries_from (m + 1) es (rest_tail ws m P es r))
    entries_from m (Code k ∷ es) r =
        let f = rest_head ws m (Code k) es r in
        let n = f.2 in
        let w = read_code (get_or ws m 0) k f.1 in
        let q = said_code ws m (s.entries m f.0 (omega arith)) w.1 w.2 in
        (named k (subst (λ (j : ℕ). begins ws j ≡ true) w.0 q.0) (subst (λ (j : ℕ). 1 ≤ get_or ws j 0) w.0 q.1), entries_from (m + 1) es (rest_tail ws m (Code k) es r))

    read_entries : (k : ℕ) → k < length ws → due ws k ≡ 0 → Entries names (read_at ws k)
    read_entries k h d =
        let z = s.sizes k h d in
        let n = read_length k h d in
        entries_from (k + 1) (read_at ws k) (record {
          ends = omega arith;
          reads = read_entry k h d;
          dues = λ i l. let t : k + (1 + i) ≡ k + 1 + i = omega arith in
              subst (λ (j : ℕ). due ws j ≡ length (read_at ws k) - i) t (due_inside ws k (1 + i) d (omega arith) (omega arith) ∙ omega arith);
        })

    cuts_entries : (k : ℕ) (ts : List Template) → Cuts ws k ts → AllByRecursion (Entries names) ts
    cuts_entries k [] c = tt
    cuts_entries k (es ∷ ts) c =
        (subst (Entries names) (sym c.2) (read_entries k c.0 c.1), cuts_entries (k + 1 + length es) ts c.3)

  none_due : due ws 1 ≡ 0
  none_due = s.head

  pub sound_rule : FollowsRule ws
  sound_rule =
      let some = s.some in
      let c = cut (length ws) 1 (omega arith) some none_due in
      let stands = cuts_stand 1 c.0 c.1 in
      let named : (k : ℕ) → begins ws k ≡ true → 1 ≤ get_or ws k 0 → Names c.0 k =
      (λ k b n. let p = begins_parts ws k b in
      let t = stands_has ws 1 c.0 none_due stands k p.0 p.1 p.2 in
      let a = stands_at ws 1 c.0 none_due stands k t.0 t.1 in
      let z = a.1.written.size in
      (t.0, t.1, omega arith)) in
      record {
        templates = c.0;
        written = drop_more ws 0 0 some ∙ ap (λ n. n ∷ drop 1 ws) s.head ∙ ap (λ (xs : List ℕ). 0 ∷ xs) (stand_out 1 c.0 stands);
        short = s.short;
        small = cuts_small 1 c.0 c.1;
        entries = cuts_entries (Names c.0) named 1 c.0 c.1;
      }
