-- Words that follow the template rule get no refusal, and mean what their templates mean.
use Rattle.std.proofs.Common.{◌≡◌, ℕ, zero, suc, ◌+◌, ◌-◌, ◌<◌, ◌≤◌, Bool, true, false, cond, ◌&&◌, leb, ◌⊎◌, List, [], ◌∷◌, length, get_or, Some, None, Option, sym, refl, ap, ◌∙◌, subst, inl, inr, arith}
use Rattle.std.proofs.lemmas.List.{get_or_past}
use Rattle.std.proofs.lemmas.Bool.Decides.{nat_tests}
use Rattle.std.proofs.lemmas.Bool.{cases_lt, cases_Bool, cond-true}
use Rattle.std.specs.Result.{result_err}
use Rattle.layouts.specs.declared.entry.Entry.{Entry}
use Rattle.layouts.specs.declared.entry.Entry.TheVariants.{Z, P, Code}
use Rattle.layouts.specs.Templates.{Template, word_of, template_at, Names, Entries, FollowsRule, size_in, entry_in, types_of}
use Rattle.layouts.specs.Table.{due, begins, entry_said, entry_of, table}
use Rattle.layouts.specs.Statements.{Same}
use Rattle.layouts.proofs.Due.{due_inside, begins_parts, begins_from}
use Rattle.layouts.proofs.Sound.{Sound, fine_z, fine_pointer, fine_code}
use Rattle.layouts.proofs.Stands.{At, Stands, stands_from, stands_at, stands_all, locate, stands_has}

-- an entry is Z, P or a code
kinds : (e : Entry) → (e ≡ Z) ⊎ ((e ≡ P) ⊎ ((k : ℕ) × (e ≡ Code k)))
kinds Z = inl refl
kinds P = inr (inl refl)
kinds (Code k) = inr (inr (k, refl))

z_next : (names : ℕ → Type 0) (es : Template) (i : ℕ) → Entries names es → i < length es → get_or es i Z ≡ P → (suc i < length es) × (get_or es (suc i) Z ≡ Z)
z_next names [] i r h e = absurd (omega arith)
z_next names (Z ∷ es) zero r h e = let z : ◌≡◌ {A = ℕ} 0 1 = cc in absurd (omega arith)
z_next names (P ∷ []) zero r h e = absurd r.0
z_next names (P ∷ Z ∷ es) zero r h e = (omega arith, refl)
z_next names (P ∷ P ∷ es) zero r h e = absurd r.0
z_next names (P ∷ Code k ∷ es) zero r h e = absurd r.0
z_next names (Code k ∷ es) zero r h e = let z : ◌≡◌ {A = ℕ} 0 1 = cc in absurd (omega arith)
z_next names (Z ∷ es) (suc i) r h e = let q = z_next names es i r (omega arith) e in (omega arith, q.1)
z_next names (P ∷ es) (suc i) r h e = let q = z_next names es i r.1 (omega arith) e in (omega arith, q.1)
z_next names (Code k ∷ es) (suc i) r h e = let q = z_next names es i r.1 (omega arith) e in (omega arith, q.1)

named_at : (names : ℕ → Type 0) (es : Template) (i k : ℕ) → Entries names es → i < length es → get_or es i Z ≡ Code k → names k
named_at names [] i k r h e = absurd (omega arith)
named_at names (Z ∷ es) zero k r h e = let z : ◌≡◌ {A = ℕ} 0 1 = cc in absurd (omega arith)
named_at names (P ∷ es) zero k r h e = let z : ◌≡◌ {A = ℕ} 0 1 = cc in absurd (omega arith)
named_at names (Code j ∷ es) zero k r h e = let s : j ≡ k = cc in subst names s r.0
named_at names (Z ∷ es) (suc i) k r h e = named_at names es i k r (omega arith) e
named_at names (P ∷ es) (suc i) k r h e = named_at names es i k r.1 (omega arith) e
named_at names (Code j ∷ es) (suc i) k r h e = named_at names es i k r.1 (omega arith) e

module _ (ws : List ℕ) (f : FollowsRule ws) where
  first_word : get_or ws 0 0 ≡ 0
  first_word = ap (λ (x : List ℕ). get_or x 0 0) f.written

  some_word : 1 ≤ length ws
  some_word = let e = ap length f.written in omega arith

  stands : Stands ws 1 f.templates
  stands = stands_from f.templates (0 ∷ []) ws f.written

  none_due : due ws 1 ≡ 0
  none_due = first_word

  at : (c : ℕ) (es : Template) → template_at f.templates c ≡ Some es → (1 ≤ c) × At ws c es
  at c es e = stands_at ws 1 f.templates none_due stands c es e

  -- a template that is named begins there, and its code is below 32,768
  named_begins : (k : ℕ) → Names f.templates k → (1 ≤ k) × (k ≤ 32767) × (begins ws k ≡ true) × (1 ≤ get_or ws k 0)
  named_begins k n =
      let a = at k n.0 n.1 in
      let short = f.short in
      let ends = a.1.ends in
      let size = a.1.written.size in
      let some = n.2 in
      let first = a.0 in
      (first, omega arith, begins_from ws k first (omega arith) a.1.none_due, omega arith)

  -- an entry of a template: it is due, and what follows it in the template
  fine_entry : (c : ℕ) (es : Template) (i : ℕ) → template_at f.templates c ≡ Some es → i < length es → result_err (entry_said ws (c + 1 + i)) ≡ None
  fine_entry c es i e h =
      let a = at c es e in
      let r = stands_all ws (Entries (Names f.templates)) 1 f.templates f.entries c es e in
      let size = a.1.written.size in
      let word = a.1.written.words i h in
      elim (kinds (get_or es i Z)) [
        | inl z ↦ fine_z ws (c + 1 + i) (word ∙ ap word_of z)
        | inr o ↦ elim o [
          | inl p ↦ (let q = z_next (Names f.templates) es i r h p in
              let two = q.0 in
              let g : c + (1 + i) ≡ c + 1 + i = omega arith in
              let d = rw g at (due_inside ws c (1 + i) a.1.none_due (omega arith) (omega arith)) in
              let s : c + 1 + suc i ≡ c + 1 + i + 1 = omega arith in
              fine_pointer ws (c + 1 + i) (word ∙ ap word_of p) (omega arith)
              (rw s at (a.1.written.words (suc i) q.0) ∙ ap word_of q.1))
          | inr k ↦ (let n = named_begins k.0 (named_at (Names f.templates) es i k.0 r h k.1) in
              let w : get_or ws (c + 1 + i) 0 ≡ k.0 = word ∙ ap word_of k.1 in
              let l = n.0 in let u = n.1 in
              fine_code ws (c + 1 + i) (omega arith) (omega arith)
              (subst (λ (m : ℕ). begins ws m ≡ true) (sym w) n.2)
              (subst (λ (m : ℕ). 1 ≤ get_or ws m 0) (sym w) n.3))
        ]
      ]

  sizes : (k : ℕ) → k < length ws → due ws k ≡ 0 → (get_or ws k 0 ≤ 255) × (k + 1 + get_or ws k 0 ≤ length ws)
  sizes zero h d = let e = first_word in (omega arith, omega arith)
  sizes (suc k) h d =
      let t = stands_has ws 1 f.templates none_due stands (suc k) (omega arith) h d in
      let a = at (suc k) t.0 t.1 in
      let small : length t.0 ≤ 255 = stands_all ws (λ es. length es ≤ 255) 1 f.templates f.small (suc k) t.0 t.1 in
      let size = a.1.written.size in
      let ends = a.1.ends in
      (omega arith, omega arith)

  entries : (k : ℕ) → k < length ws → 1 ≤ due ws k → result_err (entry_said ws k) ≡ None
  entries zero h d = absurd (omega arith)
  entries (suc k) h d =
      let r = locate ws 1 f.templates stands (suc k) (omega arith) h in
      let a = at r.start r.template r.is in
      let is = r.place in
      let inside = r.inside in
      elim (cases_lt 0 r.index) [
        | inl p ↦ (let same : r.start + 1 + (r.index - 1) ≡ suc k = omega arith in
            subst (λ (m : ℕ). result_err (entry_said ws m) ≡ None) same
            (fine_entry r.start r.template (r.index - 1) r.is (omega arith)))
        | inr p ↦ (let same : r.start ≡ suc k = omega arith in
            let z : due ws (suc k) ≡ 0 = subst (λ (m : ℕ). due ws m ≡ 0) same a.1.none_due in
            absurd (omega arith))
      ]

  pub rule_sound : Sound ws
  rule_sound = record { some = some_word; short = f.short; head = first_word; sizes = sizes; entries = entries }

entry_back : (e : Entry) → ((k : ℕ) → e ≡ Code k → k ≤ 32767) → entry_of (word_of e) ≡ e
entry_back Z h = refl
entry_back P h = refl
entry_back (Code k) h = let l = h k refl in grind (arith, nat_tests)

option_cases : {A : Type 0} (o : Option A) → (o ≡ None) ⊎ ((x : A) × (o ≡ Some x))
option_cases None = inl refl
option_cases (Some x) = inr (x, refl)

size_some : (ws : List ℕ) (c n : ℕ) → begins ws c ≡ true → get_or ws c 0 ≡ n → (table ws).size c ≡ Some n
size_some ws c n b e = grind (arith, nat_tests)

size_none : (ws : List ℕ) (c : ℕ) → begins ws c ≡ false → (table ws).size c ≡ None
size_none ws c b = grind (arith, nat_tests)

entry_none : (ws : List ℕ) (c i : ℕ) → begins ws c ≡ false → (table ws).entry c i ≡ Z
entry_none ws c i b = grind (arith, nat_tests)

entry_zero : (ws : List ℕ) (c : ℕ) → (table ws).entry c 0 ≡ Z
entry_zero ws c = elim (cases_Bool (begins ws c)) [
  | inl b ↦ ap (λ (x : Bool). cond (x && (leb 1 0 && leb 0 (get_or ws c 0))) (entry_of (get_or ws (c + 0) 0)) Z) b
  | inr b ↦ entry_none ws c 0 b
]

entry_past : (ws : List ℕ) (c i : ℕ) → get_or ws c 0 < i → (table ws).entry c i ≡ Z
entry_past ws c i h = grind (arith, nat_tests)

entry_word : (ws : List ℕ) (c i : ℕ) → begins ws c ≡ true → 1 ≤ i → i ≤ get_or ws c 0 → (table ws).entry c i ≡ entry_of (get_or ws (c + i) 0)
entry_word ws c i b l h = cond-true (begins ws c && (leb 1 i && leb i (get_or ws c 0))) _ _ (grind (arith, nat_tests))

module _ (ws : List ℕ) (f : FollowsRule ws) (c : ℕ) (es : Template) (is : template_at f.templates c ≡ Some es) where
  here : At ws c es
  here = (at ws f c es is).1

  begun : begins ws c ≡ true
  begun = begins_from ws c (at ws f c es is).0 (let e = here.ends in omega arith) here.none_due

  same_entry : (i : ℕ) → (table ws).entry c i ≡ entry_in (Some es) i
  same_entry zero = entry_zero ws c
  same_entry (suc i) =
      let size = here.written.size in
      elim (cases_lt i (length es)) [
        | inl h ↦ (let g : c + 1 + i ≡ c + suc i = omega arith in
            let r = stands_all ws (Entries (Names f.templates)) 1 f.templates f.entries c es is in
            entry_word ws c (suc i) begun (omega arith) (omega arith)
            ∙ ap entry_of (rw g at (here.written.words i h))
            ∙ entry_back (get_or es i Z) (λ k e. (named_begins ws f k (named_at (Names f.templates) es i k r h e)).1))
        | inr h ↦ entry_past ws c (suc i) (omega arith) ∙ sym (get_or_past es i Z h)
      ]

pub same_meaning : (ws : List ℕ) (f : FollowsRule ws) → Same (table ws) (types_of f.templates)
same_meaning ws f c = elim (option_cases (template_at f.templates c)) [
  | inl n ↦ (let b : begins ws c ≡ false = elim (cases_Bool (begins ws c)) [
    | inl t ↦ (let p = begins_parts ws c t in
        let h = stands_has ws 1 f.templates (none_due ws f) (stands ws f) c p.0 p.1 p.2 in
        let e = h.1 in
        let z : ◌≡◌ {A = ℕ} 0 1 = cc in absurd (omega arith))
    | inr t ↦ t
  ] in
      (size_none ws c b ∙ ap size_in (sym n), λ i. entry_none ws c i b ∙ ap (λ o. entry_in o i) (sym n)))
  | inr s ↦ (
    size_some ws c (length s.0) (begun ws f c s.0 s.1) (here ws f c s.0 s.1).written.size ∙ ap size_in (sym s.1),
    λ i. same_entry ws f c s.0 s.1 i ∙ ap (λ o. entry_in o i) (sym s.1),
  )
]
