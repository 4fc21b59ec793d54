-- Templates that stand in words one after the other: where each begins and what is due there.
use Rattle.std.proofs.Common.{◌≡◌, ℕ, suc, ◌+◌, ◌-◌, ◌<◌, ◌≤◌, eqb, List, [], ◌∷◌, ◌++◌, map, length, get_or, Some, Option, sym, refl, ap, ◌∙◌, subst, inl, inr, arith}
use Rattle.std.specs.List.{AllByRecursion}
use Rattle.std.proofs.lemmas.List.{append_assoc, length-append, length-map, get_or-append-add, get_or_append_left, get_or-map}
use Rattle.std.proofs.lemmas.Bool.{cases_lt, cases_eq, eq-eqb, ne_eqb, cond-true, cond-false}
use Rattle.layouts.specs.declared.entry.Entry.TheVariants.{Z}
use Rattle.layouts.specs.Templates.{Template, word_of, in_a_row, template_from}
use Rattle.layouts.specs.Table.{due}
use Rattle.layouts.proofs.Due.{due_inside, due_next}

-- the template es is written at word k: its n, and then its entries
pub record Written (ws : List ℕ) (k : ℕ) (es : Template) : Type 0 where
  pub size : get_or ws k 0 ≡ length es
  pub words : (i : ℕ) → i < length es → get_or ws (k + 1 + i) 0 ≡ word_of (get_or es i Z)

-- the templates ts are written from word k on, to the end of the words
abbrev pub Stands : List ℕ → ℕ → List Template → Type 0
Stands ws k [] = k ≡ length ws
Stands ws k (es ∷ ts) = Written ws k es × Stands ws (k + 1 + length es) ts

pub stands_short : (ws : List ℕ) (k : ℕ) (ts : List Template) → Stands ws k ts → k ≤ length ws
stands_short ws k [] s = omega arith
stands_short ws k (es ∷ ts) s = let r = stands_short ws (k + 1 + length es) ts s.1 in omega arith

written_at : (pre : List ℕ) (es : Template) (row : List ℕ) → Written (pre ++ (length es ∷ map word_of es ++ row)) (length pre) es
written_at pre es row = record {
  size = (let z : length pre + 0 ≡ length pre = omega arith in
      subst (λ (m : ℕ). get_or (pre ++ (length es ∷ map word_of es ++ row)) m 0 ≡ length es) z
      (get_or-append-add pre (length es ∷ map word_of es ++ row) 0 0));
  words = λ i h.
      (let z : length pre + suc i ≡ length pre + 1 + i = omega arith in
      let l : i < length (map word_of es) = (let b = length-map es word_of in omega arith) in
      subst (λ (m : ℕ). get_or (pre ++ (length es ∷ map word_of es ++ row)) m 0 ≡ word_of (get_or es i Z)) z
      (get_or-append-add pre (length es ∷ map word_of es ++ row) (suc i) 0
      ∙ get_or_append_left (map word_of es) row 0 i l
      ∙ get_or-map word_of es i Z 0 h));
}

pub stands_from : (ts : List Template) (pre ws : List ℕ) → ws ≡ pre ++ in_a_row ts → Stands ws (length pre) ts
stands_from [] pre ws e = let a = ap length e in let b = length-append pre [] in omega arith
stands_from (es ∷ ts) pre ws e =
    let front : List ℕ = pre ++ (length es ∷ map word_of es) in
    let here = subst (λ (x : List ℕ). Written x (length pre) es) (sym e) (written_at pre es (in_a_row ts)) in
    let long : length front ≡ length pre + 1 + length es =
    (let a = length-append pre (length es ∷ map word_of es) in let b = length-map es word_of in omega arith) in
    let rest = stands_from ts front ws (e ∙ sym (append_assoc pre (length es ∷ map word_of es) (in_a_row ts))) in
    (here, subst (λ (m : ℕ). Stands ws m ts) long rest)

-- a template stands no lower than the first
found : (k : ℕ) (ts : List Template) (c : ℕ) (es : Template) → template_from k ts c ≡ Some es → k ≤ c
found k [] c es e = let z : ◌≡◌ {A = ℕ} 0 1 = cc in absurd (omega arith)
found k (fs ∷ ts) c es e = elim (cases_eq c k) [
  | inl h ↦ omega arith
  | inr n ↦ (let r = found (k + 1 + length fs) ts c es (sym (cond-false (eqb c k) _ _ (ne_eqb c k n)) ∙ e) in omega arith)
]

-- what is known of the template that stands at c
pub record At (ws : List ℕ) (c : ℕ) (es : Template) : Type 0 where
  pub none_due : due ws c ≡ 0
  pub ends : c + 1 + length es ≤ length ws
  pub written : Written ws c es

module _ (ws : List ℕ) where
  next_due : (k : ℕ) (es : Template) → due ws k ≡ 0 → Written ws k es → due ws (k + 1 + length es) ≡ 0
  next_due k es d w = subst (λ (n : ℕ). due ws (k + 1 + n) ≡ 0) w.size (due_next ws k d)

  pub stands_at : (k : ℕ) (ts : List Template) → due ws k ≡ 0 → Stands ws k ts → (c : ℕ) (es : Template) → template_from k ts c ≡ Some es → (k ≤ c) × At ws c es
  stands_at k [] d s c es e = let z : ◌≡◌ {A = ℕ} 0 1 = cc in absurd (omega arith)
  stands_at k (fs ∷ ts) d s c es e = elim (cases_eq c k) [
    | inl h ↦ (let g : ◌≡◌ {A = Option Template} (Some fs) (Some es) = sym (cond-true (eqb c k) _ _ (eq-eqb c k h)) ∙ e in
        let same : fs ≡ es = cc in
        let short = stands_short ws (k + 1 + length fs) ts s.1 in
        let here : At ws k fs = record { none_due = d; ends = short; written = s.0 } in
        (omega arith, subst (λ (m : ℕ). At ws m es) (sym h) (subst (λ (x : Template). At ws k x) same here)))
    | inr n ↦ (let r = stands_at (k + 1 + length fs) ts (next_due k fs d s.0) s.1 c es (sym (cond-false (eqb c k) _ _ (ne_eqb c k n)) ∙ e) in
        (let l = r.0 in omega arith, r.1))
  ]

  pub stands_all : (Q : Template → Type 0) (k : ℕ) (ts : List Template) → AllByRecursion Q ts → (c : ℕ) (es : Template) → template_from k ts c ≡ Some es → Q es
  stands_all Q k [] a c es e = let z : ◌≡◌ {A = ℕ} 0 1 = cc in absurd (omega arith)
  stands_all Q k (fs ∷ ts) a c es e = elim (cases_eq c k) [
    | inl h ↦ (let g : ◌≡◌ {A = Option Template} (Some fs) (Some es) = sym (cond-true (eqb c k) _ _ (eq-eqb c k h)) ∙ e in
        let same : fs ≡ es = cc in subst Q same a.0)
    | inr n ↦ stands_all Q (k + 1 + length fs) ts a.1 c es (sym (cond-false (eqb c k) _ _ (ne_eqb c k n)) ∙ e)
  ]

  -- the template that a word belongs to: the word is its n or one of its entries
  pub record Located (k : ℕ) (ts : List Template) (w : ℕ) : Type 0 where
    pub start : ℕ
    pub template : Template
    pub index : ℕ
    pub is : template_from k ts start ≡ Some template
    pub place : start + index ≡ w
    pub inside : index ≤ length template

  pub locate : (k : ℕ) (ts : List Template) → Stands ws k ts → (w : ℕ) → k ≤ w → w < length ws → Located k ts w
  locate k [] s w l h = absurd (omega arith)
  locate k (es ∷ ts) s w l h = elim (cases_lt w (k + 1 + length es)) [
    | inl a ↦ record { start = k; template = es; index = w - k; is = cond-true (eqb k k) _ _ (eq-eqb k k refl); place = omega arith; inside = omega arith }
    | inr a ↦ (let r = locate (k + 1 + length es) ts s.1 w a h in
        let far = found (k + 1 + length es) ts r.start r.template r.is in
        let n : r.start ≡ k → ⊥ = (λ f. omega arith) in
        record { start = r.start; template = r.template; index = r.index; is = cond-false (eqb r.start k) _ _ (ne_eqb r.start k n) ∙ r.is; place = r.place; inside = r.inside })
  ]

  -- where nothing is due, a template begins
  pub stands_has : (k : ℕ) (ts : List Template) → due ws k ≡ 0 → Stands ws k ts → (c : ℕ) → k ≤ c → c < length ws → due ws c ≡ 0 → (es : Template) × (template_from k ts c ≡ Some es)
  stands_has k ts d s c l h e =
      let r = locate k ts s c l h in
      let a = stands_at k ts d s r.start r.template r.is in
      let n = a.1.written.size in
      let is = r.place in
      let inside = r.inside in
      elim (cases_lt 0 r.index) [
        | inl p ↦ (let q = due_inside ws r.start r.index a.1.none_due p (omega arith) in
            let f : due ws (r.start + r.index) ≡ 0 = subst (λ (m : ℕ). due ws m ≡ 0) (sym is) e in
            absurd (omega arith))
        | inr p ↦ (let same : r.start ≡ c = omega arith in
            (r.template, subst (λ (m : ℕ). template_from k ts m ≡ Some r.template) same r.is))
      ]
