-- The references of a type, counted from word to word.
use Rattle.std.proofs.Common.{◌≡◌, ℕ, suc, ◌+◌, ◌-◌, ◌≤◌, Some, sym, refl, ap, ◌∙◌, subst, arith}
use Rattle.layouts.specs.declared.entry.Entry.{Entry}
use Rattle.layouts.specs.declared.entry.Entry.TheVariants.{Z, P, Code}
use Rattle.layouts.specs.declared.entry.Class.{Class}
use Rattle.layouts.specs.declared.entry.Class.TheVariants.{Plain, Pointer, Typed, SecondHalf}
use Rattle.layouts.specs.Types.{Types, Lawful}
use Rattle.layouts.specs.Classes.{class_by, class_of, reference, references}
use Rattle.layouts.proofs.Inside.{pointer_within}

z_after : (before : Entry) → (before ≡ P → ⊥) → class_by Z before ≡ Plain
z_after Z n = refl
z_after P n = absurd (n refl)
z_after (Code k) n = refl

module _ (t : Types) (c : ℕ) where
  next : (w : ℕ) → 1 ≤ w → references t c w ≡ references t c (w - 1) + reference (class_of t c w)
  next w h =
      let z : suc (w - 1) ≡ w = omega arith in
      subst (λ (m : ℕ). references t c m ≡ references t c (w - 1) + reference (class_of t c m)) z refl

  by_class : (w : ℕ) → 1 ≤ w → (k : Class) → class_of t c w ≡ k → references t c w ≡ references t c (w - 1) + reference k
  by_class w h k e = next w h ∙ ap (λ (x : Class). references t c (w - 1) + reference x) e

  past_code : (w k : ℕ) → 1 ≤ w → t.entry c w ≡ Code k → references t c w ≡ references t c (w - 1) + 1
  past_code w k h e = by_class w h (Typed k) (ap (λ (x : Entry). class_by x (t.entry c (w - 1))) e)

  past_plain : (w : ℕ) → 1 ≤ w → t.entry c w ≡ Z → (t.entry c (w - 1) ≡ P → ⊥) → references t c w ≡ references t c (w - 1)
  past_plain w h e n =
      by_class w h Plain (ap (λ (x : Entry). class_by x (t.entry c (w - 1))) e ∙ z_after (t.entry c (w - 1)) n) ∙ omega arith

  past_pointer : (w : ℕ) → 1 ≤ w → t.entry c w ≡ P → t.entry c (w + 1) ≡ Z → references t c (w + 1) ≡ references t c (w - 1) + 1
  past_pointer w h e f =
      let z : w + 1 - 1 ≡ w = omega arith in
      let first = by_class w h Pointer (ap (λ (x : Entry). class_by x (t.entry c (w - 1))) e) in
      let half : class_of t c (w + 1) ≡ SecondHalf =
      ap (λ (x : Entry). class_by x (t.entry c (w + 1 - 1))) f ∙ ap (λ (x : Entry). class_by Z x) (ap (t.entry c) z ∙ e) in
      let second = by_class (w + 1) (omega arith) SecondHalf half in
      let same : references t c (w + 1 - 1) ≡ references t c w = ap (references t c) z in
      omega arith

-- the words before w are counted, and no pointer begins at the last of them
abbrev pub Counted : Types → ℕ → ℕ → ℕ → ℕ → Type 0
Counted t c n w count =
    (t.size c ≡ Some n) × (1 ≤ w) × (w ≤ n + 1) × (count ≡ references t c (w - 1)) × (t.entry c (w - 1) ≡ P → ⊥) × (count + 1 ≤ w)

module _ (t : Types) (laws : Lawful t) (c n : ℕ) where
  pub counted_none : t.size c ≡ Some n → Counted t c n 1 0
  counted_none e = (e, omega arith, omega arith, refl, (λ p. let w = pointer_within t laws c 0 p in let l = w.2 in omega arith), omega arith)

  module _ (w count : ℕ) (i : Counted t c n w count) (h : w ≤ n) where
    pub counted_pointer : t.entry c w ≡ P → Counted t c n (w + 2) (count + 1)
    counted_pointer e =
        let p = laws.paired c w e in
        let size = p.0.1 in
        let same : p.0.0 ≡ n = cc (size, i.0) in
        let two = p.0.3 in
        let l = i.1 in
        let k = i.5 in
        let z : w + 1 ≡ w + 2 - 1 = omega arith in
        let sum = past_pointer t c w l e p.1 in
        let old = i.3 in (
          i.0,
          omega arith,
          omega arith,
          subst (λ (m : ℕ). count + 1 ≡ references t c m) z (ap (λ m. m + 1) old ∙ sym sum),
          (λ q. let f : t.entry c (w + 1) ≡ P = subst (λ (m : ℕ). t.entry c m ≡ P) (sym z) q in
              let zero-next = p.1 in let x : ◌≡◌ {A = ℕ} 0 1 = cc in omega arith),
          omega arith,
        )

    one_more : (m : ℕ) → references t c w ≡ references t c (w - 1) + m → m ≤ 1 → (t.entry c w ≡ P → ⊥) → Counted t c n (w + 1) (count + m)
    one_more m sum small not-p =
        let z : w ≡ w + 1 - 1 = omega arith in
        let l = i.1 in
        let k = i.5 in
        let old = i.3 in (
          i.0,
          omega arith,
          omega arith,
          subst (λ (j : ℕ). count + m ≡ references t c j) z (ap (λ x. x + m) old ∙ sym sum),
          (λ q. not-p (subst (λ (j : ℕ). t.entry c j ≡ P) (sym z) q)),
          omega arith,
        )

    pub counted_code : (k : ℕ) → t.entry c w ≡ Code k → Counted t c n (w + 1) (count + 1)
    counted_code k e = one_more 1 (past_code t c w k i.1 e) (omega arith) (λ q. let x : ◌≡◌ {A = ℕ} 0 1 = cc in omega arith)

    pub counted_plain : t.entry c w ≡ Z → Counted t c n (w + 1) count
    counted_plain e =
        let z : count + 0 ≡ count = omega arith in
        subst (λ (x : ℕ). Counted t c n (w + 1) x) z
        (one_more 0 (past_plain t c w i.1 e i.4 ∙ omega arith) (omega arith) (λ q. let x : ◌≡◌ {A = ℕ} 0 1 = cc in omega arith))

    -- the next word's number fits, and so does the one after it
    pub counted_small : w + 2 ≤ 257
    counted_small = let b = laws.sized c n i.0 in omega arith
