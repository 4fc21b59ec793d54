-- The lowest place at which a refusal is due.
use Rattle.std.proofs.Common.{◌≡◌, ℕ, zero, suc, ◌<◌, Some, None, Option, sym, refl, ap, ◌∙◌, subst, inl, inr, arith}
use Rattle.std.proofs.lemmas.Bool.{cases_order}
use Rattle.std.specs.Option.{option_or}
use Rattle.refusals.specs.declared.refusal.Refusal.{Refusal}
use Rattle.layouts.specs.Table.{lowest}

pub or_none : {A : Type 0} (a b : Option A) → option_or a b ≡ None → (a ≡ None) × (b ≡ None)
or_none None b e = (refl, e)
or_none (Some x) b e = let z : ◌≡◌ {A = ℕ} 0 1 = cc in absurd (omega arith)

pub lowest_none : (f : ℕ → Option Refusal) (n : ℕ) → lowest f n ≡ None → (k : ℕ) → k < n → f k ≡ None
lowest_none f zero e k h = absurd (omega arith)
lowest_none f (suc n) e k h =
    let p = or_none (lowest f n) (f n) e in
    elim (cases_order k n) [
      | inl s ↦ subst (λ (m : ℕ). f m ≡ None) (sym s) p.1
      | inr s ↦ elim s [ inl l ↦ lowest_none f n p.0 k l | inr g ↦ absurd (omega arith) ]
    ]

pub lowest_from : (f : ℕ → Option Refusal) (n : ℕ) → ((k : ℕ) → k < n → f k ≡ None) → lowest f n ≡ None
lowest_from f zero h = refl
lowest_from f (suc n) h = ap (λ o. option_or o (f n)) (lowest_from f n (λ k l. h k (omega arith))) ∙ h n (omega arith)

-- the first refusal that is found is the lowest
pub lowest_found : (f : ℕ → Option Refusal) (k n : ℕ) (r : Refusal) → k < n → lowest f k ≡ None → f k ≡ Some r → lowest f n ≡ Some r
lowest_found f k zero r h e g = absurd (omega arith)
lowest_found f k (suc n) r h e g = elim (cases_order k n) [
  | inl s ↦ (let a : lowest f n ≡ None = subst (λ (m : ℕ). lowest f m ≡ None) s e in
      let b : f n ≡ Some r = subst (λ (m : ℕ). f m ≡ Some r) s g in
      ap (λ o. option_or o (f n)) a ∙ b)
  | inr s ↦ elim s [
    | inl l ↦ ap (λ o. option_or o (f n)) (lowest_found f k n r l e g)
    | inr l ↦ absurd (omega arith)
  ]
]
