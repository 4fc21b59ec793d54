-- A word whose entry is not Z is one of its type's words.
use Rattle.std.proofs.Common.{◌≡◌, ℕ, ◌≤◌, ◌⊎◌, Some, None, Option, refl, inl, inr, arith}
use Rattle.std.proofs.lemmas.Bool.{cases_lt}
use Rattle.layouts.specs.declared.entry.Entry.TheVariants.{P}
use Rattle.layouts.specs.Types.{Types, Lawful, Within}

within_of : (o : Option ℕ) (i : ℕ) → ((n : ℕ) × (o ≡ Some n) × (1 ≤ i) × (i ≤ n)) ⊎ (((n : ℕ) × (o ≡ Some n) × (1 ≤ i) × (i ≤ n)) → ⊥)
within_of None i = inr (λ w. let e = w.1 in let z : ◌≡◌ {A = ℕ} 0 1 = cc in omega arith)
within_of (Some n) i = elim (cases_lt i 1) [
  | inl l ↦ inr (λ w. let a = w.2 in omega arith)
  | inr l ↦ elim (cases_lt n i) [
    | inl h ↦ inr (λ w. let e = w.1 in let a = w.3 in let z : n ≡ w.0 = cc in omega arith)
    | inr h ↦ inl (n, refl, l, h)
  ]
]

pub cases_within : (t : Types) (c i : ℕ) → Within t c i ⊎ (Within t c i → ⊥)
cases_within t c i = within_of (t.size c) i

pub pointer_within : (t : Types) → Lawful t → (c i : ℕ) → t.entry c i ≡ P → Within t c i
pointer_within t laws c i e = elim (cases_within t c i) [
  | inl w ↦ w
  | inr f ↦ (let o = laws.outside c i f in let z : ◌≡◌ {A = ℕ} 0 1 = cc in absurd (omega arith))
]
