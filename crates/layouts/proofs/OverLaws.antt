-- Over a lawful source, the rule on top is lawful.
use Rattle.std.proofs.Common.{◌≡◌, ℕ, ◌+◌, ◌⊎◌, sym, ◌∙◌, inl, inr, arith}
use Rattle.std.proofs.lemmas.Bool.{cases_lt, le-leb, lt-leb, cond-true, cond-false}
use Rattle.layouts.specs.declared.entry.Entry.TheVariants.{Z, P}
use Rattle.layouts.specs.Types.{Types, Lawful, Within, HasCells}
use Rattle.layouts.specs.Rule.{rule, rule_words}
use Rattle.layouts.specs.Over.{over}
use Rattle.layouts.specs.Statements.{OverLawful}
use Rattle.layouts.proofs.RuleLaws.{rule_lawful, rule_size, rule_no_code}

-- the code c has the same size and entries in both
abbrev Alike : Types → Types → ℕ → Type 0
Alike t u c = (t.size c ≡ u.size c) × ((i : ℕ) → t.entry c i ≡ u.entry c i)

within_alike : (t u : Types) (c i : ℕ) → t.size c ≡ u.size c → Within u c i → Within t c i
within_alike t u c i s w = (w.0, s ∙ w.1, w.2, w.3)

paired_alike : (t u : Types) → Lawful u → (c i : ℕ) → Alike t u c → t.entry c i ≡ P → Within t c (i + 1) × (t.entry c (i + 1) ≡ Z)
paired_alike t u laws c i s e =
    let p = laws.paired c i (sym (s.1 i) ∙ e) in (within_alike t u c (i + 1) s.0 p.0, s.1 (i + 1) ∙ p.1)

outside_alike : (t u : Types) → Lawful u → (c i : ℕ) → Alike t u c → (Within t c i → ⊥) → t.entry c i ≡ Z
outside_alike t u laws c i s f = s.1 i ∙ laws.outside c i (λ w. f (within_alike t u c i s.0 w))

module _ (t : Types) (laws : Lawful t) where
  either : (c : ℕ) → Alike (over t) rule c ⊎ Alike (over t) t c
  either c = elim (cases_lt c 32768) [
    | inl l ↦ inr (cond-false _ _ _ (lt-leb 32768 c l), λ i. cond-false _ _ _ (lt-leb 32768 c l))
    | inr h ↦ inl (cond-true _ _ _ (le-leb 32768 c h), λ i. cond-true _ _ _ (le-leb 32768 c h))
  ]

  -- a type that has cells in t has cells in over t
  still : (k : ℕ) → HasCells t k → HasCells (over t) k
  still k s = elim (cases_lt k 32768) [
    | inl l ↦ (s.0, cond-false _ _ _ (lt-leb 32768 k l) ∙ s.1, s.2)
    | inr g ↦ (let b = laws.sized k s.0 s.1 in
        (rule_words k, cond-true _ _ _ (le-leb 32768 k g) ∙ rule_size k g b.1, omega arith))
  ]

  lawful : Lawful (over t)
  lawful = record {
    sized = λ c n e. elim (either c) [
      | inl s ↦ rule_lawful.sized c n (sym s.0 ∙ e)
      | inr s ↦ laws.sized c n (sym s.0 ∙ e)
    ];
    paired = λ c i e. elim (either c) [
      | inl s ↦ paired_alike (over t) rule rule_lawful c i s e
      | inr s ↦ paired_alike (over t) t laws c i s e
    ];
    named = λ c i k e. elim (either c) [
      | inl s ↦ absurd (rule_no_code c i k (sym (s.1 i) ∙ e))
      | inr s ↦ still k (laws.named c i k (sym (s.1 i) ∙ e))
    ];
    outside = λ c i f. elim (either c) [
      | inl s ↦ outside_alike (over t) rule rule_lawful c i s f
      | inr s ↦ outside_alike (over t) t laws c i s f
    ];
  }

pub over_lawful : OverLawful
over_lawful t laws = lawful t laws
