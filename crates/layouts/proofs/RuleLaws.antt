-- The rule is lawful.
use Rattle.std.proofs.Common.{◌≡◌, ℕ, ◌+◌, ◌%◌, ◌<◌, ◌≤◌, Bool, true, false, cond, ◌&&◌, eqb, ltb, ◌⊎◌, Some, refl, inl, inr, arith}
use Rattle.std.proofs.lemmas.Bool.Decides.{nat_tests}
use Rattle.layouts.specs.declared.entry.Entry.TheVariants.{Z, P, Code}
use Rattle.layouts.specs.Types.{Within}
use Rattle.layouts.specs.Rule.{in_rule, rule_words, rule_pairs, rule}
use Rattle.layouts.specs.Statements.{RuleLawful}

sized : (c n : ℕ) → rule.size c ≡ Some n → (1 ≤ c) × (c ≤ 65535) × (n ≤ 255)
sized c n e = (grind (arith, nat_tests), grind (arith, nat_tests), grind (arith, nat_tests))

pub rule_size : (c : ℕ) → 32768 ≤ c → c ≤ 65535 → rule.size c ≡ Some (rule_words c)
rule_size c l h = grind (arith, nat_tests)

pointer_parts : (c i : ℕ) → rule.entry c i ≡ P → (32768 ≤ c) × (c ≤ 65535) × (i % 2 ≡ 1) × (i < rule_words c)
pointer_parts c i e = (grind (arith, nat_tests), grind (arith, nat_tests), grind (arith, nat_tests), grind (arith, nat_tests))

even : (c i : ℕ) → i % 2 ≡ 0 → rule.entry c i ≡ Z
even c i e = grind (arith, nat_tests)

pub rule_no_code : (c i k : ℕ) → rule.entry c i ≡ Code k → ⊥
rule_no_code c i k e = grind (arith, nat_tests)

pointer_in : (c i : ℕ) → rule.entry c i ≡ P → Within rule c i
pointer_in c i e =
    let p = pointer_parts c i e in (rule_words c, rule_size c p.0 p.1, omega arith, omega arith)

z_or_p : (b : Bool) → (cond b P Z ≡ P) ⊎ (cond b P Z ≡ Z)
z_or_p true = inl refl
z_or_p false = inr refl

pub rule_lawful : RuleLawful
rule_lawful = record {
  sized = sized;
  paired = λ c i e. let p = pointer_parts c i e in
      ((rule_words c, rule_size c p.0 p.1, omega arith, omega arith), even c (i + 1) (omega arith));
  named = λ c i k e. absurd (rule_no_code c i k e);
  outside = λ c i f. elim (z_or_p (in_rule c && (rule_pairs c && (eqb (i % 2) 1 && ltb i (rule_words c))))) [
    | inl e ↦ absurd (f (pointer_in c i e))
    | inr e ↦ e
  ];
}
