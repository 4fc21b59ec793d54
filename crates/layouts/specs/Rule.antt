-- The rule: templates for the codes 32,768 to 65,535 that need no memory.
use Rattle.std.specs.Prelude.{ℕ, ◌+◌, ◌-◌, ◌/◌, ◌%◌, Bool, cond, ◌&&◌, Some, None, ◌==◌, nat_le, nat_lt}
use Rattle.layouts.specs.declared.entry.Entry.TheVariants.{Z, P}
use Rattle.layouts.specs.Types.{Types}

abbrev pub in_rule : ℕ → Bool
in_rule c = nat_le 32768 c && nat_le c 65535

-- with d = c - 32,768, a cell has 1 + d mod 255 words
abbrev pub rule_words : ℕ → ℕ
rule_words c = 1 + (c - 32768) % 255

-- all plain where d div 255 is even; where it is odd, words 1 and 2 are a pointer, 3 and 4 the next, and a last odd word is plain
abbrev pub rule_pairs : ℕ → Bool
rule_pairs c = (c - 32768) / 255 % 2 == 1

abbrev pub rule : Types
rule = record {
  size = λ c. cond (in_rule c) (Some (rule_words c)) None;
  entry = λ c i. cond (in_rule c && (rule_pairs c && (i % 2 == 1 && nat_lt i (rule_words c)))) P Z;
}
