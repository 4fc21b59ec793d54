-- Over: the rule on top of another source.
use Rattle.std.specs.Prelude.{cond, nat_le}
use Rattle.layouts.specs.Types.{Types}
use Rattle.layouts.specs.Rule.{rule}

-- codes from 32,768 on by the rule, the others by t
abbrev pub over : Types → Types
over t = record {
  size = λ c. cond (nat_le 32768 c) (rule.size c) (t.size c);
  entry = λ c i. cond (nat_le 32768 c) (rule.entry c i) (t.entry c i);
}
