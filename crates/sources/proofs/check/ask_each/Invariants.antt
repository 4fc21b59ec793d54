use Rattle.std.proofs.Common.{◌≡◌, ℕ, None, Option}
use Rattle.refusals.specs.declared.refusal.Refusal.{Refusal}
use Rattle.layouts.specs.Table.{due, lowest}
use Rattle.sources.specs.Asked.{Refuses}
use Rattle.sources.proofs.check.ask_each.Given as goal

abbrev pub invariant-loop-k : goal.invariant-loop-k
invariant-loop-k g l = record {
  counted : l.left ≡ due l.words l.k;
  none : (told : ℕ → Option Refusal) → Refuses (goal.F-post g l.rule) l.words told → lowest told l.k ≡ None;
}
