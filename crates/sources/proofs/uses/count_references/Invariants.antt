use Rattle.std.proofs.Common.{◌+◌, ◌-◌}
use Rattle.sources.proofs.Counting.{Counted}
use Rattle.sources.proofs.uses.count_references.Given as goal

abbrev pub invariant-loop-word : goal.invariant-loop-word
invariant-loop-word g l = Counted (g.S.TemplateSource.meaning l.source) l.code l.n l.word l.count

abbrev pub decreases-loop-word : goal.decreases-loop-word
decreases-loop-word g l = l.n + 1 - l.word
