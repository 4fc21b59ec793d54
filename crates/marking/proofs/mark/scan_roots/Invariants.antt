use Rattle.marking.proofs.Steps.{First}
use Rattle.marking.proofs.mark.scan_roots.Given as goal

abbrev pub invariant-loop-hold : goal.invariant-loop-hold
invariant-loop-hold g l = First (g.S.TemplateSource.meaning l.source) l.words l.records l.hold-index l.initial.marks l.marks l.visits
