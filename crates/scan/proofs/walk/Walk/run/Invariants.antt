use Rattle.scan.specs.Pending.{frames, weight}
use Rattle.scan.proofs.Walks.{Gone}
use Rattle.scan.proofs.walk.Walk.run.Given as goal

abbrev pub invariant-loop-self : goal.invariant-loop-self
invariant-loop-self g l = Gone g.S.TemplateSource.meaning g.I.Inspector.step l.initial.self l.initial.inspector l.self l.inspector

abbrev pub decreases-loop-self : goal.decreases-loop-self
decreases-loop-self g l = weight l.self.marks.now (frames l.self.pending.now l.self.depth)
