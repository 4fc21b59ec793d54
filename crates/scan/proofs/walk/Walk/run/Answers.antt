use Rattle.std.proofs.lemmas.Result.{err_from_is_err_and}
use Rattle.scan.proofs.Walks.{one_more, stops, done}
use Rattle.scan.proofs.walk.Walk.run.Goals as goal

pub loop-self-preserved : goal.loop-self-preserved
loop-self-preserved g c = one_more g.S.TemplateSource.meaning g.I.Inspector.step c.args.self.now c.args.inspector.now c.loop-self.self c.turn.new.self c.loop-self.inspector c.turn.new.inspector c.loop-self.invariant c.in_ok-turn.ensures.same tt c.in_ok-turn.ensures.turned

pub returns-in_err-turn-clause-ran : goal.returns-in_err-turn-clause-ran
returns-in_err-turn-clause-ran g c =
    let e = err_from_is_err_and c.from_residual.result c.from_residual.ensures.1 in
    rw (e.1, e.2) (stops g.S.TemplateSource.meaning g.I.Inspector.step c.args.self.now c.args.inspector.now c.loop-self.self c.turn.new.self c.loop-self.inspector c.turn.new.inspector c.loop-self.invariant c.in_err-turn.field-0.0 c.in_err-turn.ensures.turned)

pub returns-clause-ran : goal.returns-clause-ran
returns-clause-ran g c = done g.S.TemplateSource.meaning g.I.Inspector.step c.args.self.now c.args.inspector.now c.loop-self.self c.loop-self.inspector c.loop-self.invariant c.loop-self-test.false
