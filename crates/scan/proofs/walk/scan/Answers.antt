use Rattle.std.proofs.Common.{refl, sym, ◌∙◌, arith, rules}
use Rattle.scan.proofs.Counts.{unmarked_all}
use Rattle.scan.proofs.Walks.{begins, whole}
use Rattle.scan.proofs.walk.scan.Goals as goal

pub enter-requires-clause-room : goal.enter-requires-clause-room
enter-requires-clause-room g c = omega (arith, unmarked_all c.args.marks.now)

pub run-ending-requires : goal.run-ending-requires
run-ending-requires g c =
    begins g.S.TemplateSource.meaning g.I.Inspector.step c.args.inspector.now c.args.code c.args.address _ _ refl refl (sym c.does_fit.ensures ∙ c.if-not-does_fit.false) c.enter.ensures.same c.enter.ensures.visits c.enter.ensures.entered

pub returns : goal.returns
returns g c =
    let w = whole g.S.TemplateSource.meaning g.I.Inspector.step c.args.inspector.now c.args.code c.args.address _ _ refl refl (sym c.does_fit.ensures ∙ c.if-not-does_fit.false) c.enter.ensures.same c.enter.ensures.visits c.enter.ensures.entered c.run-ending.new.self c.run-ending.new.inspector c.run-ending.result c.run-ending.ensures.ran in
    let named = c.run-ending.ensures.same.marks ∙ c.enter.ensures.same.marks in
    (grind (arith), search rules)
