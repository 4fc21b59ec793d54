use Rattle.std.proofs.Common.{[], sym, refl, ◌∙◌, inl, inr, add-zero, arith}
use Rattle.scan.proofs.Turns.{made, not_made, turn_visited, turn_refused, turn_misfit, turn_plain, turn_cell}
use Rattle.scan.proofs.walk.Walk.turn.Goals as goal

pub returns-in_default-clause-turned : goal.returns-in_default-clause-turned
returns-in_default-clause-turned g c =
    let k = c.args.self.now in
    let no = not_made _ _ _ _ (rw c.words_of-n.ensures at c.in_default.ensures) in
    (refl, turn_refused g.S.TemplateSource.meaning g.met.S.TemplateSource.laws g.I.Inspector.step k c.args.inspector.now c.requires.deep c.requires.under_way c.show.new.inspector no.1 (omega arith) no.0)

pub returns-then-frame-n-clause-turned : goal.returns-then-frame-n-clause-turned
returns-then-frame-n-clause-turned g c =
    let k = c.args.self.now in
    let took = made _ _ _ _ (rw c.words_of-n.ensures at c.in-Ok.ensures) in
    (_, refl, turn_visited g.S.TemplateSource.meaning g.met.S.TemplateSource.laws g.I.Inspector.step k c.args.inspector.now c.requires.deep c.requires.under_way c.show.new.inspector (omega arith) took, inr (_, refl, omega arith))

pub returns-in-Misfit-clause-turned : goal.returns-in-Misfit-clause-turned
returns-in-Misfit-clause-turned g c =
    let k = c.args.self.now in
    (refl, turn_misfit g.S.TemplateSource.meaning g.met.S.TemplateSource.laws g.I.Inspector.step k c.args.inspector.now c.requires.deep c.requires.under_way (omega arith) _ c.place_of.ensures (sym c.in-Misfit.ensures))

pub returns-in-Nothing-clause-turned : goal.returns-in-Nothing-clause-turned
returns-in-Nothing-clause-turned g c =
    let k = c.args.self.now in
    ([], sym (add-zero _), turn_plain g.S.TemplateSource.meaning g.met.S.TemplateSource.laws g.I.Inspector.step k c.args.inspector.now c.requires.deep c.requires.under_way (omega arith) (sym c.in-Nothing.ensures), inl refl)

pub returns-in-Cell-clause-turned : goal.returns-in-Cell-clause-turned
returns-in-Cell-clause-turned g c =
    let k = c.args.self.now in
    ([], c.enter.ensures.visits ∙ sym (add-zero _), turn_cell g.S.TemplateSource.meaning g.met.S.TemplateSource.laws g.I.Inspector.step k c.args.inspector.now c.requires.deep c.requires.under_way (omega arith) c.in-Cell.code c.in-Cell.address _ _ _ (sym c.in-Cell.ensures) c.enter.ensures.entered, inl refl)
