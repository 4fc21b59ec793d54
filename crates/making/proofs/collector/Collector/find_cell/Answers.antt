use Rattle.std.proofs.Common.{◌≡◌, Err}
use Rattle.std.proofs.lemmas.Result.{err_from_is_err_and}
use Rattle.free_list.specs.Faults.{refusal_of}
use Rattle.making.specs.Makes.{at_hand}
use Rattle.making.proofs.Finding.{heap_of, at_fault, given, none, link_broken, stopped_there, never, ending}
use Rattle.making.proofs.collector.Collector.find_cell.Goals as goal

pub returns-in_err-address-clause-found : goal.returns-in_err-address-clause-found
returns-in_err-address-clause-found g c =
    let e = err_from_is_err_and c.from_residual.result c.from_residual.ensures.1 in
    let is : c.from_residual.result ≡ Err (refusal_of c.in_err-address.field-0.0) = cc (e.1, e.2) in
    let why = at_fault _ _ _ _ (heap_of _ _ _ c.args.self.now.large) c.requires c.in_err-address.ensures in
    link_broken (g.S.TemplateSource.meaning c.args.self.now.source.now) _ c.args.self.now.holds.now.records _ _ _ _ is why

pub returns-in-Some-clause-found : goal.returns-in-Some-clause-found
returns-in-Some-clause-found g c = at_hand (given _ _ _ _ _ c.in-Some.is c.in_ok-address.ensures)

pub returns-in_err-collect-clause-found : goal.returns-in_err-collect-clause-found
returns-in_err-collect-clause-found g c =
    let e = err_from_is_err_and c.from_residual-in_err-collect.result c.from_residual-in_err-collect.ensures.1 in
    let is : c.from_residual-in_err-collect.result ≡ Err c.in_err-collect.field-0.0 = cc (e.1, e.2) in
    let full = none _ _ _ _ c.in_default.is c.in_ok-address.ensures in
    stopped_there (g.S.TemplateSource.meaning c.args.self.now.source.now) _ c.args.self.now.holds.now.records _ _ full _ _ _ is c.in_err-collect.ensures.collected

pub returns-in_err-take_cell-clause-found : goal.returns-in_err-take_cell-clause-found
returns-in_err-take_cell-clause-found g c =
    let full = none _ _ _ _ c.in_default.is c.in_ok-address.ensures in
    let heap = heap_of _ _ _ c.collect.new.self.large in
    let why = at_fault _ _ _ _ heap c.requires c.in_err-take_cell.ensures in
    absurd (never (g.S.TemplateSource.meaning c.args.self.now.source.now) _ c.args.self.now.holds.now.records _ _ full _ _ _ c.in_ok-collect.ensures.collected why)

pub returns-clause-found : goal.returns-clause-found
returns-clause-found g c =
    let full = none _ _ _ _ c.in_default.is c.in_ok-address.ensures in
    rw c.ok_or.ensures.value (ending (g.S.TemplateSource.meaning c.args.self.now.source.now) _ c.args.self.now.holds.now.records _ _ full _ _ _ c.in_ok-collect.ensures.collected c.in_ok-take_cell.ensures)
