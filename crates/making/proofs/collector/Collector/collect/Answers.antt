use Rattle.std.proofs.Common.{◌≡◌, Err}
use Rattle.std.proofs.lemmas.Result.{err_from_is_err_and}
use Rattle.making.specs.Makes.{swept, stopped}
use Rattle.making.proofs.Finding.{is_large}
use Rattle.making.proofs.collector.Collector.collect.Goals as goal

pub returns-in_err-mark_holds-clause-collected : goal.returns-in_err-mark_holds-clause-collected
returns-in_err-mark_holds-clause-collected g c =
    let own = c.args.self.now in
    let e = err_from_is_err_and c.from_residual.result c.from_residual.ensures.1 in
    let is : c.from_residual.result ≡ Err c.in_err-mark_holds.field-0.0 = cc (e.1, e.2) in
    rw is (stopped (c.in_err-mark_holds.ensures.marked (is_large _ own.large)))

pub returns-clause-collected : goal.returns-clause-collected
returns-clause-collected g c = swept (c.in_ok-mark_holds.ensures.marked (is_large _ c.args.self.now.large)) c.in_ok-sweep.ensures.1.1
