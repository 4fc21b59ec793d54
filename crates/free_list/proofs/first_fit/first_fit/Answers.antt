use Rattle.std.proofs.lemmas.Result.{err_from_is_err_and}
use Rattle.free_list.proofs.Walk.{passed_run, passed_broken, passed_all}
use Rattle.free_list.proofs.first_fit.first_fit.Goals as goal

pub returns-in_err-found : goal.returns-in_err-found
returns-in_err-found c =
    let p = err_from_is_err_and c.from_residual.result c.from_residual.ensures.1 in
    rw (p.1, p.2) (passed_broken c.loop-run.run-iterator c.next.new.self c.in_err-found.was c.in-Some.ensures.steps c.loop-run.invariant)

pub loop-run-preserved : goal.loop-run-preserved
loop-run-preserved c = passed_run c.loop-run.run-iterator c.next.new.self c.in_ok-found.was c.in-Some.ensures.steps c.if-found-n.false c.loop-run.invariant

pub returns : goal.returns
returns c = passed_all c.loop-run.run-iterator c.next.new.self c.in-None.ensures.steps c.loop-run.invariant
