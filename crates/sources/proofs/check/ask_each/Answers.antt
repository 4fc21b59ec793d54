use Rattle.std.proofs.Common.{sym, refl}
use Rattle.std.proofs.lemmas.Result.{err_from_is_err_and}
use Rattle.layouts.proofs.Lowest.{lowest_found}
use Rattle.sources.proofs.check.ask_each.Goals as goal

pub returns-in_err-rule : goal.returns-in_err-rule
returns-in_err-rule g c = λ told exact.
    let p = err_from_is_err_and c.from_residual.result c.from_residual.ensures.1 in
    rw (p.1, p.2)
    (sym (lowest_found told c.loop-k.k _ _ c.loop-k-test.true (c.loop-k.invariant.none told exact) (sym (exact _ _ refl c.in_err-rule.ensures))))
