use Rattle.std.proofs.Common.{refl}
use Rattle.std.proofs.lemmas.Result.{err_from_is_err_and}
use Rattle.script.proofs.Tables.{accepted, not_accepted}
use Rattle.script.proofs.session.Session.take_types.Goals as goal

pub returns-in_err-table : goal.returns-in_err-table
returns-in_err-table c =
    let p = err_from_is_err_and c.from_residual.result c.from_residual.ensures.1 in
    rw (p.1, p.2) (λ ns l few. not_accepted c.args.self.now.store c.args.number ns c.in_err-table.field-0.0 _ c.if-is_some.ensures (c.in_err-table.ensures ns l few) refl)

pub returns : goal.returns
returns c = λ ns l few.
    accepted c.args.self.now.store c.args.number ns c.in_ok-table.table c.if-is_some.ensures (c.in_ok-table.ensures ns l few)
