use Rattle.std.proofs.Common.{subst}
use Rattle.lines.specs.Commands.{Holds}
use Rattle.lines.specs.Requests.{Bounded}
use Rattle.script.proofs.session.Session.obey.Goals as goal

pub returns-in-Types : goal.returns-in-Types
returns-in-Types c = λ line q bounded held.
    let own = subst (λ k. Holds k line q) c.in-Types.is held in
    rw own.2.1 (c.take_types.ensures own.2.0 own.2.2 (subst Bounded own.2.1 bounded))
