use Rattle.std.proofs.Common.{◌≡◌}
use Rattle.script.specs.Session.{state}
use Rattle.script.proofs.Orders.{all_come}
use Rattle.script.proofs.session.Session.obey_line.Goals as goal

pub returns : goal.returns
returns c =
    let says = c.in_ok-command.ensures in
    all_come c.args.line.now c.args.number (state c.args.self.now) (state c.obey.new.self) says.0 (c.obey.new.self ≡ c.args.self.now) c.obey.result says.1 (c.obey.ensures c.args.line.now says.0 says.1.bounded says.2)
