use Rattle.std.proofs.Common.{Ok, Err, string_bytes}
use Rattle.script.specs.Session.{state}
use Rattle.script.proofs.Orders.{answered}
use Rattle.script.proofs.session.Session.answer.Goals as goal

pub returns-in-Ok : goal.returns-in-Ok
returns-in-Ok c =
    answered string_bytes c.args.line.now c.args.number (state c.args.self.now) (state c.obey_line.new.self) (Ok c.in-Ok.reply) c.format.result c.in-Ok.ensures c.format.ensures.ok

pub returns-in-Err-Refused : goal.returns-in-Err-Refused
returns-in-Err-Refused c =
    answered string_bytes c.args.line.now c.args.number (state c.args.self.now) (state c.obey_line.new.self) (Err c.in-Err-Refused.refusal) c.format-in-Err-Refused.result (rw c.in-Err-Refused.field-0-is at c.in-Err-Refused.ensures) (rw (← c.number-number.ensures) c.format-in-Err-Refused.ensures.ok)
