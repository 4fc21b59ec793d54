use Rattle.lines.proofs.Numerals.{answers, not_plain, not_text}
use Rattle.lines.proofs.number.number.Goals as goal

pub returns-then-not-is_plain : goal.returns-then-not-is_plain
returns-then-not-is_plain c = not_plain c.args.word.now _ c.is_plain.ensures c.if-not-is_plain.true

pub returns-in-Ok : goal.returns-in-Ok
returns-in-Ok c =
    answers c.args.word.now c.in-Ok.text.now c.parse.result _ c.in-Ok.ensures.cases.0 (c.is_plain.ensures.0 c.if-not-is_plain.false) c.parse.ensures.value.0 c.ok.ensures.value

pub returns-in-Err : goal.returns-in-Err
returns-in-Err c = not_text c.args.word.now c.in-Err.ensures.cases.0
