use Rattle.std.proofs.Common.{arith}
use Rattle.lines.proofs.Listings.{follows_lists, upto_more, upto_bad, upto_end}
use Rattle.lines.proofs.Outcomes.{is_ok_some, some_ok}
use Rattle.lines.proofs.number.numbers_in.Goals as goal

pub returns-in_err-word-items : goal.returns-in_err-word-items
returns-in_err-word-items g c = rw c.from_residual.ensures (λ ns l h. c.in_err-word-items.ensures (follows_lists c.args.text.now ns l))

pub returns-in_err-number : goal.returns-in_err-number
returns-in_err-number g c =
    rw c.from_residual-in_err-number.ensures (λ ns l h. upto_bad c.loop-word.invariant.1 c.in-Some.ensures.steps c.in_err-number.ensures ns l)

pub loop-word-preserved : goal.loop-word-preserved
loop-word-preserved g c =
    let more = upto_more c.in_ok-number.field-0 c.loop-word.invariant.1 c.in-Some.ensures.steps c.in_ok-number.ensures in
    let pushed = some_ok _ _ c.try_push.result c.in_ok-ok.field-0 c.in_ok-ok.ensures.value c.try_push.ensures.ok in
    let longer = some_ok _ _ c.try_push.result c.in_ok-ok.field-0 c.in_ok-ok.ensures.value c.try_push.ensures.len in
    let room = c.try_push.ensures.variant.0 (is_ok_some c.try_push.result c.in_ok-ok.field-0 c.in_ok-ok.ensures.value) in
    (omega (arith, room, longer), rw pushed more)

pub returns : goal.returns
returns g c = (c.loop-word.invariant.0, upto_end c.loop-word.invariant.1 c.in-None.ensures.steps.0)
