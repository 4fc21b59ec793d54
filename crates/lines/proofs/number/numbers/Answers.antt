use Rattle.std.proofs.Common.{◌<◌, length, take, sym, arith}
use Rattle.std.proofs.lemmas.List.{length-set, length-take-le, take_more_set}
use Rattle.lines.proofs.Listings.{follows_lists, upto_more, upto_bad, upto_full, upto_end}
use Rattle.lines.proofs.number.numbers.Goals as goal

pub returns-in_err-word-items : goal.returns-in_err-word-items
returns-in_err-word-items c = rw c.from_residual.ensures (λ ns l h. c.in_err-word-items.ensures (follows_lists c.args.text.now ns l))

pub returns-then-count-buffer : goal.returns-then-count-buffer
returns-then-count-buffer c = λ ns l h.
    upto_full c.loop-word.invariant.1 c.in-Some.ensures.steps ns l (omega (arith, h, length-take-le c.loop-word.count c.loop-word.buffer (omega arith)))

pub returns-in_err-buffer : goal.returns-in_err-buffer
returns-in_err-buffer c =
    rw c.from_residual-in_err-buffer.ensures (λ ns l h. upto_bad c.loop-word.invariant.1 c.in-Some.ensures.steps c.in_err-buffer.ensures ns l)

pub loop-word-preserved : goal.loop-word-preserved
loop-word-preserved c =
    let inside : c.loop-word.count < length c.loop-word.buffer = omega arith in
    let more = upto_more c.in_ok-buffer.field-0 c.loop-word.invariant.1 c.in-Some.ensures.steps c.in_ok-buffer.ensures in
    (omega (arith, length-set c.loop-word.buffer c.loop-word.count c.in_ok-buffer.field-0), rw (take_more_set c.loop-word.buffer c.loop-word.count c.in_ok-buffer.field-0 inside) more)

pub returns : goal.returns
returns c = (c.loop-word.invariant.0, upto_end c.loop-word.invariant.1 c.in-None.ensures.steps.0)
