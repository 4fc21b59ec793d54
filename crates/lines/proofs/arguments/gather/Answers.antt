use Rattle.lines.proofs.Listings.{lists_none, upto_none, upto_argument, upto_bad, upto_full}
use Rattle.lines.proofs.arguments.gather.Goals as goal

pub returns-in_err-next : goal.returns-in_err-next
returns-in_err-next c =
    rw c.from_residual.ensures (λ ns l h k. lists_none c.args.words.rest.text.now ns c.in_err-next.ensures.steps.0 l h)

pub returns-in_err-first : goal.returns-in_err-first
returns-in_err-first c =
    rw c.from_residual-in_err-first.ensures (λ ns l h k. upto_bad upto_none c.in_ok-next.ensures.steps c.in_err-first.ensures ns l)

pub returns-in_err-second : goal.returns-in_err-second
returns-in_err-second c =
    let one = upto_argument c.in_ok-first.first upto_none c.in_ok-next.ensures.steps c.in_ok-first.ensures in
    rw c.from_residual-in_err-second.ensures (λ ns l h k. upto_bad one c.in-Some.ensures.steps c.in_err-second.ensures ns l)

pub returns-in_err-third : goal.returns-in_err-third
returns-in_err-third c =
    let one = upto_argument c.in_ok-first.first upto_none c.in_ok-next.ensures.steps c.in_ok-first.ensures in
    let two = upto_argument c.in_ok-second.second one c.in-Some.ensures.steps c.in_ok-second.ensures in
    rw c.from_residual-in_err-third.ensures (λ ns l h k. upto_bad two c.in-Some-next.ensures.steps c.in_err-third.ensures ns l)

pub returns-in-Some-next-2 : goal.returns-in-Some-next-2
returns-in-Some-next-2 c =
    let one = upto_argument c.in_ok-first.first upto_none c.in_ok-next.ensures.steps c.in_ok-first.ensures in
    let two = upto_argument c.in_ok-second.second one c.in-Some.ensures.steps c.in_ok-second.ensures in
    let three = upto_argument c.in_ok-third.third two c.in-Some-next.ensures.steps c.in_ok-third.ensures in
    λ ns l h k. upto_full three c.in-Some-next-2.ensures.steps ns l k
