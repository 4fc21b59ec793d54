use Rattle.std.proofs.Common.{[], ◌∷◌}
use Rattle.lines.proofs.Picking.{parsed}
use Rattle.lines.proofs.command.parse_words.Goals as goal

pub returns-in-One : goal.returns-in-One
returns-in-One c =
    parsed c.args.name.now c.args.follow.rest (c.in-One.number ∷ []) c.with_one.result (rw c.in-One.is at c.in_ok-number.ensures) c.with_one.ensures

pub returns-in-Two : goal.returns-in-Two
returns-in-Two c =
    parsed c.args.name.now c.args.follow.rest (c.in-Two.first ∷ c.in-Two.second ∷ []) c.with_two.result (rw c.in-Two.is at c.in_ok-number.ensures) c.with_two.ensures

pub returns-in-Three : goal.returns-in-Three
returns-in-Three c =
    parsed c.args.name.now c.args.follow.rest (c.in-Three.hold ∷ c.in-Three.second ∷ c.in-Three.third ∷ []) c.with_three.result (rw c.in-Three.is at c.in_ok-number.ensures) c.with_three.ensures
