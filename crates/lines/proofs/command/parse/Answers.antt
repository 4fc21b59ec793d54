use Rattle.std.proofs.Common.{◌≡◌, codes, refl, arith}
use Rattle.std.proofs.lemmas.Grind.{common_steps}
use Rattle.lines.proofs.Readings.{parsed_types, parsed_words}
use Rattle.lines.proofs.command.parse.Goals as goal

pub returns-in-types : goal.returns-in-types
returns-in-types c =
    let named : c.cut.result.0.now ≡ codes "types" = grind (arith, common_steps) in
    parsed_types c.args.line.now c.cut.result.0.now _ c.parse_types.result (omega arith) c.cut.ensures refl named c.parse_types.ensures

pub returns-in_default : goal.returns-in_default
returns-in_default c =
    let other : c.cut.result.0.now ≡ codes "types" → ⊥ = grind (arith, common_steps) in
    parsed_words c.args.line.now c.cut.result.0.now _ c.parse_words.result (omega arith) c.cut.ensures refl other c.parse_words.ensures
