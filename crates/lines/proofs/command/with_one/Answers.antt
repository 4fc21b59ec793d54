use Rattle.std.proofs.Common.{◌≡◌, ◌<◌, codes, arith}
use Rattle.std.proofs.lemmas.Grind.{common_steps}
use Rattle.lines.proofs.Picking.{none_with_one}
use Rattle.lines.proofs.command.with_one.Goals as goal

pub returns-in_default : goal.returns-in_default
returns-in_default c =
    let large : c.args.name.now ≡ codes "heap" → 1024 < c.args.number.value = grind (arith, common_steps) in
    let no_take : c.args.name.now ≡ codes "take" → ⊥ = grind (arith, common_steps) in
    let no_release : c.args.name.now ≡ codes "release" → ⊥ = grind (arith, common_steps) in
    let no_tell : c.args.name.now ≡ codes "tell" → ⊥ = grind (arith, common_steps) in
    none_with_one c.args.name.now c.args.number.value large no_take no_release no_tell
