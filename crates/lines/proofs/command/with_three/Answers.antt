use Rattle.std.proofs.Common.{◌≡◌, codes, arith}
use Rattle.std.proofs.lemmas.Grind.{common_steps}
use Rattle.lines.proofs.Picking.{none_with_three}
use Rattle.lines.proofs.command.with_three.Goals as goal

pub returns-in_default : goal.returns-in_default
returns-in_default c =
    let no_note : c.args.name.now ≡ codes "note" → ⊥ = grind (arith, common_steps) in
    let no_set : c.args.name.now ≡ codes "set" → ⊥ = grind (arith, common_steps) in
    let no_put : c.args.name.now ≡ codes "put" → ⊥ = grind (arith, common_steps) in
    let no_fetch : c.args.name.now ≡ codes "fetch" → ⊥ = grind (arith, common_steps) in
    none_with_three c.args.name.now c.args.hold.value c.args.second.value c.args.third.value no_note no_set no_put no_fetch
