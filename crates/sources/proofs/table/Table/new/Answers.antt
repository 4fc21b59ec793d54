use Rattle.std.proofs.Common.{is_some, sym, ap, ◌∙◌}
use Rattle.sources.proofs.Answered.{answered}
use Rattle.sources.proofs.table.Table.new.Goals as goal

pub returns : goal.returns
returns c =
    let w = c.in_ok-flagged.ensures.words in
    let r = c.in_ok-flagged.ensures.refusal in
    let k = c.in_ok-copied.ensures in
    answered c.args.words.now _ (ap is_some (sym r)) (k ∙ w)
