use Rattle.std.proofs.Common.{◌≡◌, ◌<◌, ◌≢◌, length, arith, get_or-set_other, get_or-set_same, length-set, below_more}
use Rattle.std.proofs.lemmas.Bool.Decides.{nat_tests}
use Rattle.layouts.specs.Table.{due, begins}
use Rattle.sources.proofs.Dues.{due_more}
use Rattle.sources.proofs.starts.Flagged.new.Goals as goal
use Rattle.sources.proofs.starts.Flagged.new.Goals.{then-k-ge1, else-k-ge1}

pub loop-k-preserved : goal.loop-k-preserved
loop-k-preserved c =
    let ws = c.args.words.now in
    let k = c.loop-k.k in
    let i : c.loop-k.left ≡ due ws k = c.loop-k.invariant.1 in
    let l : k < length ws = c.loop-k-test.true in
    let within : k < length c.loop-k.starts = omega arith in
    let here : c.if-k-ge1.starts ≡ begins ws k = elim c.if-k-ge1.branch [
      | then-k-ge1 w ↦ (let a = w.starts-is in let b = w.if-k-ge1.true in grind (arith, nat_tests))
      | else-k-ge1 w ↦ (let a = w.starts-is in let b = w.if-k-ge1.false in grind (arith, nat_tests))
    ] in (
      rw length-set c.loop-k.invariant.0,
      due_more ws k _ _ i c.next_due-left.ensures,
      below_more _ _ (λ j h. let ne : j ≢ k = omega arith in rw get_or-set_other (c.loop-k.invariant.2 j h)) (rw get_or-set_same here),
    )
