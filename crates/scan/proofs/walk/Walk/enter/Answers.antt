use Rattle.std.proofs.Common.{arith}
use Rattle.scan.proofs.Counts.{unmarked_some}
use Rattle.scan.proofs.walk.Walk.enter.Goals as goal

pub bounds-self-self : goal.bounds-self-self
bounds-self-self g c =
    let before = c.args.self.now in
    let h = unmarked_some before.marks.now c.args.address (omega (arith, before.same)) c.if-is_marked.false in
    omega (arith, before.same, before.places)
