use Rattle.std.proofs.Common.{◌≡◌, ◌+◌, ◌≤◌, drop}
use Rattle.scan.specs.Marks.{unmarked}
use Rattle.sweeping.proofs.survey.count_unmarked.Given as goal

abbrev pub invariant-loop-mark : goal.invariant-loop-mark
invariant-loop-mark l = (l.free ≤ l.mark-index) × (l.free + unmarked (drop l.mark-index l.after) ≡ unmarked l.after)
