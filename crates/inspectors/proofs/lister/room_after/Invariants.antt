use Rattle.std.proofs.Common.{◌≡◌, ◌+◌, length, drop}
use Rattle.std.specs.List.{flat_map}
use Rattle.inspectors.specs.Lines.{spaced}
use Rattle.inspectors.proofs.lister.room_after.Given as goal

abbrev pub invariant-loop-w : goal.invariant-loop-w
invariant-loop-w l = l.left + length (flat_map spaced l.words) ≡ l.initial.left + length (flat_map spaced (drop l.w-index l.words))
