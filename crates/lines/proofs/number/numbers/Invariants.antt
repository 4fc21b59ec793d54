use Rattle.std.proofs.Common.{◌≤◌, length, take}
use Rattle.lines.proofs.Listings.{Upto}
use Rattle.lines.proofs.number.numbers.Given as goal

abbrev pub invariant-loop-word : goal.invariant-loop-word
invariant-loop-word l = (l.count ≤ length l.buffer) × Upto l.text (take l.count l.buffer) l.word-iterator.rest.text.now
