use Rattle.std.proofs.Common.{◌≤◌, length}
use Rattle.lines.proofs.Listings.{Upto}
use Rattle.lines.proofs.number.numbers_in.Given as goal

abbrev pub invariant-loop-word : goal.invariant-loop-word
invariant-loop-word g l = (length l.numbers.items ≤ g.row.N) × Upto l.text l.numbers.items l.word-iterator.rest.text.now
