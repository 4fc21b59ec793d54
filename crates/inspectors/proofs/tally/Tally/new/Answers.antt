use Rattle.std.proofs.Common.{rules}
use Rattle.inspectors.proofs.Counts.{counts_none}
use Rattle.inspectors.proofs.tally.Tally.new.Goals as goal

pub returns-clause-counts : goal.returns-clause-counts
returns-clause-counts c = counts_none _ (search rules)
