use Rattle.inspectors.proofs.Listings.{writes}
use Rattle.inspectors.proofs.lister.Lister.new.Goals as goal

pub returns-clause-writes : goal.returns-clause-writes
returns-clause-writes c = writes c.args.buffer
