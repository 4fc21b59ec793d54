use Rattle.std.proofs.Common.{rules}
use Rattle.tracing.proofs.by_number.trace.Goals as goal

pub returns-in_err-scanned-2 : goal.returns-in_err-scanned-2
returns-in_err-scanned-2 g c = record { small = search rules; zeroed = search rules; refused = search rules; scanned = search rules }

pub returns : goal.returns
returns g c = record { small = search rules; zeroed = search rules; refused = search rules; scanned = search rules }
