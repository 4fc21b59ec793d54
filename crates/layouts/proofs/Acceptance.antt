-- A table is accepted exactly when it follows the template rule, and then means what its templates mean.
use Rattle.std.proofs.Common.{ℕ, List}
use Rattle.layouts.specs.Statements.{AcceptedExactly, TableMeans}
use Rattle.layouts.proofs.Sound.{sound, accepted}
use Rattle.layouts.proofs.Accepted.{rule_sound, same_meaning}
use Rattle.layouts.proofs.Cut.{sound_rule}

pub accepted_exactly : (ws : List ℕ) → AcceptedExactly ws
accepted_exactly ws = (λ e. sound_rule ws (sound ws e), λ f. accepted ws (rule_sound ws f))

pub table_means : TableMeans
table_means ws e = let f = sound_rule ws (sound ws e) in (f, same_meaning ws f)
