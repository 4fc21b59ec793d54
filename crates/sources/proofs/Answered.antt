-- The answer of a table's making, from the copy of an accepted table.
use Rattle.std.proofs.Common.{◌≡◌, ℕ, List, sym, subst}
use Rattle.layouts.specs.Table.{Accepted, table}
use Rattle.layouts.specs.Statements.{MeansTemplates}
use Rattle.layouts.proofs.Acceptance.{table_means}

pub answered : (ws vs : List ℕ) → Accepted ws → vs ≡ ws → (vs ≡ ws) × MeansTemplates ws (table vs)
answered ws vs a e = (e, subst (λ (x : List ℕ). MeansTemplates ws (table x)) (sym e) (table_means ws a))
