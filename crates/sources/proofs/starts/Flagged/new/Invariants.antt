use Rattle.std.proofs.Common.{◌≡◌, ℕ, ◌<◌, false, length, get_or}
use Rattle.layouts.specs.Table.{due, begins}
use Rattle.sources.proofs.starts.Flagged.new.Given as goal

abbrev pub invariant-loop-k : goal.invariant-loop-k
invariant-loop-k l = (length l.starts ≡ 32768) × (l.left ≡ due l.words l.k) × ((j : ℕ) → j < l.k → get_or l.starts j false ≡ begins l.words j)
