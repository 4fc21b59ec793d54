-- Flags that say of each word of a table whether a template begins there.
use Rattle.std.specs.Prelude.{◌≡◌, ℕ, ◌<◌, Bool, false, List, length, slice_index_or}
use Rattle.layouts.specs.Table.{begins}

abbrev pub Flags : List ℕ → List Bool → Type 0
Flags ws bs = (k : ℕ) → k < length ws → slice_index_or bs k false ≡ begins ws k
