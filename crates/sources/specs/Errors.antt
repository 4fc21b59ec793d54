-- Why there is no table: the words get a refusal, or they get none and there was no memory.
use Rattle.std.specs.Prelude.{◌≡◌, ℕ, List, Some, None}
use Rattle.layouts.specs.Table.{table_refusal}
use Rattle.sources.specs.declared.error.Failure.{Failure}
use Rattle.sources.specs.declared.error.Failure.TheVariants.{Refused, NoMemory}

abbrev pub NoTable : List ℕ → Failure → Type 0
NoTable ws (Refused f) = table_refusal ws ≡ Some f
NoTable ws NoMemory = table_refusal ws ≡ None
