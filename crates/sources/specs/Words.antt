-- The words of an accepted table.
use Rattle.std.specs.Prelude.{ℕ, List}
use Rattle.sources.specs.declared.table.Table.{Table}
use Rattle.sources.specs.Slots.{words_in}

abbrev pub words_of : Table → List ℕ
words_of t = words_in t.slots.items
