-- Hold records, and what a refusal reads of them.
use Rattle.std.specs.Prelude.{ℕ, Bool, true, false, cond, List, slice_index_or}
use Rattle.cells.specs.declared.content.Content.{Content}
use Rattle.cells.specs.declared.content.Content.TheVariants.{Nothing, Cell, Immediate}
use Rattle.calls.specs.declared.record.HoldRecord.{HoldRecord}

-- a hold that is not held, and one that is held with a content
abbrev pub unheld : HoldRecord
unheld = record { held = false; content = Nothing }

abbrev pub holding : Content → HoldRecord
holding k = record { held = true; content = k }

-- the record of hold h
abbrev pub at : List HoldRecord → ℕ → HoldRecord
at rs h = slice_index_or rs h unheld

-- what a hold has; a hold that is not held has nothing
abbrev pub root_of : HoldRecord → Content
root_of r = cond r.held r.content Nothing

-- what a hold has, as far as any refusal depends on it: a cell goes by its code
pub data Has : Type 0 where
  free : Has
  nothing : Has
  cell : ℕ → Has
  immediate : ℕ → Has

abbrev pub has : Content → Has
has Nothing = nothing
has (Cell code address) = cell code
has (Immediate code number) = immediate code

-- the reading of a hold table
abbrev pub reads : List HoldRecord → ℕ → Has
reads rs h = cond (at rs h).held (has (at rs h).content) free

abbrev pub is_held : Has → Bool
is_held free = false
is_held nothing = true
is_held (cell code) = true
is_held (immediate code) = true

abbrev pub is_cell : Has → Bool
is_cell free = false
is_cell nothing = false
is_cell (cell code) = true
is_cell (immediate code) = false

-- the code of a cell; 0, which is no type, where there is none
abbrev pub code_of : Has → ℕ
code_of free = 0
code_of nothing = 0
code_of (cell code) = code
code_of (immediate code) = 0
