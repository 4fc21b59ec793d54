-- The model of a list of calls: what each hold has, and every cell that was ever made with what its words have. It knows
-- nothing of marks and free words.
use Rattle.std.specs.Prelude.{◌≡◌, ℕ, List, [], slice_index_or}
use Rattle.cells.specs.declared.content.Content.{Content}
use Rattle.cells.specs.declared.content.Content.TheVariants.{Nothing, Cell, Immediate}
use Rattle.calls.specs.declared.record.HoldRecord.{HoldRecord}
use Rattle.calls.specs.Holds.{Has, unheld, holding}

-- what a hold, a pointer or a typed word has
pub data Value : Type 0 where
  nothing : Value
  -- the cell that was made as number k, counted from 0
  cell : ℕ → Value
  -- of a code, with a number
  immediate : ℕ → ℕ → Value

-- what a word of a cell has
pub data Word : Type 0 where
  -- a plain word
  number : ℕ → Word
  -- the second half of the pointer before it, which has no content of its own
  second : Word
  -- a pointer or a typed word
  value : Value → Word

pub data Hold : Type 0 where
  free : Hold
  held : Value → Hold

-- a cell that was made; its word i stands at the place i - 1
pub record Made : Type 0 where
  pub code : ℕ
  pub address : ℕ
  pub words : List Word

pub record Model : Type 0 where
  pub holds : List Hold
  pub cells : List Made

abbrev pub unmade : Made
unmade = record { code = 0; address = 0; words = [] }

abbrev pub made : List Made → ℕ → Made
made cs k = slice_index_or cs k unmade

abbrev pub code_of : List Made → ℕ → ℕ
code_of cs k = (made cs k).code

abbrev pub address_of : List Made → ℕ → ℕ
address_of cs k = (made cs k).address

-- what word j + 1 of the cell k has
abbrev pub word_of : List Made → ℕ → ℕ → Word
word_of cs k j = slice_index_or (made cs k).words j second

abbrev pub hold_of : Model → ℕ → Hold
hold_of b h = slice_index_or b.holds h free

-- what is reached from the cells of P: themselves, and what a word of a reached cell has
pub data From (cs : List Made) (P : ℕ → Type 0) : ℕ → Type 0 where
  root : {k : ℕ} → P k → From cs P k
  word : {k l : ℕ} (j : ℕ) → From cs P k → word_of cs k j ≡ value (cell l) → From cs P l

abbrev pub InHold : List Hold → ℕ → ℕ → Type 0
InHold hs h k = slice_index_or hs h free ≡ held (cell k)

abbrev pub InHolds : List Hold → ℕ → Type 0
InHolds hs k = (h : ℕ) × InHold hs h k

-- a cell is reached if a hold has it, or a word of a reached cell
abbrev pub Reached : Model → ℕ → Type 0
Reached b = From b.cells (InHolds b.holds)

-- .. and reached from the one hold h
abbrev pub ReachedFrom : Model → ℕ → ℕ → Type 0
ReachedFrom b h = From b.cells (InHold b.holds h)

-- a value as memory has it: a cell by its code and address
abbrev pub shown : List Made → Value → Content
shown cs nothing = Nothing
shown cs (cell k) = Cell (code_of cs k) (address_of cs k)
shown cs (immediate c x) = Immediate c x

abbrev pub shown_hold : List Made → Hold → HoldRecord
shown_hold cs free = unheld
shown_hold cs (held x) = holding (shown cs x)

-- what a refusal reads of a hold
abbrev pub has_value : List Made → Value → Has
has_value cs nothing = Has.nothing
has_value cs (cell k) = Has.cell (code_of cs k)
has_value cs (immediate c x) = Has.immediate c

abbrev pub has_hold : List Made → Hold → Has
has_hold cs free = Has.free
has_hold cs (held x) = has_value cs x

abbrev pub reading : Model → ℕ → Has
reading b h = has_hold b.cells (hold_of b h)
