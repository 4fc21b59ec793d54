-- The words of a table, and the flags beside them.
use Rattle.std.specs.Prelude.{ℕ, Bool, List, map}
use Rattle.sources.specs.declared.table.Slot.{Slot}
use Rattle.sources.specs.Flags.{Flags}

-- a word beside its flag
abbrev pub slot_of : ℕ × Bool → Slot
slot_of p = record { word = p.0; begins = p.1 }

abbrev pub words_in : List Slot → List ℕ
words_in slots = map (λ s. s.word) slots

-- each flag says whether a template begins at its word
abbrev pub SlotsFlagged : List Slot → Type 0
SlotsFlagged slots = Flags (words_in slots) (map (λ s. s.begins) slots)
