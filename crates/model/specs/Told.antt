-- What accepted calls do to a model.
use Rattle.std.specs.Prelude.{ℕ, suc, List, [], ◌∷◌, ◌++◌, map, length, replicate, slice_set}
use Rattle.std.specs.List.{range_with_len}
use Rattle.layouts.specs.declared.entry.Class.{Class}
use Rattle.layouts.specs.declared.entry.Class.TheVariants.{Plain, Pointer, Typed, SecondHalf}
use Rattle.layouts.specs.Types.{Types}
use Rattle.layouts.specs.Classes.{class_of}
use Rattle.scan.specs.Children.{width}
use Rattle.model.specs.Model.{Model, Made, Hold, free, held, Word, number, second, value, nothing, cell, made, code_of, address_of}

-- nothing was made, and no hold is held
abbrev pub new_model : Model
new_model = record { holds = replicate 64 free; cells = [] }

-- the hold h has y
abbrev pub with_hold : Model → ℕ → Hold → Model
with_hold b h y = record { holds = slice_set b.holds h y; cells = b.cells }

-- word j + 1 of the cell k has x
abbrev pub written : List Made → ℕ → ℕ → Word → List Made
written cs k j x = slice_set cs k (record { code = code_of cs k; address = address_of cs k; words = slice_set (made cs k).words j x })

abbrev pub with_word : Model → ℕ → ℕ → Word → Model
with_word b k j x = record { holds = b.holds; cells = written b.cells k j x }

-- what a word of a new cell has: a plain word 0, every other nothing
abbrev pub blank_word : Class → Word
blank_word Plain = number 0
blank_word Pointer = value nothing
blank_word (Typed c) = value nothing
blank_word SecondHalf = second

abbrev pub blank : Types → ℕ → ℕ → Made
blank t c a = record { code = c; address = a; words = map (λ j. blank_word (class_of t c (suc j))) (range_with_len 0 (width t c)) }

-- the hold h has a new cell of code c at address a
abbrev pub with_new : Types → Model → ℕ → ℕ → ℕ → Model
with_new t b h c a = record { holds = slice_set b.holds h (held (cell (length b.cells))); cells = b.cells ++ (blank t c a ∷ []) }
