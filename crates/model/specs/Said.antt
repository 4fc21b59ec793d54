-- What the words of a cell say, in the model's terms.
use Rattle.std.specs.Prelude.{ℕ, List, Some, Option, slice_index}
use Rattle.layouts.specs.declared.entry.Class.{Class}
use Rattle.layouts.specs.declared.entry.Class.TheVariants.{Plain, Pointer, Typed, SecondHalf}
use Rattle.layouts.specs.Types.{Types}
use Rattle.layouts.specs.Classes.{class_of}
use Rattle.cells.specs.declared.content.Content.{Content}
use Rattle.cells.specs.Words.{says, place}
use Rattle.model.specs.Model.{Made, Word, number, second, value, shown}

pub data Said : Type 0 where
  -- a plain word
  plain : ℕ → Said
  -- the second half of a pointer
  half : Said
  -- a pointer or a typed word: its content, or none where its child does not fit
  content : Option Content → Said

abbrev pub said_by : Types → List ℕ → ℕ → Class → Said
said_by t w p Plain = plain (slice_index w p)
said_by t w p Pointer = content (says t w p Pointer)
said_by t w p (Typed c) = content (says t w p (Typed c))
said_by t w p SecondHalf = half

-- what word i of the cell of code c at a says
abbrev pub said : Types → List ℕ → ℕ → ℕ → ℕ → Said
said t w c a i = said_by t w (place a i) (class_of t c i)

-- what words say that have what the model has
abbrev pub shown_word : List Made → Word → Said
shown_word cs (number x) = plain x
shown_word cs second = half
shown_word cs (value x) = content (Some (shown cs x))
