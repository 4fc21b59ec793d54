-- What the words of a cell lead to.
use Rattle.std.specs.Prelude.{ℕ, ◌+◌, List, Some, None, Option}
use Rattle.std.specs.List.{between}
use Rattle.layouts.specs.declared.entry.Class.{Class}
use Rattle.layouts.specs.declared.entry.Class.TheVariants.{Plain, Pointer, Typed, SecondHalf}
use Rattle.layouts.specs.Types.{Types}
use Rattle.layouts.specs.Classes.{class_of}
use Rattle.cells.specs.declared.content.Content.{Content}
use Rattle.cells.specs.declared.content.Content.TheVariants.{Nothing as NoContent, Cell as CellContent, Immediate}
use Rattle.cells.specs.Words.{words_in, says, place}
use Rattle.scan.specs.Visits.{Visit, visit_of}
use Rattle.scan.specs.declared.frame.Child.{Child}
use Rattle.scan.specs.declared.frame.Child.TheVariants.{Nothing, Cell, Misfit}

-- how many words a cell of the code has
abbrev pub width : Types → ℕ → ℕ
width t c = words_in (t.size c)

-- nothing and an immediate are no child; what a word says of no content does not fit
abbrev pub child_in : Option Content → Child
child_in None = Misfit
child_in (Some NoContent) = Nothing
child_in (Some (CellContent c a)) = Cell c a
child_in (Some (Immediate c x)) = Nothing

abbrev pub child_by : Types → List ℕ → ℕ → Class → Child
child_by t w p Plain = Nothing
child_by t w p Pointer = child_in (says t w p Pointer)
child_by t w p (Typed k) = child_in (says t w p (Typed k))
child_by t w p SecondHalf = Nothing

-- what word i of the cell of code c at a leads to
abbrev pub child_at : Types → List ℕ → ℕ → ℕ → ℕ → Child
child_at t w c a i = child_by t w (place a i) (class_of t c i)

-- the visit of the cell of code c at a
abbrev pub cell_visit : Types → List ℕ → ℕ → ℕ → Visit
cell_visit t w c a = visit_of c a (between a (a + width t c) w)
