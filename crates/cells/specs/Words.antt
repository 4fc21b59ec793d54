-- What the words of a cell say, in any memory, and how a content is written into them.
use Rattle.std.specs.Prelude.{ℕ, ◌+◌, ◌-◌, Bool, false, cond, ◌&&◌, List, length, Some, None, Option, ◌==◌, nat_le, slice_index, slice_set}
use Rattle.layouts.specs.declared.entry.Class.{Class}
use Rattle.layouts.specs.declared.entry.Class.TheVariants.{Plain, Pointer, Typed, SecondHalf}
use Rattle.layouts.specs.Types.{Types}
use Rattle.cells.specs.declared.content.Content.{Content}
use Rattle.cells.specs.declared.content.Content.TheVariants.{Nothing, Cell, Immediate}

-- how many words a cell of the type has; 0 where there is no such type
abbrev pub words_in : Option ℕ → ℕ
words_in None = 0
words_in (Some n) = n

-- a type that has no cells: its pointers hold immediate numbers
abbrev pub cell_free : Option ℕ → Bool
cell_free None = false
cell_free (Some n) = n == 0

-- a cell of code c at address a lies in a heap of L words
abbrev pub fits : Types → ℕ → ℕ → ℕ → Bool
fits t L c a = nat_le 1 (words_in (t.size c)) && (nat_le 1 a && nat_le (a + words_in (t.size c)) L)

-- the cell of code c at address a, where it fits
abbrev pub fitting_cell : Types → ℕ → ℕ → ℕ → Option Content
fitting_cell t L c a = cond (fits t L c a) (Some (Cell c a)) None

-- a pointer: code 0 is nothing, a type without cells makes an immediate
abbrev pub pointer_says : Types → ℕ → ℕ → ℕ → Option Content
pointer_says t L c x = cond (c == 0) (Some Nothing) (cond (cell_free (t.size c)) (Some (Immediate c x)) (fitting_cell t L c x))

-- a typed word: address 0 is nothing
abbrev pub typed_says : Types → ℕ → ℕ → ℕ → Option Content
typed_says t L c a = cond (a == 0) (Some Nothing) (fitting_cell t L c a)

-- what the word at p says, by its class; none where its child does not fit, and where it holds no content
abbrev pub says : Types → List ℕ → ℕ → Class → Option Content
says t w p Plain = None
says t w p Pointer = pointer_says t (length w) (slice_index w p) (slice_index w (p + 1))
says t w p (Typed c) = typed_says t (length w) c (slice_index w p)
says t w p SecondHalf = None

-- where word i of the cell at address a stands
abbrev pub place : ℕ → ℕ → ℕ
place a i = a + (i - 1)

-- the two words of a pointer to a content; a typed word takes the second
abbrev pub code_word : Content → ℕ
code_word Nothing = 0
code_word (Cell code address) = code
code_word (Immediate code number) = code

abbrev pub value_word : Content → ℕ
value_word Nothing = 0
value_word (Cell code address) = address
value_word (Immediate code number) = number

-- the words with a content put at p, by the class of the word there
abbrev pub with_content : List ℕ → ℕ → Class → Content → List ℕ
with_content w p Plain k = w
with_content w p Pointer k = slice_set (slice_set w p (code_word k)) (p + 1) (value_word k)
with_content w p (Typed c) k = slice_set w p (value_word k)
with_content w p SecondHalf k = w
