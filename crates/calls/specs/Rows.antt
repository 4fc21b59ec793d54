-- The rows of the refusal table, over a reading of the holds: when each number is due, and at which place.
use Rattle.std.specs.Prelude.{ℕ, Bool, true, false, cond, not, ◌&&◌, List, [], ◌∷◌, is_some, Some, None, Option, ◌==◌, nat_le}
use Rattle.std.specs.Option.{option_or}
use Rattle.refusals.specs.declared.refusal.Refusal.{Refusal}
use Rattle.refusals.specs.declared.refusal.Refusal.TheVariants.{MemorySize, HoldNumber, HoldState, NoType, TypeSize, NoCell, NoWord, WordClass}
use Rattle.layouts.specs.declared.entry.Class.{Class}
use Rattle.layouts.specs.declared.entry.Class.TheVariants.{Plain, Pointer, Typed, SecondHalf}
use Rattle.layouts.specs.Types.{Types}
use Rattle.layouts.specs.Classes.{class_of}
use Rattle.calls.specs.Holds.{Has, free, nothing, cell, immediate, is_held, is_cell, code_of}
use Rattle.cells.specs.Words.{words_in}

-- the first row that is due
abbrev pub first_due : List (Option Refusal) → Option Refusal
first_due [] = None
first_due (row ∷ rows) = option_or row (first_due rows)

-- the refusal, where a test fails
abbrev pub unless : Bool → Refusal → Option Refusal
unless b f = cond b None (Some f)

-- 1: a heap has 2 to 65,536 words, and as many marks
abbrev pub row_1 : ℕ → ℕ → Option Refusal
row_1 L M = unless (nat_le 2 L && (nat_le L 65536 && M == L)) MemorySize

-- 1, of a call that scans: the pending places are no fewer than the words
abbrev pub memory_due : ℕ → ℕ → ℕ → Option Refusal
memory_due L M P = first_due (row_1 L M ∷ unless (nat_le L P) MemorySize ∷ [])

-- 2: a hold above 63; of two the first named first
abbrev pub row_2 : List ℕ → Option Refusal
row_2 [] = None
row_2 (h ∷ hs) = option_or (unless (nat_le h 63) (HoldNumber h)) (row_2 hs)

-- 3: a hold that is held and should not be, or is not and should
abbrev pub row_3 : Bool → (ℕ → Has) → List ℕ → Option Refusal
row_3 wanted r [] = None
row_3 true r (h ∷ hs) = option_or (unless (is_held (r h)) (HoldState h)) (row_3 true r hs)
row_3 false r (h ∷ hs) = option_or (unless (not (is_held (r h))) (HoldState h)) (row_3 false r hs)

-- 4: no such type
abbrev pub row_4 : Types → ℕ → Option Refusal
row_4 t c = unless (is_some (t.size c)) (NoType c)

-- 5: an immediate of a type that has words
abbrev pub row_5 : Types → ℕ → Option Refusal
row_5 t c = unless (words_in (t.size c) == 0) (TypeSize c)

-- 5, of a call that makes a cell: a type that has no cells
abbrev pub row_5_cell : Types → ℕ → Option Refusal
row_5_cell t c = unless (nat_le 1 (words_in (t.size c))) (TypeSize c)

-- 6: no cell in the hold
abbrev pub row_6 : (ℕ → Has) → ℕ → Option Refusal
row_6 r h = unless (is_cell (r h)) (NoCell h)

-- 8: word 0, or above n
abbrev pub row_8 : Types → (ℕ → Has) → ℕ → ℕ → Option Refusal
row_8 t r h i = unless (nat_le 1 i && nat_le i (words_in (t.size (code_of (r h))))) (NoWord i)

-- 9: a word of the wrong class
abbrev pub row_9 : (Class → Bool) → Types → (ℕ → Has) → ℕ → ℕ → Option Refusal
row_9 right t r h i = unless (right (class_of t (code_of (r h)) i)) (WordClass i)

-- look and set go to plain words
abbrev pub plain : Class → Bool
plain Plain = true
plain Pointer = false
plain (Typed c) = false
plain SecondHalf = false

-- put and fetch go to pointers and typed words
abbrev pub reference : Class → Bool
reference Plain = false
reference Pointer = true
reference (Typed c) = true
reference SecondHalf = false

-- a typed word takes a cell of its own code, or nothing
abbrev pub takes : Has → Class → Bool
takes x Plain = false
takes x Pointer = true
takes free (Typed c) = false
takes nothing (Typed c) = true
takes (cell code) (Typed c) = code == c
takes (immediate code) (Typed c) = false
takes x SecondHalf = false
