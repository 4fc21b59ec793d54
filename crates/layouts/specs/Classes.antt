-- The class of a word: what its own entry and the entry before it make of it.
use Rattle.std.specs.Prelude.{ℕ, zero, suc, ◌+◌, ◌-◌}
use Rattle.layouts.specs.declared.entry.Entry.{Entry}
use Rattle.layouts.specs.declared.entry.Entry.TheVariants.{Z, P, Code}
use Rattle.layouts.specs.declared.entry.Class.{Class}
use Rattle.layouts.specs.declared.entry.Class.TheVariants.{Plain, Pointer, Typed, SecondHalf}
use Rattle.layouts.specs.Types.{Types}

-- by the word's entry, then the one before it
abbrev pub class_by : Entry → Entry → Class
class_by P before = Pointer
class_by (Code k) before = Typed k
class_by Z P = SecondHalf
class_by Z Z = Plain
class_by Z (Code k) = Plain

abbrev pub class_of : Types → ℕ → ℕ → Class
class_of t c i = class_by (t.entry c i) (t.entry c (i - 1))

-- whether a word is the place of a pointer or of an address
abbrev pub reference : Class → ℕ
reference Plain = 0
reference Pointer = 1
reference (Typed k) = 1
reference SecondHalf = 0

-- how many of the first n words of a cell are
abbrev pub references : Types → ℕ → ℕ → ℕ
references t c zero = 0
references t c (suc n) = references t c n + reference (class_of t c (suc n))
