-- The numbers after a name, one after the other.
use Rattle.std.specs.Prelude.{◌≡◌, ℕ, ◌+◌, ◌≤◌, List, [], ◌∷◌, map, length, Some, None, Option}
use Rattle.lines.specs.declared.argument.Argument.{Argument}
use Rattle.lines.specs.declared.arguments.Arguments.{Arguments}
use Rattle.lines.specs.declared.arguments.Arguments.TheVariants.{One, Two, Three}
use Rattle.lines.specs.declared.part.Part.{Part}
use Rattle.lines.specs.Numbers.{Lists}
use Rattle.lines.specs.Parts.{text, Within, NextWord}

-- what they write
abbrev pub values : List Argument → List ℕ
values es = map (λ e. e.value) es

-- the words that follow are these numbers, and no more
abbrev pub Follow : Part → List Argument → Type 0
Follow rest [] = text rest ≡ []
Follow rest (e ∷ es) = (after : Part) × NextWord rest e.part after × Follow after es

-- the same as a list
abbrev pub listed : Arguments → List Argument
listed (One d) = d ∷ []
listed (Two d e) = d ∷ e ∷ []
listed (Three d e f) = d ∷ e ∷ f ∷ []

-- one, two or three numbers follow, or anything else
abbrev pub Gathered : Part → Option Arguments → Type 0
Gathered rest None = (ns : List ℕ) → Lists (text rest) ns → 1 ≤ length ns → length ns ≤ 3 → ⊥
Gathered rest (Some a) = Follow rest (listed a)

-- from place k of the line on, each word stands after a space, up to the end of the line
abbrev pub Stand : List ℕ → ℕ → List Argument → Type 0
Stand line k [] = k ≡ length line
Stand line k (e ∷ es) =
    (e.part.at ≡ k + 1) × Within line e.part × Stand line (e.part.at + length (text e.part)) es
