-- How the script writes numbers.
use Rattle.std.specs.Prelude.{◌≡◌, ℕ, ◌^◌, ◌<◌, ◌≤◌, List, map, length, take, Some, None, decimal, Option, ◌≢◌, slice_index}
use Rattle.std.specs.List.{flat_map, AllByRecursion}
use Rattle.arrayvec.specs.ArrayVec.{ArrayVec}
use Rattle.lines.specs.Words.{spaced}

-- no plus in front, and no zero in front of others
abbrev pub Plain : List ℕ → Type 0
Plain bs = (slice_index bs 0 ≢ 43) × (slice_index bs 0 ≡ 48 → length bs ≡ 1)

abbrev pub Small : ℕ → Type 0
Small n = n < 2 ^ 32

-- the word is the decimal digits of n
abbrev pub Writes : List ℕ → ℕ → Type 0
Writes word n = Small n × (word ≡ decimal n)

-- the text is the decimals of the numbers, each after a space
abbrev pub Lists : List ℕ → List ℕ → Type 0
Lists text ns = AllByRecursion Small ns × (text ≡ flat_map spaced (map decimal ns))

-- how many numbers the text lists, which stand first in the buffer, unless it lists more than have room or something else
abbrev pub Collects : List ℕ → List ℕ → Option ℕ → Type 0
Collects text buffer None = (ns : List ℕ) → Lists text ns → length ns ≤ length buffer → ⊥
Collects text buffer (Some k) = (k ≤ length buffer) × Lists text (take k buffer)

-- the numbers that the text lists, unless it lists more than have room or something else
abbrev pub Gives : List ℕ → ℕ → Option (ArrayVec ℕ) → Type 0
Gives text room None = (ns : List ℕ) → Lists text ns → length ns ≤ room → ⊥
Gives text room (Some v) = (length v.items ≤ room) × Lists text v.items
