-- What a visit does to a tally.
use Rattle.std.specs.Prelude.{ℕ, suc, ◌+◌, ◌^◌, Bool, cond, ◌&&◌, ◌||◌, List, [], ◌∷◌, length, replicate, Some, None, Option, ◌==◌, nat_lt, slice_index_or, slice_set}
use Rattle.scan.specs.Visits.{Visit}
use Rattle.inspectors.specs.declared.tally.Row.{Row}
use Rattle.inspectors.specs.declared.tally.Tally.{Tally}

-- the row of a code, or one that counts nothing yet
abbrev pub serves : ℕ → Row → Bool
serves code r = r.code == code || r.cells == 0

-- the first such row's place, or how many rows there are
abbrev pub place : ℕ → List Row → ℕ
place code [] = 0
place code (r ∷ rs) = cond (serves code r) 0 (suc (place code rs))

-- a row that counts nothing
abbrev pub blank : Row
blank = record { code = 0; cells = 0; words = 0 }

-- one cell of n words more
abbrev pub counted : ℕ → ℕ → Row → Row
counted code n r = record { code = code; cells = r.cells + 1; words = r.words + n }

-- there is such a row, and both counts stay below 2^32
abbrev pub takes : List Row → ℕ → ℕ → Bool
takes rows i n = nat_lt i (length rows) && (nat_lt ((slice_index_or rows i blank).cells + 1) (2 ^ 32) && nat_lt ((slice_index_or rows i blank).words + n) (2 ^ 32))

-- the visit of a code that shows n words, counted in row i
abbrev pub tally_at : Tally → ℕ → ℕ → ℕ → Option Tally
tally_at s i code n = cond (takes s.rows i n) (Some (record { rows = slice_set s.rows i (counted code n (slice_index_or s.rows i blank)) })) None

-- counted in the row that serves its code, or refused
abbrev pub tally_step : Tally → Visit → Option Tally
tally_step s v = tally_at s (place v.code s.rows) v.code (length v.words)

-- a tally of nothing
abbrev pub empty : Tally
empty = record { rows = replicate 32 blank }
