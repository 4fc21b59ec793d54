-- The text of a line, and a lister that holds more text.
use Rattle.std.specs.Prelude.{◌≡◌, ℕ, ◌+◌, ◌<◌, ◌≤◌, List, [], ◌∷◌, ◌++◌, length, take, drop, Some, None, Option, decimal}
use Rattle.std.specs.Borrow.{MutBor}
use Rattle.std.specs.List.{flat_map}
use Rattle.inspectors.specs.declared.lister.Lister.{Lister}

-- a space and a number
abbrev pub spaced : ℕ → List ℕ
spaced n = 32 ∷ decimal n

-- a line: the code, the address and the words, in decimal, with a space between any two
abbrev pub line : ℕ → ℕ → List ℕ → List ℕ
line code address words = decimal code ++ (spaced address ++ (flat_map spaced words ++ (10 ∷ [])))

-- a reference to other content
abbrev pub with_now : {X : Type 0} → MutBor X → X → MutBor X
with_now r x = record r { now = x }

-- bs fits after what s holds
abbrev pub Room : Lister → List ℕ → Type 0
Room s bs = s.used + length bs ≤ length s.out.now

-- s with bs after what it holds
unfoldable pub appended : Lister → List ℕ → Lister
appended s bs = record { out = with_now s.out (take s.used s.out.now ++ (bs ++ drop (s.used + length bs) s.out.now)); used = s.used + length bs }

-- what a buffer holds after a line, if there is room for it, and how much of it
abbrev pub Lists : List ℕ → List ℕ → List ℕ → Option ℕ → Type 0
Lists text was is r = (length text ≤ length was → (is ≡ text ++ drop (length text) was) × (r ≡ Some (length text))) × (length was < length text → (is ≡ was) × (r ≡ None))
