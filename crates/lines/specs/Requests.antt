-- What a line of the script asks for, and how the line is written.
use Rattle.std.specs.Prelude.{◌≡◌, ℕ, ◌≤◌, List, [], ◌∷◌, map, length, codes, decimal}
use Rattle.std.specs.List.{AllByRecursion}
use Rattle.lines.specs.Numbers.{Small}
use Rattle.lines.specs.Words.{one_apart}

pub data Request : Type 0 where
  -- take these words as the table of templates
  types : List ℕ → Request
  -- make a heap of that many words
  heap : ℕ → Request
  take : ℕ → Request
  release : ℕ → Request
  -- a hold, a code and a number
  note : ℕ → ℕ → ℕ → Request
  -- the hold to copy from, and the hold to copy to
  copy : ℕ → ℕ → Request
  tell : ℕ → Request
  -- a hold, a word of its cell, and then a number or another hold
  look : ℕ → ℕ → Request
  set : ℕ → ℕ → ℕ → Request
  put : ℕ → ℕ → ℕ → Request
  fetch : ℕ → ℕ → ℕ → Request

-- the first word of the line
abbrev pub name_of : Request → List ℕ
name_of (types ns) = codes "types"
name_of (heap l) = codes "heap"
name_of (take h) = codes "take"
name_of (release h) = codes "release"
name_of (note h c x) = codes "note"
name_of (copy g h) = codes "copy"
name_of (tell h) = codes "tell"
name_of (look h i) = codes "look"
name_of (set h i x) = codes "set"
name_of (put h i g) = codes "put"
name_of (fetch h i g) = codes "fetch"

-- the numbers after it
abbrev pub numbers_of : Request → List ℕ
numbers_of (types ns) = ns
numbers_of (heap l) = l ∷ []
numbers_of (take h) = h ∷ []
numbers_of (release h) = h ∷ []
numbers_of (note h c x) = h ∷ c ∷ x ∷ []
numbers_of (copy g h) = g ∷ h ∷ []
numbers_of (tell h) = h ∷ []
numbers_of (look h i) = h ∷ i ∷ []
numbers_of (set h i x) = h ∷ i ∷ x ∷ []
numbers_of (put h i g) = h ∷ i ∷ g ∷ []
numbers_of (fetch h i g) = h ∷ i ∷ g ∷ []

-- how many numbers a line may have, and how large a heap may be
abbrev pub Bounded : Request → Type 0
Bounded (types ns) = length ns ≤ 64
Bounded (heap l) = l ≤ 1024
Bounded (take h) = Unit {0}
Bounded (release h) = Unit {0}
Bounded (note h c x) = Unit {0}
Bounded (copy g h) = Unit {0}
Bounded (tell h) = Unit {0}
Bounded (look h i) = Unit {0}
Bounded (set h i x) = Unit {0}
Bounded (put h i g) = Unit {0}
Bounded (fetch h i g) = Unit {0}

pub record Line (line : List ℕ) (q : Request) : Type 0 where
  -- the name and the decimals of the numbers, one space apart
  pub written : line ≡ one_apart (name_of q ∷ map decimal (numbers_of q))
  pub short : length line ≤ 400
  pub bounded : Bounded q
  pub small : AllByRecursion Small (numbers_of q)

-- it asks for nothing
abbrev pub NoLine : List ℕ → Type 0
NoLine line = (q : Request) → Line line q → ⊥
