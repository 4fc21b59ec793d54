-- What a command holds of the line that it was read from.
use Rattle.std.specs.Prelude.{◌≡◌, ℕ, ◌≤◌, List, [], ◌∷◌, length, Some, None, codes, Option}
use Rattle.lines.specs.declared.part.Part.{Part}
use Rattle.lines.specs.declared.command.Command.{Command}
use Rattle.lines.specs.declared.command.Command.TheVariants.{Types, Heap, Take, Release, Note, Copy, Tell, Look, Set, Put, Fetch}
use Rattle.lines.specs.declared.argument.Argument.{Argument}
use Rattle.lines.specs.Arguments.{Follow, Stand, values}
use Rattle.lines.specs.Numbers.{Lists}
use Rattle.lines.specs.Parts.{text, Within}
use Rattle.lines.specs.Requests.{Request, types, heap, take, release, note, copy, tell, look, set, put, fetch, name_of, numbers_of, Bounded, Line}

-- the parts of a command are those of the line, and say what it asks for
abbrev pub Holds : Command → List ℕ → Request → Type 0
Holds (Types p) line q = Within line p × (p.at ≡ 5) × ((ns : List ℕ) × (q ≡ types ns) × Lists (text p) ns)
Holds (Heap l) line q = (q ≡ heap l.value) × Stand line 4 (l ∷ [])
Holds (Take h) line q = (q ≡ take h.value) × Stand line 4 (h ∷ [])
Holds (Release h) line q = (q ≡ release h.value) × Stand line 7 (h ∷ [])
Holds (Note h c x) line q = (q ≡ note h.value c.value x.value) × Stand line 4 (h ∷ c ∷ x ∷ [])
Holds (Copy g h) line q = (q ≡ copy g.value h.value) × Stand line 4 (g ∷ h ∷ [])
Holds (Tell h) line q = (q ≡ tell h.value) × Stand line 4 (h ∷ [])
Holds (Look h i) line q = (q ≡ look h.value i.value) × Stand line 4 (h ∷ i ∷ [])
Holds (Set h i x) line q = (q ≡ set h.value i.value x.value) × Stand line 3 (h ∷ i ∷ x ∷ [])
Holds (Put h i g) line q = (q ≡ put h.value i.value g.value) × Stand line 3 (h ∷ i ∷ g ∷ [])
Holds (Fetch h i g) line q = (q ≡ fetch h.value i.value g.value) × Stand line 5 (h ∷ i ∷ g ∷ [])

-- the line asks for what the command holds of it
abbrev pub Says : List ℕ → Command → Type 0
Says line c = (q : Request) × Line line q × Holds c line q

-- the numbers of a table follow the name, or they do not
abbrev pub ParsesTypes : Part → Option Command → Type 0
ParsesTypes p None = (ns : List ℕ) → Lists (text p) ns → length ns ≤ 64 → ⊥
ParsesTypes p (Some c) = (c ≡ Types p) × ((ns : List ℕ) × Lists (text p) ns × (length ns ≤ 64))

-- a request with this name and these numbers
pub record Reads (name ns : List ℕ) (q : Request) : Type 0 where
  pub named : name_of q ≡ name
  pub numbered : numbers_of q ≡ ns
  pub bounded : Bounded q

-- the command that a name and the numbers after it make, in any line where they stand so, or that they make none but a table
abbrev pub Picks : List ℕ → List Argument → Option Command → Type 0
Picks name es None = (q : Request) → Reads name (values es) q → name ≡ codes "types"
Picks name es (Some c) =
    (line : List ℕ) → Stand line (length name) es → (q : Request) × Reads name (values es) q × Holds c line q

-- the same, by the text after the name
abbrev pub ParsesWords : List ℕ → Part → Option Command → Type 0
ParsesWords name p None = (q : Request) (ns : List ℕ) → Reads name ns q → Lists (text p) ns → name ≡ codes "types"
ParsesWords name p (Some c) = (es : List Argument) × Follow p es × Picks name es (Some c)
