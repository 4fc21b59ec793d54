-- Words with one space between any two.
use Rattle.std.specs.Prelude.{◌≡◌, ℕ, ◌<◌, List, [], ◌∷◌, ◌++◌, length, ◌≢◌, slice_index}
use Rattle.std.specs.List.{flat_map}

-- a word after a space
abbrev pub spaced : List ℕ → List ℕ
spaced w = 32 ∷ w

abbrev pub one_apart : List (List ℕ) → List ℕ
one_apart [] = []
one_apart (w ∷ ws) = w ++ flat_map spaced ws

-- the byte is not among these
abbrev pub Lacks : ℕ → List ℕ → Type 0
Lacks b w = (i : ℕ) → i < length w → slice_index w i ≢ b

abbrev pub Unspaced : List ℕ → Type 0
Unspaced w = Lacks 32 w

-- the last byte is a line feed, and no other is
abbrev pub OneLine : List ℕ → Type 0
OneLine bytes = (front : List ℕ) × (bytes ≡ front ++ 10 ∷ []) × Lacks 10 front

-- what can follow a word: nothing, or a space and more
abbrev pub Follows : List ℕ → Type 0
Follows rest = 0 < length rest → slice_index rest 0 ≡ 32

-- the text is its first word and what follows it
pub record Cut (text word rest : List ℕ) : Type 0 where
  pub whole : text ≡ word ++ rest
  pub unspaced : Unspaced word
  pub follows : Follows rest
