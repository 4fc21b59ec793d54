-- Parts of a line, with their places.
use Rattle.std.specs.Prelude.{◌≡◌, ℕ, ◌+◌, List, [], ◌++◌, length, take, drop, Some, None, Option}
use Rattle.lines.specs.declared.part.Part.{Part}
use Rattle.lines.specs.declared.words.Words.{Words}
use Rattle.lines.specs.Words.{Unspaced, Follows, spaced}

abbrev pub text : Part → List ℕ
text p = p.text.now

-- the part is what stands in the line at its place
abbrev pub Within : List ℕ → Part → Type 0
Within line p = text p ≡ take (length (text p)) (drop p.at line)

-- the next word after a space, and what follows it
pub record NextWord (rest word after : Part) : Type 0 where
  pub whole : text rest ≡ spaced (text word) ++ text after
  pub unspaced : Unspaced (text word)
  pub follows : Follows (text after)
  pub starts : word.at ≡ rest.at + 1
  pub goes_on : after.at ≡ word.at + length (text word)

abbrev pub GivesWord : Words → Option Part → Words → Type 0
GivesWord w None v = (text w.rest ≡ []) × (text v.rest ≡ [])
GivesWord w (Some p) v = NextWord w.rest p v.rest
