-- Mask: another source, with some words read as Z.
use Rattle.std.specs.Prelude.{ℕ, Bool, false, cond, ◌&&◌, ◌||◌, List, [], ◌∷◌, ◌==◌}
use Rattle.layouts.specs.declared.entry.Entry.TheVariants.{Z}
use Rattle.layouts.specs.declared.place.Place.{Place}
use Rattle.layouts.specs.Types.{Types}

-- whether word i of type c is among the places
abbrev pub among : List Place → ℕ → ℕ → Bool
among [] c i = false
among (p ∷ ps) c i = (p.code == c && p.word == i) || among ps c i

abbrev pub masked : List Place → Types → Types
masked ps t = record {
  size = t.size;
  entry = λ c i. cond (among ps c i) Z (t.entry c i);
}
