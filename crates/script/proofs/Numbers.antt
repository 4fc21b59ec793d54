-- The numbers of a table.
use Rattle.std.proofs.Common.{◌≡◌, ℕ, ◌≤◌, List, length, Some, None, Option, ap, ◌∙◌}
use Rattle.std.specs.Option.{UnwrapsOrElse}
use Rattle.arrayvec.specs.ArrayVec.{ArrayVec}
use Rattle.lines.specs.Numbers.{Lists, Gives}
use Rattle.lines.proofs.Listings.{lists_once}

pub collected : (P : ArrayVec ℕ → Type 0) (text : List ℕ) (o : Option (ArrayVec ℕ)) (v : ArrayVec ℕ) → Gives text 64 o → UnwrapsOrElse o P v → (ns : List ℕ) → Lists text ns → length ns ≤ 64 → v.items ≡ ns
collected P text None v h e ns l few = absurd (h ns l few)
collected P text (Some w) v h e ns l few = ap (λ v. v.items) e ∙ lists_once text w.items ns h.1 l
