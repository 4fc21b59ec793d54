-- What a rule is asked of each word of a table.
use Rattle.std.specs.Prelude.{◌≡◌, ℕ, List, Option, Result}
use Rattle.std.specs.Result.{result_err}
use Rattle.refusals.specs.declared.refusal.Refusal.{Refusal}
use Rattle.sources.specs.declared.spot.Spot.{Spot}

-- a rule with these answers refuses each word of the table exactly as told
abbrev pub Refuses : (Spot → Result (Unit {0}) Refusal → Type 0) → List ℕ → (ℕ → Option Refusal) → Type 0
Refuses answers ws told = (s : Spot) (r : Result (Unit {0}) Refusal) → s.words.now ≡ ws → answers s r → result_err r ≡ told s.k
