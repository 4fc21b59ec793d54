-- What is proved of the four meanings.
use Rattle.std.specs.Prelude.{◌≡◌, ℕ, List}
use Rattle.layouts.specs.declared.place.Place.{Place}
use Rattle.layouts.specs.Types.{Types, Lawful}
use Rattle.layouts.specs.Rule.{rule}
use Rattle.layouts.specs.Over.{over}
use Rattle.layouts.specs.Mask.{masked}
use Rattle.layouts.specs.Templates.{FollowsRule, types_of}
use Rattle.layouts.specs.Table.{Accepted, table}

-- two meanings that answer every question alike
abbrev pub Same : Types → Types → Type 0
Same t u = (c : ℕ) → (t.size c ≡ u.size c) × ((i : ℕ) → t.entry c i ≡ u.entry c i)

abbrev pub RuleLawful : Type 0
RuleLawful = Lawful rule

abbrev pub OverLawful : Type 0
OverLawful = (t : Types) → Lawful t → Lawful (over t)

abbrev pub MaskLawful : Type 0
MaskLawful = (ps : List Place) (t : Types) → Lawful t → Lawful (masked ps t)

abbrev pub TableLawful : Type 0
TableLawful = (ws : List ℕ) → Accepted ws → Lawful (table ws)

-- a table is accepted exactly when it follows the template rule
abbrev pub AcceptedExactly : List ℕ → Type 0
AcceptedExactly ws = (Accepted ws → FollowsRule ws) × (FollowsRule ws → Accepted ws)

-- the words are templates that follow the rule, written out, and t means what they mean
abbrev pub MeansTemplates : List ℕ → Types → Type 0
MeansTemplates ws t = (f : FollowsRule ws) × Same t (types_of f.templates)

abbrev pub TableMeans : Type 0
TableMeans = (ws : List ℕ) → Accepted ws → MeansTemplates ws (table ws)
