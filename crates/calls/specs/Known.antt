-- What is known of a word of a hold's cell that was found.
use Rattle.std.specs.Prelude.{◌≡◌, ℕ, List}
use Rattle.layouts.specs.Types.{Types}
use Rattle.layouts.specs.Classes.{class_of}
use Rattle.calls.specs.declared.record.HoldRecord.{HoldRecord}
use Rattle.calls.specs.declared.spot.Spot.{Spot}
use Rattle.calls.specs.Holds.{reads, code_of}
use Rattle.calls.specs.Calls.{code_at, place_at}

-- it is word i of the cell in hold h
abbrev pub Known : Types → List HoldRecord → ℕ → ℕ → Spot → Type 0
Known t rs h i s =
    (s.at ≡ place_at rs h i) × (s.class ≡ class_of t (code_at rs h) i) × (code_of (reads rs h) ≡ code_at rs h)
