-- The scans of what holds have, one after the other.
use Rattle.std.specs.Prelude.{◌≡◌, ℕ, true, false, List, [], ◌∷◌, ◌++◌, map, length, Some, Err, Option}
use Rattle.layouts.specs.Types.{Types}
use Rattle.cells.specs.declared.content.Content.{Content}
use Rattle.cells.specs.declared.content.Content.TheVariants.{Nothing, Cell, Immediate}
use Rattle.cells.specs.Words.{fits}
use Rattle.calls.specs.declared.record.HoldRecord.{HoldRecord}
use Rattle.calls.specs.Holds.{root_of}
use Rattle.scan.specs.Visits.{Visit}
use Rattle.scan.specs.Scan.{Run, pointer, Stops}
use Rattle.scan.specs.declared.inspector.Nobody.{Nobody}
use Rattle.scan.specs.Endings.{Ending, Done}
use Rattle.scan.specs.declared.scanned.Stop.TheVariants.{Broken}

-- what each hold has
abbrev pub roots : List HoldRecord → List Content
roots rs = map root_of rs

-- every visit is taken, and nothing is held
abbrev pub takes_all : Nobody → Visit → Option Nobody
takes_all s v = Some s

-- The contents turn marks m into m' by visits in their order, and end. Nothing and an immediate are passed over; the pointer of a
-- cell that fits is scanned; one that does not fit ends it all at address 0, and so does a scan that does not come to its end.
pub data Roots (t : Types) (w : List ℕ) : List Content → List ℕ → List Visit → List ℕ → Ending → Type 0 where
  finished : {m : List ℕ} → Roots t w [] m [] m Done
  nothing : {ks : List Content} {m m' : List ℕ} {vs : List Visit} {e : Ending} → Roots t w ks m vs m' e → Roots t w (Nothing ∷ ks) m vs m' e
  immediate : {c x : ℕ} {ks : List Content} {m m' : List ℕ} {vs : List Visit} {e : Ending} → Roots t w ks m vs m' e → Roots t w (Immediate c x ∷ ks) m vs m' e
  unfit : {c a : ℕ} {ks : List Content} {m : List ℕ} → fits t (length w) c a ≡ false → Roots t w (Cell c a ∷ ks) m [] m (Err (Broken 0))
  scanned : {c a : ℕ} {ks : List Content} {m m₁ m₂ : List ℕ} {s s₁ : Nobody} {vs₁ vs₂ : List Visit} {e : Ending} → fits t (length w) c a ≡ true → Run t w takes_all (pointer c a) m s vs₁ m₁ s₁ Done → Roots t w ks m₁ vs₂ m₂ e → Roots t w (Cell c a ∷ ks) m (vs₁ ++ vs₂) m₂ e
  stopped : {c a : ℕ} {ks : List Content} {m m₁ : List ℕ} {s s₁ : Nobody} {vs : List Visit} {e : Ending} → fits t (length w) c a ≡ true → Run t w takes_all (pointer c a) m s vs m₁ s₁ e → Stops e → Roots t w (Cell c a ∷ ks) m vs m₁ e
