-- Visits of cells, and what an inspector holds after them.
use Rattle.std.specs.Prelude.{◌≡◌, ℕ, ◌⊎◌, List, [], ◌∷◌, Some, None, Ok, Option, Result, IsErr, ◌≢◌}
use Rattle.std.specs.List.{AllByRecursion}
use Rattle.scan.specs.declared.inspector.Full.{Full}

-- a visit: the type-code, the address and the words of a cell
pub record Visit : Type 0 where
  pub code : ℕ
  pub address : ℕ
  pub words : List ℕ

abbrev pub visit_of : ℕ → ℕ → List ℕ → Visit
visit_of c a ws = record { code = c; address = a; words = ws }

-- one visit, made or refused: what is held before and after it, and the answer
abbrev pub Visited : {S : Type 0} → Option S → S → S → Result (Unit {0}) Full → Type 0
Visited None s s' r = IsErr r × (s' ≡ s)
Visited (Some u) s s' r = (r ≡ Ok tt) × (s' ≡ u)

-- what is held after visits, one after the other; none where one of them is refused
abbrev pub then_holds : {S : Type 0} → Option S → (S → Option S) → Option S
then_holds None next = None
then_holds (Some s) next = next s

abbrev pub holds : {S : Type 0} → (S → Visit → Option S) → S → List Visit → Option S
holds step s [] = Some s
holds step s (v ∷ vs) = then_holds (step s v) (λ s₁. holds step s₁ vs)

-- the cell is among the visits
abbrev pub Seen : List Visit → ℕ → ℕ → Type 0
Seen [] c a = ⊥
Seen (v ∷ vs) c a = ((v.code ≡ c) × (v.address ≡ a)) ⊎ Seen vs c a

-- no two visits are at the same address
abbrev pub Once : List Visit → Type 0
Once [] = Unit {0}
Once (v ∷ vs) = AllByRecursion (λ (u : Visit). u.address ≢ v.address) vs × Once vs
