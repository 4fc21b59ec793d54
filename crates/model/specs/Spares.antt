-- The free list beside the reached cells.
use Rattle.std.specs.Prelude.{ℕ, ◌+◌, ◌<◌, ◌≤◌, ◌⊎◌, List, [], ◌∷◌}
use Rattle.layouts.specs.Types.{Types}
use Rattle.calls.specs.declared.record.HoldRecord.{HoldRecord}
use Rattle.free_list.specs.Free.{Run, span, proper, Free}
use Rattle.model.specs.Model.{Model, Reached}
use Rattle.model.specs.Agrees.{Covers, Agrees}

-- no reached cell has the word j
abbrev pub Spare : Types → Model → ℕ → Type 0
Spare t b j = (k : ℕ) → Reached b k → Covers t b.cells k j → ⊥

-- a word from 1 on, of L words, that no reached cell has
abbrev pub SpareIn : Types → Model → ℕ → ℕ → Type 0
SpareIn t b L j = (1 ≤ j) × (j < L) × Spare t b j

-- n neighbouring words from word 1 on, of L words, lie outside every reached cell
pub record Room (t : Types) (b : Model) (L n : ℕ) : Type 0 where
  pub at : ℕ
  pub there : 1 ≤ at
  pub within : at + n ≤ L
  pub spare : (j : ℕ) → at ≤ j → j < at + n → Spare t b j

-- the word j lies in one of the runs
abbrev pub InRuns : ℕ → List Run → Type 0
InRuns j [] = ⊥
InRuns j (span a s ∷ runs) = ((a ≤ j) × (j < a + s)) ⊎ InRuns j runs

-- the free list reads to a proper end, and its runs share no word with a reached cell
pub record Beside (t : Types) (b : Model) (w : List ℕ) : Type 0 where
  pub runs : List Run
  pub reads : Free w 0 1 runs proper
  pub spare : (j : ℕ) → InRuns j runs → Spare t b j

-- words and hold records agree with the model, and the free list stands beside the reached cells
pub record Stands (t : Types) (b : Model) (w : List ℕ) (rs : List HoldRecord) : Type 0 where
  pub agrees : Agrees t b w rs
  pub beside : Beside t b w
