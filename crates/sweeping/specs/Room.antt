-- Room for a cell, told from the marks alone.
use Rattle.std.specs.Prelude.{ℕ, ◌+◌, ◌<◌, ◌≤◌, List, length}
use Rattle.sweeping.specs.Sweeping.{IsFree}

-- n neighbouring words from word 1 on are unmarked
pub record Room (m : List ℕ) (n : ℕ) : Type 0 where
  pub at : ℕ
  pub there : 1 ≤ at
  pub within : at + n ≤ length m
  pub free : (k : ℕ) → at ≤ k → k < at + n → IsFree m k
