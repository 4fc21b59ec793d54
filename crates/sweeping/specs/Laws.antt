-- The laws of a sweep.
use Rattle.std.specs.Prelude.{◌≡◌, ℕ, ◌≤◌, List}
use Rattle.free_list.specs.Free.{proper, broken, FirstFit, NoFit}
use Rattle.sweeping.specs.Sweeping.{Swept}
use Rattle.sweeping.specs.Room.{Room}

-- a sweep leaves one list of words
abbrev pub OneSweep : Type 0
OneSweep = (w m u v : List ℕ) → Swept w m u → Swept w m v → u ≡ v

-- after a sweep no link is broken, and there is a run of n words exactly where n neighbouring words were unmarked
pub record RoomLaw : Type 0 where
  pub sound : {w m v : List ℕ} {n q : ℕ} → Swept w m v → NoFit v n (broken q) → ⊥
  pub full : {w m v : List ℕ} {n : ℕ} → Swept w m v → 1 ≤ n → NoFit v n proper → Room m n → ⊥
  pub room : {w m v : List ℕ} {n p a s : ℕ} → Swept w m v → FirstFit v n p a s → Room m n
