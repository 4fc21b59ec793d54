-- What a sweep makes of the words, for any mark bytes, and what it answers.
use Rattle.std.specs.Prelude.{◌≡◌, ℕ, ◌+◌, ◌-◌, ◌<◌, ◌≤◌, List, [], ◌∷◌, length, drop, replicate, Result, ◌≢◌, slice_index, slice_set}
use Rattle.refusals.specs.declared.refusal.Refusal.{Refusal}
use Rattle.calls.specs.Rows.{row_1}
use Rattle.calls.specs.Calls.{Answers}
use Rattle.free_list.specs.Free.{size_of, runWord, Run, span, proper, Free}
use Rattle.scan.specs.Marks.{IsMarked, unmarked}

abbrev pub IsFree : List ℕ → ℕ → Type 0
IsFree m k = IsMarked m k → ⊥

-- s unmarked words from a on, and no longer stretch: what stands next to it is marked, or word 0, or the end
pub record Stretch (m : List ℕ) (a s : ℕ) : Type 0 where
  pub there : 1 ≤ a
  pub some : 1 ≤ s
  pub within : a + s ≤ length m
  pub free : (k : ℕ) → a ≤ k → k < a + s → IsFree m k
  pub first : 1 < a → IsMarked m (a - 1)
  pub last : a + s < length m → IsMarked m (a + s)

-- these are all the stretches from word e on, in rising order: every other word there is marked
abbrev pub Stretches : List ℕ → ℕ → List Run → Type 0
Stretches m e [] = (k : ℕ) → e ≤ k → k < length m → IsMarked m k
Stretches m e (span a s ∷ runs) =
    Stretch m a s × (e ≤ a) × ((k : ℕ) → e ≤ k → k < a → IsMarked m k) × Stretches m (a + s) runs

-- none of these runs starts at word k
abbrev pub NoStart : ℕ → List Run → Type 0
NoStart k [] = Unit {0}
NoStart k (span a s ∷ runs) = (k ≢ a) × NoStart k runs

-- the words v after a sweep of the words w by the marks m
pub record Swept (w m v : List ℕ) : Type 0 where
  pub runs : List Run
  pub stretches : Stretches m 1 runs
  pub list : Free v 0 1 runs proper
  pub high : size_of (slice_index v 0) ≡ size_of (slice_index w 0)
  pub others : (k : ℕ) → 1 ≤ k → NoStart k runs → slice_index v k ≡ slice_index w k
  pub long : length v ≡ length w

-- words w and marks m before, w' and m' after
abbrev pub Sweeps : List ℕ → List ℕ → List ℕ → List ℕ → Result ℕ Refusal → Type 0
Sweeps w m w' m' r = Answers (row_1 (length w) (length m)) ((w' ≡ w) × (m' ≡ m))
    (λ n. (n ≡ unmarked (drop 1 m)) × Swept w m w' × (m' ≡ replicate (length m) 0)) r

-- what a sweep of L words by the marks m would answer
abbrev pub Surveys : ℕ → List ℕ → Result ℕ Refusal → Type 0
Surveys L m r = Answers (row_1 L (length m)) (Unit {0}) (λ n. n ≡ unmarked (drop 1 m)) r

-- a stretch of s words at a is made a run before the run at `next`; where s is 0, nothing is
pub record Closed (w : List ℕ) (a s next : ℕ) (v : List ℕ) (head : ℕ) : Type 0 where
  pub empty : s ≡ 0 → (v ≡ w) × (head ≡ next)
  pub made : 1 ≤ s → (v ≡ slice_set w a (runWord s next)) × (head ≡ a)
