-- What is left of the words when a cell is cut from a run.
use Rattle.std.specs.Prelude.{◌≡◌, ℕ, ◌+◌, ◌-◌, ◌<◌, List, ◌∷◌, ◌++◌, take, drop, replicate, ◌≢◌, slice_index, slice_set}
use Rattle.free_list.specs.Free.{size_of, link_of, runWord, Run, span, Next, Ending, broken, Free, Reach}

-- n words from `at` on are 0
abbrev pub zeroed : List ℕ → ℕ → ℕ → List ℕ
zeroed w at n = take at w ++ (replicate n 0 ++ drop (at + n) w)

-- the link half of word p is the link of the run at a
abbrev pub unlinked : List ℕ → ℕ → ℕ → List ℕ
unlinked w p a = slice_set w p (runWord (size_of (slice_index w p)) (link_of (slice_index w a)))

-- the run at a has s words
abbrev pub shortened : List ℕ → ℕ → ℕ → List ℕ
shortened w a s = slice_set w a (runWord s (link_of (slice_index w a)))

-- the words v after a cell of n words is cut from the run at a, of s words, that word p links to, in the words w
pub record Cut (w : List ℕ) (p a s n : ℕ) (v : List ℕ) : Type 0 where
  pub whole : s ≡ n → v ≡ zeroed (unlinked w p a) a n
  pub part : n < s → v ≡ zeroed (shortened w a (s - n)) (a + (s - n)) n

-- however the free list of w reads round that run, that of v reads the same with the run gone or shortened;
-- but where the run is gone and its own link was broken, v may read otherwise from word p on
pub record ListAfter (w : List ℕ) (p a s n : ℕ) (v : List ℕ) : Type 0 where
  pub whole : (front back : List Run) (e : ℕ) (ending : Ending) → s ≡ n → (ending ≢ broken a)
      → Reach w 0 1 front p e → Next w p e a s → Free w a (a + s) back ending → Free v 0 1 (front ++ back) ending
  pub part : (front back : List Run) (e : ℕ) (ending : Ending) → n < s
      → Reach w 0 1 front p e → Next w p e a s → Free w a (a + s) back ending → Free v 0 1 (front ++ span a (s - n) ∷ back) ending
