-- The free list, as it is read from the words.
use Rattle.std.specs.Prelude.{◌≡◌, ℕ, ◌+◌, ◌*◌, ◌/◌, ◌%◌, ◌<◌, ◌≤◌, List, [], ◌∷◌, length, slice_index}

-- the two halves of a word, and the word made of two halves
abbrev pub size_of : ℕ → ℕ
size_of word = word / 65536

abbrev pub link_of : ℕ → ℕ
link_of word = word % 65536

abbrev pub runWord : ℕ → ℕ → ℕ
runWord size link = size * 65536 + link

-- a run of free words: its address and how many words it has
pub data Run : Type 0 where
  span : ℕ → ℕ → Run

-- the link in word p leads to a run at a, of s words; the run before it ends at e
pub record Next (w : List ℕ) (p e a s : ℕ) : Type 0 where
  pub link : link_of (slice_index w p) ≡ a
  pub there : 1 ≤ a
  pub past : e ≤ a
  pub size : size_of (slice_index w a) ≡ s
  pub some : 1 ≤ s
  pub within : a + s ≤ length w

-- the link in word p is no end, and leads to no run
pub record BrokenLink (w : List ℕ) (p e : ℕ) : Type 0 where
  pub link : 1 ≤ link_of (slice_index w p)
  pub none : (a s : ℕ) → Next w p e a s → ⊥

-- how a free list ends: at a link 0, or at the word that holds a broken link
pub data Ending : Type 0 where
  proper : Ending
  broken : ℕ → Ending

abbrev pub Ends : List ℕ → ℕ → ℕ → Ending → Type 0
Ends w p e proper = link_of (slice_index w p) ≡ 0
Ends w p e (broken q) = (q ≡ p) × BrokenLink w p e

-- from the link in word p, past the end e, the list reads as these runs and then ends so
abbrev pub Free : List ℕ → ℕ → ℕ → List Run → Ending → Type 0
Free w p e [] ending = Ends w p e ending
Free w p e (span a s ∷ runs) ending = Next w p e a s × Free w a (a + s) runs ending

-- from the link in word p, past the end e, the reading of these runs leads to the link in word q, past the end f
abbrev pub Reach : List ℕ → ℕ → ℕ → List Run → ℕ → ℕ → Type 0
Reach w p e [] q f = (p ≡ q) × (e ≡ f)
Reach w p e (span a s ∷ runs) q f = Next w p e a s × Reach w a (a + s) runs q f

-- each of these runs has fewer than n words
abbrev pub Smaller : ℕ → List Run → Type 0
Smaller n [] = Unit {0}
Smaller n (span a s ∷ runs) = (s < n) × Smaller n runs

-- from the start, the runs before the link in word p, of which the last ends at e, all have fewer than n words
pub record Walked (w : List ℕ) (n p e : ℕ) : Type 0 where
  pub front : List Run
  pub reads : Reach w 0 1 front p e
  pub small : Smaller n front

-- the first run of n words or more is the one at a, of s words, that the link in word p leads to
pub record FirstFit (w : List ℕ) (n p a s : ℕ) : Type 0 where
  pub before : ℕ
  pub walked : Walked w n p before
  pub next : Next w p before a s
  pub enough : n ≤ s

-- the list reads as runs of fewer than n words each, and ends so
pub record NoFit (w : List ℕ) (n : ℕ) (ending : Ending) : Type 0 where
  pub runs : List Run
  pub reads : Free w 0 1 runs ending
  pub small : Smaller n runs
