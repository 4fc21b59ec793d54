-- Lent memory: when a heap may stand on it, and what a new heap holds.
use Rattle.std.specs.Prelude.{◌≡◌, ℕ, ◌-◌, ◌*◌, List, ◌∷◌, length, replicate, Some, None, Ok, Err, Result}
use Rattle.std.specs.Borrow.{MutBor}
use Rattle.refusals.specs.declared.refusal.Refusal.{Refusal}
use Rattle.heap.specs.declared.memory.Memory.{Memory}
use Rattle.heap.specs.declared.memory.Open.{Open}
pub use Rattle.calls.specs.Rows.{row_1}

-- the words of a new heap: word 0 links the first free run, which is all the others
abbrev pub new_words : ℕ → List ℕ
new_words L = 1 ∷ (L - 1) * 65536 ∷ replicate (L - 2) 0

-- the lent slice `after` is the slice `before`, whatever it holds
abbrev pub Same : MutBor (List ℕ) → MutBor (List ℕ) → Type 0
Same before after = after.ghost_name ≡ before.ghost_name

-- the lent slice `after` is the slice `before`, and holds xs now
abbrev pub Left : MutBor (List ℕ) → MutBor (List ℕ) → List ℕ → Type 0
Left before after xs = (after.now ≡ xs) × Same before after

-- a heap is opened on the lent memory, its words written or left as they were; or the memory comes back as it was
abbrev pub Opens : (ℕ → List ℕ → List ℕ) → Memory → Result Open (Memory × Refusal) → Type 0
Opens written m (Ok h) =
    (row_1 (length m.words.now) (length m.marks.now) ≡ None)
    × Left m.words h.words (written (length m.words.now) m.words.now)
    × Left m.marks h.marks m.marks.now
Opens written m (Err p) =
    (row_1 (length m.words.now) (length m.marks.now) ≡ Some p.1)
    × Left m.words p.0.words m.words.now
    × Left m.marks p.0.marks m.marks.now
