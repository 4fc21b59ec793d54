-- The states of a heap: what marking and sweeping make of one, and that it stands on the same memory after.
use Rattle.std.specs.Prelude.{◌≡◌, ℕ, List, length, drop, replicate, Ok, Err, Result}
use Rattle.refusals.specs.declared.refusal.Refusal.{Refusal}
use Rattle.layouts.specs.Types.{Types}
use Rattle.calls.specs.declared.record.HoldRecord.{HoldRecord}
use Rattle.marking.specs.Marking.{Marks}
use Rattle.scan.specs.Marks.{unmarked}
use Rattle.sweeping.specs.Sweeping.{Swept}
use Rattle.heap.specs.declared.memory.Open.{Open}
use Rattle.heap.specs.declared.memory.Marked.{Marked}
use Rattle.heap.specs.Memory.{Same, Left}

-- the open heap is marked, or comes back with the refusal; its words are as they were
abbrev pub MarksHeap : Types → List HoldRecord → ℕ → Open → Result (Marked × ℕ) (Open × Refusal) → Type 0
MarksHeap t rs P h (Ok p) =
    Marks t h.words.now rs P h.marks.now p.0.marks.now (Ok p.1)
    × Left h.words p.0.words h.words.now
    × Same h.marks p.0.marks
MarksHeap t rs P h (Err p) =
    Marks t h.words.now rs P h.marks.now p.0.marks.now (Err p.1)
    × Left h.words p.0.words h.words.now
    × Same h.marks p.0.marks

-- the marked heap is swept and open, with no mark, and so many words were freed
abbrev pub SweepsHeap : Marked → Open × ℕ → Type 0
SweepsHeap h p =
    (p.1 ≡ unmarked (drop 1 h.marks.now))
    × Swept h.words.now h.marks.now p.0.words.now
    × Same h.words p.0.words
    × Left h.marks p.0.marks (replicate (length h.marks.now) 0)
