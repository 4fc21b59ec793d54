use Rattle.std.proofs.Common.{◌≡◌, ℕ, ◌≤◌, length, get_or, take, Result}
use Rattle.refusals.specs.declared.refusal.Refusal.{Refusal}
use Rattle.replay.specs.declared.call.Call.{Call}
use Rattle.replay.specs.declared.call.Answer.{Answer}
use Rattle.replay.specs.States.{new_state, events}
use Rattle.replay.specs.Steps.{Run}
use Rattle.replay.specs.Carries.{SameMemory, state_of}
use Rattle.replay.proofs.replay.replay.Given as goal

-- the calls so far, with their answers and what they left of themselves, lead from the new heap to the heap as it is, on the memory
-- that was lent; calls and answers to come are as they were
abbrev pub invariant-loop-i : goal.invariant-loop-i
invariant-loop-i g l =
    Run (g.S.TemplateSource.meaning l.source) g.I.Inspector.step (length l.initial.places) (events (take l.i l.initial.calls) (take l.i l.answers) (take l.i l.calls)) (new_state (length l.initial.heap.words.now) l.initial.heap.marks.now) (state_of l.heap)
    × SameMemory l.initial.heap l.heap
    × ((k : ℕ) (d : Call g.row.I.Denot) → l.i ≤ k → get_or l.calls k d ≡ get_or l.initial.calls k d)
    × ((k : ℕ) (d : Result Answer Refusal) → l.i ≤ k → get_or l.answers k d ≡ get_or l.initial.answers k d)
