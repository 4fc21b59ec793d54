-- The heap between two calls of a list, and the calls with their answers.
use Rattle.std.specs.Prelude.{◌≡◌, ℕ, List, [], ◌∷◌, replicate, Ok, Err, Result}
use Rattle.refusals.specs.declared.refusal.Refusal.{Refusal}
use Rattle.calls.specs.declared.record.HoldRecord.{HoldRecord}
use Rattle.calls.specs.Holds.{unheld}
use Rattle.heap.specs.Memory.{new_words}
use Rattle.replay.specs.declared.call.Call.{Call}
use Rattle.replay.specs.declared.call.Answer.{Answer}
use Rattle.replay.specs.declared.call.Phase.{Phase}
use Rattle.replay.specs.declared.call.Phase.TheVariants.{Open}

pub record State : Type 0 where
  pub phase : Phase
  pub words : List ℕ
  pub marks : List ℕ
  pub records : List HoldRecord

-- a new heap of L words; its marks may read anything
abbrev pub new_state : ℕ → List ℕ → State
new_state L m = record { phase = Open; words = new_words L; marks = m; records = replicate 64 unheld }

-- a call, its answer, and what is left of the call: a trace's inspector has changed
pub record Event (I : Type 0) : Type 0 where
  pub call : Call I
  pub answer : Result Answer Refusal
  pub left : Call I

abbrev pub events : {I : Type 0} → List (Call I) → List (Result Answer Refusal) → List (Call I) → List (Event I)
events [] xs ds = []
events (c ∷ cs) [] ds = []
events (c ∷ cs) (x ∷ xs) [] = []
events (c ∷ cs) (x ∷ xs) (d ∷ ds) = record { call = c; answer = x; left = d } ∷ events cs xs ds

-- the answer of a call that is accepted with x or refused
abbrev pub answer_of : {X : Type 0} → (X → Answer) → Result X Refusal → Result Answer Refusal
answer_of given (Ok x) = Ok (given x)
answer_of given (Err f) = Err f

-- the call's own relation holds of what it answers
pub record Answered {X : Type 0} (given : X → Answer) (a : Result Answer Refusal) (R : Result X Refusal → Type 0) : Type 0 where
  pub result : Result X Refusal
  pub is : a ≡ answer_of given result
  pub related : R result
