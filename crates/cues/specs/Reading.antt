-- How far the input is read.
use Rattle.std.specs.Prelude.{◌≡◌, ℕ, ◌+◌, ◌-◌, ◌^◌, min, if◌then◌else◌, List, [], ◌∷◌, ◌++◌, take, ◌==◌, ◌≢◌}
use Rattle.std.specs.declared.ops.ControlFlow.{ControlFlow}
use Rattle.std.specs.declared.ops.ControlFlow.TheVariants.{Continue, Break}
use Rattle.lines.specs.Buffer.{held}
use Rattle.script.specs.Session.{state, Answers}
use Rattle.cues.specs.declared.Desk.{Desk}

-- a line was answered, and the next one begins
pub record LineEnded (d e : Desk) : Type 0 where
  pub answered : (bytes : List ℕ) × Answers (held d.line) d.number (state d.session) bytes (state e.session)
  pub begins : held e.line ≡ []
  pub counted : e.number ≡ min (d.number + 1) (2 ^ 64 - 1)

-- the line that goes on after these bytes, without those past its room
abbrev pub pending : List ℕ → List ℕ → List ℕ
pending line [] = line
pending line (b ∷ bs) = pending (if b == 10 then [] else take 401 (line ++ b ∷ [])) bs

-- at the end of the input a last line without its line feed is answered
pub record Ends (d e : Desk) : Type 0 where
  pub silent : held d.line ≡ [] → e ≡ d
  pub ended : held d.line ≢ [] → LineEnded d e

-- no bytes are the end of the input, any others go on with its lines
abbrev pub Accepts : List ℕ → Desk → Desk → ControlFlow (Unit {0}) (Unit {0}) → Type 0
Accepts bs d e (Break _) = (bs ≡ []) × Ends d e
Accepts bs d e (Continue _) = (bs ≢ []) × (held e.line ≡ pending (held d.line) bs)
