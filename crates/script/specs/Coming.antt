-- What a line brings, before it is printed.
use Rattle.std.specs.Prelude.{◌≡◌, ℕ, ◌⊎◌, List, Ok, Err, Result}
use Rattle.refusals.specs.declared.refusal.Refusal.TheVariants.{NotALine}
use Rattle.sources.specs.declared.error.Failure.{Failure}
use Rattle.sources.specs.declared.error.Failure.TheVariants.{Refused, NoMemory}
use Rattle.lines.specs.Requests.{Request}
use Rattle.script.specs.declared.reply.Reply.{Reply}
use Rattle.script.specs.Obeying.{State, Obeys}
use Rattle.script.specs.Replies.{Outcome}
use Rattle.script.specs.Session.{Asks}

abbrev pub Comes : List ℕ → State → ℕ → State → Outcome → Type 0
Comes line s number t r =
    ((q : Request) × Asks line s q × Obeys s q t r) ⊎ (((q : Request) → Asks line s q → ⊥) × (t ≡ s) × (r ≡ Err (NotALine number)))

-- an outcome of this kind, or, for want of memory, none
abbrev pub ComesTo : (Outcome → Type 0) → Type 0 → Result Reply Failure → Type 0
ComesTo P lost (Ok reply) = P (Ok reply)
ComesTo P lost (Err (Refused refusal)) = P (Err refusal)
ComesTo P lost (Err NoMemory) = lost
