-- What is printed for what a line comes to.
use Rattle.std.specs.Prelude.{ℕ, List, ◌++◌, Ok, Err, codes, decimal, Result}
use Rattle.refusals.specs.declared.refusal.Refusal.{Refusal}
use Rattle.refusals.specs.Table.{number_of}
use Rattle.cells.specs.declared.content.Content.TheVariants.{Nothing, Cell, Immediate}
use Rattle.script.specs.declared.reply.Reply.{Reply}
use Rattle.script.specs.declared.reply.Reply.TheVariants.{Done, Number, Has}

-- the reply, or the refusal
abbrev pub Outcome : Type 0
Outcome = Result Reply Refusal

-- what a call's result comes to
abbrev pub replied : {X : Type 0} → (X → Reply) → Result X Refusal → Outcome
replied f (Ok x) = Ok (f x)
replied f (Err refusal) = Err refusal

abbrev pub done : Result (Unit {0}) Refusal → Outcome
done x = replied (λ _. Done) x

-- how a reply reads: a cell goes by its code
abbrev pub shown : Reply → List ℕ
shown Done = codes "ok"
shown (Number n) = codes "ok " ++ decimal n
shown (Has Nothing) = codes "ok"
shown (Has (Cell code address)) = codes "ok " ++ decimal code
shown (Has (Immediate code number)) = codes "ok " ++ (decimal code ++ (codes " " ++ decimal number))

abbrev pub printed : Outcome → List ℕ
printed (Ok reply) = shown reply ++ codes "\n"
printed (Err refusal) = codes "no " ++ (decimal (number_of refusal) ++ codes "\n")
