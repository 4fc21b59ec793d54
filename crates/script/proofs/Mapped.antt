-- A call's result, mapped to the reply that it is done.
use Rattle.std.proofs.Common.{◌≡◌, Ok, Err, Result, ap, MatchResult}
use Rattle.std.specs.Result.{IsOkAnd}
use Rattle.refusals.specs.declared.refusal.Refusal.{Refusal}
use Rattle.script.specs.declared.reply.Reply.{Reply}
use Rattle.script.specs.declared.reply.Reply.TheVariants.{Done}
use Rattle.script.specs.Replies.{Outcome, done}

pub mapped_done : (P : Unit {0} → Reply → Type 0) (x : Result (Unit {0}) Refusal) (o : Outcome) → ((u : Unit {0}) (r : Reply) → P u r → r ≡ Done) → MatchResult x (λ u. IsOkAnd o (P u)) (λ e. o ≡ Err e) → o ≡ done x
mapped_done P (Ok u) (Ok r) f h = ap Ok (f u r h)
mapped_done P (Ok u) (Err e) f h = absurd h
mapped_done P (Err e) o f h = h
