-- Each answer is one line.
use Rattle.std.proofs.Common.{ℕ, List, Ok, Err, ◌++◌, codes, decimal, refl, arith}
use Rattle.std.proofs.lemmas.List.{append_assoc}
use Rattle.refusals.specs.Table.{number_of}
use Rattle.cells.specs.declared.content.Content.TheVariants.{Nothing, Cell, Immediate}
use Rattle.lines.specs.Words.{OneLine, Lacks}
use Rattle.lines.proofs.Cuts.{lacks_by, lacks_append}
use Rattle.lines.proofs.Listings.{lacks_decimal}
use Rattle.script.specs.declared.reply.Reply.{Reply}
use Rattle.script.specs.declared.reply.Reply.TheVariants.{Done, Number, Has}
use Rattle.script.specs.Replies.{Outcome, shown, printed}

-- a text before a decimal
before_decimal : (w : List ℕ) (n : ℕ) → Lacks 10 w → Lacks 10 (w ++ decimal n)
before_decimal w n h = lacks_append 10 w (decimal n) h (lacks_decimal 10 n (omega arith))

no_feed : (r : Reply) → Lacks 10 (shown r)
no_feed Done = lacks_by 10 (codes "ok") refl
no_feed (Number n) = before_decimal (codes "ok ") n (lacks_by 10 (codes "ok ") refl)
no_feed (Has Nothing) = lacks_by 10 (codes "ok") refl
no_feed (Has (Cell code address)) = before_decimal (codes "ok ") code (lacks_by 10 (codes "ok ") refl)
no_feed (Has (Immediate code number)) =
    lacks_append 10 (codes "ok ") (decimal code ++ (codes " " ++ decimal number)) (lacks_by 10 (codes "ok ") refl)
    (lacks_append 10 (decimal code) (codes " " ++ decimal number) (lacks_decimal 10 code (omega arith)) (before_decimal (codes " ") number (lacks_by 10 (codes " ") refl)))

pub one_line : (o : Outcome) → OneLine (printed o)
one_line (Ok reply) = (shown reply, refl, no_feed reply)
one_line (Err refusal) =
    (codes "no " ++ decimal (number_of refusal), simp append_assoc, before_decimal (codes "no ") (number_of refusal) (lacks_by 10 (codes "no ") refl))
