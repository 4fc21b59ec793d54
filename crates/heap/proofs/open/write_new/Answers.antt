use Rattle.std.proofs.Common.{length, arith}
use Rattle.heap.proofs.NewWords.{written_new}
use Rattle.heap.proofs.open.write_new.Goals as goal

pub returns : goal.returns
returns c = written_new (length c.args.words.now) c.fill.new.self c.into.result c.into-2.result c.requires.some (c.fill.ensures.after (λ y d. d)) c.into.ensures (omega (arith, c.into-2.ensures, c.fill.ensures.len, c.requires.some, c.requires.long))
