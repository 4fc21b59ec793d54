use Rattle.std.proofs.Common.{sym, ap, ◌∙◌, arith}
use Rattle.std.proofs.lemmas.List.{at_drop_all}
use Rattle.lines.specs.Buffer.{held}
use Rattle.cues.specs.Reading.{pending}
use Rattle.cues.proofs.Bytes.{line_feed, other_byte}
use Rattle.cues.proofs.Desk.take.Goals as goal
use Rattle.cues.proofs.Desk.take.Goals.{then-byte-eq10+in_ok-end_line, else-byte-eq10}

pub loop-byte-preserved : goal.loop-byte-preserved
loop-byte-preserved c =
    elim c.if-byte-eq10.branch [
      | then-byte-eq10+in_ok-end_line w ↦
          line_feed c.args.bytes.now (held c.loop-byte.self.line) (held c.if-byte-eq10.self.line) (pending (held c.args.self.now.line) c.args.bytes.now) c.loop-byte.byte-index (omega arith) w.if-byte-eq10.true (ap (λ d. held d.line) w.self-is ∙ w.in_ok-end_line.ensures.begins) c.loop-byte.invariant
      | else-byte-eq10 w ↦
          other_byte c.args.bytes.now (held c.loop-byte.self.line) (held c.if-byte-eq10.self.line) (pending (held c.args.self.now.line) c.args.bytes.now) c.loop-byte.byte-index (omega arith) w.if-byte-eq10.false (ap (λ d. held d.line) w.self-is ∙ w.push.ensures) c.loop-byte.invariant
    ]

pub returns : goal.returns
returns c =
    sym (at_drop_all (pending (held c.loop-byte.self.line)) c.args.bytes.now c.loop-byte.byte-index (omega arith)) ∙ c.loop-byte.invariant
