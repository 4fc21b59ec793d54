use Rattle.std.proofs.Common.{◌≡◌, drop}
use Rattle.lines.specs.Buffer.{held}
use Rattle.cues.specs.Reading.{pending}
use Rattle.cues.proofs.Desk.take.Given as goal

abbrev pub invariant-loop-byte : goal.invariant-loop-byte
invariant-loop-byte l = pending (held l.self.line) (drop l.byte-index l.bytes) ≡ pending (held l.initial.self.line) l.bytes
