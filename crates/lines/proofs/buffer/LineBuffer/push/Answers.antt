use Rattle.std.proofs.Common.{rules}
use Rattle.lines.proofs.Buffers.{pushed_below, pushed_past}
use Rattle.lines.proofs.buffer.LineBuffer.push.Goals as goal

pub returns-then-self-lt-ROOM : goal.returns-then-self-lt-ROOM
returns-then-self-lt-ROOM c = pushed_below c.args.self.now.bytes c.args.self.now.used c.args.byte (search rules) (search rules)

pub returns-else-self-lt-ROOM : goal.returns-else-self-lt-ROOM
returns-else-self-lt-ROOM c = pushed_past c.args.self.now.bytes c.args.self.now.used c.args.byte (search rules) (search rules) (search rules)
