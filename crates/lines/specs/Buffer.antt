-- What a line buffer holds.
use Rattle.std.specs.Prelude.{ℕ, List, take}
use Rattle.lines.specs.declared.buffer.LineBuffer.{LineBuffer}

abbrev pub held : LineBuffer → List ℕ
held b = take b.used b.bytes
