-- How many pending places a call of a list is lent, where there are enough.
use Rattle.std.specs.Prelude.{ℕ}
use Rattle.replay.specs.declared.call.Call.{Call}
use Rattle.replay.specs.declared.call.Call.TheVariants.{Cell, Make, Trace, Mark, Survey, Unmark, Sweep}

abbrev pub pending_of : {S : Type 0} → Call S → ℕ
pending_of (Cell c) = 0
pending_of (Make h c p) = p
pending_of (Trace h p s) = p
pending_of (Mark p) = p
pending_of Survey = 0
pending_of Unmark = 0
pending_of Sweep = 0
