-- How a scan ends, and the refusals of scans that stop or are not made.
use Rattle.std.specs.Prelude.{Ok, Result}
use Rattle.refusals.specs.declared.refusal.Refusal.{Refusal}
use Rattle.refusals.specs.declared.refusal.Refusal.TheVariants.{MemorySize, Broken as BrokenContent, InspectorFull}
use Rattle.scan.specs.declared.scanned.Stop.{Stop}
use Rattle.scan.specs.declared.scanned.Stop.TheVariants.{Broken, Full}
use Rattle.scan.specs.declared.scanned.Unscanned.{Unscanned}
use Rattle.scan.specs.declared.scanned.Unscanned.TheVariants.{Memory, Root}

-- everything was gone through, or the scan stops at a broken word or at a cell for which the inspector is full
abbrev pub Ending : Type 0
Ending = Result (Unit {0}) Stop

abbrev pub Done : Ending
Done = Ok tt

-- the refusal of a scan that stops
abbrev pub refusal_of : Stop → Refusal
refusal_of (Broken p) = BrokenContent p
refusal_of (Full a) = InspectorFull a

-- the refusal where no scan is made; a pointer whose cell does not fit is broken at address 0
abbrev pub unmade : Unscanned → Refusal
unmade Memory = MemorySize
unmade Root = BrokenContent 0
