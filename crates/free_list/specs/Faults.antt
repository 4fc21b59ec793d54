-- The refusal that stands for each fault.
use Rattle.refusals.specs.declared.refusal.Refusal.{Refusal}
use Rattle.refusals.specs.declared.refusal.Refusal.TheVariants.{MemorySize, NoRun, Broken as BrokenContent}
use Rattle.free_list.specs.declared.fault.Fault.{Fault}
use Rattle.free_list.specs.declared.fault.Fault.TheVariants.{Length, Size, Broken}

abbrev pub refusal_of : Fault → Refusal
refusal_of Length = MemorySize
refusal_of Size = NoRun 0
refusal_of (Broken q) = BrokenContent q
