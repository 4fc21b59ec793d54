use Rattle.std.proofs.Common.{◌≡◌, drop}
use Rattle.std.specs.List.{flat_map}
use Rattle.inspectors.specs.Lines.{Room, appended, spaced}
use Rattle.inspectors.proofs.lister.Lister.put_words.Given as goal

abbrev pub invariant-loop-w : goal.invariant-loop-w
invariant-loop-w l = Room l.self (flat_map spaced (drop l.w-index l.words)) × (appended l.self (flat_map spaced (drop l.w-index l.words)) ≡ appended l.initial.self (flat_map spaced l.words))
