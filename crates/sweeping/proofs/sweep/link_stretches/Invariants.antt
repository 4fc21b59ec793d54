use Rattle.std.proofs.Common.{◌≡◌, length, take}
use Rattle.std.specs.Iterator.Adapters.{rev_source, skip_source, skip_count, enumerate_source, enumerate_count}
use Rattle.std.specs.Slice.Iter.{iter_rest}
use Rattle.sweeping.proofs.Sweeps.{State}
use Rattle.sweeping.proofs.sweep.link_stretches.Given as goal

-- the marks that are still ahead, and the words behind them
abbrev pub invariant-loop-at : goal.invariant-loop-at
invariant-loop-at l =
    let from = rev_source l.at-iterator in
    let ahead = iter_rest (enumerate_source (skip_source from)) in
    (skip_count from ≡ 1) × (enumerate_count (skip_source from) ≡ 0) × (ahead ≡ take (length ahead) l.marks)
    × State l.initial.words l.marks l.words l.stretch.next (length ahead) l.stretch.size l.free
