use Rattle.free_list.proofs.Walk.{Passed}
use Rattle.free_list.proofs.first_fit.first_fit.Given as goal

abbrev pub invariant-loop-run : goal.invariant-loop-run
invariant-loop-run l = Passed l.words l.n l.run-iterator
