use Rattle.std.proofs.Common.{◌≡◌, ◌∙◌, ℕ, refl, sym, ap, length, subst, arith}
use Rattle.std.specs.Iterator.Adapters.{rev_source, skip_source, enumerate_source}
use Rattle.std.specs.Slice.Iter.{iter_rest}
use Rattle.sweeping.proofs.Sweeps.{State, state_start, state_marked, state_unmarked, state_done, all_ahead, down_one, one_ahead}
use Rattle.sweeping.proofs.Rooms.{room_law}
use Rattle.sweeping.proofs.Once.{one_sweep}
use Rattle.sweeping.proofs.sweep.link_stretches.Goals as goal

pub loop-at-init : goal.loop-at-init
loop-at-init c =
    let from = ap rev_source c.into_iter-at-iterator.ensures.into_iter_gives ∙ c.rev-at-items.ensures.source in
    let all : iter_rest (enumerate_source (skip_source (rev_source c.into_iter-at-iterator.result))) ≡ c.args.marks.now =
    rw (from, c.skip.ensures.source, c.enumerate.ensures.source) c.iter.ensures.rest in (
      rw from c.skip.ensures.count,
      rw (from, c.skip.ensures.source) c.enumerate.ensures.count,
      all_ahead _ _ all,
      state_start _ _ _ (ap length all ∙ c.requires.marks) c.requires.marks c.requires.some,
    )

pub loop-at-preserved-then-mark-eq-MARKED : goal.loop-at-preserved-then-mark-eq-MARKED
loop-at-preserved-then-mark-eq-MARKED c =
    let steps = c.in-Some.ensures.steps in
    let i = c.loop-at.invariant in
    let d = down_one c.args.marks.now _ _ c.in-Some.mark.now steps.1.1.1.0 i.2 in
    let at = steps.1.1.1.1 in
    (steps.0 ∙ i.0, steps.1.1.0 ∙ i.1, d.1, state_marked _ _ c.loop-at.words _ _ _ _ _ _ _ _ _ (omega (arith, d.0, steps.1.0, i.0)) d.0 (d.2 ∙ c.if-mark-eq-MARKED.true) (omega arith) (omega arith) (omega (arith, at, i.1)) c.close.ensures.words c.close.ensures.empty i.3)

pub loop-at-preserved : goal.loop-at-preserved
loop-at-preserved c =
    let steps = c.in-Some.ensures.steps in
    let i = c.loop-at.invariant in
    let d = down_one c.args.marks.now _ _ c.in-Some.mark.now steps.1.1.1.0 i.2 in
    (steps.0 ∙ i.0, steps.1.1.0 ∙ i.1, d.1, state_unmarked _ _ _ _ _ _ _ _ (omega (arith, d.0, steps.1.0, i.0)) d.0 (λ marked. c.if-mark-eq-MARKED.false (sym d.2 ∙ marked)) i.3)

pub returns : goal.returns
returns c =
    let i = c.loop-at.invariant in
    let D : ℕ → Type 0 = λ a. State c.args.words.now c.args.marks.now c.loop-at.words c.loop-at.stretch.next a c.loop-at.stretch.size c.loop-at.free in
    let d = subst D (one_ahead _ _ i.0 i.3.there (λ more. (c.in-None.ensures.steps.1 more).1.0)) i.3 in
    record {
      answer = d.count;
      words = state_done _ _ c.loop-at.words _ _ _ _ _ _ _ _ (omega arith) (omega arith) c.close-2.ensures.words c.into.ensures c.from.ensures.0 (omega (arith, c.from.ensures.0)) refl d;
      once = one_sweep;
      room = room_law;
    }
