use Rattle.std.proofs.Common.{◌≡◌, length, get_or, take, set, sym, ap, ◌∙◌, subst, inl, inr, arith, get_or-set_other, rules}
use lib.Seq.{set-get_or}
use Rattle.std.proofs.lemmas.List.{get_or_default}
use Rattle.replay.specs.States.{State, new_state, events}
use Rattle.replay.specs.Steps.{CallStep, Run}
use Rattle.replay.specs.Replays.{exists_in}
use Rattle.replay.specs.Carries.{state_of}
use Rattle.replay.proofs.Joined.{run_more, ran}
use Rattle.replay.proofs.replay.replay.Goals as goal

pub loop-i-preserved : goal.loop-i-preserved
loop-i-preserved g c =
    let before : State = state_of c.loop-i.heap in
    let after : State = state_of c.carry_out.new.self in (
      run_more (g.S.TemplateSource.meaning c.args.source.now) g.I.Inspector.step (length c.args.places.now) c.args.calls.now c.loop-i.answers c.loop-i.calls c.loop-i.i c.index-calls-i.result c.in-Some.answer c.carry_out.new.call
          (new_state (length c.format_words.new.words) c.args.marks.now) before after
          (omega (arith, c.min-most.ensures, c.loop-i-test.true)) (omega (arith, c.min-most.ensures, c.loop-i.auto.answers)) c.loop-i.auto.calls c.loop-i.invariant.0
          (subst (λ x. CallStep (g.S.TemplateSource.meaning c.args.source.now) g.I.Inspector.step (length c.args.places.now) x before c.in-Some.answer after c.carry_out.new.call)
          (c.loop-i.invariant.2 c.loop-i.i c.index-calls-i.result (omega arith))
          (subst (λ n. CallStep (g.S.TemplateSource.meaning c.args.source.now) g.I.Inspector.step n (get_or c.loop-i.calls c.loop-i.i c.index-calls-i.result) before c.in-Some.answer after c.carry_out.new.call)
          c.loop-i.auto.places c.in-Some.ensures.carries)),
      (c.in-Some.ensures.same_memory.0 ∙ c.loop-i.invariant.1.0, c.in-Some.ensures.same_memory.1 ∙ c.loop-i.invariant.1.1),
      λ k d h. get_or-set_other c.loop-i.calls c.loop-i.i k c.carry_out.new.call d (λ e. omega (arith, e)) ∙ c.loop-i.invariant.2 k d (omega arith),
      λ k d h. get_or-set_other c.loop-i.answers c.loop-i.i k c.in-Some.answer d (λ e. omega (arith, e)) ∙ c.loop-i.invariant.3 k d (omega arith),
    )

pub returns-in-None : goal.returns-in-None
returns-in-None g c =
    let gone = c.in-None.ensures.carries in
    let row = c.in_ok-format_words.ensures.0 in
    let calls : set c.loop-i.calls c.loop-i.i c.carry_out.new.call ≡ c.loop-i.calls = ap (set c.loop-i.calls c.loop-i.i) gone.2 ∙ set-get_or c.loop-i.calls c.loop-i.i c.index-calls-i.result in (
      row,
      rw calls
          (ran (g.S.TemplateSource.meaning c.args.source.now) g.I.Inspector.step (length c.args.places.now) (length c.args.words.now) (length c.format_words.new.words) c.args.marks.now c.args.calls.now c.loop-i.calls c.args.answers.now c.loop-i.answers c.loop-i.i c.carry_out.new.self
          (g.met.S.TemplateSource.laws c.args.source.now) row c.format_words.auto.words (search rules) (search rules)
          (subst (λ σ. Run (g.S.TemplateSource.meaning c.args.source.now) g.I.Inspector.step (length c.args.places.now) (events (take c.loop-i.i c.args.calls.now) (take c.loop-i.i c.loop-i.answers) (take c.loop-i.i c.loop-i.calls)) (new_state (length c.format_words.new.words) c.args.marks.now) σ) (sym gone.1) c.loop-i.invariant.0)
          (omega (arith, c.min-most.ensures, c.loop-i-test.true))
          (inr (λ d.
          ap (λ (σ : State). exists_in σ.phase (get_or c.args.calls.now c.loop-i.i d)) gone.1
          ∙ ap (exists_in c.loop-i.heap.phase) (get_or_default c.args.calls.now c.loop-i.i d c.index-calls-i.result (omega (arith, c.min-most.ensures, c.loop-i-test.true)) ∙ sym (c.loop-i.invariant.2 c.loop-i.i c.index-calls-i.result (omega arith)))
          ∙ gone.0))
          c.loop-i.invariant.2 c.loop-i.invariant.3),
    )

pub returns : goal.returns
returns g c =
    let row = c.in_ok-format_words.ensures.0 in
    let i : c.loop-i.i ≡ c.min-most.result = omega (arith, c.loop-i-test.false, c.loop-i.auto.i-end) in (
      row,
      rw (← i)
          (ran (g.S.TemplateSource.meaning c.args.source.now) g.I.Inspector.step (length c.args.places.now) (length c.args.words.now) (length c.format_words.new.words) c.args.marks.now c.args.calls.now c.loop-i.calls c.args.answers.now c.loop-i.answers c.loop-i.i c.loop-i.heap
          (g.met.S.TemplateSource.laws c.args.source.now) row c.format_words.auto.words (search rules) (search rules) c.loop-i.invariant.0
          (omega (arith, c.min-most.ensures)) (inl (i ∙ c.min-most.ensures))
          c.loop-i.invariant.2 c.loop-i.invariant.3),
    )
