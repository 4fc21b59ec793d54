use Rattle.std.proofs.Common.{sym, arith}
use Rattle.sources.proofs.Counting.{counted_none, counted_pointer, counted_code, counted_plain, counted_small}
use Rattle.sources.proofs.uses.count_references.Goals as goal

pub loop-word-init : goal.loop-word-init
loop-word-init g c = counted_none _ (g.met.S.TemplateSource.laws c.args.source.now) c.args.code _ (sym c.in_ok-n.ensures)

pub overflow_add-word : goal.overflow_add-word
overflow_add-word g c =
    let s = counted_small _ (g.met.S.TemplateSource.laws c.args.source.now) c.args.code c.in_ok-n.n c.loop-word.word c.loop-word.count c.loop-word.invariant c.loop-word-test.true in
    omega arith

pub overflow_add-word-in-Code : goal.overflow_add-word-in-Code
overflow_add-word-in-Code g c =
    let s = counted_small _ (g.met.S.TemplateSource.laws c.args.source.now) c.args.code c.in_ok-n.n c.loop-word.word c.loop-word.count c.loop-word.invariant c.loop-word-test.true in
    omega arith

pub overflow_add-word-in-Z : goal.overflow_add-word-in-Z
overflow_add-word-in-Z g c =
    let s = counted_small _ (g.met.S.TemplateSource.laws c.args.source.now) c.args.code c.in_ok-n.n c.loop-word.word c.loop-word.count c.loop-word.invariant c.loop-word-test.true in
    omega arith

pub loop-word-preserved-in-P : goal.loop-word-preserved-in-P
loop-word-preserved-in-P g c =
    counted_pointer _ (g.met.S.TemplateSource.laws c.args.source.now) c.args.code c.in_ok-n.n c.loop-word.word c.loop-word.count c.loop-word.invariant c.loop-word-test.true (sym c.in-P.ensures)

pub loop-word-preserved-in-Code : goal.loop-word-preserved-in-Code
loop-word-preserved-in-Code g c =
    counted_code _ (g.met.S.TemplateSource.laws c.args.source.now) c.args.code c.in_ok-n.n c.loop-word.word c.loop-word.count c.loop-word.invariant c.loop-word-test.true _ (sym c.in-Code.ensures)

pub loop-word-preserved : goal.loop-word-preserved
loop-word-preserved g c =
    counted_plain _ (g.met.S.TemplateSource.laws c.args.source.now) c.args.code c.in_ok-n.n c.loop-word.word c.loop-word.count c.loop-word.invariant c.loop-word-test.true (sym c.in-Z.ensures)
