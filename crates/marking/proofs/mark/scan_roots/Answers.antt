use Rattle.std.proofs.Common.{◌+◌, ◌<◌, ◌≤◌, ◌∙◌, [], ◌∷◌, length, Ok, Err, ap, add-zero, arith, rules}
use Rattle.std.proofs.lemmas.Result.{err_from_is_err_and}
use Rattle.marking.specs.Marking.{Scans}
use Rattle.marking.proofs.Steps.{no_cell, root_done, root_stopped, root_refused, at_first, few, one_more, refused_at}
use Rattle.marking.proofs.mark.scan_roots.Goals as goal

pub loop-hold-init : goal.loop-hold-init
loop-hold-init g c = at_first (g.S.TemplateSource.meaning c.args.source.now) c.args.words.now c.args.records.now c.args.marks.now

pub loop-hold-preserved-in_default : goal.loop-hold-preserved-in_default
loop-hold-preserved-in_default g c =
    let t = g.S.TemplateSource.meaning c.args.source.now in
    let one : Scans t c.args.words.now (c.root.result ∷ []) c.loop-hold.marks c.loop-hold.marks (Ok 0) = no_cell t c.args.words.now c.root.result c.loop-hold.marks c.in_default.not-Cell in
    rw (← add-zero c.loop-hold.visits) (one_more t c.args.words.now c.args.records.now c.loop-hold.hold-index c.args.marks.now c.loop-hold.marks c.loop-hold.marks c.loop-hold.visits 0 c.loop-hold-test.true c.loop-hold.invariant (rw c.root.ensures at one))

pub returns-in_err-scanned : goal.returns-in_err-scanned
returns-in_err-scanned g c =
    let t = g.S.TemplateSource.meaning c.args.source.now in
    let none = c.in_err-scanned.ensures in
    let e = err_from_is_err_and c.from_residual.result c.from_residual.ensures.1 in
    let one : Scans t c.args.words.now (c.root.result ∷ []) c.loop-hold.marks c.scan.new.marks c.from_residual.result = root_refused t c.args.words.now c.root.result c.in-Cell.code c.in-Cell.address (length c.loop-hold.pending) c.loop-hold.marks c.scan.new.marks _ _ c.in-Cell.is (omega arith) (omega arith) none.0 none.1 (e.1 ∙ ap Err e.2) in
    refused_at t c.args.words.now c.args.records.now c.loop-hold.hold-index c.args.marks.now c.loop-hold.marks c.scan.new.marks c.loop-hold.visits _ _ _ e.1 e.1 c.loop-hold-test.true c.loop-hold.invariant (rw c.root.ensures at one)

pub returns-in_err-scanned-2 : goal.returns-in_err-scanned-2
returns-in_err-scanned-2 g c =
    let t = g.S.TemplateSource.meaning c.args.source.now in
    let made = c.in_ok-scanned.ensures in
    let e = err_from_is_err_and c.from_residual-in_err-scanned-2.result c.from_residual-in_err-scanned-2.ensures.1 in
    let one : Scans t c.args.words.now (c.root.result ∷ []) c.loop-hold.marks c.scan.new.marks c.from_residual-in_err-scanned-2.result = root_stopped t c.args.words.now c.root.result c.in-Cell.code c.in-Cell.address (length c.loop-hold.pending) c.loop-hold.marks _ _ _ c.in_ok-scanned.scanned _ _ c.in-Cell.is made.0 made.1 c.in_err-scanned-2.was (e.1 ∙ ap Err e.2) in
    refused_at t c.args.words.now c.args.records.now c.loop-hold.hold-index c.args.marks.now c.loop-hold.marks c.scan.new.marks c.loop-hold.visits _ _ _ e.1 e.1 c.loop-hold-test.true c.loop-hold.invariant (rw c.root.ensures at one)

pub overflow_add-visits : goal.overflow_add-visits
overflow_add-visits g c =
    let t = g.S.TemplateSource.meaning c.args.source.now in
    let made = c.in_ok-scanned.ensures in
    let one : Scans t c.args.words.now (c.root.result ∷ []) c.loop-hold.marks c.scan.new.marks (Ok c.in_ok-scanned.scanned.visits) = root_done t c.args.words.now c.root.result c.in-Cell.code c.in-Cell.address (length c.loop-hold.pending) c.loop-hold.marks _ _ _ c.in_ok-scanned.scanned _ c.in-Cell.is made.0 made.1 c.in_ok-scanned-2.was in
    let low : c.loop-hold.visits + c.in_ok-scanned.scanned.visits ≤ length c.args.words.now = few t c.args.words.now c.args.records.now c.loop-hold.hold-index c.root.result c.args.marks.now c.loop-hold.marks c.scan.new.marks c.loop-hold.visits c.in_ok-scanned.scanned.visits c.requires.marks c.loop-hold.invariant one in
    let small : c.loop-hold.visits + c.in_ok-scanned.scanned.visits < 4294967296 = omega arith in
    search rules

pub loop-hold-preserved : goal.loop-hold-preserved
loop-hold-preserved g c =
    let t = g.S.TemplateSource.meaning c.args.source.now in
    let made = c.in_ok-scanned.ensures in
    let one : Scans t c.args.words.now (c.root.result ∷ []) c.loop-hold.marks c.scan.new.marks (Ok c.in_ok-scanned.scanned.visits) = root_done t c.args.words.now c.root.result c.in-Cell.code c.in-Cell.address (length c.loop-hold.pending) c.loop-hold.marks _ _ _ c.in_ok-scanned.scanned _ c.in-Cell.is made.0 made.1 c.in_ok-scanned-2.was in
    one_more t c.args.words.now c.args.records.now c.loop-hold.hold-index c.args.marks.now c.loop-hold.marks c.scan.new.marks c.loop-hold.visits c.in_ok-scanned.scanned.visits c.loop-hold-test.true c.loop-hold.invariant (rw c.root.ensures at one)
