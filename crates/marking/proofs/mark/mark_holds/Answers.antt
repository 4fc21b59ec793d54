use Rattle.std.proofs.Common.{◌≡◌, length, Err, rules}
use Rattle.std.proofs.lemmas.Result.{err_from_is_err_and}
use Rattle.marking.proofs.Marking.{marked_all, refused_all}
use Rattle.marking.proofs.mark.mark_holds.Goals as goal

pub returns-in_err-visits : goal.returns-in_err-visits
returns-in_err-visits g c =
    let t = g.S.TemplateSource.meaning c.args.source.now in
    let e = err_from_is_err_and c.from_residual-in_err-visits.result c.from_residual-in_err-visits.ensures.1 in
    let q = e.2 in
    let is : c.from_residual-in_err-visits.result ≡ Err c.in_err-visits.field-0.0 = cc (e.1, q) in
    refused_all t c.args.words.now c.args.holds.now.records c.records.result.now (length c.args.pending.now) c.args.marks.now _ c.scan_roots.new.marks _ c.in_ok-check_pending.ensures c.records.ensures c.scan_roots.result c.from_residual-in_err-visits.result c.in_err-visits.field-0.0 c.in_err-visits.was is c.scan_roots.ensures (search rules) (search rules)

pub returns : goal.returns
returns g c =
    let t = g.S.TemplateSource.meaning c.args.source.now in
    marked_all t c.args.words.now c.args.holds.now.records c.records.result.now (length c.args.pending.now) c.args.marks.now _ c.scan_roots.new.marks _ c.in_ok-check_pending.ensures c.records.ensures c.in_ok-visits.visits c.in_ok-visits.ensures (search rules) (search rules)
