use Rattle.std.proofs.Common.{◌≡◌, length, Some, None, position, set, is_err, refl, ap, arith}
use Rattle.std.proofs.lemmas.Result.{err_from_is_err_and}
use Rattle.inspectors.specs.Tallies.{serves}
use Rattle.inspectors.proofs.Places.{placed, no_place, made_at, skipped_at, takes_yes, takes_past, takes_not}
use Rattle.inspectors.proofs.tally.TallyInspector.visit.Goals as goal

pub returns-in_err-i : goal.returns-in_err-i
returns-in_err-i c =
    let s = c.args.self.now in
    let full = err_from_is_err_and c.from_residual.result c.from_residual.ensures.1 in
    let none : position (serves c.args.code) s.rows ≡ None = grind arith in
    skipped_at s _ _ c.args.code _ _ (ap is_err full.1) refl (takes_past s.rows _ (length c.args.words.now) (no_place c.args.code s.rows none))

pub returns-in_err-self : goal.returns-in_err-self
returns-in_err-self c =
    let s = c.args.self.now in
    let full = err_from_is_err_and c.from_residual-in_err-self.result c.from_residual-in_err-self.ensures.1 in
    let some : position (serves c.args.code) s.rows ≡ Some c.in_ok-i.i = grind arith in
    let none : c.with_cell.result ≡ None = grind arith in
    skipped_at s c.in_ok-i.i _ c.args.code _ _ (ap is_err full.1) (placed c.args.code s.rows _ some).0 (takes_not s.rows _ (length c.args.words.now) (rw none at c.with_cell.ensures))

pub returns : goal.returns
returns c =
    let s = c.args.self.now in
    let some : position (serves c.args.code) s.rows ≡ Some c.in_ok-i.i = grind arith in
    let at = placed c.args.code s.rows _ some in
    let made : c.with_cell.result ≡ Some c.in_ok-self.field-0 = grind arith in
    let is = rw made at c.with_cell.ensures in
    made_at s _ c.in_ok-i.i _ c.args.code (length c.args.words.now) at.0 (takes_yes s.rows _ (length c.args.words.now) at.1 is.0) (ap (λ r. record { rows = set s.rows c.in_ok-i.i r }) is.1)
