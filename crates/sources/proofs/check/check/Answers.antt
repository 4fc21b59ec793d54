use Rattle.std.proofs.Common.{◌≡◌, true, is_some, refl, sym, ap, ◌∙◌}
use Rattle.layouts.specs.Table.{bad_start, table_refusal}
use Rattle.layouts.proofs.Acceptance.{accepted_exactly}
use Rattle.sources.proofs.check.check.Goals as goal

pub returns-clause-exactly : goal.returns-clause-exactly
returns-clause-exactly c =
    let e = ap is_some (c.err.ensures.value ∙ c.checked.ensures.refusal) in
    let a = accepted_exactly c.args.words.now in
    ((λ n. a.0 (sym e ∙ n)), (λ f. e ∙ a.1 f))

pub returns-then-is_bad_start-clause-exactly : goal.returns-then-is_bad_start-clause-exactly
returns-then-is_bad_start-clause-exactly c =
    let bad : bad_start c.args.words.now ≡ true = sym c.is_bad_start.ensures ∙ c.if-is_bad_start.true in
    let e : true ≡ is_some (table_refusal c.args.words.now) = rw bad refl in
    let a = accepted_exactly c.args.words.now in
    ((λ n. a.0 (sym e ∙ n)), (λ f. e ∙ a.1 f))
