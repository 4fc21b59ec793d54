use Rattle.std.proofs.Common.{◌≡◌, false, length, None, Some, ap, ◌∙◌, rules}
use Rattle.std.specs.Result.{result_err}
use Rattle.std.proofs.lemmas.Result.{err_from_is_err_and}
use Rattle.layouts.specs.Table.{bad_start, template_refusal, entry_refusal, lowest}
use Rattle.sources.proofs.check.checked.Goals as goal

pub returns-in_err-ask_each-2-clause-refusal : goal.returns-in_err-ask_each-2-clause-refusal
returns-in_err-ask_each-2-clause-refusal c =
    let ws = c.args.words.now in
    let first : None ≡ lowest (template_refusal ws) (length ws) = c.in_ok-ask_each.ensures (template_refusal ws) (λ s r e p. p.1 ∙ ap (λ x. template_refusal x s.k) e) in
    let second : Some c.in_err-ask_each-2.field-0.0 ≡ lowest (entry_refusal ws) (length ws) = c.in_err-ask_each-2.ensures (entry_refusal ws) (λ s r e p. let said : result_err r ≡ entry_refusal s.words.now s.k = search rules in said ∙ ap (λ x. entry_refusal x s.k) e) in
    let fair : bad_start ws ≡ false = c.requires in
    let last = c.from_residual-in_err-ask_each-2 in
    let p = err_from_is_err_and last.result last.ensures.1 in
    rw (fair, ← first, p.1, p.2) second
