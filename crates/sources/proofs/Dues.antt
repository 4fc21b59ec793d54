-- One word more of a table that is gone through: what is due after it.
use Rattle.std.proofs.Common.{◌≡◌, ℕ, ◌+◌, ◌-◌, cond, eqb, List, get_or, sym, ap, ◌∙◌}
use Rattle.layouts.specs.Table.{due}
use Rattle.layouts.proofs.Due.{due_step}

pub due_more : (ws : List ℕ) (k left next : ℕ) → left ≡ due ws k → next ≡ cond (eqb left 0) (get_or ws k 0) (left - 1) → next ≡ due ws (k + 1)
due_more ws k left next i e = e ∙ ap (λ d. cond (eqb d 0) (get_or ws k 0) (d - 1)) i ∙ sym (due_step ws k)
