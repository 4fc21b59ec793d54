-- The same contents and marks have the same end.
use Rattle.std.proofs.Common.{◌≡◌, ℕ, List, ◌++◌, sym, refl, ap, ◌∙◌, subst, arith}
use Rattle.layouts.specs.Types.{Types}
use Rattle.cells.specs.declared.content.Content.{Content}
use Rattle.scan.specs.Visits.{Visit}
use Rattle.scan.specs.Scan.{Stops}
use Rattle.scan.specs.Endings.{Ending}
use Rattle.scan.proofs.Unique.{unique}
use Rattle.marking.specs.Roots.{Roots, takes_all, finished, nothing, immediate, unfit, scanned, stopped}

abbrev Same : List Visit → List ℕ → Ending → List Visit → List ℕ → Ending → Type 0
Same vs m e us m' e' = (vs ≡ us) × (m ≡ m') × (e ≡ e')

pub same_end : (t : Types) (w : List ℕ) {ks : List Content} {m m₁ m₂ : List ℕ} {vs us : List Visit} {e₁ e₂ : Ending} → Roots t w ks m vs m₁ e₁ → Roots t w ks m us m₂ e₂ → Same vs m₁ e₁ us m₂ e₂
same_end t w finished finished = (refl, refl, refl)
same_end t w (nothing r) (nothing q) = same_end t w r q
same_end t w (immediate r) (immediate q) = same_end t w r q
same_end t w (unfit out) (unfit out') = (refl, refl, refl)
same_end t w (unfit out) (scanned fit r q) = let z : ◌≡◌ {A = ℕ} 0 1 = cc in absurd (omega arith)
same_end t w (unfit out) (stopped fit r stop) = let z : ◌≡◌ {A = ℕ} 0 1 = cc in absurd (omega arith)
same_end t w (scanned fit r q) (unfit out) = let z : ◌≡◌ {A = ℕ} 0 1 = cc in absurd (omega arith)
same_end t w (scanned {ks = ks} {vs₁ = vs₁} {vs₂ = vs₂} fit r q) (scanned {m₂ = m''} {vs₁ = us₁} {vs₂ = us₂} {e = e''} fit' r' q') =
    let first = unique t w takes_all r r' in
    let second = same_end t w q (subst (λ x. Roots t w ks x us₂ m'' e'') (sym first.1) q') in
    (ap (λ x. x ++ vs₂) first.0 ∙ ap (λ x. us₁ ++ x) second.0, second.1, second.2)
same_end t w (scanned fit r q) (stopped fit' r' stop) = absurd (subst Stops (sym (unique t w takes_all r r').3) stop)
same_end t w (stopped fit r stop) (unfit out) = let z : ◌≡◌ {A = ℕ} 0 1 = cc in absurd (omega arith)
same_end t w (stopped fit r stop) (scanned fit' r' q) = absurd (subst Stops (unique t w takes_all r r').3 stop)
same_end t w (stopped fit r stop) (stopped fit' r' stop') = let same = unique t w takes_all r r' in (same.0, same.1, same.3)
