-- The first word of a text, and the words after it.
use Rattle.std.proofs.Common.{◌≡◌, ℕ, zero, suc, Bool, true, not, ◌&&◌, eqb, List, [], ◌∷◌, ◌++◌, length, get_or, sym, refl, ap, ◌∙◌, arith}
use Rattle.std.specs.List.{flat_map}
use Rattle.std.proofs.lemmas.Bool.{eqb-false, not-true, and_parts}
use Rattle.lines.specs.Words.{Lacks, Unspaced, Follows, spaced}

pub follows_joined : (ws : List (List ℕ)) → Follows (flat_map spaced ws)
follows_joined [] h = absurd (omega arith)
follows_joined (w ∷ ws) h = refl

-- a text has one first word
pub cut_once : (v w r s : List ℕ) → Unspaced v → Unspaced w → Follows r → Follows s → v ++ r ≡ w ++ s → (v ≡ w) × (r ≡ s)
cut_once [] [] r s hv hw hr hs e = (refl, e)
cut_once [] (y ∷ w) r s hv hw hr hs e =
    absurd (hw 0 (omega arith) (sym (ap (λ t. get_or t 0 0) e) ∙ hr (omega (arith, ap length e))))
cut_once (x ∷ v) [] r s hv hw hr hs e =
    absurd (hv 0 (omega arith) (ap (λ t. get_or t 0 0) e ∙ hs (omega (arith, ap length e))))
cut_once (x ∷ v) (y ∷ w) r s hv hw hr hs e =
    let head : x ≡ y = cc in
    let tails : v ++ r ≡ w ++ s = cc in
    let p = cut_once v w r s (λ i h. hv (suc i) (omega arith)) (λ i h. hw (suc i) (omega arith)) hr hs tails in
    (cc p.0, p.1)

abbrev pub lacks : ℕ → List ℕ → Bool
lacks b [] = true
lacks b (c ∷ cs) = not (eqb c b) && lacks b cs

pub lacks_by : (b : ℕ) (w : List ℕ) → lacks b w ≡ true → Lacks b w
lacks_by b [] e i h is = omega arith
lacks_by b (c ∷ cs) e zero h is = eqb-false c b (not-true (eqb c b) (and_parts (not (eqb c b)) (lacks b cs) e).0) is
lacks_by b (c ∷ cs) e (suc i) h is = lacks_by b cs (and_parts (not (eqb c b)) (lacks b cs) e).1 i (omega arith) is

pub lacks_append : (b : ℕ) (v w : List ℕ) → Lacks b v → Lacks b w → Lacks b (v ++ w)
lacks_append b [] w hv hw i h is = hw i h is
lacks_append b (c ∷ v) w hv hw zero h is = hv 0 (omega arith) is
lacks_append b (c ∷ v) w hv hw (suc i) h is = lacks_append b v w (λ j k. hv (suc j) (omega arith)) hw i (omega arith) is
