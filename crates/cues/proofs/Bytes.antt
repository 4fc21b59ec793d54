-- One more byte of the input.
use Rattle.std.proofs.Common.{◌≡◌, ℕ, ◌+◌, ◌<◌, eqb, List, [], ◌∷◌, ◌++◌, length, get_or, take, drop, sym, ap, ◌∙◌}
use Rattle.std.proofs.lemmas.List.{at_drop_more}
use Rattle.std.proofs.lemmas.Bool.{cond-true, cond-false, eq-eqb, ne_eqb}
use Rattle.cues.specs.Reading.{pending}

pub line_feed : (bs line next all : List ℕ) (i : ℕ) → i < length bs → get_or bs i 0 ≡ 10 → next ≡ [] → pending line (drop i bs) ≡ all → pending next (drop (i + 1) bs) ≡ all
line_feed bs line next all i h b e p =
    ap (λ t. pending t (drop (i + 1) bs)) (e ∙ sym (cond-true (eqb (get_or bs i 0) 10) [] (take 401 (line ++ get_or bs i 0 ∷ [])) (eq-eqb (get_or bs i 0) 10 b))) ∙ sym (at_drop_more (pending line) bs i 0 h) ∙ p

pub other_byte : (bs line next all : List ℕ) (i : ℕ) → i < length bs → (get_or bs i 0 ≡ 10 → ⊥) → next ≡ take 401 (line ++ get_or bs i 0 ∷ []) → pending line (drop i bs) ≡ all → pending next (drop (i + 1) bs) ≡ all
other_byte bs line next all i h b e p =
    ap (λ t. pending t (drop (i + 1) bs)) (e ∙ sym (cond-false (eqb (get_or bs i 0) 10) [] (take 401 (line ++ get_or bs i 0 ∷ [])) (ne_eqb (get_or bs i 0) 10 b))) ∙ sym (at_drop_more (pending line) bs i 0 h) ∙ p
