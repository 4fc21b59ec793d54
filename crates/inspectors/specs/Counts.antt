-- What a tally tells of the visits that it has counted, and which visit it refuses.
use Rattle.std.specs.Prelude.{◌≡◌, ℕ, ◌+◌, ◌^◌, ◌<◌, ◌≤◌, cond, ◌⊎◌, List, [], ◌∷◌, length, Some, None, ◌==◌}
use Rattle.scan.specs.Visits.{Visit, holds}
use Rattle.inspectors.specs.declared.tally.Row.{Row}
use Rattle.inspectors.specs.declared.tally.Tally.{Tally}
use Rattle.inspectors.specs.Tallies.{tally_step}

-- what the row of a code has; 0 where no row is of the code
abbrev pub in_row : (Row → ℕ) → ℕ → List Row → ℕ
in_row f c [] = 0
in_row f c (r ∷ rs) = cond (r.code == c) (f r) (in_row f c rs)

-- the sum over the visits of a code
abbrev pub in_visits : (Visit → ℕ) → ℕ → List Visit → ℕ
in_visits f c [] = 0
in_visits f c (v ∷ vs) = cond (v.code == c) (f v) 0 + in_visits f c vs

-- how many visits are of the code, and how many words they show
abbrev pub cells_of : ℕ → List Visit → ℕ
cells_of c vs = in_visits (λ v. 1) c vs

abbrev pub words_of : ℕ → List Visit → ℕ
words_of c vs = in_visits (λ v. length v.words) c vs

-- the codes of the rows in use
abbrev pub in_use : List Row → List ℕ
in_use [] = []
in_use (r ∷ rs) = cond (r.cells == 0) [] (r.code ∷ in_use rs)

-- codes with one more after them, unless it is among them
abbrev pub also : List ℕ → ℕ → List ℕ
also [] c = c ∷ []
also (k ∷ ks) c = cond (k == c) (k ∷ ks) (k ∷ also ks c)

-- codes with those of the visits after them, each once, in the order in which they come
abbrev pub also_seen : List ℕ → List Visit → List ℕ
also_seen ks [] = ks
also_seen ks (v ∷ vs) = also_seen (also ks v.code) vs

-- the rows in use are of the codes of the visits, and each code has its cells and its words
abbrev pub Counted : List Visit → List Row → Type 0
Counted vs rows = (in_use rows ≡ also_seen [] vs) × ((c : ℕ) → (in_row (λ r. r.cells) c rows ≡ cells_of c vs) × (in_row (λ r. r.words) c rows ≡ words_of c vs))

-- after these visits one more is of a 33rd type, or brings a count to 2^32
abbrev pub Full : List Visit → Visit → Type 0
Full vs v = (32 < length (also (also_seen [] vs) v.code)) ⊎ ((2 ^ 32 ≤ cells_of v.code vs + 1) ⊎ (2 ^ 32 ≤ words_of v.code vs + length v.words))

-- after any visits it has counted them, and it refuses just those visits for which it is full
abbrev pub Counts : Tally → Type 0
Counts s = (vs : List Visit) (t : Tally) → holds tally_step s vs ≡ Some t → Counted vs t.rows × ((v : Visit) → (tally_step t v ≡ None → Full vs v) × (Full vs v → tally_step t v ≡ None))
