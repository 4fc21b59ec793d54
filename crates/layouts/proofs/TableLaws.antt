-- An accepted table is lawful.
use Rattle.std.proofs.Common.{◌≡◌, ℕ, ◌+◌, ◌-◌, ◌<◌, ◌≤◌, true, ◌&&◌, leb, List, length, get_or, Some, sym, ◌∙◌, subst, inl, inr, arith}
use Rattle.std.proofs.lemmas.Bool.Decides.{nat_tests}
use Rattle.std.proofs.lemmas.Bool.{cases_Bool, cond-false}
use Rattle.layouts.specs.declared.entry.Entry.TheVariants.{Z, P, Code}
use Rattle.layouts.specs.Types.{Lawful, Within, HasCells}
use Rattle.layouts.specs.Table.{due, begins, table}
use Rattle.layouts.specs.Statements.{TableLawful}
use Rattle.layouts.proofs.Due.{due_inside, begins_parts}
use Rattle.layouts.proofs.Sound.{Sound, sound, said_pointer, said_code}

size_parts : (ws : List ℕ) (c n : ℕ) → (table ws).size c ≡ Some n → (begins ws c ≡ true) × (get_or ws c 0 ≡ n)
size_parts ws c n e = (grind (arith, nat_tests), grind (arith, nat_tests))

pub table_size : (ws : List ℕ) (c : ℕ) → begins ws c ≡ true → (table ws).size c ≡ Some (get_or ws c 0)
table_size ws c e = grind (arith, nat_tests)

pointer_parts : (ws : List ℕ) (c i : ℕ) → (table ws).entry c i ≡ P → (begins ws c ≡ true) × (1 ≤ i) × (i ≤ get_or ws c 0) × (get_or ws (c + i) 0 ≡ 65536)
pointer_parts ws c i e = (grind (arith, nat_tests), grind (arith, nat_tests), grind (arith, nat_tests), grind (arith, nat_tests))

code_parts : (ws : List ℕ) (c i k : ℕ) → (table ws).entry c i ≡ Code k → (begins ws c ≡ true) × (1 ≤ i) × (i ≤ get_or ws c 0) × (get_or ws (c + i) 0 ≡ k) × (k ≡ 65536 → ⊥) × (k ≡ 65537 → ⊥)
code_parts ws c i k e =
    (grind (arith, nat_tests), grind (arith, nat_tests), grind (arith, nat_tests), grind (arith, nat_tests), λ f. grind (arith, nat_tests), λ f. grind (arith, nat_tests))

z_at : (ws : List ℕ) (c i : ℕ) → get_or ws (c + i) 0 ≡ 65537 → (table ws).entry c i ≡ Z
z_at ws c i e = grind (arith, nat_tests)

in_range : (ws : List ℕ) (c i : ℕ) → (begins ws c && (leb 1 i && leb i (get_or ws c 0))) ≡ true → (begins ws c ≡ true) × (1 ≤ i) × (i ≤ get_or ws c 0)
in_range ws c i e = (grind (arith, nat_tests), grind (arith, nat_tests), grind (arith, nat_tests))

module _ (ws : List ℕ) (s : Sound ws) where
  -- entry i of the template at c stands in the table, and is due there
  pub at_entry : (c i : ℕ) → begins ws c ≡ true → 1 ≤ i → i ≤ get_or ws c 0 → (c + i < length ws) × (due ws (c + i) ≡ get_or ws c 0 + 1 - i)
  at_entry c i b l h =
      let p = begins_parts ws c b in
      let z = s.sizes c p.1 p.2 in
      (omega arith, due_inside ws c i p.2 l (omega arith))

  paired : (c i : ℕ) → (table ws).entry c i ≡ P → Within (table ws) c (i + 1) × ((table ws).entry c (i + 1) ≡ Z)
  paired c i e =
      let p = pointer_parts ws c i e in
      let a = at_entry c i p.0 p.1 p.2 in
      let f = said_pointer ws (c + i) (s.entries (c + i) a.0 (omega arith)) p.3 in
      let g : c + i + 1 ≡ c + (i + 1) = omega arith in
      ((get_or ws c 0, table_size ws c p.0, omega arith, omega arith), z_at ws c (i + 1) (rw g at f.1))

  named : (c i k : ℕ) → (table ws).entry c i ≡ Code k → HasCells (table ws) k
  named c i k e =
      let p = code_parts ws c i k e in
      let a = at_entry c i p.0 p.1 p.2 in
      let w = p.3 in
      let f = said_code ws (c + i) (s.entries (c + i) a.0 (omega arith)) (λ h. p.4 (sym w ∙ h)) (λ h. p.5 (sym w ∙ h)) in
      let b : begins ws k ≡ true = subst (λ (m : ℕ). begins ws m ≡ true) w f.0 in
      (get_or ws k 0, table_size ws k b, subst (λ (m : ℕ). 1 ≤ get_or ws m 0) w f.1)

  lawful : Lawful (table ws)
  lawful = record {
    sized = λ c n e.
        let p = size_parts ws c n e in
        let q = begins_parts ws c p.0 in
        let z = s.sizes c q.1 q.2 in
        let short = s.short in
        (q.0, omega arith, omega arith);
    paired = paired;
    named = named;
    outside = λ c i f. elim (cases_Bool (begins ws c && (leb 1 i && leb i (get_or ws c 0)))) [
      | inl e ↦ (let p = in_range ws c i e in absurd (f (get_or ws c 0, table_size ws c p.0, p.1, p.2)))
      | inr e ↦ cond-false _ _ _ e
    ];
  }

pub table_lawful : TableLawful
table_lawful ws e = lawful ws (sound ws e)

-- entry i of a template of an accepted table stands in the table
pub entry_within : (ws : List ℕ) → Sound ws → (c i : ℕ) → begins ws c ≡ true → 1 ≤ i → i ≤ get_or ws c 0 → c + i < length ws
entry_within ws s c i b l h = (at_entry ws s c i b l h).0
