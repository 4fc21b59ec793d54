-- What no refusal says of each word of a table, and back.
use Rattle.std.proofs.Common.{◌≡◌, ℕ, ◌+◌, ◌<◌, ◌≤◌, Bool, true, false, cond, eqb, List, length, get_or, is_some, Some, None, Option, sym, refl, ap, ◌∙◌, inl, inr, arith}
use Rattle.std.proofs.lemmas.Bool.Decides.{nat_tests}
use Rattle.std.proofs.lemmas.Bool.{cond-false, cases_Bool}
use Rattle.std.specs.Option.{option_or}
use Rattle.std.specs.Result.{result_err}
use Rattle.refusals.specs.declared.refusal.Refusal.TheVariants.{TableStart}
use Rattle.layouts.proofs.Lowest.{or_none, lowest_none, lowest_from}
use Rattle.layouts.specs.Table.{due, begins, bad_start, template_refusal, entry_said, entry_refusal, lowest, table_refusal, Accepted}

pub record Sound (ws : List ℕ) : Type 0 where
  pub some : 1 ≤ length ws
  pub short : length ws ≤ 32768
  pub head : get_or ws 0 0 ≡ 0
  pub sizes : (k : ℕ) → k < length ws → due ws k ≡ 0 → (get_or ws k 0 ≤ 255) × (k + 1 + get_or ws k 0 ≤ length ws)
  pub entries : (k : ℕ) → k < length ws → 1 ≤ due ws k → result_err (entry_said ws k) ≡ None

cond_none : {A : Type 0} (b : Bool) (a : A) (o : Option A) → cond b (Some a) o ≡ None → (b ≡ false) × (o ≡ None)
cond_none true a o e = let z : ◌≡◌ {A = ℕ} 0 1 = cc in absurd (omega arith)
cond_none false a o e = (refl, e)

start_parts : (ws : List ℕ) → bad_start ws ≡ false → (1 ≤ length ws) × (length ws ≤ 32768) × (get_or ws 0 0 ≡ 0)
start_parts ws e = (grind (arith, nat_tests), grind (arith, nat_tests), grind (arith, nat_tests))

start_from : (ws : List ℕ) → 1 ≤ length ws → length ws ≤ 32768 → get_or ws 0 0 ≡ 0 → bad_start ws ≡ false
start_from ws a b c = grind (arith, nat_tests)

size_parts : (ws : List ℕ) (k : ℕ) → template_refusal ws k ≡ None → due ws k ≡ 0 → (get_or ws k 0 ≤ 255) × (k + 1 + get_or ws k 0 ≤ length ws)
size_parts ws k e d = (grind (arith, nat_tests), grind (arith, nat_tests))

size_from : (ws : List ℕ) (k : ℕ) → (due ws k ≡ 0 → (get_or ws k 0 ≤ 255) × (k + 1 + get_or ws k 0 ≤ length ws)) → template_refusal ws k ≡ None
size_from ws k h = elim (cases_Bool (eqb (due ws k) 0)) [
  | inl e ↦ (let p = h (grind (arith, nat_tests)) in grind (arith, nat_tests))
  | inr e ↦ cond-false _ _ _ e
]

entry_parts : (ws : List ℕ) (k : ℕ) → entry_refusal ws k ≡ None → 1 ≤ due ws k → result_err (entry_said ws k) ≡ None
entry_parts ws k e d = let f : eqb (due ws k) 0 ≡ false = grind (arith, nat_tests) in sym (cond-false _ _ _ f) ∙ e

entry_from : (ws : List ℕ) (k : ℕ) → (1 ≤ due ws k → result_err (entry_said ws k) ≡ None) → entry_refusal ws k ≡ None
entry_from ws k h = elim (cases_Bool (eqb (due ws k) 0)) [
  | inl e ↦ grind (arith, nat_tests)
  | inr e ↦ cond-false _ _ _ e ∙ h (grind (arith, nat_tests))
]

none_from : {A : Type 0} (o : Option A) → is_some o ≡ false → o ≡ None
none_from None e = refl
none_from (Some x) e = let z : ◌≡◌ {A = ℕ} 0 1 = cc in absurd (omega arith)

pub sound : (ws : List ℕ) → Accepted ws → Sound ws
sound ws a =
    let e = none_from (table_refusal ws) a in
    let p = cond_none (bad_start ws) TableStart _ e in
    let s = start_parts ws p.0 in
    let q = or_none (lowest (template_refusal ws) (length ws)) (lowest (entry_refusal ws) (length ws)) p.1 in
    record {
      some = s.0;
      short = s.1;
      head = s.2;
      sizes = λ k h d. size_parts ws k (lowest_none (template_refusal ws) (length ws) q.0 k h) d;
      entries = λ k h d. entry_parts ws k (lowest_none (entry_refusal ws) (length ws) q.1 k h) d;
    }

not_refused : (ws : List ℕ) → Sound ws → table_refusal ws ≡ None
not_refused ws s =
    cond-false _ _ _ (start_from ws s.some s.short s.head)
    ∙ ap (λ o. option_or o (lowest (entry_refusal ws) (length ws)))
    (lowest_from (template_refusal ws) (length ws) (λ k h. size_from ws k (s.sizes k h)))
    ∙ lowest_from (entry_refusal ws) (length ws) (λ k h. entry_from ws k (s.entries k h))

pub accepted : (ws : List ℕ) → Sound ws → Accepted ws
accepted ws s = ap is_some (not_refused ws s)

-- what an entry says where no refusal is due
pub said_pointer : (ws : List ℕ) (k : ℕ) → result_err (entry_said ws k) ≡ None → get_or ws k 0 ≡ 65536 → (2 ≤ due ws k) × (get_or ws (k + 1) 0 ≡ 65537)
said_pointer ws k e w = (grind (arith, nat_tests), grind (arith, nat_tests))

pub said_code : (ws : List ℕ) (k : ℕ) → result_err (entry_said ws k) ≡ None → (get_or ws k 0 ≡ 65536 → ⊥) → (get_or ws k 0 ≡ 65537 → ⊥) → (begins ws (get_or ws k 0) ≡ true) × (1 ≤ get_or ws (get_or ws k 0) 0)
said_code ws k e p z = (grind (arith, nat_tests), grind (arith, nat_tests))

pub fine_z : (ws : List ℕ) (k : ℕ) → get_or ws k 0 ≡ 65537 → result_err (entry_said ws k) ≡ None
fine_z ws k w = grind (arith, nat_tests)

pub fine_pointer : (ws : List ℕ) (k : ℕ) → get_or ws k 0 ≡ 65536 → 2 ≤ due ws k → get_or ws (k + 1) 0 ≡ 65537 → result_err (entry_said ws k) ≡ None
fine_pointer ws k w d z = grind (arith, nat_tests)

pub fine_code : (ws : List ℕ) (k : ℕ) → 1 ≤ get_or ws k 0 → get_or ws k 0 ≤ 32767 → begins ws (get_or ws k 0) ≡ true → 1 ≤ get_or ws (get_or ws k 0) 0 → result_err (entry_said ws k) ≡ None
fine_code ws k l h b n = grind (arith, nat_tests)
