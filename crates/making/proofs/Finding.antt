-- What the finding of a cell answers, from what its steps answer.
use Rattle.std.proofs.Common.{◌≡◌, ℕ, ◌≤◌, List, length, Some, None, Ok, Err, Option, Result, false, is_some, refl, sym, ap, ◌∙◌, subst, arith}
use Rattle.std.specs.Option.{ok_or}
use Rattle.std.proofs.lemmas.Bool.Decides.{nat_tests}
use Rattle.refusals.specs.declared.refusal.Refusal.{Refusal}
use Rattle.refusals.specs.declared.refusal.Refusal.TheVariants.{Broken, NoRun}
use Rattle.layouts.specs.Types.{Types}
use Rattle.calls.specs.declared.record.HoldRecord.{HoldRecord}
use Rattle.free_list.specs.Free.{NoFit, proper, broken}
use Rattle.free_list.specs.Taken.{Heap, Given, Taken}
use Rattle.free_list.specs.Faults.{refusal_of}
use Rattle.free_list.specs.declared.fault.Fault.{Fault}
use Rattle.free_list.specs.declared.fault.Fault.TheVariants.{Length, Size, Broken as BrokenLink}
use Rattle.calls.specs.Rows.{memory_due}
use Rattle.sweeping.proofs.Rooms.{never_broken}
use Rattle.making.specs.Makes.{Collected, swept, Found, broken_link, broken_content, collected, no_run}

-- memory that a collection may be made in
pub is_large : (due : Option Refusal) → is_some due ≡ false → due ≡ None
is_large None e = refl
is_large (Some f) e = absurd (cc e)

-- is a heap
pub heap_of : (w : List ℕ) (M P : ℕ) → is_some (memory_due (length w) M P) ≡ false → Heap w
heap_of w M P large = record { some = grind (arith, nat_tests); long = grind (arith, nat_tests) }

-- where the words are a heap and the cell has words, only a broken link is in the way
pub at_fault : (w : List ℕ) (n : ℕ) (w' : List ℕ) (f : Fault) → Heap w → 1 ≤ n → Taken w n w' (Err f)
    → (q : ℕ) × (refusal_of f ≡ Broken q) × NoFit w n (broken q) × (w' ≡ w)
at_fault w n w' Length heap some taken = absurd (taken.0 heap)
at_fault w n w' Size heap some taken = absurd (omega (arith, taken.1))
at_fault w n w' (BrokenLink q) heap some taken = (q, refl, taken.2, taken.3)

pub given : (w : List ℕ) (n : ℕ) (w' : List ℕ) (o : Option ℕ) (a : ℕ) → o ≡ Some a → Taken w n w' (Ok o) → Given w n w' a
given w n w' o a e taken = subst (λ (x : Option ℕ). Taken w n w' (Ok x)) e taken

pub none : (w : List ℕ) (n : ℕ) (w' : List ℕ) (o : Option ℕ) → o ≡ None → Taken w n w' (Ok o) → NoFit w n proper × (w' ≡ w)
none w n w' o e taken =
    let full = subst (λ (x : Option ℕ). Taken w n w' (Ok x)) e taken in (full.2, full.3)

-- after a collection no link is broken
sound : (t : Types) (w : List ℕ) (rs : List HoldRecord) (n : ℕ) (u : List ℕ) (q : ℕ) → Collected t w rs u (Ok tt) → NoFit u n (broken q) → ⊥
sound t w rs n u q (swept marks sweep) fit = never_broken sweep fit

module _ (t : Types) (w : List ℕ) (rs : List HoldRecord) (n : ℕ) where
  pub link_broken : (w' : List ℕ) (f : Refusal) (r : Result ℕ Refusal) → r ≡ Err f → (q : ℕ) × (f ≡ Broken q) × NoFit w n (broken q) × (w' ≡ w) → Found t w rs n w' r
  link_broken w' f r is one =
      let to : Err (Broken one.0) ≡ r = sym (is ∙ ap Err one.1) in
      let same : w ≡ w' = sym one.3 in
      subst (λ x. Found t w rs n x r) same (subst (λ (x : Result ℕ Refusal). Found t w rs n w x) to (broken_link one.2))

  module _ (w₁ : List ℕ) (none : NoFit w n proper × (w₁ ≡ w)) where
    from_start : (u : List ℕ) (r : Result (Unit {0}) Refusal) → Collected t w₁ rs u r → Collected t w rs u r
    from_start u r one = subst (λ x. Collected t x rs u r) none.1 one

    pub stopped_there : (u : List ℕ) (f : Refusal) (r : Result ℕ Refusal) → r ≡ Err f → Collected t w₁ rs u (Err f) → Found t w rs n u r
    stopped_there u f r is one = subst (λ (x : Result ℕ Refusal). Found t w rs n u x) (sym is) (broken_content none.0 (from_start u (Err f) one))

    pub never : (u w' : List ℕ) (f : Refusal) → Collected t w₁ rs u (Ok tt) → (q : ℕ) × (f ≡ Broken q) × NoFit u n (broken q) × (w' ≡ u) → ⊥
    never u w' f one two = sound t w rs n u two.0 (from_start u (Ok tt) one) two.2

    pub ending : (u w' : List ℕ) (o : Option ℕ) → Collected t w₁ rs u (Ok tt) → Taken u n w' (Ok o) → Found t w rs n w' (ok_or o (NoRun n))
    ending u w' (Some a) one two = collected none.0 (from_start u (Ok tt) one) two
    ending u w' None one two = subst (λ x. Found t w rs n x (Err (NoRun n))) (sym two.3) (no_run none.0 (from_start u (Ok tt) one) two.2)
