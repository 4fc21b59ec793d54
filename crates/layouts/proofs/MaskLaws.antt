-- A lawful source with some words read as Z is lawful.
use Rattle.std.proofs.Common.{◌≡◌, ℕ, ◌+◌, Bool, true, false, cond, refl, arith}
use Rattle.layouts.specs.declared.entry.Entry.{Entry}
use Rattle.layouts.specs.declared.entry.Entry.TheVariants.{Z, P, Code}
use Rattle.layouts.specs.Mask.{among}
use Rattle.layouts.specs.Statements.{MaskLawful}

-- what is not Z under a mask is so without it, and what is Z without it is Z under it
under : (b : Bool) (e f : Entry) → (f ≡ Z → ⊥) → cond b Z e ≡ f → e ≡ f
under true e f n h = absurd (n (let k : f ≡ Z = cc in k))
under false e f n h = h

still : (b : Bool) (e : Entry) → e ≡ Z → cond b Z e ≡ Z
still true e h = refl
still false e h = h

p_not_z : P ≡ Z → ⊥
p_not_z h = let z : ◌≡◌ {A = ℕ} 0 1 = cc in omega arith

code_not_z : (k : ℕ) → Code k ≡ Z → ⊥
code_not_z k h = let z : ◌≡◌ {A = ℕ} 0 1 = cc in omega arith

pub masked_lawful : MaskLawful
masked_lawful ps t laws = record {
  sized = laws.sized;
  paired = λ c i e. let p = laws.paired c i (under (among ps c i) _ P p_not_z e) in (p.0, still (among ps c (i + 1)) _ p.1);
  named = λ c i k e. laws.named c i k (under (among ps c i) _ (Code k) (code_not_z k) e);
  outside = λ c i f. still (among ps c i) _ (laws.outside c i f);
}
