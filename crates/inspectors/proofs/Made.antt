-- A visit that is made or refused by a test.
use Rattle.std.proofs.Common.{◌≡◌, Bool, true, false, cond, Some, None, Ok, Result, IsErr, sym, refl, ap, subst}
use Rattle.scan.specs.Visits.{Visited}
use Rattle.scan.specs.declared.inspector.Full.{Full}

pub made : {S : Type 0} (b : Bool) (s t u : S) → b ≡ true → u ≡ t → Visited (cond b (Some t) None) s u (Ok tt)
made b s t u e f = subst (λ x. Visited (cond x (Some t) None) s u (Ok tt)) (sym e) (refl, f)

pub skipped : {S : Type 0} (b : Bool) (s t : S) (r : Result (Unit {0}) Full) → IsErr r → b ≡ false → Visited (cond b (Some t) None) s s r
skipped b s t r err e = subst (λ x. Visited (cond x (Some t) None) s s r) (sym e) (err, refl)

pub refused_none : {S : Type 0} (b : Bool) (t : S) → cond b (Some t) None ≡ None → b ≡ false
refused_none true t e = let z : ◌≡◌ {A = Bool} true false = cc in cc
refused_none false t e = refl

pub none_refused : {S : Type 0} (b : Bool) (t : S) → b ≡ false → cond b (Some t) None ≡ None
none_refused b t e = ap (λ x. cond x (Some t) None) e
