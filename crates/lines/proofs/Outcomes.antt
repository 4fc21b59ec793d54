-- What is known of a result by its `ok`.
use Rattle.std.proofs.Common.{◌≡◌, Some, Ok, Err, IsOk, Result, refl, sym, subst, MatchResult}
use Rattle.std.specs.Result.{result_ok}
use Rattle.std.proofs.lemmas.Option.{none-some, same_Some}

pub is_ok_some : {T E : Type 0} (r : Result T E) (x : T) → Some x ≡ result_ok r → IsOk r
is_ok_some (Ok y) x e = refl
is_ok_some (Err y) x e = absurd (none-some x (sym e))

pub some_ok : {T E : Type 0} (P : T → Type 0) (Q : E → Type 0) (r : Result T E) (x : T) → Some x ≡ result_ok r → MatchResult r P Q → P x
some_ok P Q (Ok y) x e h = subst P (sym (same_Some x y e)) h
some_ok P Q (Err y) x e h = absurd (none-some x (sym e))
