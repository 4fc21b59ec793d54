-- The places of a mask, gone through with a test.
use Rattle.std.proofs.Common.{◌≡◌, ℕ, Bool, ◌&&◌, eqb, List, [], ◌∷◌, refl}
use Rattle.std.specs.List.{list_any}
use Rattle.layouts.specs.declared.place.Place.{Place}
use Rattle.layouts.specs.Mask.{among}

pub any_among : (test : Place → Bool) (c i : ℕ) → ((p : Place) → test p ≡ (eqb p.code c && eqb p.word i)) → (ps : List Place) → list_any test ps ≡ among ps c i
any_among test c i e [] = refl
any_among test c i e (p ∷ ps) = rw (e p, any_among test c i e ps)
