-- A scan shown to one inspector, told of another that follows it.
use Rattle.std.proofs.Common.{◌≡◌, ℕ, List, Some, None, Option}
use Rattle.layouts.specs.Types.{Types}
use Rattle.scan.specs.Visits.{Visit}
use Rattle.scan.specs.Scan.{Run, Task, marked, opened, visited, refused, plain, misfit, child, stopped}
use Rattle.scan.specs.Endings.{Ending}

module _ (t : Types) (w : List ℕ) {S X : Type 0} (f : S → Visit → Option S) (g : X → Visit → Option X) (Follows : S → X → Type 0)
    (takes : (s s' : S) (x : X) (v : Visit) → Follows s x → f s v ≡ Some s' → (x' : X) × (g x v ≡ Some x') × Follows s' x')
    (refuses : (s : S) (x : X) (v : Visit) → Follows s x → f s v ≡ None → g x v ≡ None) where
  pub followed : {k : Task} {m m' : List ℕ} {s s' : S} {vs : List Visit} {e : Ending} → Run t w f k m s vs m' s' e → (x : X) → Follows s x → (x' : X) × Run t w g k m x vs m' x' e × Follows s' x'
  followed (marked one) x h = (x, marked one, h)
  followed (opened none r) x h = let p = followed r x h in (p.0, opened none p.1, p.2)
  followed (visited past took) x h = let p = takes _ _ x _ h took in (p.0, visited past p.1, p.2)
  followed (refused past none) x h = (x, refused past (refuses _ x _ h none), h)
  followed (plain le is r) x h = let p = followed r x h in (p.0, plain le is p.1, p.2)
  followed (misfit le is) x h = (x, misfit le is, h)
  followed (child le is r q) x h = let p = followed r x h in let o = followed q p.0 p.2 in (o.0, child le is p.1 o.1, o.2)
  followed (stopped le is r stop) x h = let p = followed r x h in (p.0, stopped le is p.1 stop, p.2)
