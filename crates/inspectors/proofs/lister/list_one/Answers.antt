use Rattle.std.proofs.Common.{◌≡◌, Ok, refl, ap, rules, arith}
use Rattle.inspectors.specs.declared.lister.Lister.{Lister}
use Rattle.inspectors.proofs.Appends.{visited_name, visited_ok}
use Rattle.inspectors.proofs.lister.list_one.Goals as goal

pub returns : goal.returns
returns c =
    let s = c.new-lister.result in
    let t = c.visit.new.self in
    let begun = c.new-lister.ensures.value in
    let ok : c.visit.result ≡ Ok tt = grind arith in
    let named = visited_name s t _ _ _ c.visit.ensures in
    let lists = visited_ok s t _ _ tt refl (ap (λ (x : Lister). x.used) begun) (rw ok at c.visit.ensures) in
    search rules
