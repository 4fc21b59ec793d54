use Rattle.std.proofs.Common.{◌≡◌, ◌+◌, ◌-◌, ◌++◌, length, take, drop, ap, ◌∙◌, arith}
use Rattle.std.proofs.lemmas.List.{drop-drop}
use Rattle.inspectors.specs.Lines.{appended, with_now}
use Rattle.inspectors.proofs.lister.Lister.put.Goals as goal

pub returns : goal.returns
unfolding appended
returns c =
    let s = c.args.self.now in
    let bs = c.args.bytes.now in
    let back : s.used + length bs - s.used ≡ length bs = omega arith in
    let tail = ap (λ k. drop k (drop s.used s.out.now)) back ∙ drop-drop (length bs) s.used s.out.now in
    let is = c.copy_from_slice.ensures.after in
    λ i. record { out = with_now s.out (take s.used s.out.now ++ (is i ++ tail i)); used = s.used + length bs }
