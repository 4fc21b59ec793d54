-- The lines of visits, one after the other, in a buffer.
use Rattle.std.proofs.Common.{◌≡◌, ℕ, ◌+◌, ◌≤◌, Bool, true, false, cond, leb, List, [], ◌∷◌, ◌++◌, length, drop, Some, None, sym, refl, ap, ◌∙◌, subst, zero-add, arith, length-append, MutBor, leb-false, leb-true}
use borrow.Author.Tests.{lt-leb}
use Rattle.scan.specs.Visits.{Visit, holds, then_holds}
use Rattle.inspectors.specs.declared.lister.Lister.{Lister}
use Rattle.inspectors.specs.Lines.{Room, appended, with_now}
use Rattle.inspectors.specs.Listings.{line_of, lister_step, unwritten, listing, Holds, Writes}
use Rattle.inspectors.proofs.Appends.{appended_none, appended_twice, length_appended, used_appended}
use Rattle.inspectors.proofs.Made.{refused_none, none_refused}

abbrev Has : Lister → List ℕ → Lister → Type 0
Has s text t = Room s text × (t ≡ appended s text)

-- one line, and those after it
module _ (s t : Lister) (v : Visit) (vs : List Visit)
    (rest : (u : Lister) → u.used ≤ length u.out.now → holds lister_step u vs ≡ Some t → Has u (listing vs) t) where
  after : (b : Bool) → leb (s.used + length (line_of v)) (length s.out.now) ≡ b → then_holds (cond b (Some (appended s (line_of v))) None) (λ w. holds lister_step w vs) ≡ Some t → Has s (listing (v ∷ vs)) t
  after true e h =
      let fits : Room s (line_of v) = leb-true _ _ e in
      let long = length_appended s (line_of v) fits in
      let more = used_appended s (line_of v) fits in
      let r = rest (appended s (line_of v)) (omega arith) h in
      (omega (arith, r.0, length-append (line_of v) (listing vs)), r.1 ∙ appended_twice s (line_of v) fits (listing vs))
  after false e h = let z : ◌≡◌ {A = ℕ} 0 1 = cc in absurd (omega arith)

lists : (vs : List Visit) (s t : Lister) → s.used ≤ length s.out.now → holds lister_step s vs ≡ Some t → Has s (listing vs) t
lists [] s t fits h = let e : s ≡ t = cc in (omega arith, sym e ∙ sym (appended_none s fits))
lists (v ∷ vs) s t fits h = after s t v vs (λ u k g. lists vs u t k g) _ refl h

from_start : (buffer : MutBor (List ℕ)) (text : List ℕ) → Holds buffer text (appended (unwritten buffer) text)
unfolding appended
from_start buffer text = (ap (λ k. with_now buffer (text ++ drop k buffer.now)) (zero-add (length text)), zero-add (length text))

pub writes : (buffer : MutBor (List ℕ)) → Writes buffer (unwritten buffer)
writes buffer vs t h =
    let r = lists vs (unwritten buffer) t (omega arith) h in
    let is : Holds buffer (listing vs) t = subst (Holds buffer (listing vs)) (sym r.1) (from_start buffer (listing vs)) in
    let long : length t.out.now ≡ length buffer.now = ap (λ (x : Lister). length x.out.now) r.1 ∙ length_appended (unwritten buffer) (listing vs) r.0 in
    (is, λ v. (λ e. let f = leb-false _ _ (refused_none _ _ e) in omega (arith, f, is.1), λ f. none_refused _ _ (lt-leb _ _ (omega (arith, is.1)))))
