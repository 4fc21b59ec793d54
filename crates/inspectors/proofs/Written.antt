-- A lister is the text that it has written.
use Rattle.std.proofs.Common.{◌≡◌, ℕ, ◌+◌, Bool, true, false, cond, leb, List, ◌++◌, length, Some, None, sym, refl, ap, ◌∙◌, subst, arith, length-take-le, leb-true}
use Rattle.layouts.specs.Types.{Types}
use Rattle.scan.specs.Visits.{Visit}
use Rattle.scan.specs.Scan.{Run, Task}
use Rattle.scan.specs.Endings.{Ending}
use Rattle.inspectors.specs.declared.lister.Lister.{Lister}
use Rattle.inspectors.specs.Lines.{Room, appended}
use Rattle.inspectors.specs.Listings.{line_of, lister_step, text_step, written, Spans}
use Rattle.inspectors.proofs.Appends.{front_appended, length_appended, used_appended}
use Rattle.inspectors.proofs.Followed.{followed}

abbrev pub Follows : ℕ → Lister → List ℕ → Type 0
Follows room s text = Spans room s × (text ≡ written s)

module _ (room : ℕ) (s : Lister) (text : List ℕ) (v : Visit) (h : Follows room s text) where
  same_test : leb (s.used + length (line_of v)) (length s.out.now) ≡ leb (length text + length (line_of v)) room
  same_test =
      let long : length text ≡ s.used = ap length h.1 ∙ length-take-le s.used s.out.now h.0.0 in
      ap (λ n. leb (n + length (line_of v)) (length s.out.now)) (sym long) ∙ ap (leb (length text + length (line_of v))) h.0.1

  by_test : (b : Bool) (s' : Lister) → leb (s.used + length (line_of v)) (length s.out.now) ≡ b → cond b (Some (appended s (line_of v))) None ≡ Some s' → (text' : List ℕ) × (cond b (Some (text ++ line_of v)) None ≡ Some text') × Follows room s' text'
  by_test true s' e took =
      let is : appended s (line_of v) ≡ s' = cc in
      let fits : Room s (line_of v) = leb-true _ _ e in
      let long = length_appended s (line_of v) fits in
      let more = used_appended s (line_of v) fits in
      (text ++ line_of v, refl, subst (λ u. Follows room u (text ++ line_of v)) is ((omega arith, long ∙ h.0.1), ap (λ x. x ++ line_of v) h.1 ∙ sym (front_appended s (line_of v) fits)))
  by_test false s' e took = absurd (let z : ◌≡◌ {A = ℕ} 0 1 = cc in omega arith)

  pub takes : (s' : Lister) → lister_step s v ≡ Some s' → (text' : List ℕ) × (text_step room text v ≡ Some text') × Follows room s' text'
  takes s' took =
      let p = by_test _ s' refl took in
      (p.0, ap (λ b. cond b (Some (text ++ line_of v)) None) (sym same_test) ∙ p.1, p.2)

  none_either : (b : Bool) → cond b (Some (appended s (line_of v))) None ≡ None → cond b (Some (text ++ line_of v)) None ≡ None
  none_either true e = absurd (let z : ◌≡◌ {A = ℕ} 0 1 = cc in omega arith)
  none_either false e = refl

  pub refuses : lister_step s v ≡ None → text_step room text v ≡ None
  refuses e = ap (λ b. cond b (Some (text ++ line_of v)) None) (sym same_test) ∙ none_either _ e

-- the scan that a lister is shown, told of its text
pub run_written : (room : ℕ) (t : Types) (w : List ℕ) {k : Task} {m m' : List ℕ} (s s' : Lister) {vs : List Visit} {e : Ending} → Spans room s → Run t w lister_step k m s vs m' s' e → Run t w (text_step room) k m (written s) vs m' (written s') e
run_written room t w {k} {m} {m'} s s' {vs} {e} spans r =
    let p = followed t w lister_step (text_step room) (Follows room) (λ a b x v h. takes room a x v h b) (λ a x v h. refuses room a x v h) r (written s) (spans, refl) in
    subst (λ x. Run t w (text_step room) k m (written s) vs m' x e) p.2.1 p.1
