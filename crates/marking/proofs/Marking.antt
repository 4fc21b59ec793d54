-- What the call answers, from what its scans answer.
use Rattle.std.proofs.Common.{◌≡◌, ℕ, List, length, replicate, None, Ok, Err, Result, sym, refl, ap, ◌∙◌, subst, arith}
use lib.ListN.{length-replicate}
use Rattle.refusals.specs.declared.refusal.Refusal.{Refusal}
use Rattle.layouts.specs.Types.{Types}
use Rattle.calls.specs.declared.record.HoldRecord.{HoldRecord}
use Rattle.calls.specs.Rows.{memory_due}
use Rattle.scan.specs.Scan.{Stops}
use Rattle.scan.specs.Endings.{Ending}
use Rattle.marking.specs.Roots.{Roots, roots}
use Rattle.marking.specs.Marking.{kept, Scans, Marks}
use Rattle.marking.proofs.Runs.{marks_long}
use Rattle.marking.proofs.Laws.{mark_laws}
use Rattle.marking.proofs.Steps.{told_done, told_stops}

kept_stopped : (L : ℕ) (m : List ℕ) (e : Ending) → Stops e → kept L m e ≡ replicate L 0
kept_stopped L m (Ok x) stop = absurd stop
kept_stopped L m (Err e) stop = refl

module _ (t : Types) (w : List ℕ) (rs rs' : List HoldRecord) (P : ℕ) (m m₀ m₁ m' : List ℕ) (due : None ≡ memory_due (length w) (length m) P) (same : rs' ≡ rs) where
  marking : (r : Result ℕ Refusal) (one : Scans t w (roots rs') m₀ m₁ r) → m₀ ≡ replicate (length w) 0 → m' ≡ kept (length w) m₁ one.ending → Marks t w rs P m m' r
  marking r one zero is =
      let run : Roots t w (roots rs) (replicate (length w) 0) one.visits m₁ one.ending = subst (λ x. Roots t w (roots rs) x one.visits m₁ one.ending) zero (subst (λ (x : List HoldRecord). Roots t w (roots x) m₀ one.visits m₁ one.ending) same one.run) in
      record {
        small = λ f few. let z : ◌≡◌ {A = ℕ} 0 1 = cc in absurd (omega arith);
        marked = λ none. record {
          visits = one.visits;
          left = m₁;
          ending = one.ending;
          run = run;
          answer = one.answer;
          kept_marks = is;
          laws = mark_laws t w (roots rs) one.visits m₁ one.ending run;
        };
      }

  pub marked_all : (n : ℕ) → Scans t w (roots rs') m₀ m₁ (Ok n) → m₀ ≡ replicate (length w) 0 → m' ≡ m₁ → Marks t w rs P m m' (Ok n)
  marked_all n one zero is =
      let end = told_done t w one.ending _ n one.answer in
      marking (Ok n) one zero (is ∙ sym (ap (kept (length w) m₁) end.0))

  pub refused_all : (r r' : Result ℕ Refusal) (f : Refusal) → r ≡ Err f → r' ≡ Err f → Scans t w (roots rs') m₀ m₁ r → m₀ ≡ replicate (length w) 0 → m' ≡ replicate (length m₁) 0 → Marks t w rs P m m' r'
  refused_all r r' f is is' one zero zeroed =
      let stop = (told_stops t w one.ending (length one.visits) 0 f (sym is ∙ one.answer)).0 in
      let long : length m₁ ≡ length w = marks_long t w one.run ∙ ap length zero ∙ length-replicate (length w) 0 in
      let back : r ≡ r' = is ∙ sym is' in
      subst (λ (x : Result ℕ Refusal). Marks t w rs P m m' x) back (marking r one zero (zeroed ∙ ap (λ n. replicate n 0) long ∙ sym (kept_stopped (length w) m₁ one.ending stop)))
