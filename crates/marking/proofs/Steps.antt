-- One content more, and the end of a scan of contents.
use Rattle.std.proofs.Common.{◌≡◌, ℕ, ◌+◌, ◌<◌, ◌≤◌, Bool, true, false, cond, List, [], ◌∷◌, ◌++◌, length, take, drop, Some, None, Ok, Err, Result, sym, refl, ap, ◌∙◌, subst, arith, length-append}
use Rattle.std.proofs.lemmas.List.{append_assoc, append-nil, map-append, map_more, take-append-drop}
use Rattle.std.proofs.lemmas.Bool.Decides.{nat_tests}
use Rattle.refusals.specs.declared.refusal.Refusal.{Refusal}
use Rattle.layouts.specs.Types.{Types}
use Rattle.cells.specs.declared.content.Content.{Content}
use Rattle.cells.specs.declared.content.Content.TheVariants.{Nothing, Cell, Immediate}
use Rattle.cells.specs.Words.{fits}
use Rattle.calls.specs.declared.record.HoldRecord.{HoldRecord}
use Rattle.calls.specs.Holds.{unheld, at, root_of}
use Rattle.scan.specs.Visits.{Visit}
use Rattle.scan.specs.Scan.{Run, pointer, Stops}
use Rattle.scan.specs.Answers.{unscanned, Traced}
use Rattle.scan.specs.declared.inspector.Nobody.{Nobody}
use Rattle.scan.specs.Endings.{Ending, Done, refusal_of, unmade}
use Rattle.scan.specs.declared.scanned.Stop.{Stop}
use Rattle.scan.specs.declared.scanned.Stop.TheVariants.{Broken}
use Rattle.scan.specs.declared.scanned.Scanned.{Scanned}
use Rattle.scan.specs.declared.scanned.Unscanned.{Unscanned}
use Rattle.scan.specs.declared.scanned.Unscanned.TheVariants.{Memory, Root}
use Rattle.scan.proofs.Counts.{unmarked_all}
use Rattle.marking.specs.Roots.{Roots, roots, takes_all, finished, nothing, immediate, unfit, scanned, stopped}
use Rattle.marking.specs.Marking.{told, Scans}
use Rattle.marking.proofs.Runs.{marks_long, marks_room}

fits_made : (b f : Bool) → cond b (Some Memory) (cond f None (Some Root)) ≡ None → f ≡ true
fits_made true f e = let z : ◌≡◌ {A = ℕ} 0 1 = cc in absurd (omega arith)
fits_made false true e = refl
fits_made false false e = let z : ◌≡◌ {A = ℕ} 0 1 = cc in absurd (omega arith)

fits_refused : (b f : Bool) → cond b (Some Memory) (cond f None (Some Root)) ≡ Some Root → f ≡ false
fits_refused true f e = let z : ◌≡◌ {A = ℕ} 0 1 = cc in absurd (omega arith)
fits_refused false true e = let z : ◌≡◌ {A = ℕ} 0 1 = cc in absurd (omega arith)
fits_refused false false e = refl

module _ (t : Types) (w : List ℕ) where
  pub no_cell : (k : Content) (m : List ℕ) → ((c a : ℕ) → k ≡ Cell c a → ⊥) → Scans t w (k ∷ []) m m (Ok 0)
  no_cell Nothing m none = record { visits = []; ending = Done; run = nothing finished; answer = refl }
  no_cell (Cell c a) m none = absurd (none c a refl)
  no_cell (Immediate c x) m none = record { visits = []; ending = Done; run = immediate finished; answer = refl }

  one_root : (c a : ℕ) (m : List ℕ) (s : Nobody) (vs : List Visit) (m' : List ℕ) (s' : Nobody) (e : Ending) → fits t (length w) c a ≡ true → Run t w takes_all (pointer c a) m s vs m' s' e → Roots t w (Cell c a ∷ []) m vs m' e
  one_root c a m s vs m' s' (Ok x) fit r = subst (λ us. Roots t w (Cell c a ∷ []) m us m' Done) (append-nil vs) (scanned fit r finished)
  one_root c a m s vs m' s' (Err e) fit r = stopped fit r tt

  pub root_scanned : (k : Content) (c a P : ℕ) (m : List ℕ) (s : Nobody) (m' : List ℕ) (s' : Nobody) (x : Scanned) (r : Result ℕ Refusal) → k ≡ Cell c a → unscanned t (length w) (length m) P c a ≡ None → Traced t w takes_all c a m s m' s' x → r ≡ told x.ending x.visits → Scans t w (k ∷ []) m m' r
  root_scanned k c a P m s m' s' x r is none made e =
      subst (λ (y : Content). Scans t w (y ∷ []) m m' r) (sym is)
      (record {
        visits = made.visits_made;
        ending = x.ending;
        run = one_root c a m s made.visits_made m' s' x.ending (fits_made _ _ none) made.run;
        answer = e ∙ ap (told x.ending) made.counted;
      })

  pub root_done : (k : Content) (c a P : ℕ) (m : List ℕ) (s : Nobody) (m' : List ℕ) (s' : Nobody) (x : Scanned) (u : Unit {0}) → k ≡ Cell c a → unscanned t (length w) (length m) P c a ≡ None → Traced t w takes_all c a m s m' s' x → x.ending ≡ Ok u → Scans t w (k ∷ []) m m' (Ok x.visits)
  root_done k c a P m s m' s' x u is none made end = root_scanned k c a P m s m' s' x (Ok x.visits) is none made (cc)

  pub root_stopped : (k : Content) (c a P : ℕ) (m : List ℕ) (s : Nobody) (m' : List ℕ) (s' : Nobody) (x : Scanned) (stop : Stop) (r : Result ℕ Refusal) → k ≡ Cell c a → unscanned t (length w) (length m) P c a ≡ None → Traced t w takes_all c a m s m' s' x → x.ending ≡ Err stop → r ≡ Err (refusal_of stop) → Scans t w (k ∷ []) m m' r
  root_stopped k c a P m s m' s' x stop r is none made end e = root_scanned k c a P m s m' s' x r is none made (cc)

  -- with marks and pending places enough, only a pointer that does not fit is refused
  pub root_refused : (k : Content) (c a P : ℕ) (m m' : List ℕ) (u : Unscanned) (r : Result ℕ Refusal) → k ≡ Cell c a → length m ≡ length w → length w ≤ P → unscanned t (length w) (length m) P c a ≡ Some u → m' ≡ m → r ≡ Err (unmade u) → Scans t w (k ∷ []) m m' r
  root_refused k c a P m m' Memory r is len le none same e = grind (arith, nat_tests)
  root_refused k c a P m m' Root r is len le none same e =
      subst (λ (y : Content). Scans t w (y ∷ []) m m' r) (sym is)
      (subst (λ x. Scans t w (Cell c a ∷ []) m x r) (sym same) (record { visits = []; ending = Err (Broken 0); run = unfit (fits_refused _ _ none); answer = e }))

  -- contents after contents
  pub then_roots : {ks js : List Content} {m m₁ m₂ : List ℕ} {vs us : List Visit} {e₁ e : Ending} → Roots t w ks m vs m₁ e₁ → e₁ ≡ Done → Roots t w js m₁ us m₂ e → Roots t w (ks ++ js) m (vs ++ us) m₂ e
  then_roots finished done q = q
  then_roots (nothing r) done q = nothing (then_roots r done q)
  then_roots (immediate r) done q = immediate (then_roots r done q)
  then_roots (unfit out) done q = let z : ◌≡◌ {A = ℕ} 0 1 = cc in absurd (omega arith)
  then_roots {js = js} {m₂ = m₂} {us = us} {e = e} (scanned {c = c} {a = a} {ks = ks} {m = m} {vs₁ = vs₁} {vs₂ = vs₂} fit r r') done q =
      subst (λ xs. Roots t w (Cell c a ∷ (ks ++ js)) m xs m₂ e) (sym (append_assoc vs₁ vs₂ us)) (scanned fit r (then_roots r' done q))
  then_roots (stopped fit r stop) done q = absurd (subst Stops done stop)

  -- what ends it all ends it before any further content
  pub cut_short : {ks : List Content} (js : List Content) {m m' : List ℕ} {vs : List Visit} {e : Ending} → Roots t w ks m vs m' e → Stops e → Roots t w (ks ++ js) m vs m' e
  cut_short js finished stop = absurd stop
  cut_short js (nothing r) stop = nothing (cut_short js r stop)
  cut_short js (immediate r) stop = immediate (cut_short js r stop)
  cut_short js (unfit out) stop = unfit out
  cut_short js (scanned fit r q) stop = scanned fit r (cut_short js q stop)
  cut_short js (stopped fit r stop) still = stopped fit r stop

  pub told_done : (e : Ending) (n x : ℕ) → Ok x ≡ told e n → (e ≡ Done) × (n ≡ x)
  told_done (Ok u) n x is = (refl, (cc))
  told_done (Err e) n x is = let z : ◌≡◌ {A = ℕ} 0 1 = cc in absurd (omega arith)

  -- a refusal stops, whatever was counted
  pub told_stops : (e : Ending) (n k : ℕ) (f : Refusal) → Err f ≡ told e n → Stops e × (Err f ≡ told e k)
  told_stops (Ok u) n k f is = let z : ◌≡◌ {A = ℕ} 0 1 = cc in absurd (omega arith)
  told_stops (Err e) n k f is = (tt, is)

  -- the first i holds of rs turn m into m₁ by n visits
  pub record First (rs : List HoldRecord) (i : ℕ) (m m₁ : List ℕ) (n : ℕ) : Type 0 where
    pub visits : List Visit
    pub counted : length visits ≡ n
    pub run : Roots t w (roots (take i rs)) m visits m₁ Done

  pub at_first : (rs : List HoldRecord) (m : List ℕ) → First rs 0 m m 0
  at_first rs m = record { visits = []; counted = refl; run = finished }

  -- the visits of the first holds and of one content more are no more than the words
  pub few : (rs : List HoldRecord) (i : ℕ) (k : Content) (m m₁ m₂ : List ℕ) (n x : ℕ) → length m ≡ length w → First rs i m m₁ n → Scans t w (k ∷ []) m₁ m₂ (Ok x) → n + x ≤ length w
  few rs i k m m₁ m₂ n x len before one =
      let end = told_done one.ending (length one.visits) x one.answer in
      let first = marks_room t w before.run len in
      let second = marks_room t w one.run (marks_long t w before.run ∙ len) in
      let count = before.counted in
      let same = end.1 in
      omega (arith, unmarked_all m)

  pub one_more : (rs : List HoldRecord) (i : ℕ) (m m₁ m₂ : List ℕ) (n x : ℕ) → i < length rs → First rs i m m₁ n → Scans t w (root_of (at rs i) ∷ []) m₁ m₂ (Ok x) → First rs (i + 1) m m₂ (n + x)
  one_more rs i m m₁ m₂ n x lt before one =
      let end = told_done one.ending (length one.visits) x one.answer in
      record {
        visits = before.visits ++ one.visits;
        counted = length-append before.visits one.visits ∙ ap (λ y. y + length one.visits) before.counted ∙ ap (λ y. n + y) end.1;
        run = subst (λ ks. Roots t w ks m (before.visits ++ one.visits) m₂ Done) (sym (map_more root_of rs i unheld lt)) (then_roots before.run refl (subst (λ e. Roots t w (root_of (at rs i) ∷ []) m₁ one.visits m₂ e) end.0 one.run));
      }

  pub refused_at : (rs : List HoldRecord) (i : ℕ) (m m₁ m₂ : List ℕ) (n : ℕ) (r r' : Result ℕ Refusal) (f : Refusal) → r ≡ Err f → r' ≡ Err f → i < length rs → First rs i m m₁ n → Scans t w (root_of (at rs i) ∷ []) m₁ m₂ r → Scans t w (roots rs) m m₂ r'
  refused_at rs i m m₁ m₂ n r r' f is is' lt before one =
      let end = told_stops one.ending (length one.visits) (length (before.visits ++ one.visits)) f (sym is ∙ one.answer) in
      let run : Roots t w (roots (take (i + 1) rs)) m (before.visits ++ one.visits) m₂ one.ending = subst (λ ks. Roots t w ks m (before.visits ++ one.visits) m₂ one.ending) (sym (map_more root_of rs i unheld lt)) (then_roots before.run refl one.run) in
      let all : roots (take (i + 1) rs) ++ roots (drop (i + 1) rs) ≡ roots rs = sym (map-append root_of (take (i + 1) rs) (drop (i + 1) rs)) ∙ ap roots (take-append-drop (i + 1) rs) in
      record {
        visits = before.visits ++ one.visits;
        ending = one.ending;
        run = subst (λ ks. Roots t w ks m (before.visits ++ one.visits) m₂ one.ending) all (cut_short (roots (drop (i + 1) rs)) run end.0);
        answer = is' ∙ end.1;
      }
