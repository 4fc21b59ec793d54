-- A list of calls, one call longer.
use Rattle.std.proofs.Common.{◌≡◌, ℕ, ◌+◌, ◌<◌, ◌≤◌, min, false, ◌⊎◌, List, [], ◌∷◌, ◌++◌, length, get_or, take, set, None, Option, Result, sym, refl, ap, ◌∙◌, subst, arith, length-take}
use Rattle.std.proofs.lemmas.List.{take_more, take_more_set}
use Rattle.refusals.specs.declared.refusal.Refusal.{Refusal}
use Rattle.layouts.specs.Types.{Types, Lawful}
use Rattle.calls.specs.Rows.{row_1}
use Rattle.scan.specs.Visits.{Visit}
use Rattle.replay.specs.declared.call.Call.{Call}
use Rattle.replay.specs.declared.call.Answer.{Answer}
use Rattle.replay.specs.declared.one.Heap.{Heap}
use Rattle.replay.specs.States.{State, Event, events, new_state}
use Rattle.replay.specs.Steps.{Step, CallStep, Run}
use Rattle.replay.specs.Replays.{Ran, exists_in}
use Rattle.replay.specs.Carries.{state_of}
use Rattle.replay.proofs.Lists.{every_list_lem}

module _ (t : Types) {S : Type 0} (step : S → Visit → Option S) (P : ℕ) where
  pub run_push : (es : List (Event S)) (e : Event S) (σ σ₁ σ₂ : State) → Run t step P es σ σ₁ → Step t step P e σ₁ σ₂ → Run t step P (es ++ e ∷ []) σ σ₂
  run_push [] e σ σ₁ σ₂ p h = (σ₂, subst (λ x. Step t step P e x σ₂) (sym p) h, refl)
  run_push (d ∷ es) e σ σ₁ σ₂ (m, k, r) h = (m, k, run_push es e m σ₁ σ₂ r h)

  pub run_more : (cs : List (Call S)) (xs : List (Result Answer Refusal)) (ds : List (Call S)) (i : ℕ) (c : Call S) (a : Result Answer Refusal) (d : Call S) (σ σ₁ σ₂ : State) → i < length cs → i < length xs → length ds ≡ length cs → Run t step P (events (take i cs) (take i xs) (take i ds)) σ σ₁ → CallStep t step P (get_or cs i c) σ₁ a σ₂ d → Run t step P (events (take (i + 1) cs) (take (i + 1) (set xs i a)) (take (i + 1) (set ds i d))) σ σ₂
  run_more cs xs ds i c a d σ σ₁ σ₂ h l m r k =
      let e : Event S = record { call = get_or cs i c; answer = a; left = d } in
      let p : events (take (i + 1) cs) (take (i + 1) (set xs i a)) (take (i + 1) (set ds i d)) ≡ events (take i cs) (take i xs) (take i ds) ++ e ∷ [] =
      ap (λ ys. events ys (take (i + 1) (set xs i a)) (take (i + 1) (set ds i d))) (take_more cs i c h)
      ∙ (ap (λ ys. events (take i cs ++ get_or cs i c ∷ []) ys (take (i + 1) (set ds i d))) (take_more_set xs i a (omega arith))
      ∙ (ap (λ ys. events (take i cs ++ get_or cs i c ∷ []) (take i xs ++ a ∷ []) ys) (take_more_set ds i d (omega arith))
      ∙ events_push (take i cs) (take i xs) (take i ds) (get_or cs i c) a d (simp length-take (omega arith)) (simp length-take (omega arith)))) in
      subst (λ es. Run t step P es σ σ₂) (sym p) (run_push (events (take i cs) (take i xs) (take i ds)) e σ σ₁ σ₂ r k)
    where
      events_push : (cs : List (Call S)) (xs : List (Result Answer Refusal)) (ds : List (Call S)) (c : Call S) (a : Result Answer Refusal) (d : Call S) → length cs ≡ length xs → length ds ≡ length xs → events (cs ++ c ∷ []) (xs ++ a ∷ []) (ds ++ d ∷ []) ≡ events cs xs ds ++ record { call = c; answer = a; left = d } ∷ []
      events_push [] [] [] c a d h k = refl
      events_push [] [] (y ∷ ds) c a d h k = absurd (omega (arith, k))
      events_push [] (x ∷ xs) ds c a d h k = absurd (omega (arith, h))
      events_push (b ∷ cs) [] ds c a d h k = absurd (omega (arith, h))
      events_push (b ∷ cs) (x ∷ xs) [] c a d h k = absurd (omega (arith, k))
      events_push (b ∷ cs) (x ∷ xs) (y ∷ ds) c a d h k =
          ap (λ es. record { call = b; answer = x; left = y } ∷ es) (events_push cs xs ds c a d (omega (arith, h)) (omega (arith, k)))

-- the calls carried out, and what stands behind them as it was
pub ran : (t : Types) {S : Type 0} (step : S → Visit → Option S) (P L L' : ℕ) (m : List ℕ) (cs ds : List (Call S)) (xs ys : List (Result Answer Refusal)) (i : ℕ) (h : Heap) {w₁ m₁ : List ℕ} → Lawful t → row_1 L (length m) ≡ None → L' ≡ L → w₁ ≡ h.words.now → m₁ ≡ h.marks.now → Run t step P (events (take i cs) (take i ys) (take i ds)) (new_state L' m) (state_of h) → i ≤ min (length cs) (length xs) → (i ≡ min (length cs) (length xs)) ⊎ ((c : Call S) → exists_in h.phase (get_or cs i c) ≡ false) → ((k : ℕ) (c : Call S) → i ≤ k → get_or ds k c ≡ get_or cs k c) → ((k : ℕ) (x : Result Answer Refusal) → i ≤ k → get_or ys k x ≡ get_or xs k x) → Ran t step P L m cs xs w₁ m₁ ds ys (record { count = i; phase = h.phase; holds = h.holds })
ran t step P L L' m cs ds xs ys i h law row long words marks run le ends calls answers = rw (words, marks) record {
  promise = every_list_lem step t P L m _ _ law row (subst (λ n. Run t step P (events (take i cs) (take i ys) (take i ds)) (new_state n m) (state_of h)) long run);
  within = le;
  ends = ends;
  calls_behind = calls;
  answers_behind = answers;
}
