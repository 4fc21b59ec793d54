-- What finding room, marking and sweeping come to, where the free list and the scans are known.
use Rattle.std.proofs.Common.{◌≡◌, ℕ, ◌+◌, ◌-◌, ◌<◌, ◌≤◌, List, length, replicate, Ok, Err, Result, sym, refl, ap, ◌∙◌, subst, arith}
use Rattle.refusals.specs.declared.refusal.Refusal.{Refusal}
use Rattle.refusals.specs.declared.refusal.Refusal.TheVariants.{NoRun}
use Rattle.layouts.specs.Types.{Types}
use Rattle.calls.specs.declared.record.HoldRecord.{HoldRecord}
use Rattle.scan.specs.Visits.{Visit}
use Rattle.scan.specs.Endings.{Done}
use Rattle.free_list.specs.Free.{FirstFit, NoFit, proper, broken}
use Rattle.free_list.specs.Cells.{Cut, zeroed, shortened}
use Rattle.free_list.specs.Taken.{Heap, Given}
use Rattle.free_list.proofs.Cutting.{list_after}
use Rattle.free_list.proofs.Once.{first_once, none_or_first, end_once}
use Rattle.marking.specs.Roots.{Roots, roots}
use Rattle.marking.specs.Marking.{Marked, told, kept}
use Rattle.marking.proofs.Unique.{same_end}
use Rattle.marking.proofs.Laws.{mark_laws}
use Rattle.sweeping.specs.Sweeping.{Swept}
use Rattle.sweeping.proofs.Once.{one_sweep}
use Rattle.making.specs.Makes.{Collected, swept, stopped, Found, at_hand, broken_link, broken_content, collected, no_run}

-- the words after a cell of n words is cut from the run at a, of s words
abbrev pub cut_off : List ℕ → ℕ → ℕ → ℕ → List ℕ
cut_off w n a s = zeroed (shortened w a (s - n)) (a + (s - n)) n

proper_broken : (q : ℕ) → proper ≡ broken q → ⊥
proper_broken q e = cc

pub given_is : {w v : List ℕ} {n c p a s : ℕ} → FirstFit w n p a s → n < s → Given w n v c → (c ≡ a + (s - n)) × (v ≡ cut_off w n a s)
given_is {w} {v} {n} {c} {p} {a} {s} fit more g =
    let same = first_once g.first fit in
    let A : ℕ → Type 0 = λ k. Cut w k g.run g.size n v in
    let B : ℕ → Type 0 = λ k. Cut w p k g.size n v in
    let C : ℕ → Type 0 = λ k. Cut w p a k n v in
    let cut : Cut w p a s n v = subst C same.2 (subst B same.1 (subst A same.0 g.cut)) in
    (omega (arith, g.cell, same.1, same.2), cut.part more)

err_ok : {X : Type 0} {x : X} {f : Refusal} → ◌≡◌ {A = Result X Refusal} (Err f) (Ok x) → ⊥
err_ok e = cc

-- a cell of n words is cut from that run
pub cut_given : {w : List ℕ} {n p a s : ℕ} → Heap w → 1 ≤ n → FirstFit w n p a s → n < s → Given w n (cut_off w n a s) (a + (s - n))
cut_given {w} {n} {p} {a} {s} heap some fit more =
    let cut : Cut w p a s n (cut_off w n a s) = record { whole = λ same. absurd (omega arith); part = λ less. refl } in
    record {
      heap = heap;
      words = some;
      link = p;
      run = a;
      size = s;
      first = fit;
      cell = refl;
      cut = cut;
      list = list_after w p a s n (cut_off w n a s) cut;
    }

module _ (t : Types) (w : List ℕ) (rs : List HoldRecord) where
  -- finding room for n words answers r and leaves u, in whatever way it is found
  abbrev pub Finds : ℕ → List ℕ → Result ℕ Refusal → Type 0
  Finds n u r = Found t w rs n u r × ((v : List ℕ) (q : Result ℕ Refusal) → Found t w rs n v q → (q ≡ r) × (v ≡ u))

  -- a run has room
  pub finds_at_hand : {n p a s : ℕ} → Heap w → 1 ≤ n → FirstFit w n p a s → n < s → Finds n (cut_off w n a s) (Ok (a + (s - n)))
  finds_at_hand {n} {p} {a} {s} heap some fit more = (at_hand (cut_given heap some fit more), only)
    where
      only : (v : List ℕ) (q : Result ℕ Refusal) → Found t w rs n v q → (q ≡ Ok (a + (s - n))) × (v ≡ cut_off w n a s)
      only v q (at_hand g) = let is = given_is fit more g in (ap (λ k. Ok k) is.0, is.1)
      only v q (broken_link {q = k} none) = absurd (none_or_first (broken k) none fit)
      only v q (broken_content none c) = absurd (none_or_first proper none fit)
      only v q (collected none c g) = absurd (none_or_first proper none fit)
      only v q (no_run none c still) = absurd (none_or_first proper none fit)

  module _ {vs : List Visit} {m : List ℕ} (run : Roots t w (roots rs) (replicate (length w) 0) vs m Done) where
    pub marked : Marked t w rs m (Ok (length vs))
    marked = record {
      visits = vs;
      left = m;
      ending = Done;
      run = run;
      answer = refl;
      kept_marks = refl;
      laws = mark_laws t w (roots rs) vs m Done run;
    }

    pub marked_only : {m' : List ℕ} {r : Result ℕ Refusal} → Marked t w rs m' r → (r ≡ Ok (length vs)) × (m' ≡ m)
    marked_only k =
        let same = same_end t w k.run run in (
          k.answer ∙ ap (λ e. told e (length k.visits)) same.2 ∙ ap (λ (us : List Visit). Ok (length us)) same.0,
          k.kept_marks ∙ ap (λ e. kept (length w) k.left e) same.2 ∙ same.1,
        )

    module _ {u : List ℕ} (clean : Swept w m u) {n : ℕ} (full : NoFit w n proper) where
      collected_only : {v : List ℕ} {r : Result (Unit {0}) Refusal} → Collected t w rs v r → (r ≡ Ok tt) × (v ≡ u)
      collected_only {v} (swept k s) = (refl, one_sweep w m v u (subst (λ x. Swept w x v) (marked_only k).1 s) clean)
      collected_only (stopped k) = absurd (err_ok (marked_only k).0)

      -- no run has room before the collection, nor after it
      pub finds_none : NoFit u n proper → Finds n u (Err (NoRun n))
      finds_none still = (no_run full (swept marked clean) still, only)
        where
          only : (v : List ℕ) (q : Result ℕ Refusal) → Found t w rs n v q → (q ≡ Err (NoRun n)) × (v ≡ u)
          only v q (at_hand g) = absurd (none_or_first proper full g.first)
          only v q (broken_link {q = k} none) = absurd (proper_broken k (end_once proper (broken k) full none))
          only v q (broken_content none c) = absurd (err_ok (collected_only c).0)
          only v q (collected none c g) =
              absurd (none_or_first proper (subst (λ x. NoFit x n proper) (sym (collected_only c).1) still) g.first)
          only v q (no_run none c left) = (refl, (collected_only c).1)

      -- a run has room after the collection
      pub finds_collected : {p a s : ℕ} → Heap u → 1 ≤ n → FirstFit u n p a s → n < s → Finds n (cut_off u n a s) (Ok (a + (s - n)))
      finds_collected {p} {a} {s} heap some fit more = (collected full (swept marked clean) (cut_given heap some fit more), only)
        where
          only : (v : List ℕ) (q : Result ℕ Refusal) → Found t w rs n v q → (q ≡ Ok (a + (s - n))) × (v ≡ cut_off u n a s)
          only v q (at_hand g) = absurd (none_or_first proper full g.first)
          only v q (broken_link {q = k} none) = absurd (proper_broken k (end_once proper (broken k) full none))
          only v q (broken_content none c) = absurd (err_ok (collected_only c).0)
          only v q (collected {a = at} none c g) =
              let is = given_is fit more (subst (λ x. Given x n v at) (collected_only c).1 g) in (ap (λ k. Ok k) is.0, is.1)
          only v q (no_run none c left) = absurd (none_or_first proper (subst (λ x. NoFit x n proper) (collected_only c).1 left) fit)
