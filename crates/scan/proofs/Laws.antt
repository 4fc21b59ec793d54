-- The laws of a scan, and a scan that was made.
use Rattle.std.proofs.Common.{◌≡◌, ℕ, ◌<◌, ◌≤◌, true, List, length, None, Ok, Err, Option, refl, subst, inl, inr}
use Rattle.std.specs.List.{AllByRecursion}
use Rattle.std.proofs.ByRecursion.{All-weaker}
use Rattle.layouts.specs.Types.{Types}
use Rattle.cells.specs.Words.{fits}
use Rattle.scan.specs.Visits.{Visit, Seen}
use Rattle.scan.specs.Marks.{IsMarked}
use Rattle.scan.specs.Scan.{Run, pointer}
use Rattle.scan.specs.Reach.{Reach, lone, InOrder, Apart, Unmarked}
use Rattle.scan.specs.Laws.{Due, Completes, ScanLaws}
use Rattle.scan.specs.Pending.{frames, Resume, Entered}
use Rattle.scan.specs.Answers.{Traced}
use Rattle.scan.specs.declared.frame.Frame.{Frame}
use Rattle.scan.specs.Endings.{Ending, Done}
use Rattle.scan.specs.declared.scanned.Stop.TheVariants.{Broken, Full}
use Rattle.scan.proofs.Inside.{Inside, inside_fits}
use Rattle.scan.proofs.Unique.{unique}
use Rattle.scan.proofs.Grown.{grown, run_length, run_written, held}
use Rattle.scan.proofs.Reached.{own, breaks, refuses, only, Told, tells, unvisited, visited_last}
use Rattle.scan.proofs.Filled.{all_seen, completes}
use Rattle.scan.proofs.Order.{children_first}
use Rattle.scan.proofs.Room.{room}
use Rattle.scan.proofs.Roots.{ended}

module _ (t : Types) (w : List ℕ) {S : Type 0} (step : S → Visit → Option S) (c a : ℕ) (m : List ℕ) (s : S) (vs : List Visit) (m' : List ℕ) (s' : S) (len : length m ≡ length w) (inside : Inside t (length w) c a) where
  due_visits : (e : Ending) → Run t w step (pointer c a) m s vs m' s' e → AllByRecursion (Due t w c a m m') vs
  due_visits e r =
      All-weaker (λ v. Told t w step (lone c a) m' v × (IsMarked m v.address → ⊥)) (Due t w c a m m') (λ v h. record { reached = h.0.reached; is_cell = h.0.is_cell; was_unmarked = h.1; now_marked = h.0.now_marked }) vs (tells t w step (lone c a) r len (own t w c a, inside)).0

  exactly : Run t w step (pointer c a) m s vs m' s' Done → Apart t w (lone c a) → Unmarked t w (lone c a) m → (c₁ a₁ : ℕ) → (Reach t w (lone c a) c₁ a₁ → Seen vs c₁ a₁) × (Seen vs c₁ a₁ → Reach t w (lone c a) c₁ a₁)
  exactly r apart fresh c₁ a₁ =
      let all : Completes t w (lone c a) c a m vs m' = completes t w step (lone c a) apart c a m s vs m' s' r len inside (own t w c a) (λ c₂ a₂ at h. absurd (fresh c₂ a₂ at h)) in
      (λ at. elim (all.seen c₁ a₁ at (all.covered c₁ a₁ at).1) [ inl old ↦ absurd (fresh c₁ a₁ at old) | inr seen ↦ seen ], all_seen (Reach t w (lone c a)) vs c₁ a₁ (All-weaker (Due t w c a m m') (λ v. Reach t w (lone c a) v.code v.address) (λ v h. h.reached) vs (due_visits Done r)))

  done_by : (e : Ending) → Run t w step (pointer c a) m s vs m' s' e → InOrder t w (lone c a) → ((x : S) (v : Visit) → step x v ≡ None → ⊥) → e ≡ Done
  done_by (Ok x) r ok never = refl
  done_by (Err (Broken p)) r ok never = let b = breaks t w step (lone c a) r (own t w c a) p refl in absurd (ok b.0 b.1 b.2 b.3 b.4 b.5 b.6)
  done_by (Err (Full b)) r ok never = let f = refuses t w step (lone c a) r (own t w c a) b refl in absurd (never _ _ f.2)

  pub laws_hold : (e : Ending) → Run t w step (pointer c a) m s vs m' s' e → ScanLaws t w step c a m s vs m' s' e
  laws_hold e r = record {
    alone = λ us m'' s'' e'' q. unique t w step r q;
    held = held t w step r;
    same_length = run_length t w step r;
    written = run_written t w step r;
    grown = grown t w step r;
    only = only t w step (lone c a) r (own t w c a);
    once = (tells t w step (lone c a) r len (own t w c a, inside)).1;
    due = due_visits e r;
    room = room t w step r len inside;
    last = visited_last t w step r;
    children_first = λ apart. children_first t w step (lone c a) apart m c a s vs m' s' e r len inside (own t w c a);
    broken = breaks t w step (lone c a) r (own t w c a);
    whole = λ ok p is. let b = breaks t w step (lone c a) r (own t w c a) p is in ok b.0 b.1 b.2 b.3 b.4 b.5 b.6;
    full = refuses t w step (lone c a) r (own t w c a);
    unvisited = unvisited t w step (lone c a) r len (own t w c a, inside);
    done = done_by e r;
    completes = λ done roots at apart before. completes t w step roots apart c a m s vs m' s' (subst (λ x. Run t w step (pointer c a) m s vs m' s' x) done r) len inside at before;
    exactly = λ done. exactly (subst (λ x. Run t w step (pointer c a) m s vs m' s' x) done r);
  }

-- the walk from the frames of its start to its end
pub traced : (t : Types) (w : List ℕ) {S : Type 0} (step : S → Visit → Option S) (c a : ℕ) (m : List ℕ) (ps : List Frame) (m₁ : List ℕ) (ps₁ : List Frame) (d₁ : ℕ) (s : S) (vs : List Visit) (m' : List ℕ) (s' : S) (e : Ending) (n : ℕ) → length m ≡ length w → fits t (length w) c a ≡ true → 0 < length ps → Entered t c a m ps 0 m₁ ps₁ d₁ → Resume t w step (frames ps₁ d₁) m₁ s vs m' s' e → n ≡ length vs → n ≤ length w → Traced t w step c a m s m' s' (record { ending = e; visits = n })
traced t w step c a m ps m₁ ps₁ d₁ s vs m' s' e n len fit some entered r count few =
    let run : Run t w step (pointer c a) m s vs m' s' e = ended t w step c a m ps m₁ ps₁ d₁ s vs m' s' e some entered r in
    record {
      visits_made = vs;
      run = run;
      counted = count;
      few = few;
      laws = laws_hold t w step c a m s vs m' s' len (inside_fits t (length w) c a fit) e run;
    }
