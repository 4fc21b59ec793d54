-- Where the walk begins and ends.
use Rattle.std.proofs.Common.{◌≡◌, ℕ, zero, suc, ◌<◌, ◌≤◌, List, [], length, get_or, set, Option, sym, ◌∙◌, subst, inl, inr, arith, length-set}
use Rattle.std.proofs.lemmas.Bool.{cases_eq}
use Rattle.layouts.specs.Types.{Types}
use Rattle.scan.specs.Visits.{Visit}
use Rattle.scan.specs.Marks.{mark_words, unmarked}
use Rattle.scan.specs.Children.{width}
use Rattle.scan.specs.Scan.{Run, pointer}
use Rattle.scan.specs.Pending.{frame_of, frames, Resume, finished, AllReady, Good, Entered}
use Rattle.scan.specs.declared.frame.Frame.{Frame}
use Rattle.scan.specs.Endings.{Ending, Done}
use Rattle.scan.proofs.Counts.{unmarked_all, mark_lt, length_mark}
use Rattle.scan.proofs.Inside.{Inside}
use Rattle.scan.proofs.Frames.{frames_push}
use Rattle.scan.proofs.Steps.{root_marked, root_opened}

pub begun : (t : Types) (L c a : ℕ) (m : List ℕ) (ps : List Frame) (m' : List ℕ) (ps' : List Frame) (d' : ℕ) → Inside t L c a → length m ≡ L → L ≤ length ps → Entered t c a m ps 0 m' ps' d' → Good t L m' ps' d'
begun t L c a m ps m' ps' d' i same deep entered =
    elim (cases_eq (get_or m a 0) 1) [
      | inl one ↦
          let e = entered.was one in
          rw (e.0, e.1, e.2) (record { same = same; room = omega (arith, unmarked_all m); deep = deep; ready = tt })
      | inr none ↦
          let e = entered.new none in
          let fewer : unmarked (mark_words m a (width t c)) < unmarked m = mark_lt m a (width t c) (omega (arith, i.some, i.within)) i.some none in
          let lt : 0 < length ps = omega (arith, i.some, i.within) in
          rw (e.0, e.1, e.2)
          (record {
            same = length_mark m a (width t c) ∙ same;
            room = omega (arith, unmarked_all m);
            deep = simp length-set deep;
            ready = subst (λ fs. AllReady t L fs) (sym (frames_push ps 0 (frame_of c a 1) lt)) (record { low = omega arith; high = omega (arith, i.some); inside = i.within }, tt);
          })
    ]

pub ended : (t : Types) (w : List ℕ) {S : Type 0} (step : S → Visit → Option S) (c a : ℕ) (m : List ℕ) (ps : List Frame) (m' : List ℕ) (ps' : List Frame) (d' : ℕ) (s : S) (us : List Visit) (m'' : List ℕ) (s'' : S) (e : Ending) → 0 < length ps → Entered t c a m ps 0 m' ps' d' → Resume t w step (frames ps' d') m' s us m'' s'' e → Run t w step (pointer c a) m s us m'' s'' e
ended t w step c a m ps m' ps' d' s us m'' s'' e lt entered r =
    elim (cases_eq (get_or m a 0) 1) [
      | inl one ↦
          let e₁ = entered.was one in
          root_marked t w step c a m m'' s s'' us e one (rw (e₁.0, e₁.1, e₁.2) at r)
      | inr none ↦
          let e₁ = entered.new none in
          let r' : Resume t w step (frames (set ps 0 (frame_of c a 1)) 1) (mark_words m a (width t c)) s us m'' s'' e = rw (e₁.0, e₁.1, e₁.2) at r in
          root_opened t w step c a m m'' s s'' us e none (subst (λ fs. Resume t w step fs (mark_words m a (width t c)) s us m'' s'' e) (frames_push ps 0 (frame_of c a 1) lt) r')
    ]

pub out_of_frames : (t : Types) (w : List ℕ) {S : Type 0} (step : S → Visit → Option S) (ps : List Frame) (d : ℕ) (m : List ℕ) (s : S) → d ≤ 0 → Resume t w step (frames ps d) m s [] m s Done
out_of_frames t w step ps zero m s le = finished
out_of_frames t w step ps (suc d) m s le = absurd (omega arith)
