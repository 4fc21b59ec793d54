-- Each step of the walk, against the recursion.
use Rattle.std.proofs.Common.{◌≡◌, ℕ, suc, ◌+◌, ◌<◌, ◌≤◌, List, [], ◌∷◌, ◌++◌, length, get_or, set, Some, Option, sym, ap, ◌∙◌, subst, arith, length-set}
use Rattle.std.proofs.lemmas.List.{append_assoc, append-nil}
use Rattle.layouts.specs.Types.{Types}
use Rattle.scan.specs.Visits.{Visit}
use Rattle.scan.specs.Marks.{IsMarked, mark_words, unmarked}
use Rattle.scan.specs.Children.{width, child_at, cell_visit}
use Rattle.scan.specs.Scan.{Run, pointer, marked, opened, visited, plain, child, stopped}
use Rattle.scan.specs.Pending.{frame_of, frames, Resume, finished, onward, halted, Ready, AllReady, weight, Good, Leads, Advanced}
use Rattle.scan.specs.declared.frame.Child.TheVariants.{Nothing, Cell}
use Rattle.scan.specs.declared.frame.Frame.{Frame}
use Rattle.scan.specs.Endings.{Ending, Done}
use Rattle.scan.proofs.Counts.{mark_lt, length_mark}
use Rattle.scan.proofs.Frames.{frames_push}

module _ (t : Types) (w : List ℕ) {S : Type 0} (step : S → Visit → Option S) where
  pub leads_on : (vs us : List Visit) (fs₂ : List Frame) (m₂ : List ℕ) (s₂ : S) (fs₁ : List Frame) (m₁ : List ℕ) (s₁ : S) (fs : List Frame) (m : List ℕ) (s : S) → Leads t w step vs fs₁ m₁ s₁ fs m s → Leads t w step us fs₂ m₂ s₂ fs₁ m₁ s₁ → Leads t w step (vs ++ us) fs₂ m₂ s₂ fs m s
  leads_on vs us fs₂ m₂ s₂ fs₁ m₁ s₁ fs m s one two xs m'' s'' e r =
      subst (λ ys. Resume t w step fs m s ys m'' s'' e) (sym (append_assoc vs us xs)) (one (us ++ xs) m'' s'' e (two xs m'' s'' e r))

  leads_visited : (c a i : ℕ) (fs : List Frame) (m : List ℕ) (s s' : S) → width t c < i → step s (cell_visit t w c a) ≡ Some s' → Leads t w step (cell_visit t w c a ∷ []) fs m s' (frame_of c a i ∷ fs) m s
  leads_visited c a i fs m s s' past took us m'' s'' e r = onward (visited past took) r

  leads_plain : (c a i : ℕ) (fs : List Frame) (m : List ℕ) (s : S) → i ≤ width t c → child_at t w c a i ≡ Nothing → Leads t w step [] (frame_of c a (i + 1) ∷ fs) m s (frame_of c a i ∷ fs) m s
  leads_plain c a i fs m s le is us m'' s'' e (onward r q) = onward (plain le is r) q
  leads_plain c a i fs m s le is us m'' s'' e (halted r h) = halted (plain le is r) h

  leads_marked : (c a i c' a' : ℕ) (fs : List Frame) (m : List ℕ) (s : S) → i ≤ width t c → child_at t w c a i ≡ Cell c' a' → IsMarked m a' → Leads t w step [] (frame_of c a (i + 1) ∷ fs) m s (frame_of c a i ∷ fs) m s
  leads_marked c a i c' a' fs m s le is one us m'' s'' e (onward r q) = onward (child le is (marked one) r) q
  leads_marked c a i c' a' fs m s le is one us m'' s'' e (halted r h) = halted (child le is (marked one) r) h

  leads_opened : (c a i c' a' : ℕ) (fs : List Frame) (m : List ℕ) (s : S) → i ≤ width t c → child_at t w c a i ≡ Cell c' a' → (IsMarked m a' → ⊥) → Leads t w step [] (frame_of c' a' 1 ∷ frame_of c a (i + 1) ∷ fs) (mark_words m a' (width t c')) s (frame_of c a i ∷ fs) m s
  leads_opened c a i c' a' fs m s le is none us m'' s'' e (onward {vs₁ = us₁} r (onward {vs₁ = us₂} {vs₂ = us₃} q z)) =
      subst (λ ys. Resume t w step (frame_of c a i ∷ fs) m s ys m'' s'' e) (append_assoc us₁ us₂ us₃) (onward (child le is (opened none r) q) z)
  leads_opened c a i c' a' fs m s le is none us m'' s'' e (onward r (halted q h)) = halted (child le is (opened none r) q) h
  leads_opened c a i c' a' fs m s le is none us m'' s'' e (halted r h) = halted (stopped le is (opened none r) h) h

  pub root_marked : (c a : ℕ) (m m'' : List ℕ) (s s'' : S) (us : List Visit) (e : Ending) → IsMarked m a → Resume t w step [] m s us m'' s'' e → Run t w step (pointer c a) m s us m'' s'' e
  root_marked c a m m'' s s'' us e one finished = marked one

  pub root_opened : (c a : ℕ) (m m'' : List ℕ) (s s'' : S) (us : List Visit) (e : Ending) → (IsMarked m a → ⊥) → Resume t w step (frame_of c a 1 ∷ []) (mark_words m a (width t c)) s us m'' s'' e → Run t w step (pointer c a) m s us m'' s'' e
  root_opened c a m m'' s s'' us e none (onward {vs₁ = us₁} r finished) = subst (λ ys. Run t w step (pointer c a) m s ys m'' s'' Done) (sym (append-nil us₁)) (opened none r)
  root_opened c a m m'' s s'' us e none (halted r h) = opened none r

  ready_top : (ps : List Frame) (d : ℕ) (f : Frame) (L : ℕ) → d < length ps → Ready t L f → AllReady t L (frames ps d) → AllReady t L (frames (set ps d f) (suc d))
  ready_top ps d f L lt r rs = subst (λ fs. AllReady t L fs) (sym (frames_push ps d f lt)) (r, rs)

  -- the visit of the top cell
  pub pop : (c a i d : ℕ) (m : List ℕ) (ps : List Frame) (s s' : S) → get_or ps d (frame_of 0 0 0) ≡ frame_of c a i → Good t (length w) m ps (suc d) → i ≤ 257 → width t c < i → step s (cell_visit t w c a) ≡ Some s' → Advanced t w step m ps (suc d) s (cell_visit t w c a ∷ []) m ps d s'
  pop c a i d m ps s s' top g small past took = record {
    good = record { same = g.same; room = omega (arith, g.room); deep = g.deep; ready = g.ready.1 };
    room = omega arith;
    less = rw top (omega arith);
    leads = rw top (leads_visited c a i (frames ps d) m s s' past took);
  }

  -- the step to the frames ps with the top one replaced by f, or with f on top of the first d
  replaced : (f f₀ : Frame) (d d₀ : ℕ) (m : List ℕ) (ps : List Frame) (s : S) (m₀ : List ℕ) (ps₀ : List Frame) (s₀ : S) → d < length ps → get_or ps₀ d₀ (frame_of 0 0 0) ≡ f₀ → Good t (length w) m (set ps d f) (suc d) → suc d + unmarked m ≤ suc d₀ + unmarked m₀ → weight m (f ∷ frames ps d) < weight m₀ (f₀ ∷ frames ps₀ d₀) → Leads t w step [] (f ∷ frames ps d) m s (f₀ ∷ frames ps₀ d₀) m₀ s₀ → Advanced t w step m₀ ps₀ (suc d₀) s₀ [] m (set ps d f) (suc d) s
  replaced f f₀ d d₀ m ps s m₀ ps₀ s₀ lt top g room less leads =
      let push : frames (set ps d f) (suc d) ≡ f ∷ frames ps d = frames_push ps d f lt in
      let was : frames ps₀ (suc d₀) ≡ f₀ ∷ frames ps₀ d₀ = ap (λ x. x ∷ frames ps₀ d₀) top in
      record {
        good = g;
        room = omega (arith, room);
        less = subst (λ fs. weight m fs < weight m₀ (frames ps₀ (suc d₀))) (sym push) (subst (λ fs. weight m (f ∷ frames ps d) < weight m₀ fs) (sym was) less);
        leads = subst (λ fs. Leads t w step [] fs m s (frames ps₀ (suc d₀)) m₀ s₀) (sym push) (subst (λ fs. Leads t w step [] (f ∷ frames ps d) m s fs m₀ s₀) (sym was) leads);
      }

  good_top : (c a i d : ℕ) (m : List ℕ) (ps : List Frame) → get_or ps d (frame_of 0 0 0) ≡ frame_of c a i → Good t (length w) m ps (suc d) → i ≤ width t c → Good t (length w) m (set ps d (frame_of c a (i + 1))) (suc d)
  good_top c a i d m ps top g le =
      let lt : d < length ps = omega (arith, g.room, g.deep) in
      let r : Ready t (length w) (frame_of c a i) = rw top at g.ready.0 in
      record {
        same = g.same;
        room = g.room;
        deep = simp length-set g.deep;
        ready = ready_top ps d (frame_of c a (i + 1)) (length w) lt (record { low = omega arith; high = omega arith; inside = r.inside }) g.ready.1;
      }

  -- a word that is no child
  pub pass : (c a i d : ℕ) (m : List ℕ) (ps : List Frame) (s : S) → get_or ps d (frame_of 0 0 0) ≡ frame_of c a i → Good t (length w) m ps (suc d) → i ≤ 255 → i ≤ width t c → child_at t w c a i ≡ Nothing → Advanced t w step m ps (suc d) s [] m (set ps d (frame_of c a (i + 1))) (suc d) s
  pass c a i d m ps s top g small le none =
      let lt : d < length ps = omega (arith, g.room, g.deep) in
      replaced (frame_of c a (i + 1)) (frame_of c a i) d d m ps s m ps s lt top (good_top c a i d m ps top g le) (omega arith) (omega arith) (leads_plain c a i (frames ps d) m s le none)

  -- a child that is marked already
  pub pass_marked : (c a i c' a' d : ℕ) (m : List ℕ) (ps : List Frame) (s : S) → get_or ps d (frame_of 0 0 0) ≡ frame_of c a i → Good t (length w) m ps (suc d) → i ≤ 255 → i ≤ width t c → child_at t w c a i ≡ Cell c' a' → IsMarked m a' → Advanced t w step m ps (suc d) s [] m (set ps d (frame_of c a (i + 1))) (suc d) s
  pass_marked c a i c' a' d m ps s top g small le is one =
      let lt : d < length ps = omega (arith, g.room, g.deep) in
      replaced (frame_of c a (i + 1)) (frame_of c a i) d d m ps s m ps s lt top (good_top c a i d m ps top g le) (omega arith) (omega arith) (leads_marked c a i c' a' (frames ps d) m s le is one)

  -- a child that is opened
  pub push : (c a i c' a' d : ℕ) (m : List ℕ) (ps : List Frame) (s : S) → get_or ps d (frame_of 0 0 0) ≡ frame_of c a i → Good t (length w) m ps (suc d) → i ≤ 255 → i ≤ width t c → child_at t w c a i ≡ Cell c' a' → (IsMarked m a' → ⊥) → 0 < width t c' → a' + width t c' ≤ length w → Advanced t w step m ps (suc d) s [] (mark_words m a' (width t c')) (set (set ps d (frame_of c a (i + 1))) (suc d) (frame_of c' a' 1)) (suc (suc d)) s
  push c a i c' a' d m ps s top g small le is none some inside =
      let ps' : List Frame = set ps d (frame_of c a (i + 1)) in
      let m' : List ℕ = mark_words m a' (width t c') in
      let g' : Good t (length w) m ps' (suc d) = good_top c a i d m ps top g le in
      let fewer : unmarked m' < unmarked m = mark_lt m a' (width t c') (omega (arith, g.same)) some none in
      let lt : d < length ps = omega (arith, g.room, g.deep) in
      let lt' : suc d < length ps' = omega (arith, g'.room, g'.deep) in
      let under : frames ps' (suc d) ≡ frame_of c a (i + 1) ∷ frames ps d = frames_push ps d (frame_of c a (i + 1)) lt in
      replaced (frame_of c' a' 1) (frame_of c a i) (suc d) d m' ps' s m ps s lt' top
      (record {
        same = length_mark m a' (width t c') ∙ g.same;
        room = omega (arith, g.room);
        deep = simp length-set g.deep;
        ready = ready_top ps' (suc d) (frame_of c' a' 1) (length w) lt' (record { low = omega arith; high = omega arith; inside = inside }) g'.ready;
      })
      (omega arith)
      (subst (λ fs. weight m' (frame_of c' a' 1 ∷ fs) < weight m (frame_of c a i ∷ frames ps d)) (sym under) (omega arith))
      (subst (λ fs. Leads t w step [] (frame_of c' a' 1 ∷ fs) m' s (frame_of c a i ∷ frames ps d) m s) (sym under) (leads_opened c a i c' a' (frames ps d) m s le is none))
