-- One turn, with d frames pending.
use Rattle.std.proofs.Common.{◌≡◌, ℕ, suc, ◌+◌, ◌-◌, ◌<◌, ◌≤◌, List, [], ◌∷◌, length, get_or, set, Some, None, Ok, Err, Option, sym, refl, subst, inl, inr, add-one, arith}
use Rattle.std.proofs.lemmas.Bool.{cases_eq}
use Rattle.layouts.specs.Types.{Types, Lawful}
use Rattle.cells.specs.Words.{place}
use Rattle.scan.specs.Visits.{Visit, Visited}
use Rattle.scan.specs.Marks.{mark_words}
use Rattle.scan.specs.Children.{width, child_at, cell_visit}
use Rattle.scan.specs.Scan.{refused, misfit}
use Rattle.scan.specs.Pending.{frame_of, frames, Resume, halted, Good, Entered, Advanced, UnderWay}
use Rattle.scan.specs.declared.frame.Child.TheVariants.{Nothing, Cell, Misfit}
use Rattle.scan.specs.declared.frame.Frame.{Frame}
use Rattle.scan.specs.declared.walk.Walk.{Walk}
use Rattle.scan.specs.declared.inspector.Full.{Full as FullInspector}
use Rattle.scan.specs.declared.scanned.Stop.TheVariants.{Broken, Full}
use Rattle.scan.proofs.Inside.{short, inside_child}
use Rattle.scan.proofs.Steps.{pop, pass, pass_marked, push}

abbrev pub top : List Frame → ℕ → Frame
top ps d = get_or ps (d - 1) (frame_of 0 0 0)

abbrev pub moved : Frame → Frame
moved f = frame_of f.code f.address (f.word + 1)

back : (d : ℕ) → 0 < d → suc (d - 1) ≡ d
back d pos = omega arith

-- a visit that was made, and one that was refused
pub made : {S : Type 0} (o : Option S) (s s' : S) (u : Unit {0}) → Visited o s s' (Ok u) → o ≡ Some s'
made None s s' u v = let z : ◌≡◌ {A = ℕ} 0 1 = cc (v.0) in absurd (omega arith)
made (Some x) s s' u v = cc

pub not_made : {S : Type 0} (o : Option S) (s s' : S) (f : FullInspector) → Visited o s s' (Err f) → (o ≡ None) × (s' ≡ s)
not_made None s s' f v = (refl, v.1)
not_made (Some x) s s' f v = let z : ◌≡◌ {A = ℕ} 0 1 = cc in absurd (omega arith)

module _ {S I : Type 0} (means : S → Types) (lawful : (x : S) → Lawful (means x)) (step : I → Visit → Option I) (a : Walk S) (s : I) (pos : 0 < a.depth) (under : UnderWay means a) where
  abbrev t : Types
  t = means a.source.now

  abbrev w : List ℕ
  w = a.words.now

  abbrev m : List ℕ
  m = a.marks.now

  abbrev ps : List Frame
  ps = a.pending.now

  abbrev d : ℕ
  d = a.depth

  laws : Lawful t
  laws = lawful a.source.now

  lower : Good t (length w) m ps (suc (d - 1))
  lower = subst (λ x. Good t (length w) m ps x) (sym (back d pos)) under.good

  raise : (vs : List Visit) (m' : List ℕ) (ps' : List Frame) (d' : ℕ) (s' : I) → Advanced t w step m ps (suc (d - 1)) s vs m' ps' d' s' → Advanced t w step m ps d s vs m' ps' d' s'
  raise vs m' ps' d' s' = subst (λ x. Advanced t w step m ps x s vs m' ps' d' s') (back d pos)

  small : (top ps d).word ≤ width t (top ps d).code + 1
  small = lower.ready.0.high

  pub turn_visited : (s' : I) → width t (top ps d).code < (top ps d).word → step s (cell_visit t w (top ps d).code (top ps d).address) ≡ Some s' → Advanced t w step m ps d s (cell_visit t w (top ps d).code (top ps d).address ∷ []) m ps (d - 1) s'
  turn_visited s' past took =
      raise _ _ _ _ _ (pop t w step (top ps d).code (top ps d).address (top ps d).word (d - 1) m ps s s' refl lower (omega (arith, small, short t laws (top ps d).code)) past took)

  pub turn_refused : (s' : I) → s' ≡ s → width t (top ps d).code < (top ps d).word → step s (cell_visit t w (top ps d).code (top ps d).address) ≡ None → Resume t w step (frames ps d) m s [] m s' (Err (Full (top ps d).address))
  turn_refused s' same past none =
      subst (λ x. Resume t w step (frames ps d) m s [] m x (Err (Full (top ps d).address))) (sym same) (subst (λ x. Resume t w step (frames ps x) m s [] m s (Err (Full (top ps d).address))) (back d pos) (halted (refused past none) tt))

  module _ (le : (top ps d).word ≤ width t (top ps d).code) where
    pub turn_misfit : (p : ℕ) → p ≡ place (top ps d).address (top ps d).word → child_at t w (top ps d).code (top ps d).address (top ps d).word ≡ Misfit → Resume t w step (frames ps d) m s [] m s (Err (Broken p))
    turn_misfit p here is =
        rw here (subst (λ x. Resume t w step (frames ps x) m s [] m s (Err (Broken (place (top ps d).address (top ps d).word)))) (back d pos) (halted (misfit le is) tt))

    low : (top ps d).word ≤ 255
    low = omega (arith, le, short t laws (top ps d).code)

    pub turn_plain : child_at t w (top ps d).code (top ps d).address (top ps d).word ≡ Nothing → Advanced t w step m ps d s [] m (set ps (d - 1) (moved (top ps d))) d s
    turn_plain is =
        subst (λ x. Advanced t w step m ps x s [] m (set ps (d - 1) (moved (top ps d))) x s) (back d pos) (pass t w step (top ps d).code (top ps d).address (top ps d).word (d - 1) m ps s refl lower low le is)

    pub turn_cell : (c' a' : ℕ) (m' : List ℕ) (ps' : List Frame) (d' : ℕ) → child_at t w (top ps d).code (top ps d).address (top ps d).word ≡ Cell c' a' → Entered t c' a' m (set ps (d - 1) (moved (top ps d))) d m' ps' d' → Advanced t w step m ps d s [] m' ps' d' s
    turn_cell c' a' m' ps' d' is entered =
        elim (cases_eq (get_or m a' 0) 1) [
          | inl one ↦
              let e = entered.was one in
              rw (e.0, e.1, e.2) (subst (λ x. Advanced t w step m ps x s [] m (set ps (d - 1) (moved (top ps d))) x s) (back d pos) (pass_marked t w step (top ps d).code (top ps d).address (top ps d).word c' a' (d - 1) m ps s refl lower low le is one))
          | inr none ↦
              let e = entered.new none in
              let i = inside_child t w (top ps d).code (top ps d).address (top ps d).word c' a' is in
              rw (e.0, e.1, e.2, add-one d) (subst (λ x. Advanced t w step m ps x s [] (mark_words m a' (width t c')) (set (set ps (d - 1) (moved (top ps d))) x (frame_of c' a' 1)) (suc x) s) (back d pos) (push t w step (top ps d).code (top ps d).address (top ps d).word c' a' (d - 1) m ps s refl lower low le is none i.some i.within))
        ]
