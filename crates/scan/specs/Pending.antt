-- What pending frames have still to do, and what each turn of the scan keeps true of them.
use Rattle.std.specs.Prelude.{◌≡◌, ℕ, zero, suc, ◌+◌, ◌-◌, ◌*◌, ◌<◌, ◌≤◌, ◌⊎◌, List, [], ◌∷◌, ◌++◌, length, Err, Ok, Option, slice_index_or, slice_set}
use Rattle.layouts.specs.Types.{Types}
use Rattle.scan.specs.Visits.{Visit}
use Rattle.scan.specs.Marks.{IsMarked, mark_words, unmarked}
use Rattle.scan.specs.Children.{width}
use Rattle.scan.specs.Scan.{Run, rest, Stops}
use Rattle.scan.specs.declared.frame.Frame.{Frame}
use Rattle.scan.specs.declared.walk.Walk.{Walk}
use Rattle.scan.specs.Endings.{Ending, Done}

abbrev pub frame_of : ℕ → ℕ → ℕ → Frame
frame_of c a i = record { code = c; address = a; word = i }

-- the first d places, the last of them first
abbrev pub frames : List Frame → ℕ → List Frame
frames ps zero = []
frames ps (suc d) = slice_index_or ps d (frame_of 0 0 0) ∷ frames ps d

-- the top frame's cell to its end, then the next frame's, unless one of them ends the scan
pub data Resume (t : Types) (w : List ℕ) {S : Type 0} (step : S → Visit → Option S) : List Frame → List ℕ → S → List Visit → List ℕ → S → Ending → Type 0 where
  finished : {m : List ℕ} {s : S} → Resume t w step [] m s [] m s Done
  onward : {f : Frame} {fs : List Frame} {m m₁ m₂ : List ℕ} {s s₁ s₂ : S} {vs₁ vs₂ : List Visit} {e : Ending} → Run t w step (rest f.code f.address f.word) m s vs₁ m₁ s₁ Done → Resume t w step fs m₁ s₁ vs₂ m₂ s₂ e → Resume t w step (f ∷ fs) m s (vs₁ ++ vs₂) m₂ s₂ e
  halted : {f : Frame} {fs : List Frame} {m m₁ : List ℕ} {s s₁ : S} {vs : List Visit} {e : Ending} → Run t w step (rest f.code f.address f.word) m s vs m₁ s₁ e → Stops e → Resume t w step (f ∷ fs) m s vs m₁ s₁ e

pub record Ready (t : Types) (L : ℕ) (f : Frame) : Type 0 where
  pub low : 1 ≤ f.word
  pub high : f.word ≤ width t f.code + 1
  pub inside : f.address + width t f.code ≤ L

abbrev pub AllReady : Types → ℕ → List Frame → Type 0
AllReady t L [] = Unit {0}
AllReady t L (f ∷ fs) = Ready t L f × AllReady t L fs

-- what falls with each turn: words still to be gone through, with 258 for each byte that is not marked
abbrev pub load : List Frame → ℕ
load [] = 0
load (f ∷ fs) = (258 - f.word) + load fs

abbrev pub weight : List ℕ → List Frame → ℕ
weight m fs = 258 * unmarked m + load fs

-- each frame has a marked byte of its own, so there is room for one more where a byte is not marked
pub record Good (t : Types) (L : ℕ) (m : List ℕ) (ps : List Frame) (d : ℕ) : Type 0 where
  pub same : length m ≡ L
  pub room : d + unmarked m ≤ L
  pub deep : L ≤ length ps
  pub ready : AllReady t L (frames ps d)

-- a pointer whose cell fits: a marked one changes nothing, any other is marked and becomes the top frame
pub record Entered (t : Types) (c a : ℕ) (m : List ℕ) (ps : List Frame) (d : ℕ) (m' : List ℕ) (ps' : List Frame) (d' : ℕ) : Type 0 where
  pub was : IsMarked m a → (m' ≡ m) × (ps' ≡ ps) × (d' ≡ d)
  pub new : (IsMarked m a → ⊥) → (m' ≡ mark_words m a (width t c)) × (ps' ≡ slice_set ps d (frame_of c a 1)) × (d' ≡ d + 1)

-- after the visits vs, whatever finishes the rest finishes the whole
abbrev pub Leads : (t : Types) (w : List ℕ) {S : Type 0} (step : S → Visit → Option S) → List Visit → List Frame → List ℕ → S → List Frame → List ℕ → S → Type 0
Leads t w {S} step vs fs' m' s' fs m s = (us : List Visit) (m'' : List ℕ) (s'' : S) (e : Ending) → Resume t w step fs' m' s' us m'' s'' e → Resume t w step fs m s (vs ++ us) m'' s'' e

pub record Advanced (t : Types) (w : List ℕ) {S : Type 0} (step : S → Visit → Option S) (m : List ℕ) (ps : List Frame) (d : ℕ) (s : S) (vs : List Visit) (m' : List ℕ) (ps' : List Frame) (d' : ℕ) (s' : S) : Type 0 where
  pub good : Good t (length w) m' ps' d'
  pub room : length vs + (d' + unmarked m') ≤ d + unmarked m
  pub less : weight m' (frames ps' d') < weight m (frames ps d)
  pub leads : Leads t w step vs (frames ps' d') m' s' (frames ps d) m s

-- b goes on over the words, the marks and the templates of a
pub record Same {S : Type 0} (a b : Walk S) : Type 0 where
  pub words : b.words ≡ a.words
  pub source : b.source ≡ a.source
  pub marks : b.marks.ghost_name ≡ a.marks.ghost_name

-- the frames are good, and there is a byte for each visit, each frame and each byte that is not marked
pub record UnderWay {S : Type 0} (means : S → Types) (a : Walk S) : Type 0 where
  pub good : Good (means a.source.now) (length a.words.now) a.marks.now a.pending.now a.depth
  pub few : a.visits + (a.depth + unmarked a.marks.now) ≤ length a.words.now

-- there is one visit, and one frame less is pending
abbrev pub OneVisit : List Visit → ℕ → ℕ → Type 0
OneVisit vs d d' = (v : Visit) × (vs ≡ v ∷ []) × (d' + 1 ≡ d)

-- a turn goes on, with no visit or with one, or it stops
abbrev pub Turned : {S I : Type 0} (means : S → Types) (step : I → Visit → Option I) → Walk S → I → Walk S → I → Ending → Type 0
Turned means step a i b j (Ok x) = (vs : List Visit) × (b.visits ≡ a.visits + length vs) × Advanced (means a.source.now) a.words.now step a.marks.now a.pending.now a.depth i vs b.marks.now b.pending.now b.depth j × ((vs ≡ []) ⊎ OneVisit vs a.depth b.depth)
Turned means step a i b j (Err stop) = (b.visits ≡ a.visits) × Resume (means a.source.now) a.words.now step (frames a.pending.now a.depth) a.marks.now i [] b.marks.now j (Err stop)

-- the turns together, to their end
abbrev pub Ran : {S I : Type 0} (means : S → Types) (step : I → Visit → Option I) → Walk S → I → Walk S → I → Ending → Type 0
Ran means step a i b j e = (vs : List Visit) × (b.visits ≡ a.visits + length vs) × (b.visits ≤ length a.words.now) × Resume (means a.source.now) a.words.now step (frames a.pending.now a.depth) a.marks.now i vs b.marks.now j e
