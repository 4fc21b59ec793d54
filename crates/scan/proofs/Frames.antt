-- Pending frames, after a write.
use Rattle.std.proofs.Common.{◌≡◌, ℕ, zero, suc, ◌<◌, ◌≤◌, ◌≢◌, List, ◌∷◌, length, set, refl, ap₂, arith}
use Rattle.std.proofs.lemmas.List.{get_or-set_same, get_or-set_other}
use Rattle.scan.specs.Pending.{frame_of, frames}
use Rattle.scan.specs.declared.frame.Frame.{Frame}

-- a write at or past the top
pub frames_past : (ps : List Frame) (i d : ℕ) (f : Frame) → d ≤ i → frames (set ps i f) d ≡ frames ps d
frames_past ps i zero f le = refl
frames_past ps i (suc d) f le =
    let ne : d ≢ i = omega arith in
    ap₂ (λ x y. x ∷ y) (get_or-set_other ps i d f (frame_of 0 0 0) ne) (frames_past ps i d f (omega arith))

-- a push, or a new top
pub frames_push : (ps : List Frame) (d : ℕ) (f : Frame) → d < length ps → frames (set ps d f) (suc d) ≡ f ∷ frames ps d
frames_push ps d f lt =
    ap₂ (λ x y. x ∷ y) (get_or-set_same ps d f (frame_of 0 0 0) lt) (frames_past ps d d f (omega arith))
