-- Words and flags that are copied side by side.
use Rattle.std.proofs.Common.{◌≡◌, ℕ, zero, suc, ◌<◌, ◌≤◌, Bool, false, List, [], ◌∷◌, length, map, get_or, refl, sym, ap, ◌∙◌, subst, arith}
use Rattle.std.specs.List.{zip}
use Rattle.sources.specs.declared.table.Slot.{Slot}
use Rattle.sources.specs.Flags.{Flags}
use Rattle.sources.specs.Slots.{slot_of, words_in, SlotsFlagged}

pub words_kept : (ws : List ℕ) (bs : List Bool) → length ws ≤ length bs → words_in (map slot_of (zip ws bs)) ≡ ws
words_kept [] bs h = refl
words_kept (w ∷ ws) [] h = absurd (omega arith)
words_kept (w ∷ ws) (b ∷ bs) h = ap (λ xs. w ∷ xs) (words_kept ws bs (omega arith))

flag_kept : (ws : List ℕ) (bs : List Bool) (k : ℕ) → k < length ws → length ws ≤ length bs → get_or (map (λ (s : Slot). s.begins) (map slot_of (zip ws bs))) k false ≡ get_or bs k false
flag_kept [] bs k l h = absurd (omega arith)
flag_kept (w ∷ ws) [] k l h = absurd (omega arith)
flag_kept (w ∷ ws) (b ∷ bs) zero l h = refl
flag_kept (w ∷ ws) (b ∷ bs) (suc k) l h = flag_kept ws bs k (omega arith) (omega arith)

pub flags_kept : (ws : List ℕ) (bs : List Bool) → length ws ≤ length bs → Flags ws bs → SlotsFlagged (map slot_of (zip ws bs))
flags_kept ws bs h f =
    let e = words_kept ws bs h in
    subst (λ (x : List ℕ). Flags x (map (λ (s : Slot). s.begins) (map slot_of (zip ws bs)))) (sym e) (λ k l. flag_kept ws bs k l h ∙ f k l)
