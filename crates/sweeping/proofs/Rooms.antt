-- After a sweep there is a run of n words exactly where n neighbouring words are unmarked.
use Rattle.std.proofs.Common.{◌≡◌, ℕ, ◌+◌, ◌<◌, ◌≤◌, List, [], ◌∷◌, length, sym, subst, ⊎_elim, arith}
use Rattle.std.proofs.lemmas.Bool.{cases_lt}
use Rattle.free_list.specs.Free.{Run, span, Next, proper, broken, Free, Reach, Smaller, FirstFit, NoFit}
use Rattle.free_list.proofs.Once.{next_once, next_moved, free_at, ends_next, free_once}
use Rattle.sweeping.specs.Sweeping.{IsFree, Stretch, Stretches, Swept}
use Rattle.sweeping.specs.Room.{Room}
use Rattle.sweeping.specs.Laws.{RoomLaw}

-- n neighbouring unmarked words lie in one stretch
none_large : (m : List ℕ) (e n : ℕ) (runs : List Run) (a : ℕ) → 1 ≤ n → e ≤ a → a + n ≤ length m
    → ((k : ℕ) → a ≤ k → k < a + n → IsFree m k) → Stretches m e runs → Smaller n runs → ⊥
none_large m e n [] a some past within free all h = free a (omega arith) (omega arith) (all a past (omega arith))
none_large m e n (span b t ∷ runs) a some past within free all h =
    ⊎_elim
    (λ l. free a (omega arith) (omega arith) (all.2 a past l))
    (λ g. ⊎_elim
    (λ l. free (b + t) (omega arith) (omega (arith, h.0)) (all.0.last (omega (arith, h.0))))
    (λ beyond. none_large m (b + t) n runs a some beyond within free all.3 h.1)
    (cases_lt a (b + t)))
    (cases_lt a b)

-- a run that is found is a stretch
found_stretch : (v m : List ℕ) (p e f : ℕ) (front runs : List Run) (q g a s : ℕ) → Reach v p e front q g → Next v q g a s
    → Free v p e runs proper → Stretches m f runs → Stretch m a s
found_stretch v m p e f [] [] q g a s r next free all = absurd (ends_next v p e a s proper free (next_moved v p e q g a s r next))
found_stretch v m p e f [] (span b t ∷ runs) q g a s r next free all =
    let same = next_once v p e a s b t (next_moved v p e q g a s r next) free.0 in
    let P : ℕ → Type 0 = λ x. Stretch m x t in
    let Q : ℕ → Type 0 = λ x. Stretch m a x in
    subst Q (sym same.1) (subst P (sym same.0) all.0)
found_stretch v m p e f (span b t ∷ front) [] q g a s r next free all = absurd (ends_next v p e b t proper free r.0)
found_stretch v m p e f (span b t ∷ front) (span c u ∷ runs) q g a s r next free all =
    let same = next_once v p e b t c u r.0 free.0 in
    found_stretch v m b (b + t) (c + u) front runs q g a s r.1 next (free_at v b t c u runs proper same free.1) all.3

pub never_broken : {w m v : List ℕ} {n q : ℕ} → Swept w m v → NoFit v n (broken q) → ⊥
never_broken {w} {m} {v} {n} {q} swept fit =
    let same = (free_once v 0 1 swept.runs fit.runs proper (broken q) swept.list fit.reads).1 in
    let z : ◌≡◌ {A = ℕ} 0 1 = cc in
    omega arith

pub no_room : {w m v : List ℕ} {n : ℕ} → Swept w m v → 1 ≤ n → NoFit v n proper → Room m n → ⊥
no_room {w} {m} {v} {n} swept some fit room =
    let same = (free_once v 0 1 fit.runs swept.runs proper proper fit.reads swept.list).0 in
    let P : List Run → Type 0 = λ runs. Smaller n runs in
    none_large m 1 n swept.runs room.at some room.there room.within room.free swept.stretches (subst P same fit.small)

pub room : {w m v : List ℕ} {n p a s : ℕ} → Swept w m v → FirstFit v n p a s → Room m n
room {w} {m} {v} {n} {p} {a} {s} swept fit =
    let stretch = found_stretch v m 0 1 1 fit.walked.front swept.runs p fit.before a s fit.walked.reads fit.next swept.list swept.stretches in
    record {
      at = a;
      there = stretch.there;
      within = omega (arith, stretch.within, fit.enough);
      free = λ k l h. stretch.free k l (omega (arith, fit.enough));
    }

pub room_law : RoomLaw
room_law = record {
  sound = λ swept fit. never_broken swept fit;
  full = λ swept some fit place. no_room swept some fit place;
  room = λ swept fit. room swept fit;
}
