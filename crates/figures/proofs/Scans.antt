-- The free lists, the scans and the sweeps of the worked run, written out.
use Rattle.std.proofs.Common.{◌≡◌, ℕ, zero, suc, ◌+◌, ◌-◌, ◌<◌, ◌≤◌, List, [], ◌∷◌, ◌++◌, get_or, replicate, sym, refl, ◌∙◌, arith, lit<, lit≤}
use lib.ListN.{get_or-replicate}
use Rattle.cells.specs.declared.content.Content.TheVariants.{Nothing, Cell}
use Rattle.scan.specs.Marks.{IsMarked}
use Rattle.scan.specs.Children.{cell_visit}
use Rattle.scan.specs.Scan.{Run, pointer, opened, visited, plain, child}
use Rattle.scan.specs.declared.inspector.Nobody.{Nobody}
use Rattle.scan.specs.Endings.{Done}
use Rattle.free_list.specs.Free.{Next, FirstFit, NoFit, proper, span}
use Rattle.marking.specs.Roots.{Roots, takes_all, finished, nothing, scanned}
use Rattle.sweeping.specs.Sweeping.{IsFree, Stretches, NoStart, Swept}
use Rattle.figures.specs.Runs.{types}

zero_one : ◌≡◌ {A = ℕ} 0 1 → ⊥
zero_one e = omega arith

-- a heap of 13 words whose words 1, 7, 11 and 12 are these
abbrev pub heap : ℕ → ℕ → ℕ → ℕ → List ℕ
heap h x y z = 1 ∷ h ∷ 0 ∷ 0 ∷ 0 ∷ 0 ∷ 0 ∷ x ∷ 0 ∷ 0 ∷ 0 ∷ y ∷ z ∷ []

-- the words from a on are marked
abbrev pub from : ℕ → List ℕ
from a = replicate a 0 ++ replicate (13 - a) 1

nobody : Nobody
nobody = record {}

-- the first run has room
pub head_fit : {w : List ℕ} {n s : ℕ} → Next w 0 1 1 s → n ≤ s → FirstFit w n 0 1 s
head_fit next enough = record { before = 1; walked = record { front = []; reads = (refl, refl); small = tt }; next = next; enough = enough }

pub twelve : Next (heap 786432 0 0 0) 0 1 1 12
twelve = record { link = refl; there = lit≤ tt; past = lit≤ tt; size = refl; some = lit≤ tt; within = lit≤ tt }

pub eight : Next (heap 524288 0 0 0) 0 1 1 8
eight = record { link = refl; there = lit≤ tt; past = lit≤ tt; size = refl; some = lit≤ tt; within = lit≤ tt }

pub six : Next (heap 393216 40 6 7) 0 1 1 6
six = record { link = refl; there = lit≤ tt; past = lit≤ tt; size = refl; some = lit≤ tt; within = lit≤ tt }

pub two : Next (heap 131072 40 6 7) 0 1 1 2
two = record { link = refl; there = lit≤ tt; past = lit≤ tt; size = refl; some = lit≤ tt; within = lit≤ tt }

-- no run of 4 words is left
pub none_of_four : NoFit (heap 131072 40 6 7) 4 proper
none_of_four = record { runs = span 1 2 ∷ []; reads = (two, refl); small = (lit< tt, tt) }

module _ (h : ℕ) where
  abbrev w : List ℕ
  w = heap h 40 6 7

  -- the cell of type 6 at 7, and the cell of type 1 at 9 that points to it
  small_scan : Run types w takes_all (pointer 6 7) (from 9) nobody (cell_visit types w 6 7 ∷ []) (from 7) nobody Done
  small_scan = opened zero_one (plain (lit≤ tt) refl (plain (lit≤ tt) refl (visited (lit< tt) refl)))

  joined_scan : Run types w takes_all (pointer 1 9) (replicate 13 0) nobody (cell_visit types w 6 7 ∷ cell_visit types w 1 9 ∷ []) (from 7) nobody Done
  joined_scan =
      opened zero_one
      (plain (lit≤ tt) refl (plain (lit≤ tt) refl
      (child (lit≤ tt) refl small_scan (plain (lit≤ tt) refl (visited (lit< tt) refl)))))

  -- the cell of type 1 at 3
  next_scan : Run types w takes_all (pointer 1 3) (from 7) nobody (cell_visit types w 1 3 ∷ []) (from 3) nobody Done
  next_scan =
      opened zero_one
      (plain (lit≤ tt) refl (plain (lit≤ tt) refl (plain (lit≤ tt) refl (plain (lit≤ tt) refl (visited (lit< tt) refl)))))

  no_roots : (n : ℕ) (m : List ℕ) → Roots types w (replicate n Nothing) m [] m Done
  no_roots zero m = finished
  no_roots (suc n) m = nothing (no_roots n m)

  pub one_held : Roots types w (Cell 1 9 ∷ replicate 63 Nothing) (replicate 13 0) (cell_visit types w 6 7 ∷ cell_visit types w 1 9 ∷ []) (from 7) Done
  one_held = scanned refl joined_scan (no_roots 63 (from 7))

  pub two_held : Roots types w (Cell 1 9 ∷ Cell 1 3 ∷ replicate 62 Nothing) (replicate 13 0) (cell_visit types w 6 7 ∷ cell_visit types w 1 9 ∷ cell_visit types w 1 3 ∷ []) (from 3) Done
  two_held = scanned refl joined_scan (scanned refl next_scan (no_roots 62 (from 3)))

-- the marks from `a` on leave one stretch, of the words 1 to a - 1
marked_from : (a n k : ℕ) → a ≤ k → k < a + n → IsMarked (replicate a 0 ++ replicate n 1) k
marked_from zero n k past within = get_or-replicate n k 1 0 (omega arith)
marked_from (suc a) n zero past within = absurd (omega arith)
marked_from (suc a) n (suc k) past within = marked_from a n k (omega arith) (omega arith)

free_before : (a : ℕ) (ys : List ℕ) (k : ℕ) → k < a → get_or (replicate a 0 ++ ys) k 0 ≡ 0
free_before zero ys k within = absurd (omega arith)
free_before (suc a) ys zero within = refl
free_before (suc a) ys (suc k) within = free_before a ys k (omega arith)

free_at : (a : ℕ) (ys : List ℕ) (k : ℕ) → k < a → IsFree (replicate a 0 ++ ys) k
free_at a ys k within one = zero_one (sym (free_before a ys k within) ∙ one)

stretches_7 : Stretches (from 7) 1 (span 1 6 ∷ [])
stretches_7 = (
  record { there = lit≤ tt; some = lit≤ tt; within = lit≤ tt; free = λ k past before. free_at 7 (replicate 6 1) k before; first = λ l. absurd (omega arith); last = λ l. refl },
  lit≤ tt,
  (λ k past before. absurd (omega arith)),
  λ k past before. marked_from 7 6 k past before,
)

stretches_3 : Stretches (from 3) 1 (span 1 2 ∷ [])
stretches_3 = (
  record { there = lit≤ tt; some = lit≤ tt; within = lit≤ tt; free = λ k past before. free_at 3 (replicate 10 1) k before; first = λ l. absurd (omega arith); last = λ l. refl },
  lit≤ tt,
  (λ k past before. absurd (omega arith)),
  λ k past before. marked_from 3 10 k past before,
)

-- only word 1 is written
others : (h i s k : ℕ) → 1 ≤ k → NoStart k (span 1 s ∷ []) → get_or (heap i 40 6 7) k 0 ≡ get_or (heap h 40 6 7) k 0
others h i s zero past apart = absurd (omega arith)
others h i s (suc zero) past apart = absurd (apart.0 refl)
others h i s (suc (suc k)) past apart = refl

pub swept_to_six : (h : ℕ) → Swept (heap h 40 6 7) (from 7) (heap 393216 40 6 7)
swept_to_six h = record { runs = span 1 6 ∷ []; stretches = stretches_7; list = (six, refl); high = refl; others = others h 393216 6; long = refl }

pub swept_to_two : Swept (heap 131072 40 6 7) (from 3) (heap 131072 40 6 7)
swept_to_two = record { runs = span 1 2 ∷ []; stretches = stretches_3; list = (two, refl); high = refl; others = others 131072 131072 2; long = refl }
