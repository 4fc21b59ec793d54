-- The reading of a free list, one run further.
use Rattle.std.proofs.Common.{◌≡◌, ℕ, ◌+◌, ◌<◌, List, [], ◌∷◌, ◌++◌, Some, None, Ok, Err, Result, sym, refl, ◌∙◌, subst}
use Rattle.free_list.specs.declared.runs.Break.{Break}
use Rattle.free_list.specs.declared.runs.Found.{Found}
use Rattle.free_list.specs.declared.runs.Runs.{Runs}
use Rattle.free_list.specs.Walks.{GivesRun}
use Rattle.free_list.specs.Free.{proper, broken, Run, span, Next, Ending, Ends, Free, Reach, Smaller, Walked, NoFit}

-- one run more at the end of the reading
pub reach_push : (w : List ℕ) (p e : ℕ) (front : List Run) (q f a s : ℕ)
    → Reach w p e front q f → Next w q f a s → Reach w p e (front ++ span a s ∷ []) a (a + s)
reach_push w p e [] q f a s r next =
    let P : ℕ → Type 0 = λ x. Next w x e a s in
    let Q : ℕ → Type 0 = λ x. Next w q x a s in
    (subst P (sym r.0) (subst Q (sym r.1) next), (refl, refl))
reach_push w p e (span b t ∷ front) q f a s r next = (r.0, reach_push w b (b + t) front q f a s r.1 next)

pub smaller_push : (n : ℕ) (front : List Run) (a s : ℕ) → Smaller n front → s < n → Smaller n (front ++ span a s ∷ [])
smaller_push n [] a s h less = (less, tt)
smaller_push n (span b t ∷ front) a s h less = (h.0, smaller_push n front a s h.1 less)

-- what is read up to a word, and then from that word on
pub reach_free : (w : List ℕ) (p e : ℕ) (front : List Run) (q f : ℕ) (back : List Run) (ending : Ending)
    → Reach w p e front q f → Free w q f back ending → Free w p e (front ++ back) ending
reach_free w p e [] q f back ending r free =
    let P : ℕ → Type 0 = λ x. Free w x e back ending in
    let Q : ℕ → Type 0 = λ x. Free w q x back ending in
    subst P (sym r.0) (subst Q (sym r.1) free)
reach_free w p e (span b t ∷ front) q f back ending r free =
    (r.0, reach_free w b (b + t) front q f back ending r.1 free)

pub reach_ends : (w : List ℕ) (p e : ℕ) (front : List Run) (q f : ℕ) (ending : Ending)
    → Reach w p e front q f → Ends w q f ending → Free w p e front ending
reach_ends w p e [] q f ending r ends =
    let P : ℕ → Type 0 = λ x. Ends w x e ending in
    let Q : ℕ → Type 0 = λ x. Ends w q x ending in
    subst P (sym r.0) (subst Q (sym r.1) ends)
reach_ends w p e (span b t ∷ front) q f ending r ends = (r.0, reach_ends w b (b + t) front q f ending r.1 ends)

pub walked_more : {w : List ℕ} {n p e a s : ℕ} → Walked w n p e → Next w p e a s → s < n → Walked w n a (a + s)
walked_more {w} {n} {p} {e} {a} {s} v next less = record {
  front = v.front ++ span a s ∷ [];
  reads = reach_push w 0 1 v.front p e a s v.reads next;
  small = smaller_push n v.front a s v.small less;
}

pub walked_ends : {w : List ℕ} {n p e : ℕ} (ending : Ending) → Walked w n p e → Ends w p e ending → NoFit w n ending
walked_ends {w} {n} {p} {e} ending v ends = record {
  runs = v.front;
  reads = reach_ends w 0 1 v.front p e ending v.reads ends;
  small = v.small;
}

-- the walk s along the words w has come over runs of fewer than n words
abbrev pub Passed : List ℕ → ℕ → Runs → Type 0
Passed w n s = (s.words.now ≡ w) × Walked w n s.link_at s.end

pub passed_run : {w : List ℕ} {n : ℕ} (s t : Runs) {r : Result Found Break} {f : Found} → r ≡ Ok f → GivesRun s (Some r) t → f.size < n
    → Passed w n s → Passed w n t
passed_run {w} {n} s t {r} {f} is gave less passed =
    let g : GivesRun s (Some (Ok f)) t = subst (λ (x : Result Found Break). GivesRun s (Some x) t) is gave in
    let next : Next w s.link_at s.end f.run f.size = subst (λ (x : List ℕ). Next x s.link_at s.end f.run f.size) passed.0 g.1 in
    (g.2 ∙ passed.0, rw (g.3, g.4) (walked_more passed.1 next less))

pub passed_broken : {w : List ℕ} {n : ℕ} (s t : Runs) {r : Result Found Break} {b : Break} → r ≡ Err b → GivesRun s (Some r) t
    → Passed w n s → NoFit w n (broken b.at)
passed_broken {w} {n} s t {r} {b} is gave passed =
    let g : GivesRun s (Some (Err b)) t = subst (λ (x : Result Found Break). GivesRun s (Some x) t) is gave in
    walked_ends (broken b.at) passed.1 (subst (λ (x : List ℕ). Ends x s.link_at s.end (broken b.at)) passed.0 (g.0, g.1))

pub passed_all : {w : List ℕ} {n : ℕ} (s t : Runs) → GivesRun s None t → Passed w n s → NoFit w n proper
passed_all {w} {n} s t gave passed =
    walked_ends proper passed.1 (subst (λ (x : List ℕ). Ends x s.link_at s.end proper) passed.0 gave)
