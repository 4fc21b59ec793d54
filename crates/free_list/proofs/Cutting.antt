-- The free list after a cell is cut from one of its runs.
use Rattle.std.proofs.Common.{◌≡◌, ℕ, ◌+◌, ◌-◌, ◌<◌, ◌≤◌, List, [], ◌∷◌, ◌++◌, length, replicate, get_or, set, sym, ap, ◌∙◌, subst, ⊎_elim, arith, rules}
use Rattle.std.proofs.Math.Nat.{eq-or-lt_of_le}
use Rattle.std.proofs.lemmas.Bool.{cases_lt}
use Rattle.std.proofs.lemmas.List.{places, get_or-set_same, get_or-set_other, length-set, length-replicate}
use Rattle.std.proofs.lemmas.List.Edits.{paste_all}
use Rattle.std.proofs.lemmas.Slice.{put_mid-paste}
use borrow.Rule.Slice.PartMut.{put_mid}
use Rattle.free_list.specs.Free.{size_of, link_of, runWord, Run, span, Next, Ending, proper, broken, Ends, Free, Reach, FirstFit}
use Rattle.free_list.specs.Cells.{zeroed, unlinked, shortened, Cut, ListAfter}
use Rattle.free_list.proofs.Walk.{reach_free}

-- the addresses of a reading rise
pub reach_rises : (w : List ℕ) (p e : ℕ) (front : List Run) (q f : ℕ) → Reach w p e front q f → p < e → (p ≤ q) × (q < f)
reach_rises w p e [] q f r h = (omega (arith, r.0), omega (arith, r.0, r.1))
reach_rises w p e (span a s ∷ front) q f r h =
    let more : (a ≤ q) × (q < f) = reach_rises w a (a + s) front q f r.1 (omega (arith, r.0.some)) in
    (omega (arith, r.0.past), more.1)

pub fit_behind : {w : List ℕ} {n p a s : ℕ} → FirstFit w n p a s → p < a
fit_behind {w} {n} {p} {a} {s} fit =
    let b = reach_rises w 0 1 fit.walked.front p fit.before fit.walked.reads (omega arith) in
    omega (arith, b.1, fit.next.past)

-- what stands in the words after n words from `at` on are 0
zeroed_length : (w : List ℕ) (at n : ℕ) → at + n ≤ length w → length (zeroed w at n) ≡ length w
zeroed_length w at n h = search (rules, places)

zeroed_below : (w : List ℕ) (at n k : ℕ) → at + n ≤ length w → k < at → get_or (zeroed w at n) k 0 ≡ get_or w k 0
zeroed_below w at n k h l = grind (arith, places)

zeroed_in : (w : List ℕ) (at n k : ℕ) → at + n ≤ length w → at ≤ k → k < at + n → get_or (zeroed w at n) k 0 ≡ 0
zeroed_in w at n k h l m = grind (arith, places)

zeroed_above : (w : List ℕ) (at n k : ℕ) → at + n ≤ length w → at + n ≤ k → get_or (zeroed w at n) k 0 ≡ get_or w k 0
zeroed_above w at n k h l = grind (arith, places)

-- v is as long as w, and has its words from e on
record Same (w v : List ℕ) (e : ℕ) : Type 0 where
  long : length v ≡ length w
  from : (k : ℕ) → e ≤ k → get_or v k 0 ≡ get_or w k 0

same_later : {w v : List ℕ} {e : ℕ} (f : ℕ) → Same w v e → e ≤ f → Same w v f
same_later f same h = record { long = same.long; from = λ k l. same.from k (omega arith) }

-- a run that is read from w past e is read from v, through the same link
next_kept : (w v : List ℕ) (p q e f a s : ℕ) → Same w v e → link_of (get_or v q 0) ≡ link_of (get_or w p 0) → f ≤ e
    → Next w p e a s → Next v q f a s
next_kept w v p q e f a s same link h next =
    let at : get_or v a 0 ≡ get_or w a 0 = same.from a next.past in
    record {
      link = link ∙ next.link;
      there = next.there;
      past = omega (arith, next.past);
      size = ap size_of at ∙ next.size;
      some = next.some;
      within = omega (arith, next.within, same.long);
    }

same_back : {w v : List ℕ} {e : ℕ} → Same w v e → Same v w e
same_back same = record { long = sym same.long; from = λ k h. sym (same.from k h) }

-- an end that is read from w is read from v
ends_kept : (w v : List ℕ) (p e : ℕ) (ending : Ending) → Same w v e → link_of (get_or v p 0) ≡ link_of (get_or w p 0)
    → Ends w p e ending → Ends v p e ending
ends_kept w v p e proper same link ends = link ∙ ends
ends_kept w v p e (broken q) same link ends = (
  ends.0,
  record {
    link = omega (arith, ends.1.link);
    none = λ a s next. ends.1.none a s (next_kept v w p p e e a s (same_back same) (sym link) (omega arith) next);
  },
)

-- the runs that are read from w past e are read from v
free_kept : (w v : List ℕ) (p e : ℕ) (runs : List Run) (ending : Ending) → Same w v e
    → link_of (get_or v p 0) ≡ link_of (get_or w p 0) → Free w p e runs ending → Free v p e runs ending
free_kept w v p e [] ending same link free = ends_kept w v p e ending same link free
free_kept w v p e (span a s ∷ runs) ending same link free = (
  next_kept w v p p e e a s same link (omega arith) free.0,
  free_kept w v a (a + s) runs ending (same_later (a + s) same (omega (arith, free.0.past)))
      (ap link_of (same.from a free.0.past)) free.1,
)

-- the same from another word with that link, and past an earlier end, if the end is read there too
free_moved : (w v : List ℕ) (p q e f : ℕ) (runs : List Run) (ending : Ending) → Same w v e
    → link_of (get_or v q 0) ≡ link_of (get_or w p 0) → f ≤ e → (Ends w p e ending → Ends v q f ending)
    → Free w p e runs ending → Free v q f runs ending
free_moved w v p q e f [] ending same link h last free = last free
free_moved w v p q e f (span a s ∷ runs) ending same link h last free = (
  next_kept w v p q e f a s same link h free.0,
  free_kept w v a (a + s) runs ending (same_later (a + s) same (omega (arith, free.0.past)))
      (ap link_of (same.from a free.0.past)) free.1,
)

-- v is as long as w, and up to word q the same but for the link of q
record Like (w v : List ℕ) (q : ℕ) : Type 0 where
  long : length v ≡ length w
  links : (k : ℕ) → k < q → link_of (get_or v k 0) ≡ link_of (get_or w k 0)
  sizes : (k : ℕ) → k ≤ q → size_of (get_or v k 0) ≡ size_of (get_or w k 0)

-- the runs that are read from w up to the link in word q are read from v
reach_kept : (w v : List ℕ) (p e : ℕ) (front : List Run) (q f : ℕ) → Like w v q → p < e
    → Reach w p e front q f → Reach v p e front q f
reach_kept w v p e [] q f like h r = r
reach_kept w v p e (span a s ∷ front) q f like h r =
    let up : (a ≤ q) × (q < f) = reach_rises w a (a + s) front q f r.1 (omega (arith, r.0.some)) in (
      record {
        link = like.links p (omega (arith, up.0, r.0.past)) ∙ r.0.link;
        there = r.0.there;
        past = r.0.past;
        size = like.sizes a up.0 ∙ r.0.size;
        some = r.0.some;
        within = omega (arith, like.long, r.0.within);
      },
      reach_kept w v a (a + s) front q f like (omega (arith, r.0.some)) r.1,
    )

-- the halves of a word that is made of two halves
pub link_made : (s l : ℕ) → l < 65536 → link_of (runWord s l) ≡ l
link_made s l h = omega arith

pub size_made : (s l : ℕ) → l < 65536 → size_of (runWord s l) ≡ s
size_made s l h = omega arith

pub link_small : (x : ℕ) → link_of x < 65536
link_small x = omega arith

-- a word made of two numbers that are halves
pub made_of : (x s l : ℕ) → x ≡ runWord (link_of s) (link_of l) → s < 65536 → l < 65536 → x ≡ runWord s l
made_of x s l made h g = omega arith

sizes_at : (w v : List ℕ) (q k : ℕ) → k ≡ q → size_of (get_or v q 0) ≡ size_of (get_or w q 0) → size_of (get_or v k 0) ≡ size_of (get_or w k 0)
sizes_at w v q k same h = let P : ℕ → Type 0 = λ j. size_of (get_or v j 0) ≡ size_of (get_or w j 0) in subst P (sym same) h

-- an end at the link of the run at a, which is no broken one, is read through a link that is the same
last_kept : (w v : List ℕ) (p a s e : ℕ) (ending : Ending) → link_of (get_or v p 0) ≡ link_of (get_or w a 0)
    → (ending ≡ broken a → ⊥) → Ends w a (a + s) ending → Ends v p e ending
last_kept w v p a s e proper link other ends = link ∙ ends
last_kept w v p a s e (broken q) link other ends = absurd (other (ap broken ends.0))

-- a run that is used up is gone from the list
whole_gone : (w : List ℕ) (p a s : ℕ) (front back : List Run) (e : ℕ) (ending : Ending) → (ending ≡ broken a → ⊥)
    → Reach w 0 1 front p e → Next w p e a s → Free w a (a + s) back ending
    → Free (zeroed (unlinked w p a) a s) 0 1 (front ++ back) ending
whole_gone w p a s front back e ending other r next free =
    let u = unlinked w p a in
    let v = zeroed u a s in
    let x = runWord (size_of (get_or w p 0)) (link_of (get_or w a 0)) in
    let up : (0 ≤ p) × (p < e) = reach_rises w 0 1 front p e r (omega arith) in
    let behind : p < a = omega (arith, up.1, next.past) in
    let long-u : length u ≡ length w = length-set w p x in
    let fits : a + s ≤ length u = omega (arith, next.within) in
    let long : length v ≡ length w = zeroed_length u a s fits ∙ long-u in
    let at_p : get_or v p 0 ≡ x = zeroed_below u a s p fits behind ∙ get_or-set_same w p x 0 (omega (arith, next.within)) in
    let link-p : link_of (get_or v p 0) ≡ link_of (get_or w a 0) = ap link_of at_p ∙ link_made _ _ (link_small (get_or w a 0)) in
    let size-p : size_of (get_or v p 0) ≡ size_of (get_or w p 0) = ap size_of at_p ∙ size_made _ _ (link_small (get_or w a 0)) in
    let low : (k : ℕ) → k < p → get_or v k 0 ≡ get_or w k 0 =
    λ k h. zeroed_below u a s k fits (omega arith) ∙ get_or-set_other w p k x 0 (omega arith) in
    let like : Like w v p = record {
      long = long;
      links = λ k h. ap link_of (low k h);
      sizes = λ k h. ⊎_elim (λ same. sizes_at w v p k same size-p) (λ l. ap size_of (low k l)) (eq-or-lt_of_le h);
    } in
    let same : Same w v (a + s) = record {
      long = long;
      from = λ k h. zeroed_above u a s k fits h ∙ get_or-set_other w p k x 0 (omega arith);
    } in
    reach_free v 0 1 front p e back ending
    (reach_kept w v 0 1 front p e like (omega arith) r)
    (free_moved w v a p (a + s) e back ending same link-p (omega (arith, next.past)) (last_kept w v p a s e ending link-p other) free)

-- an end at the link of the run at a is read past an earlier end f, where the words from f on up to e are 0
last_shorter : (w v : List ℕ) (a f e : ℕ) (ending : Ending) → Same w v e → link_of (get_or v a 0) ≡ link_of (get_or w a 0)
    → ((k : ℕ) → f ≤ k → k < e → get_or v k 0 ≡ 0) → Ends w a e ending → Ends v a f ending
last_shorter w v a f e proper same link zeros ends = link ∙ ends
last_shorter w v a f e (broken q) same link zeros ends = (
  ends.0,
  record {
    link = omega (arith, ends.1.link);
    none = λ b t next. ⊎_elim
        (λ l. empty (get_or v b 0) t (zeros b next.past l) next.size next.some)
        (λ g. ends.1.none b t (record {
          link = sym link ∙ next.link;
          there = next.there;
          past = g;
          size = ap size_of (sym (same.from b g)) ∙ next.size;
          some = next.some;
          within = omega (arith, next.within, same.long);
        }))
        (cases_lt b e);
  },
)
  where
    empty : (x t : ℕ) → x ≡ 0 → size_of x ≡ t → 1 ≤ t → ⊥
    empty x t e₁ e₂ h = omega arith

-- a run that is not used up is shorter
part_shorter : (w : List ℕ) (p a s n : ℕ) (front back : List Run) (e : ℕ) (ending : Ending) → n < s
    → Reach w 0 1 front p e → Next w p e a s → Free w a (a + s) back ending
    → Free (zeroed (shortened w a (s - n)) (a + (s - n)) n) 0 1 (front ++ span a (s - n) ∷ back) ending
part_shorter w p a s n front back e ending less r next free =
    let left = s - n in
    let u = shortened w a left in
    let v = zeroed u (a + left) n in
    let x = runWord left (link_of (get_or w a 0)) in
    let up : (0 ≤ p) × (p < e) = reach_rises w 0 1 front p e r (omega arith) in
    let behind : p < a = omega (arith, up.1, next.past) in
    let long-u : length u ≡ length w = length-set w a x in
    let fits : (a + (s - n)) + n ≤ length u = omega (arith, next.within) in
    let long : length v ≡ length w = zeroed_length u (a + left) n fits ∙ long-u in
    let at_a : get_or v a 0 ≡ x = zeroed_below u (a + left) n a fits (omega arith) ∙ get_or-set_same w a x 0 (omega (arith, next.within, next.some)) in
    let link-a : link_of (get_or v a 0) ≡ link_of (get_or w a 0) = ap link_of at_a ∙ link_made _ _ (link_small (get_or w a 0)) in
    let size-a : size_of (get_or v a 0) ≡ s - n = ap size_of at_a ∙ size_made _ _ (link_small (get_or w a 0)) in
    let low : (k : ℕ) → k < a → get_or v k 0 ≡ get_or w k 0 =
    λ k h. zeroed_below u (a + left) n k fits (omega arith) ∙ get_or-set_other w a k x 0 (omega arith) in
    let like : Like w v p = record {
      long = long;
      links = λ k h. ap link_of (low k (omega arith));
      sizes = λ k h. ap size_of (low k (omega arith));
    } in
    let same : Same w v (a + s) = record {
      long = long;
      from = λ k h. zeroed_above u (a + left) n k fits (omega arith) ∙ get_or-set_other w a k x 0 (omega arith);
    } in
    let shorter : Next v p e a (s - n) = record {
      link = ap link_of (low p behind) ∙ next.link;
      there = next.there;
      past = next.past;
      size = size-a;
      some = omega arith;
      within = omega (arith, next.within);
    } in
    reach_free v 0 1 front p e (span a (s - n) ∷ back) ending
    (reach_kept w v 0 1 front p e like (omega arith) r) (
      shorter,
      free_moved w v a a (a + s) (a + (s - n)) back ending same link-a (omega arith)
          (last_shorter w v a (a + (s - n)) (a + s) ending same link-a
          (λ k g l. zeroed_in u (a + left) n k fits g (omega arith)))
          free,
    )

pub list_after : (w : List ℕ) (p a s n : ℕ) (v : List ℕ) → Cut w p a s n v → ListAfter w p a s n v
list_after w p a s n v cut = record {
  whole = λ front back e ending same other r next free.
      let F : List ℕ → Type 0 = λ x. Free x 0 1 (front ++ back) ending in
      let G : ℕ → Type 0 = λ m. F (zeroed (unlinked w p a) a m) in
      subst F (sym (cut.whole same)) (subst G same (whole_gone w p a s front back e ending other r next free));
  part = λ front back e ending less r next free.
      let F : List ℕ → Type 0 = λ x. Free x 0 1 (front ++ span a (s - n) ∷ back) ending in
      subst F (sym (cut.part less)) (part_shorter w p a s n front back e ending less r next free);
}

-- what the code writes, in its two cases
pub cut_whole : (w u v : List ℕ) (p a s n x size link : ℕ) → s - n ≡ 0 → n ≤ s → size ≡ size_of (get_or w p 0)
    → link ≡ link_of (get_or w a 0) → x ≡ runWord size link → u ≡ set w p x → v ≡ zeroed u (a + (s - n)) n → Cut w p a s n v
cut_whole w u v p a s n x size link none h sz lk made wrote cleared =
    let at : a + (s - n) ≡ a = omega arith in
    let x-is : x ≡ runWord (size_of (get_or w p 0)) (link_of (get_or w a 0)) = cc in
    record {
      whole = λ same. cleared ∙ ap (λ (i : ℕ). zeroed u i n) at ∙ ap (λ (y : List ℕ). zeroed y a n) (wrote ∙ ap (λ (y : ℕ). set w p y) x-is);
      part = λ less. absurd (omega arith);
    }

pub cut_part : (w u v : List ℕ) (p a s n x link : ℕ) → (s - n ≡ 0 → ⊥) → link ≡ link_of (get_or w a 0)
    → x ≡ runWord (s - n) link → u ≡ set w a x → v ≡ zeroed u (a + (s - n)) n → Cut w p a s n v
cut_part w u v p a s n x link some lk made wrote cleared =
    let x-is : x ≡ runWord (s - n) (link_of (get_or w a 0)) = made ∙ ap (λ (l : ℕ). runWord (s - n) l) lk in
    record {
      whole = λ same. absurd (some (omega arith));
      part = λ less. cleared ∙ ap (λ (y : List ℕ). zeroed y (a + (s - n)) n) (wrote ∙ ap (λ (y : ℕ). set w a y) x-is);
    }

-- n zeros, written from `at` on
pub filled : (w : List ℕ) (at n : ℕ) (ys : List ℕ) → ys ≡ replicate n 0 → put_mid at ((at + n) - at) w ys ≡ zeroed w at n
filled w at n ys is =
    let zeros : List ℕ = replicate n 0 in
    let all : n ≡ length zeros = sym (length-replicate n 0) in
    put_mid-paste at ((at + n) - at) w ys zeros n is (omega arith) all ∙ paste_all w at zeros n all
