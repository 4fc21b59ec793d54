-- A sweep from the last word down.
use Rattle.std.proofs.Common.{◌≡◌, ℕ, ◌+◌, ◌-◌, ◌<◌, ◌≤◌, ◌⊎◌, List, [], ◌∷◌, ◌++◌, length, get_or, drop, take, set, sym, refl, ap, ◌∙◌, subst, ⊎_elim, arith}
use Rattle.std.proofs.Math.Nat.{eq-zero-or-pos}
use Rattle.std.proofs.lemmas.Bool.{cases_lt}
use Rattle.std.proofs.lemmas.List.{get_or-set_same, get_or-set_other, length-set, length-append, drop_all, take-take, get_or-take}
use Rattle.std.proofs.Math.Seq.{take-length, take-append_seam, get_or-append_seam}
use Rattle.scan.specs.Marks.{IsMarked, unmarked}
use Rattle.free_list.specs.Free.{size_of, link_of, runWord, Run, span, proper, Free}
use Rattle.sweeping.specs.Sweeping.{IsFree, Stretch, Stretches, NoStart, Swept, Closed}
use Rattle.free_list.proofs.Cutting.{link_made, size_made, made_of}
use Rattle.sweeping.proofs.Counts.{count_marked, count_unmarked_lem}

-- the runs from the one at h on, all of them from word e on
abbrev pub Chain : List ℕ → ℕ → ℕ → List Run → Type 0
Chain w h e [] = h ≡ 0
Chain w h e (span a s ∷ runs) =
    (h ≡ a) × (e ≤ a) × (1 ≤ a) × (size_of (get_or w a 0) ≡ s) × (1 ≤ s) × (a + s ≤ length w) × Chain w (link_of (get_or w a 0)) (a + s) runs

-- that is the free list behind a link to h
pub chain_free : (w : List ℕ) (p h e : ℕ) (runs : List Run) → link_of (get_or w p 0) ≡ h → Chain w h e runs → Free w p e runs proper
chain_free w p h e [] link c = link ∙ c
chain_free w p h e (span a s ∷ runs) link c = (
  record { link = link ∙ c.0; there = c.2; past = c.1; size = c.3; some = c.4; within = c.5 },
  chain_free w a (link_of (get_or w a 0)) (a + s) runs refl c.6,
)

-- it reads only words from e on
pub chain_kept : (w v : List ℕ) (h e : ℕ) (runs : List Run) → length v ≡ length w
    → ((k : ℕ) → e ≤ k → get_or v k 0 ≡ get_or w k 0) → Chain w h e runs → Chain v h e runs
chain_kept w v h e [] long same c = c
chain_kept w v h e (span a s ∷ runs) long same c =
    let at : get_or v a 0 ≡ get_or w a 0 = same a c.1 in
    let P : ℕ → Type 0 = λ x. Chain v x (a + s) runs in (
      c.0,
      c.1,
      c.2,
      ap size_of at ∙ c.3,
      c.4,
      omega (arith, long, c.5),
      subst P (ap link_of (sym at)) (chain_kept w v (link_of (get_or w a 0)) (a + s) runs long (λ k l. same k (omega (arith, c.1))) c.6),
    )

pub chain_down : (w : List ℕ) (h e f : ℕ) (runs : List Run) → f ≤ e → Chain w h e runs → Chain w h f runs
chain_down w h e f [] l c = c
chain_down w h e f (span a s ∷ runs) l c = (c.0, omega (arith, c.1), c.2, c.3, c.4, c.5, c.6)

here_or_past : (k a : ℕ) → a ≤ k → (k ≡ a) ⊎ (a + 1 ≤ k)
here_or_past k a h = grind arith

at_marked : (m : List ℕ) (a k : ℕ) → k ≡ a → IsMarked m a → IsMarked m k
at_marked m a k e h = let P : ℕ → Type 0 = λ j. IsMarked m j in subst P (sym e) h

at_unmarked : (m : List ℕ) (a k : ℕ) → k ≡ a → IsFree m a → IsFree m k
at_unmarked m a k e h = let P : ℕ → Type 0 = λ j. IsFree m j in subst P (sym e) h

-- one more marked word before the stretches
pub stretches_down : (m : List ℕ) (a : ℕ) (runs : List Run) → IsMarked m a → Stretches m (a + 1) runs → Stretches m a runs
stretches_down m a [] marked s = λ k l h. ⊎_elim (λ here. at_marked m a k here marked) (λ past. s k past h) (here_or_past k a l)
stretches_down m a (span b t ∷ runs) marked s = (
  s.0,
  omega (arith, s.1),
  (λ k l h. ⊎_elim (λ here. at_marked m a k here marked) (λ past. s.2 k past h) (here_or_past k a l)),
  s.3,
)

-- of the words w₀, those from e on are swept: w is what is left, and `next` the first run
pub record Partly (w₀ m w : List ℕ) (next e : ℕ) : Type 0 where
  pub runs : List Run
  pub stretches : Stretches m e runs
  pub chain : Chain w next e runs
  pub low : (k : ℕ) → k < e → get_or w k 0 ≡ get_or w₀ k 0
  pub others : (k : ℕ) → NoStart k runs → get_or w k 0 ≡ get_or w₀ k 0
  pub long : length w ≡ length w₀
  pub small : next < length w

pub partly_down : (w₀ m w : List ℕ) (next a : ℕ) → IsMarked m a → Partly w₀ m w next (a + 1) → Partly w₀ m w next a
partly_down w₀ m w next a marked d = record {
  runs = d.runs;
  stretches = stretches_down m a d.runs marked d.stretches;
  chain = chain_down w next (a + 1) a d.runs (omega arith) d.chain;
  low = λ k h. d.low k (omega arith);
  others = d.others;
  long = d.long;
  small = d.small;
}

-- the stretch before them becomes the first run
partly_made : (w₀ m w : List ℕ) (next a s : ℕ) → 1 ≤ s → Stretch m a s → length m ≡ length w → length w ≤ 65536
    → Partly w₀ m w next (a + s) → Partly w₀ m (set w a (runWord s next)) a a
partly_made w₀ m w next a s some stretch lm lw d =
    let x = runWord s next in
    let v = set w a x in
    let long : length v ≡ length w = length-set w a x in
    let inside : a < length w = omega (arith, stretch.within) in
    let at_a : get_or v a 0 ≡ x = get_or-set_same w a x 0 inside in
    let fits : next < 65536 = omega (arith, d.small) in
    let other : (k : ℕ) → (k ≡ a → ⊥) → get_or v k 0 ≡ get_or w k 0 = λ k ne. get_or-set_other w a k x 0 ne in
    let P : ℕ → Type 0 = λ h. Chain v h (a + s) d.runs in
    record {
      runs = span a s ∷ d.runs;
      stretches = (stretch, omega arith, (λ k l h. absurd (omega arith)), d.stretches);
      chain = (
        refl,
        omega arith,
        stretch.there,
        ap size_of at_a ∙ size_made s next fits,
        some,
        omega (arith, stretch.within),
        subst P (sym (ap link_of at_a ∙ link_made s next fits))
            (chain_kept w v next (a + s) d.runs long (λ k h. other k (λ e. absurd (omega arith))) d.chain),
      );
      low = λ k h. other k (λ e. absurd (omega arith)) ∙ d.low k (omega arith);
      others = λ k ap₁. other k ap₁.0 ∙ d.others k ap₁.1;
      long = long ∙ d.long;
      small = omega arith;
    }

-- the whole state of a sweep that has come down to word a, with a stretch of s words open there
pub record State (w₀ m w : List ℕ) (next a s free : ℕ) : Type 0 where
  pub swept : Partly w₀ m w next (a + s)
  pub loose : (k : ℕ) → a ≤ k → k < a + s → IsFree m k
  pub edge : a + s < length m → IsMarked m (a + s)
  pub there : 1 ≤ a
  pub within : a + s ≤ length m
  pub few : free + a ≤ length m
  pub count : free ≡ unmarked (drop a m)

pub state_start : (w m : List ℕ) (n : ℕ) → n ≡ length w → length m ≡ length w → 2 ≤ length w → State w m w 0 n 0 0
state_start w m n at long some = record {
  swept = record {
    runs = [];
    stretches = λ k l h. absurd (omega arith);
    chain = refl;
    low = λ k h. refl;
    others = λ k h. refl;
    long = refl;
    small = omega arith;
  };
  loose = λ k l h. absurd (omega arith);
  edge = λ h. absurd (omega arith);
  there = omega arith;
  within = omega arith;
  few = omega arith;
  count = sym (ap unmarked (drop_all n m (omega arith)));
}

pub state_unmarked : (w₀ m w : List ℕ) (next a b s free : ℕ) → 1 ≤ a → b ≡ a + 1 → IsFree m a
    → State w₀ m w next b s free → State w₀ m w next a (s + 1) (free + 1)
state_unmarked w₀ m w next a b s free there up un open-here =
    let D : ℕ → Type 0 = λ x. State w₀ m w next x s free in
    let d : State w₀ m w next (a + 1) s free = subst D up open-here in
    let same : (a + 1) + s ≡ a + (s + 1) = omega arith in
    let P : ℕ → Type 0 = λ e. Partly w₀ m w next e in
    let Q : ℕ → Type 0 = λ e. e < length m → IsMarked m e in
    record {
      swept = subst P same d.swept;
      loose = λ k l h. ⊎_elim (λ here. at_unmarked m a k here un) (λ past. d.loose k past (omega arith)) (here_or_past k a l);
      edge = subst Q same d.edge;
      there = there;
      within = omega (arith, d.within);
      few = omega (arith, d.few);
      count = count_unmarked_lem m a free (omega (arith, d.within)) un d.count;
    }

-- the open stretch is closed
close_step : (w₀ m w : List ℕ) (next a s free : ℕ) (v : List ℕ) (head : ℕ) → 1 ≤ a → (1 < a → IsMarked m (a - 1))
    → length m ≡ length w → length w ≤ 65536 → Closed w a s next v head → State w₀ m w next a s free → Partly w₀ m v head a
close_step w₀ m w next a s free v head there first lm lw closed d =
    ⊎_elim
    (λ none.
    let e = closed.empty none in
    let P : ℕ → Type 0 = λ x. Partly w₀ m w next x in
    let Q : List ℕ → Type 0 = λ x. Partly w₀ m x next a in
    let R : ℕ → Type 0 = λ x. Partly w₀ m v x a in
    let at : a + s ≡ a = omega arith in
    subst R (sym e.1) (subst Q (sym e.0) (subst P at d.swept)))
    (λ some.
    let e = closed.made some in
    let stretch : Stretch m a s = record
    { there = there; some = some; within = d.within; free = d.loose; first = first; last = d.edge } in
    let Q : List ℕ → Type 0 = λ x. Partly w₀ m x a a in
    let R : ℕ → Type 0 = λ x. Partly w₀ m v x a in
    subst R (sym e.1) (subst Q (sym e.0) (partly_made w₀ m w next a s some stretch lm lw d.swept)))
    (eq-zero-or-pos s)

pub state_marked : (w₀ m w : List ℕ) (next a b s free : ℕ) (v : List ℕ) (head p t : ℕ) → 1 ≤ a → b ≡ a + 1 → IsMarked m a
    → length m ≡ length w → length w ≤ 65536 → p ≡ a + 1 → Closed w p s next v head → t ≡ 0
    → State w₀ m w next b s free → State w₀ m v head a t free
state_marked w₀ m w next a b s free v head p t there up marked lm lw past closed none open-here =
    let D : ℕ → Type 0 = λ x. State w₀ m w next x s free in
    let d : State w₀ m w next (a + 1) s free = subst D up open-here in
    let C : ℕ → Type 0 = λ x. Closed w x s next v head in
    let M : ℕ → Type 0 = λ k. IsMarked m k in
    let P : ℕ → Type 0 = λ e. Partly w₀ m v head e in
    let before : a ≡ (a + 1) - 1 = omega arith in
    let at : a ≡ a + t = omega arith in
    let closed-up = close_step w₀ m w next (a + 1) s free v head (omega arith) (λ h. subst M before marked) lm lw (subst C past closed) d in
    record {
      swept = subst P at (partly_down w₀ m v head a marked closed-up);
      loose = λ k l h. absurd (omega arith);
      edge = λ h. subst M at marked;
      there = there;
      within = omega (arith, d.within);
      few = omega (arith, d.few);
      count = count_marked m a free (omega (arith, d.within)) marked d.count;
    }

pub state_done : (w₀ m w : List ℕ) (next s free : ℕ) (v : List ℕ) (head high x : ℕ) (u : List ℕ) → length m ≡ length w → length w ≤ 65536
    → Closed w 1 s next v head → x ≡ runWord (link_of high) (link_of head) → high ≡ size_of (get_or v 0 0) → high < 65536 → u ≡ set v 0 x
    → State w₀ m w next 1 s free → Swept w₀ m u
state_done w₀ m w next s free v head high x u lm lw closed x-is high_is half u-is d =
    let p = close_step w₀ m w next 1 s free v head (omega arith) (λ h. absurd (omega arith)) lm lw closed d in
    let t = set v 0 x in
    let lw₀ : length w ≡ length w₀ = d.swept.long in
    let lv : length v ≡ length w₀ = p.long in
    let long : length t ≡ length v = length-set v 0 x in
    let fits : head < 65536 = omega (arith, p.small, lv, lw₀) in
    let there : 0 < length v = omega (arith, p.small) in
    let at-0 : get_or t 0 0 ≡ runWord (size_of (get_or v 0 0)) head =
    get_or-set_same v 0 x 0 there ∙ made_of x high head x-is half fits ∙ ap (λ (y : ℕ). runWord y head) high_is in
    let other : (k : ℕ) → 1 ≤ k → get_or t k 0 ≡ get_or v k 0 = λ k h. get_or-set_other v 0 k x 0 (λ e. absurd (omega arith)) in
    let S : List ℕ → Type 0 = λ y. Swept w₀ m y in
    subst S (sym u-is) (record {
      runs = p.runs;
      stretches = p.stretches;
      list = chain_free t 0 head 1 p.runs (ap link_of at-0 ∙ link_made _ head fits) (chain_kept v t head 1 p.runs long other p.chain);
      high = ap size_of at-0 ∙ size_made _ head fits ∙ ap size_of (p.low 0 (omega arith));
      others = λ k h apart. other k h ∙ p.others k apart;
      long = long ∙ lv;
    })

-- of the marks m those before word a are ahead: first all, and then one fewer at each step
pub all_ahead : (m ahead : List ℕ) → ahead ≡ m → ahead ≡ take (length ahead) m
all_ahead m ahead same = sym (take-length ahead) ∙ ap (take (length ahead)) same

pub down_one : (m before after : List ℕ) (x : ℕ) → before ≡ after ++ x ∷ [] → before ≡ take (length before) m
    → (length before ≡ length after + 1) × (after ≡ take (length after) m) × (get_or m (length after) 0 ≡ x)
down_one m before after x last ahead =
    let n = length after in
    let long : length before ≡ n + 1 = ap length last ∙ length-append after (x ∷ []) in
    let rest : take n before ≡ after = ap (take n) last ∙ take-append_seam after (x ∷ []) in
    let here : get_or before n 0 ≡ x = ap (λ (l : List ℕ). get_or l n 0) last ∙ get_or-append_seam after x [] 0 in (
      long,
      sym rest ∙ ap (take n) ahead ∙ take-take n (length before) m (omega arith),
      sym (get_or-take (length before) m n 0 (omega arith)) ∙ ap (λ (l : List ℕ). get_or l n 0) (sym ahead) ∙ here,
    )

pub one_ahead : (a k : ℕ) → k ≡ 1 → 1 ≤ a → (k < a → a ≡ 0) → a ≡ 1
one_ahead a k same some none =
    ⊎_elim
    (λ more. absurd (omega (arith, none more)))
    (λ less. let one : a ≡ 1 = omega arith in one)
    (cases_lt k a)
