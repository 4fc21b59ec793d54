-- A new cell, cut from the first run that has room.
use Rattle.std.proofs.Common.{◌≡◌, ℕ, ◌+◌, ◌-◌, ◌<◌, ◌≤◌, true, ◌⊎◌, List, [], ◌∷◌, ◌++◌, length, get_or, set, sym, ap, ◌∙◌, subst, inl, inr, arith, rules}
use Rattle.std.proofs.lemmas.Bool.{cases_eq, cases_lt}
use Rattle.std.proofs.lemmas.Bool.Decides.{nat_tests}
use Rattle.std.proofs.lemmas.List.{places}
use Rattle.layouts.specs.Types.{Types, Lawful}
use Rattle.cells.specs.declared.content.Content.TheVariants.{Cell}
use Rattle.cells.specs.Words.{fits}
use Rattle.calls.specs.declared.record.HoldRecord.{HoldRecord}
use Rattle.calls.specs.Holds.{holding}
use Rattle.scan.specs.Children.{width}
use Rattle.scan.proofs.Inside.{inside_fits}
use Rattle.free_list.specs.Free.{size_of, link_of, runWord, Run, span, Next, proper, Free, Reach}
use Rattle.free_list.specs.Cells.{zeroed, unlinked, shortened}
use Rattle.free_list.specs.Taken.{Given}
use Rattle.model.specs.Model.{Model, Reached, code_of, address_of}
use Rattle.model.specs.Agrees.{Covers}
use Rattle.model.specs.Told.{with_new}
use Rattle.model.specs.Spares.{Spare, InRuns, Beside, Stands}
use Rattle.model.proofs.Makes.{Cleared, make_agrees, cases, covers_old, covers_new}

-- one word is written, and then n words are 0
record Wiped (w v : List ℕ) (p c n : ℕ) : Type 0 where
  long : length v ≡ length w
  zero : (q : ℕ) → c ≤ q → q < c + n → get_or v q 0 ≡ 0
  kept : (q : ℕ) → (c ≤ q → q < c + n → ⊥) → (q ≡ p → ⊥) → get_or v q 0 ≡ get_or w q 0

wiped : (w : List ℕ) (p x c n : ℕ) → c + n ≤ length w → Wiped w (zeroed (set w p x) c n) p c n
wiped w p x c n le =
    record {
      long = search (rules, places);
      zero = λ q lo hi. grind (arith, places);
      kept = λ q out other. elim (cases_lt q c) [
        | inl low ↦ grind (arith, places)
        | inr ge ↦ elim (cases_lt q (c + n)) [
          | inl lt ↦ absurd (out ge lt)
          | inr past ↦ grind (arith, places)
        ]
      ];
    }

in_left : (j : ℕ) (xs ys : List Run) → InRuns j xs → InRuns j (xs ++ ys)
in_left j [] ys i = absurd i
in_left j (span a s ∷ xs) ys (inl i) = inl i
in_left j (span a s ∷ xs) ys (inr i) = inr (in_left j xs ys i)

in_right : (j : ℕ) (xs ys : List Run) → InRuns j ys → InRuns j (xs ++ ys)
in_right j [] ys i = i
in_right j (span a s ∷ xs) ys i = inr (in_right j xs ys i)

in_either : (j : ℕ) (xs ys : List Run) → InRuns j (xs ++ ys) → InRuns j xs ⊎ InRuns j ys
in_either j [] ys i = inr i
in_either j (span a s ∷ xs) ys (inl i) = inl (inl i)
in_either j (span a s ∷ xs) ys (inr i) = elim (in_either j xs ys i) [ inl x ↦ inl (inr x) | inr y ↦ inr y ]

-- the link before a run stands in word 0 or in a run
link_in : (w : List ℕ) (p e : ℕ) (front : List Run) (q f : ℕ) → Reach w p e front q f → (q ≡ p) ⊎ InRuns q front
link_in w p e [] q f r = inl (sym r.0)
link_in w p e (span a s ∷ front) q f r =
    elim (link_in w a (a + s) front q f r.1) [
      | inl same ↦ inr (inl (omega arith, omega (arith, r.0.some)))
      | inr i ↦ inr (inr i)
    ]

ends_later : (w : List ℕ) (p e : ℕ) (front : List Run) (q f : ℕ) → Reach w p e front q f → e ≤ f
ends_later w p e [] q f r = omega (arith, r.1)
ends_later w p e (span a s ∷ front) q f r = omega (arith, r.0.past, ends_later w a (a + s) front q f r.1)

front_below : (w : List ℕ) (p e : ℕ) (front : List Run) (q f j : ℕ) → Reach w p e front q f → InRuns j front → j < f
front_below w p e [] q f j r i = absurd i
front_below w p e (span a s ∷ front) q f j r (inl i) = omega (arith, i.1, ends_later w a (a + s) front q f r.1)
front_below w p e (span a s ∷ front) q f j r (inr i) = front_below w a (a + s) front q f j r.1 i

back_above : (w : List ℕ) (p e : ℕ) (back : List Run) (j : ℕ) → Free w p e back proper → InRuns j back → e ≤ j
back_above w p e [] j f i = absurd i
back_above w p e (span a s ∷ back) j f (inl i) = omega (arith, f.0.past, i.0)
back_above w p e (span a s ∷ back) j f (inr i) = omega (arith, f.0.past, back_above w a (a + s) back j f.1 i)

-- the list reads on behind the run that was found
split : (w : List ℕ) (p e : ℕ) (front runs : List Run) (q f a s : ℕ) → Reach w p e front q f → Next w q f a s → Free w p e runs proper → (back : List Run) × (runs ≡ front ++ span a s ∷ back) × Free w a (a + s) back proper
split w p e [] [] q f a s r next x = absurd (omega (arith, ap (λ z. link_of (get_or w z 0)) r.0, x, next.link, next.there))
split w p e [] (span b t ∷ runs) q f a s r next x =
    let at : b ≡ a = sym x.0.link ∙ ap (λ z. link_of (get_or w z 0)) r.0 ∙ next.link in
    let long : t ≡ s = sym x.0.size ∙ ap (λ z. size_of (get_or w z 0)) at ∙ next.size in
    (runs, cc, subst (λ z. Free w a z runs proper) (omega arith) (subst (λ z. Free w z (b + t) runs proper) at x.1))
split w p e (span b t ∷ front) [] q f a s r next x = absurd (omega (arith, x, r.0.link, r.0.there))
split w p e (span b t ∷ front) (span b' t' ∷ runs) q f a s r next x =
    let at : b' ≡ b = sym x.0.link ∙ r.0.link in
    let long : t' ≡ t = sym x.0.size ∙ ap (λ z. size_of (get_or w z 0)) at ∙ r.0.size in
    let on : Free w b (b + t) runs proper = subst (λ z. Free w b z runs proper) (omega arith) (subst (λ z. Free w z (b' + t') runs proper) at x.1) in
    let d = split w b (b + t) front runs q f a s r.1 next on in
    let is = d.1 in
    (d.0, cc, d.2)

module _ (t : Types) (b : Model) (w v : List ℕ) (rs : List HoldRecord) (h code a : ℕ) (law : Lawful t) (st : Stands t b w rs) (g : Given w (width t code) v a) where
  n : ℕ
  n = width t code

  front : List Run
  front = g.first.walked.front

  parts : (back : List Run) × (st.beside.runs ≡ front ++ span g.run g.size ∷ back) × Free w g.run (g.run + g.size) back proper
  unfolding front
  parts = split w 0 1 g.first.walked.front st.beside.runs g.link g.first.before g.run g.size g.first.walked.reads g.first.next st.beside.reads

  -- what lay in the runs lies in no reached cell
  spare : (j : ℕ) → InRuns j front ⊎ (((g.run ≤ j) × (j < g.run + g.size)) ⊎ InRuns j parts.0) → Spare t b j
  spare j i =
      st.beside.spare j (subst (InRuns j) (sym parts.1) (elim i [ inl x ↦ in_left j front _ x | inr y ↦ in_right j front _ y ]))

  fit : n ≤ g.size
  unfolding n
  fit = g.first.enough

  bounds : (g.run ≤ a) × (a + n ≡ g.run + g.size)
  unfolding n
  bounds = (omega (arith, g.cell), omega (arith, g.cell, g.first.enough))

  ends : a + width t code ≤ length w
  unfolding n
  ends = omega (arith, bounds.1, g.first.next.within)

  inside : fits t (length w) code a ≡ true
  inside =
      let some = g.words in
      let high : 1 ≤ a = omega (arith, bounds.0, g.first.next.there) in
      let within = ends in
      grind (arith, nat_tests)

  apart : (k q : ℕ) → Reached b k → Covers t b.cells k q → a ≤ q → q < a + n → ⊥
  apart k q r c lo hi = spare q (inr (inl (omega (arith, bounds.0), omega (arith, bounds.1)))) k r c

  -- word 0 and the words of runs are in no reached cell
  not_link : (k q : ℕ) → Reached b k → Covers t b.cells k q → q ≡ g.link → ⊥
  unfolding front
  not_link k q r c e =
      elim (link_in w 0 1 front g.link g.first.before g.first.walked.reads) [
        | inl none ↦ omega (arith, (inside_fits t (length w) (code_of b.cells k) (address_of b.cells k) (st.agrees.tidy.inside k r)).high, c.0)
        | inr i ↦ spare g.link (inl i) k r (subst (λ z. Covers t b.cells k z) e c)
      ]

  not_run : (k q : ℕ) → Reached b k → Covers t b.cells k q → q ≡ g.run → ⊥
  not_run k q r c e = spare q (inr (inl (omega arith, omega (arith, g.first.next.some)))) k r c

  from_wiped : (p : ℕ) → ((k q : ℕ) → Reached b k → Covers t b.cells k q → q ≡ p → ⊥) → Wiped w v p a n → Cleared t b w v a (width t code)
  unfolding n
  from_wiped p other x = record {
    long = x.long;
    zero = x.zero;
    kept = λ k q r c. x.kept q (apart k q r c) (other k q r c);
  }

  whole_at : g.size ≡ width t code → g.run ≡ a
  whole_at e = omega (arith, g.cell)

  cleared : Cleared t b w v a (width t code)
  unfolding n
  cleared =
      elim (cases_eq g.size (width t code)) [
        | inl same ↦
            from_wiped g.link not_link (subst (λ z. Wiped w z g.link a (width t code)) (ap (λ z. zeroed (unlinked w g.link g.run) z (width t code)) (sym (whole_at same)) ∙ sym (g.cut.whole same)) (wiped w g.link (runWord (size_of (get_or w g.link 0)) (link_of (get_or w g.run 0))) a (width t code) ends))
        | inr other ↦
            from_wiped g.run not_run (subst (λ z. Wiped w z g.run a (width t code)) (ap (λ z. zeroed (shortened w g.run (g.size - width t code)) z (width t code)) g.cell ∙ sym (g.cut.part (omega (arith, g.first.enough)))) (wiped w g.run (runWord (g.size - width t code) (link_of (get_or w g.run 0))) a (width t code) ends))
      ]

  abbrev b' : Model
  b' = with_new t b h code a

  -- a cell that is reached now was reached before, or is the new one
  pub reached_new : (k : ℕ) → Reached b' k → Reached b k ⊎ (k ≡ length b.cells)
  unfolding n
  reached_new k r = cases t b w v rs h code a law st.agrees inside apart cleared k r

  -- a word that is left in a run is in no cell that is reached now
  left_spare : (j : ℕ) → Spare t b j → (a ≤ j → j < a + n → ⊥) → Spare t b' j
  unfolding n
  left_spare j old out k r c =
      elim (reached_new k r) [
        | inl was ↦ old k was (covers_old t b w v rs h code a law st.agrees inside apart cleared k j was c)
        | inr new ↦ let i = covers_new t b w v rs h code a law st.agrees inside apart cleared k j new c in out i.0 i.1
      ]

  front_out : (j : ℕ) → InRuns j front → a ≤ j → j < a + n → ⊥
  unfolding front
  front_out j i lo hi =
      omega (arith, front_below w 0 1 front g.link g.first.before j g.first.walked.reads i, g.first.next.past, bounds.0)

  back_out : (j : ℕ) → InRuns j parts.0 → a ≤ j → j < a + n → ⊥
  back_out j i lo hi = omega (arith, back_above w g.run (g.run + g.size) parts.0 j parts.2 i, bounds.1)

  sides : (j : ℕ) → InRuns j front ⊎ InRuns j parts.0 → Spare t b' j
  sides j (inl i) = left_spare j (spare j (inl i)) (front_out j i)
  sides j (inr i) = left_spare j (spare j (inr (inr i))) (back_out j i)

  middle : (j : ℕ) → g.run ≤ j → j < g.run + (g.size - n) → Spare t b' j
  unfolding n
  middle j lo hi = left_spare j (spare j (inr (inl (lo, omega arith)))) (λ ge less. omega (arith, g.cell))

  beside : Beside t b' v
  unfolding front n
  beside =
      elim (cases_eq g.size (width t code)) [
        | inl same ↦ record {
          runs = front ++ parts.0;
          reads = g.list.whole front parts.0 g.first.before proper same (λ e. cc) g.first.walked.reads g.first.next parts.2;
          spare = λ j i. sides j (in_either j front parts.0 i);
        }
        | inr other ↦ record {
          runs = front ++ span g.run (g.size - width t code) ∷ parts.0;
          reads = g.list.part front parts.0 g.first.before proper (omega (arith, g.first.enough)) g.first.walked.reads g.first.next parts.2;
          spare = λ j i. elim (in_either j front (span g.run (g.size - width t code) ∷ parts.0) i) [
            | inl x ↦ sides j (inl x)
            | inr y ↦ elim y [ inl m ↦ middle j m.0 m.1 | inr z ↦ sides j (inr z) ]
          ];
        }
      ]

  -- a new cell, cut from the first run that has room
  pub make_stands : Stands t b' v (set rs h (holding (Cell code a)))
  unfolding n
  make_stands = record {
    agrees = make_agrees t b w v rs h code a law st.agrees inside apart cleared;
    beside = beside;
  }
