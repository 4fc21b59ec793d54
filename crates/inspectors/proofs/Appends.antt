-- One text after another.
use Rattle.std.proofs.Common.{◌≡◌, ℕ, ◌+◌, ◌<◌, ◌≤◌, Bool, true, false, cond, leb, List, [], ◌++◌, length, get_or, take, drop, Some, None, Ok, Err, Result, sym, refl, ap, ◌∙◌, subst, append_assoc, zero-add, arith, length-append, length-drop, take-append-drop, length-take-le, leb-false, leb-true}
use lib.Seq.{drop-append-add}
use Rattle.std.proofs.lemmas.List.{take_at, drop-drop, drop_more}
use Rattle.std.specs.List.{flat_map}
use Rattle.scan.specs.Visits.{Visited}
use Rattle.scan.specs.declared.inspector.Full.{Full}
use Rattle.inspectors.specs.declared.lister.Lister.{Lister}
use Rattle.inspectors.specs.Lines.{Room, appended, with_now, spaced, Lists}

module _ (s : Lister) (a : List ℕ) (fits : Room s a) where
  front_length : length (take s.used s.out.now ++ a) ≡ s.used + length a
  front_length = length-append (take s.used s.out.now) a ∙ ap (λ n. n + length a) (length-take-le s.used s.out.now (omega arith))

  pub length_appended : length (appended s a).out.now ≡ length s.out.now
  unfolding appended
  length_appended = let o = s.out.now in let u = s.used in
      ap length (sym (append_assoc (take u o) a (drop (u + length a) o))) ∙ length-append (take u o ++ a) (drop (u + length a) o) ∙ omega (arith, front_length, length-drop (u + length a) o)

  pub used_appended : (appended s a).used ≡ s.used + length a
  unfolding appended
  used_appended = refl

  pub front_appended : take (appended s a).used (appended s a).out.now ≡ take s.used s.out.now ++ a
  unfolding appended
  front_appended = let o = s.out.now in let u = s.used in
      ap (take (u + length a)) (sym (append_assoc (take u o) a (drop (u + length a) o))) ∙ take_at (take u o ++ a) (drop (u + length a) o) (u + length a) front_length

  pub appended_twice : (b : List ℕ) → appended (appended s a) b ≡ appended s (a ++ b)
  unfolding appended
  appended_twice b =
      let o = s.out.now in let u = s.used in
      let D : List ℕ = drop (u + length a) o in
      let whole : take u o ++ (a ++ D) ≡ (take u o ++ a) ++ D = sym (append_assoc (take u o) a D) in
      let front : take (u + length a) (take u o ++ (a ++ D)) ≡ take u o ++ a = ap (take (u + length a)) whole ∙ take_at (take u o ++ a) D (u + length a) front_length in
      let back : drop (u + length a + length b) (take u o ++ (a ++ D)) ≡ drop (u + length a + length b) o =
      ap (drop (u + length a + length b)) whole ∙ ap (λ n. drop (n + length b) ((take u o ++ a) ++ D)) (sym front_length) ∙ drop-append-add (take u o ++ a) D (length b) ∙ drop-drop (length b) (u + length a) o in
      let sum : u + length a + length b ≡ u + length (a ++ b) = omega (arith, length-append a b) in
      let text : take (u + length a) (take u o ++ (a ++ D)) ++ (b ++ drop (u + length a + length b) (take u o ++ (a ++ D))) ≡ take u o ++ ((a ++ b) ++ drop (u + length (a ++ b)) o) =
      (λ i. front i ++ (b ++ back i)) ∙ append_assoc (take u o) a (b ++ drop (u + length a + length b) o) ∙ ap (λ l. take u o ++ l) (sym (append_assoc a b (drop (u + length a + length b) o))) ∙ ap (λ n. take u o ++ ((a ++ b) ++ drop n o)) sum in
      λ i. record { out = with_now s.out (text i); used = sum i }

  pub room_appended : (b : List ℕ) → Room s (a ++ b) → Room (appended s a) b
  room_appended b h = omega (arith, length_appended, used_appended, length-append a b)

-- u is t with b after it, and t is s with a after it
pub then_appended : (s t u : Lister) (a b : List ℕ) → Room s a → t ≡ appended s a → u ≡ appended t b → u ≡ appended s (a ++ b)
then_appended s t u a b fits e f = f ∙ ap (λ x. appended x b) e ∙ appended_twice s a fits b

pub then_room : (s t : Lister) (a b : List ℕ) → Room s (a ++ b) → t ≡ appended s a → Room t b
then_room s t a b fits e = subst (λ x. Room x b) (sym e) (room_appended s a (omega (arith, length-append a b)) b fits)

pub appended_none : (s : Lister) → s.used ≤ length s.out.now → appended s [] ≡ s
unfolding appended
appended_none s fits =
    let o = s.out.now in
    let none : s.used + length {A = ℕ} [] ≡ s.used = omega arith in
    let text : take s.used o ++ drop (s.used + length {A = ℕ} []) o ≡ o = ap (λ n. take s.used o ++ drop n o) none ∙ take-append-drop s.used o in
    λ i. record { out = with_now s.out (text i); used = none i }

-- the words from the i-th on
pub spaced_more : (ws : List ℕ) (i d : ℕ) → i < length ws → flat_map spaced (drop i ws) ≡ spaced (get_or ws i d) ++ flat_map spaced (drop (i + 1) ws)
spaced_more ws i d h = ap (flat_map spaced) (drop_more ws i d h)

pub front_room : (s : Lister) (a b : List ℕ) → Room s (a ++ b) → Room s a
front_room s a b h = omega (arith, length-append a b)

-- a visit leaves the lister with the line, or as it was
module _ (s t : Lister) (text : List ℕ) where
  pub visited_name : (b : Bool) (r : Result (Unit {0}) Full) → Visited (cond b (Some (appended s text)) None) s t r → s.out.ghost_name ≡ t.out.ghost_name
  unfolding appended
  visited_name true r v = ap (λ (x : Lister). x.out.ghost_name) (sym v.1)
  visited_name false r v = ap (λ (x : Lister). x.out.ghost_name) (sym v.1)

  pub visited_ok : (b : Bool) (u : Unit {0}) → b ≡ leb (s.used + length text) (length s.out.now) → s.used ≡ 0 → Visited (cond b (Some (appended s text)) None) s t (Ok u) → Lists text s.out.now t.out.now (Some t.used)
  unfolding appended
  visited_ok true u e z v =
      let fits : s.used + length text ≤ length s.out.now = leb-true _ _ (sym e) in
      let is = ap (λ (x : Lister). x.out.now) v.1 ∙ ap (λ n. take n s.out.now ++ (text ++ drop (n + length text) s.out.now)) z ∙ ap (λ n. text ++ drop n s.out.now) (zero-add (length text)) in
      let used : t.used ≡ length text = ap (λ (x : Lister). x.used) v.1 ∙ omega arith in
      (λ h. (is, ap Some used), λ h. absurd (omega arith))
  visited_ok false u e z v = absurd (let y : ◌≡◌ {A = ℕ} 0 1 = cc (v.0) in omega arith)

  pub visited_err : (b : Bool) (f : Full) → b ≡ leb (s.used + length text) (length s.out.now) → s.used ≡ 0 → Visited (cond b (Some (appended s text)) None) s t (Err f) → Lists text s.out.now t.out.now None
  visited_err true f e z v = absurd (let y : ◌≡◌ {A = ℕ} 0 1 = cc in omega arith)
  visited_err false f e z v =
      let full : length s.out.now < s.used + length text = leb-false _ _ (sym e) in
      (λ h. absurd (omega arith), λ h. (ap (λ (x : Lister). x.out.now) v.1, refl))
