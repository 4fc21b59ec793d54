-- What making a cell answers and leaves, told by the model.
use Rattle.std.proofs.Common.{◌≡◌, ℕ, ◌+◌, ◌-◌, ◌<◌, ◌≤◌, min, true, List, [], ◌∷◌, length, get_or, set, Some, None, Ok, Err, Option, Result, sym, refl, ap, ◌∙◌, subst, subst₂, inl, inr, arith, length-set, rules}
use lib.ListN.{length-replicate}
use Rattle.std.specs.Option.{option_or}
use Rattle.std.proofs.lemmas.Bool.{cases_eq}
use Rattle.std.proofs.lemmas.Bool.Decides.{nat_tests}
use Rattle.std.proofs.lemmas.List.{places}
use Rattle.refusals.specs.declared.refusal.Refusal.{Refusal}
use Rattle.layouts.specs.Types.{Types, Lawful}
use Rattle.calls.specs.declared.record.HoldRecord.{HoldRecord}
use Rattle.calls.specs.Holds.{Has, reads}
use Rattle.calls.specs.Rows.{first_due, row_2, row_3, row_4, row_5_cell, memory_due}
use Rattle.calls.specs.Calls as calls
use Rattle.scan.specs.Visits.{Visit}
use Rattle.scan.specs.Children.{width}
use Rattle.free_list.specs.Free.{size_of, link_of, runWord, Run, span, Next, proper, broken, Free, Reach}
use Rattle.free_list.specs.Cells.{zeroed}
use Rattle.free_list.specs.Taken.{Given}
use Rattle.free_list.proofs.Once.{next_once, next_moved, free_at, ends_next, free_once}
use Rattle.sweeping.proofs.Rooms.{no_room}
use Rattle.making.specs.Makes.{Found, at_hand, broken_link, broken_content, collected, no_run, with_cell, swept, stopped}
use Rattle.model.specs.Model.{Model, reading}
use Rattle.model.specs.Spares.{Room, InRuns, Stands}
use Rattle.model.proofs.Marked.{marked_all}
use Rattle.model.proofs.Spares.{sweep_stands, room_in_marks}
use Rattle.model.proofs.Cuts.{make_stands}
use Rattle.replay.specs.declared.call.Call.TheVariants.{Make}
use Rattle.replay.specs.declared.call.Call.{Call}
use Rattle.replay.specs.declared.call.Answer.{Answer}
use Rattle.replay.specs.declared.call.Answer.TheVariants.{Done, Told, Number}
use Rattle.replay.specs.declared.call.Phase.TheVariants.{Open}
use Rattle.replay.specs.States.{State, answer_of}
use Rattle.replay.specs.Steps.{CallStep}
use Rattle.replay.specs.Telling.{make_told}
use Rattle.replay.specs.Table.{make_due}
use Rattle.replay.specs.Right.{MakeRight, CallRight}
use Rattle.replay.specs.Promise.{Sound}
use Rattle.replay.proofs.Dues.{nones, readings}
use Rattle.replay.proofs.Sounds.{sound, kept_sound, not_marked, marks_long, memory_kept, due_refused, due_none}
use Rattle.replay.proofs.Collections.{marks_left}

-- a run that is found is one of the list
found_in : (w : List ℕ) (p e : ℕ) (front runs : List Run) (q f a s j : ℕ) → Reach w p e front q f → Next w q f a s → Free w p e runs proper → a ≤ j → j < a + s → InRuns j runs
found_in w p e [] [] q f a s j r next x lo hi = absurd (ends_next w p e a s proper x (next_moved w p e q f a s r next))
found_in w p e [] (span b t ∷ runs) q f a s j r next x lo hi =
    let same = next_once w p e a s b t (next_moved w p e q f a s r next) x.0 in
    inl (omega (arith, same.0), omega (arith, same.0, same.1))
found_in w p e (span b t ∷ front) [] q f a s j r next x lo hi = absurd (ends_next w p e b t proper x r.0)
found_in w p e (span b t ∷ front) (span c u ∷ runs) q f a s j r next x lo hi =
    let same = next_once w p e b t c u r.0 x.0 in
    inr (found_in w b (b + t) front runs q f a s j r.1 next (free_at w b t c u runs proper same x.1) lo hi)

-- the run that a cell is cut from was room for it
given_room : (t : Types) (b : Model) (w v : List ℕ) (rs : List HoldRecord) (n a : ℕ) → Stands t b w rs → Given w n v a → Room t b (length w) n
given_room t b w v rs n a st g = record {
  at = g.run;
  there = g.first.next.there;
  within = omega (arith, g.first.next.within, g.first.enough);
  spare = λ j lo hi. st.beside.spare j (found_in w 0 1 g.first.walked.front st.beside.runs g.link g.first.before g.run g.size j g.first.walked.reads g.first.next st.beside.reads lo (omega (arith, g.first.enough)));
}

wiped_length : (w : List ℕ) (p x c n : ℕ) → c + n ≤ length w → length (zeroed (set w p x) c n) ≡ length w
wiped_length w p x c n le = search (rules, places)

-- a cut leaves as many words
given_long : (w v : List ℕ) (n a : ℕ) → Given w n v a → length v ≡ length w
given_long w v n a g =
    elim (cases_eq g.size n) [
      | inl same ↦ ap length (g.cut.whole same) ∙ wiped_length w g.link (runWord (size_of (get_or w g.link 0)) (link_of (get_or w g.run 0))) g.run n (omega (arith, g.first.next.within))
      | inr other ↦ ap length (g.cut.part (omega (arith, g.first.enough))) ∙ wiped_length w g.run (runWord (g.size - n) (link_of (get_or w g.run 0))) (g.run + (g.size - n)) n (omega (arith, g.first.next.within, g.first.enough))
    ]

module _ (t : Types) (b : Model) (w : List ℕ) (rs : List HoldRecord) (h c : ℕ) (law : Lawful t) (st : Stands t b w rs) where
  -- what is right of a making that got so far
  record Outcome (w' : List ℕ) (r : Result ℕ Refusal) : Type 0 where
    right : MakeRight t b (length w) (width t c) (answer_of Number r)
    stands : Stands t (make_told t b h c (answer_of Number r)) w' (with_cell rs h c r)
    long : length w' ≡ length w

  given : (u v : List ℕ) (a : ℕ) → Stands t b u rs → length u ≡ length w → Given u (width t c) v a → Outcome v (Ok a)
  given u v a st₁ same g = record {
    right = inl (subst (λ L. Room t b L (width t c)) same (given_room t b u v rs (width t c) a st₁ g), (a, refl));
    stands = make_stands t b u v rs h c a law st₁ g;
    long = given_long u v (width t c) a g ∙ same;
  }

  found : {w' : List ℕ} {r : Result ℕ Refusal} → 1 ≤ width t c → Found t w rs (width t c) w' r → Outcome w' r
  found some (at_hand {w' = v} {a = a} g) = given w v a st refl g
  found some (broken_link {q = q} none) =
      let same : proper ≡ broken q = (free_once w 0 1 st.beside.runs none.runs proper (broken q) st.beside.reads none.reads).1 in
      absurd cc
  found some (broken_content none (stopped {m = m} {f = f} marking)) =
      let ok = (marked_all t b w rs st.agrees m (Err f) marking).1 in
      absurd cc
  found some (collected {w' = v} {a = a} none (swept {m = m} {u = u} {k = k} marking sweep) g) =
      let marks = (marked_all t b w rs st.agrees m (Ok k) marking).3 in
      given u v a (sweep_stands t b w m u rs law st.agrees marks sweep) sweep.long g
  found some (no_run none (swept {m = m} {u = u} {k = k} marking sweep) none-swept) =
      let marks = (marked_all t b w rs st.agrees m (Ok k) marking).3 in
      let same : length m ≡ length w = marks_left t b w rs m (Ok k) st marking in
      record {
        right = inr ((λ room. no_room sweep some none-swept (room_in_marks t b m marks (width t c) (subst (λ L. Room t b L (width t c)) (sym same) room))), refl);
        stands = sweep_stands t b w m u rs law st.agrees marks sweep;
        long = sweep.long;
      }

-- the rows that hold records make due are those that the model does
abbrev rows : Types → ℕ → ℕ → (ℕ → Has) → Option Refusal
rows t h c r = first_due (row_2 (h ∷ []) ∷ row_3 true r (h ∷ []) ∷ row_4 t c ∷ row_5_cell t c ∷ [])

has_words : (t : Types) (c : ℕ) → row_5_cell t c ≡ None → 1 ≤ width t c
has_words t c e = grind (arith, nat_tests)

-- where no row is due, the type has words
made_words : (t : Types) (rs : List HoldRecord) (h c : ℕ) → calls.make_due t rs h c ≡ None → 1 ≤ width t c
made_words t rs h c e =
    let free = nones (row_2 (h ∷ []) ∷ row_3 true (reads rs) (h ∷ []) ∷ row_4 t c ∷ row_5_cell t c ∷ []) e in
    has_words t c free.1.1.1.0

told_holds : (t : Types) (b : Model) (h c : ℕ) (a : Result Answer Refusal) → length (make_told t b h c a).holds ≡ length b.holds
told_holds t b h c (Ok Done) = refl
told_holds t b h c (Ok (Told k)) = refl
told_holds t b h c (Ok (Number a)) = length-set b.holds h _
told_holds t b h c (Err f) = refl

module _ (t : Types) {S : Type 0} (step : S → Visit → Option S) (P : ℕ) (b : Model) (σ σ' : State) (a : Result Answer Refusal) (d : Call S) (so : Sound t b σ) (law : Lawful t) (h c p : ℕ) where
  abbrev L : ℕ
  L = length σ.words

  abbrev M : ℕ
  M = length σ.marks

  abbrev Wanted : Type 0
  Wanted = CallRight t step P b (Make h c p) a σ' d × Sound t (make_told t b h c a) σ'

  long : M ≡ L
  long = marks_long L M so.memory

  due : length σ'.words ≡ L → make_due t b (length σ'.words) (min p P) h c ≡ option_or (memory_due L M (min p P)) (calls.make_due t σ.records h c)
  due same =
      ap (λ l. make_due t b l (min p P) h c) same
      ∙ ap (λ m. option_or (memory_due L m (min p P)) (rows t h c (reading b))) (sym long)
      ∙ ap (option_or (memory_due L M (min p P))) (ap (rows t h c) (sym (readings t b σ.words σ.records so.stands.agrees)))

  -- a refusal that leaves words and holds
  refused : (f : Refusal) → a ≡ Err f → σ'.words ≡ σ.words → σ'.records ≡ σ.records → length σ'.marks ≡ L → σ'.phase ≡ Open → option_or (memory_due L M (min p P)) (calls.make_due t σ.records h c) ≡ Some f → Wanted
  refused f is ws rs ms mode e = (
    due_refused _ f a _ (due (ap length ws) ∙ e) is,
    subst (λ x. Sound t (make_told t b h c x) σ') (sym is) (kept_sound t b σ σ' so ws rs ms (not_marked σ' _ mode)),
  )

  pub make_sim : CallStep t step P (Make h c p) σ a σ' d → Wanted
  make_sim x = by_memory (memory_due L M (min p P)) refl
    where
      zeros : memory_due L M (min p P) ≡ None → length σ'.marks ≡ L
      zeros none = ap length (x.2.related.zeroed none) ∙ length-replicate L 0

      by_rows : memory_due L M (min p P) ≡ None → (o : Option Refusal) → calls.make_due t σ.records h c ≡ o → Wanted
      by_rows none (Some f) e =
          let s = x.2.related.refused none f e in
          refused f (x.2.is ∙ ap (answer_of Number) s.0) s.1 s.2 (zeros none) x.0.1 (ap (λ z. option_or z (calls.make_due t σ.records h c)) none ∙ e)
      by_rows none None e =
          let s = x.2.related.made none e in
          let o = found t b σ.words σ.records h c law so.stands (made_words t σ.records h c e) s.0 in (
            due_none _ a _ (due o.long ∙ ap (λ z. option_or z (calls.make_due t σ.records h c)) none ∙ e) (subst₂ (λ l y. MakeRight t b l (width t c) y) (sym o.long) (sym x.2.is) o.right),
            sound t (make_told t b h c a) σ' (subst₂ (λ y rs. Stands t (make_told t b h c y) σ'.words rs) (sym x.2.is) (sym s.1) o.stands) (not_marked σ' _ x.0.1) (memory_kept L M (length σ'.words) (length σ'.marks) so.memory o.long (zeros none)) (told_holds t b h c a ∙ so.holds),
          )

      by_memory : (o : Option Refusal) → memory_due L M (min p P) ≡ o → Wanted
      by_memory (Some f) e =
          let s = x.2.related.small f e in
          refused f (x.2.is ∙ ap (answer_of Number) s.0) s.1 s.2 (ap length s.3 ∙ long) x.0.1 (ap (λ z. option_or z (calls.make_due t σ.records h c)) e)
      by_memory None e = by_rows e (calls.make_due t σ.records h c) refl
