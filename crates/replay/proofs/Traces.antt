-- What a trace answers and leaves, told by the model.
use Rattle.std.proofs.Common.{◌≡◌, ℕ, min, true, ◌⊎◌, List, [], ◌∷◌, length, replicate, Some, None, Ok, Err, Option, Result, sym, refl, ap, ◌∙◌, subst, subst₂, inl, inr}
use lib.ListN.{length-replicate}
use Rattle.std.specs.Option.{option_or}
use Rattle.std.proofs.lemmas.List.{length-map}
use Rattle.refusals.specs.declared.refusal.Refusal.{Refusal}
use Rattle.refusals.specs.declared.refusal.Refusal.TheVariants.{InspectorFull}
use Rattle.layouts.specs.Types.{Types}
use Rattle.calls.specs.declared.record.HoldRecord.{HoldRecord}
use Rattle.calls.specs.Rows.{first_due, row_2, row_3, row_6, memory_due}
use Rattle.calls.specs.Calls as calls
use Rattle.scan.specs.Visits.{Visit}
use Rattle.scan.specs.Laws.{ScanLaws}
use Rattle.scan.specs.Endings.{Ending, Done}
use Rattle.scan.specs.declared.scanned.Stop.TheVariants.{Broken, Full}
use Rattle.marking.specs.Marking.{told}
use Rattle.tracing.specs.Traces.{Scanned, Traces}
use Rattle.model.specs.Model.{Model, held, cell, hold_of, code_of, address_of, reading}
use Rattle.model.specs.Agrees.{Agrees}
use Rattle.model.proofs.Marked.{trace_unbroken, trace_visits, trace_full}
use Rattle.replay.specs.declared.call.Call.TheVariants.{Trace}
use Rattle.replay.specs.declared.call.Call.{Call}
use Rattle.replay.specs.declared.call.Answer.{Answer}
use Rattle.replay.specs.declared.call.Answer.TheVariants.{Number}
use Rattle.replay.specs.States.{State, Answered, answer_of}
use Rattle.replay.specs.Steps.{CallStep}
use Rattle.replay.specs.Table.{trace_due}
use Rattle.replay.specs.Right.{ShownAll, ShownSome, CallRight}
use Rattle.replay.specs.Promise.{Sound}
use Rattle.replay.proofs.Dues.{nones, readings, unless_none, cell_of, code_there, address_there, fits_row}
use Rattle.replay.proofs.Sounds.{kept_sound, not_marked, marks_long, due_refused, due_none}

-- the rows on the hold records are those on the model: the cell of a hold lies in the heap
cell_table : (t : Types) (b : Model) (w : List ℕ) (rs : List HoldRecord) (ag : Agrees t b w rs) (h : ℕ) → calls.cell_due t (length w) rs h ≡ first_due (row_2 (h ∷ []) ∷ row_3 true (reading b) (h ∷ []) ∷ row_6 (reading b) h ∷ [])
cell_table t b w rs ag h =
    ap (λ r. first_due (row_2 (h ∷ []) ∷ row_3 true r (h ∷ []) ∷ row_6 r h ∷ calls.row_7 t (length w) rs h ∷ [])) (readings t b w rs ag)
    ∙ ap (λ o. option_or (row_2 (h ∷ [])) (option_or (row_3 true (reading b) (h ∷ [])) o)) (fits_row t b w rs ag h None)

-- the scan of the cell that a hold has
module _ (t : Types) (b : Model) (w : List ℕ) (rs : List HoldRecord) (ag : Agrees t b w rs) (h k : ℕ) (is : hold_of b h ≡ held (cell k)) {S : Type 0} (step : S → Visit → Option S) (s s' : S) where
  abbrev Shown : Result Answer Refusal → Type 0
  Shown a = ShownAll t b w step h s s' a ⊎ ShownSome t b w step h s s' a

  by_ending : (vs : List Visit) (m' : List ℕ) (e : Ending) → ScanLaws t w step (code_of b.cells k) (address_of b.cells k) (replicate (length w) 0) s vs m' s' e → Shown (answer_of Number (told e (length vs)))
  by_ending vs m' (Ok x) laws =
      let q = trace_visits t b w rs ag h k is step s vs m' s' Done laws refl in
      inl record {
        cells = q.0;
        listed = q.1;
        inspected = rw (← q.2) laws.held;
        answer = ap (λ n. Ok (Number n)) (ap length q.2 ∙ length-map q.0 _);
      }
  by_ending vs m' (Err (Broken p)) laws = absurd (trace_unbroken t b w rs ag h k is step s vs m' s' (Err (Broken p)) laws p refl)
  by_ending vs m' (Err (Full a)) laws =
      let q = trace_full t b w rs ag h k is step s vs m' s' (Err (Full a)) laws a refl in
      inr record {
        cells = q.cells;
        distinct = q.distinct;
        reached = q.reached;
        inspected = rw (← q.visits) laws.held;
        next = q.next;
        next_reached = q.next_reached;
        next_new = q.next_new;
        full = q.refused;
        answer = ap (λ x. Err (InspectorFull x)) q.next_place;
      }

module _ (t : Types) {S : Type 0} (step : S → Visit → Option S) (P : ℕ) (b : Model) (σ σ' : State) (a : Result Answer Refusal) (d : Call S) (so : Sound t b σ) (h p : ℕ) (s : S) where
  abbrev L : ℕ
  L = length σ.words

  abbrev M : ℕ
  M = length σ.marks

  abbrev Wanted : Type 0
  Wanted = CallRight t step P b (Trace h p s) a σ' d × Sound t b σ'

  long : M ≡ L
  long = marks_long L M so.memory

  due : σ'.words ≡ σ.words → trace_due b (length σ'.words) (min p P) h ≡ option_or (memory_due L M (min p P)) (calls.cell_due t L σ.records h)
  due same =
      ap (λ (w : List ℕ). trace_due b (length w) (min p P) h) same
      ∙ ap (λ m. option_or (memory_due L m (min p P)) (first_due (row_2 (h ∷ []) ∷ row_3 true (reading b) (h ∷ []) ∷ row_6 (reading b) h ∷ []))) (sym long)
      ∙ ap (option_or (memory_due L M (min p P))) (sym (cell_table t b σ.words σ.records so.stands.agrees h))

  -- the scan from the hold's cell
  shown : (s' : S) (r : Result ℕ Refusal) → a ≡ answer_of Number r → calls.cell_due t L σ.records h ≡ None → Scanned t σ.words step (calls.code_at σ.records h) (calls.address_at σ.records h) s s' r → ShownAll t b σ.words step h s s' a ⊎ ShownSome t b σ.words step h s s' a
  shown s' r is none scan =
      let ag = so.stands.agrees in
      let rows = nones (row_2 (h ∷ []) ∷ row_3 true (reading b) (h ∷ []) ∷ row_6 (reading b) h ∷ []) (sym (cell_table t b σ.words σ.records ag h) ∙ none) in
      let c = cell_of b.cells (hold_of b h) (unless_none _ _ rows.1.1.0) in
      let laws = subst₂ (λ x y. ScanLaws t σ.words step x y (replicate L 0) s scan.visits scan.left s' scan.ending) (code_there t b σ.words σ.records ag h c.0 c.1) (address_there t b σ.words σ.records ag h c.0 c.1) scan.laws in
      subst (λ x. ShownAll t b σ.words step h s s' x ⊎ ShownSome t b σ.words step h s s' x) (sym (is ∙ ap (answer_of Number) scan.answer))
      (by_ending t b σ.words σ.records ag h c.0 c.1 step s s' scan.visits scan.left scan.ending laws)

  pub trace_sim : CallStep t step P (Trace h p s) σ a σ' d → Wanted
  trace_sim x = by_memory (memory_due L M (min p P)) refl
    where
      -- the call's own relation
      own : Answered Number a (Traces t σ.words step σ.records h (min p P) σ.marks s σ'.marks x.2.0)
      own = x.2.2

      kept : length σ'.marks ≡ L → Sound t b σ'
      kept marks = kept_sound t b σ σ' so x.1.0 x.1.1 marks (not_marked σ' _ x.0.1)

      zeros : memory_due L M (min p P) ≡ None → length σ'.marks ≡ L
      zeros none = ap length (own.related.zeroed none) ∙ length-replicate L 0

      by_rows : memory_due L M (min p P) ≡ None → (o : Option Refusal) → calls.cell_due t L σ.records h ≡ o → Wanted
      by_rows none (Some f) e = (
        due_refused _ f a _ (due x.1.0 ∙ ap (λ z. option_or z (calls.cell_due t L σ.records h)) none ∙ e) (own.is ∙ ap (answer_of Number) (own.related.refused none f e).0),
        kept (zeros none),
      )
      by_rows none None e = (
        due_none _ a _ (due x.1.0 ∙ ap (λ z. option_or z (calls.cell_due t L σ.records h)) none ∙ e)
            (x.2.0, x.2.1, subst (λ w. ShownAll t b w step h s x.2.0 a ⊎ ShownSome t b w step h s x.2.0 a) (sym x.1.0) (shown x.2.0 own.result own.is e (own.related.scanned none e))),
        kept (zeros none),
      )

      by_memory : (o : Option Refusal) → memory_due L M (min p P) ≡ o → Wanted
      by_memory (Some f) e = (
        due_refused _ f a _ (due x.1.0 ∙ ap (λ z. option_or z (calls.cell_due t L σ.records h)) e) (own.is ∙ ap (answer_of Number) (own.related.small f e).0),
        kept (ap length (own.related.small f e).1 ∙ long),
      )
      by_memory None e = by_rows e (calls.cell_due t L σ.records h) refl
