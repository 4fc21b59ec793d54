-- What is right by the model is never number 7 or 10.
use Rattle.std.proofs.Common.{◌≡◌, ℕ, min, Bool, true, false, ◌&&◌, eqb, leb, List, [], ◌∷◌, length, is_some, Some, None, Ok, Err, Option, Result, sym, refl, subst, inl, inr, arith}
use Rattle.std.specs.List.{AllByRecursion}
use Rattle.std.specs.Option.{option_or}
use Rattle.std.proofs.lemmas.Bool.Decides.{nat_tests}
use Rattle.refusals.specs.declared.refusal.Refusal.{Refusal}
use Rattle.refusals.specs.Table.{number_of}
use Rattle.refusals.specs.declared.refusal.Refusal.TheVariants.{MemorySize, NoRun, NoType, TypeSize, NoCell, NoWord, WordClass, InspectorFull}
use Rattle.layouts.specs.Types.{Types}
use Rattle.layouts.specs.declared.entry.Class.{Class}
use Rattle.layouts.specs.Classes.{class_of}
use Rattle.cells.specs.Words.{words_in}
use Rattle.calls.specs.Holds.{Has, is_cell, code_of}
use Rattle.calls.specs.Rows.{first_due, unless, memory_due, row_1, row_2, row_3, row_4, row_5, row_5_cell, row_6, row_8, row_9, plain, reference, takes}
use Rattle.scan.specs.Visits.{Visit}
use Rattle.scan.specs.Children.{width}
use Rattle.model.specs.Model.{Model, address_of, reading}
use Rattle.replay.specs.declared.call.CellCall.{CellCall}
use Rattle.replay.specs.declared.call.CellCall.TheVariants.{Take, Release, Note, Copy, Tell, Look, Set, Put, Fetch}
use Rattle.replay.specs.declared.call.Call.{Call}
use Rattle.replay.specs.declared.call.Call.TheVariants.{Cell, Make, Trace, Mark, Survey, Unmark, Sweep}
use Rattle.replay.specs.declared.call.Answer.{Answer}
use Rattle.replay.specs.declared.call.Answer.TheVariants.{Number}
use Rattle.replay.specs.States.{State}
use Rattle.replay.specs.Table.{cell_rows, cell_due, make_due, trace_due}
use Rattle.replay.specs.Right.{cell_answer, by_due, ByDue, MakeRight, TraceRight, Unbroken, CallRight}

abbrev Fine : Option Refusal → Type 0
Fine None = Unit {0}
Fine (Some f) = Unbroken (Err f)

fine_or : (x y : Option Refusal) → Fine x → Fine y → Fine (option_or x y)
fine_or None y p q = q
fine_or (Some f) y p q = p

-- a refusal of another number
other : (f : Refusal) → eqb (number_of f) 7 ≡ false → eqb (number_of f) 10 ≡ false → Unbroken (Err f)
other f p q = ((λ e. grind (arith, nat_tests)), λ e. grind (arith, nat_tests))

fine_unless : (b : Bool) (f : Refusal) → eqb (number_of f) 7 ≡ false → eqb (number_of f) 10 ≡ false → Fine (unless b f)
fine_unless true f p q = tt
fine_unless false f p q = other f p q

fine_2 : (hs : List ℕ) → Fine (row_2 hs)
fine_2 [] = tt
fine_2 (h ∷ hs) = fine_or _ (row_2 hs) (fine_unless _ _ refl refl) (fine_2 hs)

fine_3 : (b : Bool) (r : ℕ → Has) (hs : List ℕ) → Fine (row_3 b r hs)
fine_3 true r [] = tt
fine_3 false r [] = tt
fine_3 true r (h ∷ hs) = fine_or _ (row_3 true r hs) (fine_unless _ _ refl refl) (fine_3 true r hs)
fine_3 false r (h ∷ hs) = fine_or _ (row_3 false r hs) (fine_unless _ _ refl refl) (fine_3 false r hs)

fine_first : (xs : List (Option Refusal)) → AllByRecursion Fine xs → Fine (first_due xs)
fine_first [] p = tt
fine_first (x ∷ xs) p = fine_or x (first_due xs) p.0 (fine_first xs p.1)

fine_memory : (L M P : ℕ) → Fine (memory_due L M P)
fine_memory L M P = fine_first (row_1 L M ∷ unless (leb L P) MemorySize ∷ []) (fine_unless (leb 2 L && (leb L 65536 && eqb M L)) MemorySize refl refl, (fine_unless (leb L P) MemorySize refl refl, tt))

fine_4 : (t : Types) (c : ℕ) → Fine (row_4 t c)
fine_4 t c = fine_unless (is_some (t.size c)) (NoType c) refl refl

fine_5 : (t : Types) (c : ℕ) → Fine (row_5 t c)
fine_5 t c = fine_unless (eqb (words_in (t.size c)) 0) (TypeSize c) refl refl

fine_5_cell : (t : Types) (c : ℕ) → Fine (row_5_cell t c)
fine_5_cell t c = fine_unless (leb 1 (words_in (t.size c))) (TypeSize c) refl refl

fine_6 : (r : ℕ → Has) (h : ℕ) → Fine (row_6 r h)
fine_6 r h = fine_unless (is_cell (r h)) (NoCell h) refl refl

fine_8 : (t : Types) (r : ℕ → Has) (h i : ℕ) → Fine (row_8 t r h i)
fine_8 t r h i = fine_unless (leb 1 i && leb i (words_in (t.size (code_of (r h))))) (NoWord i) refl refl

fine_9 : (right : Class → Bool) (t : Types) (r : ℕ → Has) (h i : ℕ) → Fine (row_9 right t r h i)
fine_9 right t r h i = fine_unless (right (class_of t (code_of (r h)) i)) (WordClass i) refl refl

cell_fine : (t : Types) (b : Model) (c : CellCall) → AllByRecursion Fine (cell_rows t b c)
cell_fine t b (Take h) = (fine_2 (h ∷ []), (fine_3 false (reading b) (h ∷ []), tt))
cell_fine t b (Release h) = (fine_2 (h ∷ []), (fine_3 true (reading b) (h ∷ []), tt))
cell_fine t b (Note h c x) = (fine_2 (h ∷ []), (fine_3 true (reading b) (h ∷ []), (fine_4 t c, (fine_5 t c, tt))))
cell_fine t b (Copy g h) = (fine_2 (g ∷ h ∷ []), (fine_3 true (reading b) (g ∷ h ∷ []), tt))
cell_fine t b (Tell h) = (fine_2 (h ∷ []), (fine_3 true (reading b) (h ∷ []), tt))
cell_fine t b (Look h i) = (fine_2 (h ∷ []), (fine_3 true (reading b) (h ∷ []), (fine_6 (reading b) h, (fine_8 t (reading b) h i, (fine_9 plain t (reading b) h i, tt)))))
cell_fine t b (Set h i x) = (fine_2 (h ∷ []), (fine_3 true (reading b) (h ∷ []), (fine_6 (reading b) h, (fine_8 t (reading b) h i, (fine_9 plain t (reading b) h i, tt)))))
cell_fine t b (Put h i g) = (fine_2 (h ∷ g ∷ []), (fine_3 true (reading b) (h ∷ g ∷ []), (fine_6 (reading b) h, (fine_8 t (reading b) h i, (fine_9 (takes (reading b g)) t (reading b) h i, tt)))))
cell_fine t b (Fetch h i g) = (fine_2 (h ∷ g ∷ []), (fine_3 true (reading b) (h ∷ g ∷ []), (fine_6 (reading b) h, (fine_8 t (reading b) h i, (fine_9 reference t (reading b) h i, tt)))))

by_due_fine : (due : Option Refusal) (x : Answer) → Fine due → Unbroken (by_due due x)
by_due_fine None x p = tt
by_due_fine (Some f) x p = p

due_fine : (due : Option Refusal) (a : Result Answer Refusal) (right : Type 0) → Fine due → (right → Unbroken a) → ByDue due a right → Unbroken a
due_fine None a right p q x = q x
due_fine (Some f) a right p q x = subst Unbroken (sym x) p

number_fine : (a : Result Answer Refusal) (n : ℕ) → a ≡ Ok (Number n) → Unbroken a
number_fine a n e = subst Unbroken (sym e) tt

make_fine : (t : Types) (b : Model) (L n : ℕ) (a : Result Answer Refusal) → MakeRight t b L n a → Unbroken a
make_fine t b L n a (inl x) = number_fine a x.1.0 x.1.1
make_fine t b L n a (inr x) = subst Unbroken (sym x.1) (other (NoRun n) refl refl)

trace_fine : (t : Types) (b : Model) (w : List ℕ) {S : Type 0} (step : S → Visit → Option S) (h p : ℕ) (s : S) (a : Result Answer Refusal) (d : Call S) → TraceRight t b w step h p s a d → Unbroken a
trace_fine t b w step h p s a d x = elim x.2 [
  | inl all ↦ number_fine a (length all.cells) all.answer
  | inr some ↦ subst Unbroken (sym some.answer) (other (InspectorFull (address_of b.cells some.next)) refl refl)
]

pub unbroken : (t : Types) {S : Type 0} (step : S → Visit → Option S) (P : ℕ) (b : Model) (c : Call S) (a : Result Answer Refusal) (σ' : State) (d : Call S) → CallRight t step P b c a σ' d → Unbroken a
unbroken t step P b (Cell c) a σ' d x = subst Unbroken (sym x) (by_due_fine (cell_due t b c) (cell_answer b c) (fine_first (cell_rows t b c) (cell_fine t b c)))
unbroken t step P b (Make h c p) a σ' d x = due_fine (make_due t b (length σ'.words) (min p P) h c) a _
    (fine_first (memory_due (length σ'.words) (length σ'.words) (min p P) ∷ row_2 (h ∷ []) ∷ row_3 true (reading b) (h ∷ []) ∷ row_4 t c ∷ row_5_cell t c ∷ []) (fine_memory (length σ'.words) (length σ'.words) (min p P), (fine_2 (h ∷ []), (fine_3 true (reading b) (h ∷ []), (fine_4 t c, (fine_5_cell t c, tt))))))
    (make_fine t b (length σ'.words) (width t c) a) x
unbroken t step P b (Trace h p s) a σ' d x = due_fine (trace_due b (length σ'.words) (min p P) h) a _
    (fine_first (memory_due (length σ'.words) (length σ'.words) (min p P) ∷ row_2 (h ∷ []) ∷ row_3 true (reading b) (h ∷ []) ∷ row_6 (reading b) h ∷ []) (fine_memory (length σ'.words) (length σ'.words) (min p P), (fine_2 (h ∷ []), (fine_3 true (reading b) (h ∷ []), (fine_6 (reading b) h, tt)))))
    (trace_fine t b σ'.words step h p s a d) x
unbroken t step P b (Mark p) a σ' d x = due_fine (memory_due (length σ'.words) (length σ'.words) (min p P)) a _ (fine_memory (length σ'.words) (length σ'.words) (min p P)) (λ n. number_fine a n.0 n.1) x
unbroken t step P b Survey a σ' d x = number_fine a x.0 x.1
unbroken t step P b Unmark a σ' d x = subst Unbroken (sym x) tt
unbroken t step P b Sweep a σ' d x = number_fine a x.0.0 x.0.1
