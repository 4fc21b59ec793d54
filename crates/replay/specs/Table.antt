-- The refusal table, read on the model and the call. There is no row 7 and no row 10.
use Rattle.std.specs.Prelude.{ℕ, true, false, List, [], ◌∷◌, Option}
use Rattle.refusals.specs.declared.refusal.Refusal.{Refusal}
use Rattle.layouts.specs.Types.{Types}
use Rattle.calls.specs.Rows.{first_due, memory_due, row_2, row_3, row_4, row_5, row_5_cell, row_6, row_8, row_9, plain, reference, takes}
use Rattle.model.specs.Model.{Model, reading}
use Rattle.replay.specs.declared.call.CellCall.{CellCall}
use Rattle.replay.specs.declared.call.CellCall.TheVariants.{Take, Release, Note, Copy, Tell, Look, Set, Put, Fetch}

-- the rows of each call, in their order
abbrev pub cell_rows : Types → Model → CellCall → List (Option Refusal)
cell_rows t b (Take h) = row_2 (h ∷ []) ∷ row_3 false (reading b) (h ∷ []) ∷ []
cell_rows t b (Release h) = row_2 (h ∷ []) ∷ row_3 true (reading b) (h ∷ []) ∷ []
cell_rows t b (Note h c x) = row_2 (h ∷ []) ∷ row_3 true (reading b) (h ∷ []) ∷ row_4 t c ∷ row_5 t c ∷ []
cell_rows t b (Copy g h) = row_2 (g ∷ h ∷ []) ∷ row_3 true (reading b) (g ∷ h ∷ []) ∷ []
cell_rows t b (Tell h) = row_2 (h ∷ []) ∷ row_3 true (reading b) (h ∷ []) ∷ []
cell_rows t b (Look h i) =
    row_2 (h ∷ []) ∷ row_3 true (reading b) (h ∷ []) ∷ row_6 (reading b) h ∷ row_8 t (reading b) h i ∷ row_9 plain t (reading b) h i ∷ []
cell_rows t b (Set h i x) =
    row_2 (h ∷ []) ∷ row_3 true (reading b) (h ∷ []) ∷ row_6 (reading b) h ∷ row_8 t (reading b) h i ∷ row_9 plain t (reading b) h i ∷ []
cell_rows t b (Put h i g) =
    row_2 (h ∷ g ∷ []) ∷ row_3 true (reading b) (h ∷ g ∷ []) ∷ row_6 (reading b) h ∷ row_8 t (reading b) h i ∷ row_9 (takes (reading b g)) t (reading b) h i ∷ []
cell_rows t b (Fetch h i g) =
    row_2 (h ∷ g ∷ []) ∷ row_3 true (reading b) (h ∷ g ∷ []) ∷ row_6 (reading b) h ∷ row_8 t (reading b) h i ∷ row_9 reference t (reading b) h i ∷ []

abbrev pub cell_due : Types → Model → CellCall → Option Refusal
cell_due t b c = first_due (cell_rows t b c)

-- of a heap of L words, where P pending places are lent
abbrev pub make_due : Types → Model → ℕ → ℕ → ℕ → ℕ → Option Refusal
make_due t b L P h c = first_due
    (memory_due L L P ∷ row_2 (h ∷ []) ∷ row_3 true (reading b) (h ∷ []) ∷ row_4 t c ∷ row_5_cell t c ∷ [])

abbrev pub trace_due : Model → ℕ → ℕ → ℕ → Option Refusal
trace_due b L P h = first_due (memory_due L L P ∷ row_2 (h ∷ []) ∷ row_3 true (reading b) (h ∷ []) ∷ row_6 (reading b) h ∷ [])

abbrev pub mark_due : ℕ → ℕ → Option Refusal
mark_due L P = memory_due L L P
