-- What a call and its answer tell the model. Only accepted calls write it.
use Rattle.std.specs.Prelude.{ℕ, ◌-◌, List, [], ◌∷◌, Ok, Err, Result}
use Rattle.refusals.specs.declared.refusal.Refusal.{Refusal}
use Rattle.layouts.specs.Types.{Types}
use Rattle.model.specs.Model.{Model, Hold, free, held, nothing, cell, immediate, Word, number, second, value, hold_of, word_of}
use Rattle.model.specs.Told.{with_hold, with_word, with_new}
use Rattle.replay.specs.declared.call.CellCall.{CellCall}
use Rattle.replay.specs.declared.call.CellCall.TheVariants.{Take, Release, Note, Copy, Tell, Look, Set, Put, Fetch}
use Rattle.replay.specs.declared.call.Call.{Call}
use Rattle.replay.specs.declared.call.Call.TheVariants.{Cell, Make, Trace, Mark, Survey, Unmark, Sweep}
use Rattle.replay.specs.declared.call.Answer.{Answer}
use Rattle.replay.specs.declared.call.Answer.TheVariants.{Done, Told, Number}
use Rattle.replay.specs.States.{Event}

-- x of the cell that a hold has; y where it has none
abbrev pub of_cell : {X : Type 0} → Hold → X → (ℕ → X) → X
of_cell free y x = y
of_cell (held nothing) y x = y
of_cell (held (cell k)) y x = x k
of_cell (held (immediate c n)) y x = y

-- what a hold has, put into a word; what a word has, fetched into a hold
abbrev pub put_word : Hold → Word
put_word free = value nothing
put_word (held x) = value x

abbrev pub fetched : Word → Hold
fetched (number x) = held nothing
fetched second = held nothing
fetched (value x) = held x

-- a call that is accepted
abbrev pub cell_told : Model → CellCall → Model
cell_told b (Take h) = with_hold b h (held nothing)
cell_told b (Release h) = with_hold b h free
cell_told b (Note h c x) = with_hold b h (held (immediate c x))
cell_told b (Copy g h) = with_hold b h (hold_of b g)
cell_told b (Tell h) = b
cell_told b (Look h i) = b
cell_told b (Set h i x) = of_cell (hold_of b h) b (λ k. with_word b k (i - 1) (number x))
cell_told b (Put h i g) = of_cell (hold_of b h) b (λ k. with_word b k (i - 1) (put_word (hold_of b g)))
cell_told b (Fetch h i g) = of_cell (hold_of b h) b (λ k. with_hold b g (fetched (word_of b.cells k (i - 1))))

-- nothing is told by a refusal
abbrev pub unless_refused : Result Answer Refusal → Model → Model → Model
unless_refused (Ok a) b b' = b'
unless_refused (Err f) b b' = b

-- an accepted make cuts at the address that it answers
abbrev pub make_told : Types → Model → ℕ → ℕ → Result Answer Refusal → Model
make_told t b h c (Ok Done) = b
make_told t b h c (Ok (Told k)) = b
make_told t b h c (Ok (Number a)) = with_new t b h c a
make_told t b h c (Err f) = b

abbrev pub call_told : {S : Type 0} → Types → Model → Call S → Result Answer Refusal → Model
call_told t b (Cell c) a = unless_refused a b (cell_told b c)
call_told t b (Make h c p) a = make_told t b h c a
call_told t b (Trace h p s) a = b
call_told t b (Mark p) a = b
call_told t b Survey a = b
call_told t b Unmark a = b
call_told t b Sweep a = b

abbrev pub told : {S : Type 0} → Types → Model → Event S → Model
told t b e = call_told t b e.call e.answer

-- the model of a list of calls on a new heap
abbrev pub model : {S : Type 0} → Types → Model → List (Event S) → Model
model t b [] = b
model t b (e ∷ es) = model t (told t b e) es
