-- When words and hold records agree with a model.
use Rattle.std.specs.Prelude.{◌≡◌, ℕ, suc, ◌<◌, true, List, map, length}
use Rattle.layouts.specs.Types.{Types}
use Rattle.cells.specs.Words.{cell_free, fits}
use Rattle.calls.specs.declared.record.HoldRecord.{HoldRecord}
use Rattle.scan.specs.Children.{width}
use Rattle.scan.specs.Reach.{InCell}
use Rattle.model.specs.Model.{Made, Model, Hold, immediate, made, code_of, address_of, word_of, hold_of, shown_hold, Reached}
use Rattle.model.specs.Said.{said, shown_word}

-- the word j of the heap is one of the cell k
abbrev pub Covers : Types → List Made → ℕ → ℕ → Type 0
Covers t cs k j = InCell t (code_of cs k) (address_of cs k) j

-- the cells of R are in order in the words w
pub record Tidy (t : Types) (cs : List Made) (w : List ℕ) (R : ℕ → Type 0) : Type 0 where
  -- each lies in the heap
  pub inside : (k : ℕ) → R k → fits t (length w) (code_of cs k) (address_of cs k) ≡ true
  -- no two share a word
  pub apart : (k l j : ℕ) → R k → R l → Covers t cs k j → Covers t cs l j → k ≡ l
  -- each has as many words as its type
  pub sized : (k : ℕ) → R k → length (made cs k).words ≡ width t (code_of cs k)
  -- each word says what the model has there
  pub says : (k j : ℕ) → R k → j < width t (code_of cs k) → said t w (code_of cs k) (address_of cs k) (suc j) ≡ shown_word cs (word_of cs k j)

pub record Agrees (t : Types) (b : Model) (w : List ℕ) (rs : List HoldRecord) : Type 0 where
  -- each hold record says what the model's hold has
  pub held : rs ≡ map (shown_hold b.cells) b.holds
  -- a held immediate is of a type that has no cells
  pub kinds : (h c x : ℕ) → hold_of b h ≡ Hold.held (immediate c x) → cell_free (t.size c) ≡ true
  -- nothing is asked of cells that are not reached: their words may have been given out again
  pub tidy : Tidy t b.cells w (Reached b)
