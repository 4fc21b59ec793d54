-- What hold records and words say is what the model has.
use Rattle.std.proofs.Common.{◌≡◌, ℕ, zero, suc, ◌+◌, ◌<◌, true, List, [], ◌∷◌, map, get_or, Some, Option, sym, refl, ap, ◌∙◌}
use Rattle.layouts.specs.declared.entry.Class.{Class}
use Rattle.layouts.specs.declared.entry.Class.TheVariants.{Plain, Pointer, Typed, SecondHalf}
use Rattle.layouts.specs.Types.{Types}
use Rattle.layouts.specs.Classes.{class_of}
use Rattle.cells.specs.declared.content.Content.{Content}
use Rattle.cells.specs.Words.{says}
use Rattle.calls.specs.declared.record.HoldRecord.{HoldRecord}
use Rattle.calls.specs.Holds.{at, has, reads}
use Rattle.calls.specs.Rows.{reference}
use Rattle.scan.specs.Children.{width}
use Rattle.model.specs.Model.{Model, Made, Value, nothing, cell, immediate, Word, number, second, value, Hold, free, held, code_of, address_of, word_of, hold_of, Reached, shown, shown_hold, has_value, has_hold, reading}
use Rattle.model.specs.Said.{plain, content, said_by, shown_word}
use Rattle.model.specs.Agrees.{Agrees}
use Rattle.model.proofs.Kept.{said_at}

record_at : (cs : List Made) (hs : List Hold) (h : ℕ) → at (map (shown_hold cs) hs) h ≡ shown_hold cs (get_or hs h free)
record_at cs [] h = refl
record_at cs (x ∷ hs) zero = refl
record_at cs (x ∷ hs) (suc h) = record_at cs hs h

-- the record of a hold
pub at_agree : (t : Types) (b : Model) (w : List ℕ) (rs : List HoldRecord) → Agrees t b w rs → (h : ℕ) → at rs h ≡ shown_hold b.cells (hold_of b h)
at_agree t b w rs ag h = ap (λ xs. at xs h) ag.held ∙ record_at b.cells b.holds h

pub has_shown : (cs : List Made) (x : Value) → has (shown cs x) ≡ has_value cs x
has_shown cs nothing = refl
has_shown cs (cell k) = refl
has_shown cs (immediate c n) = refl

hold_has : (cs : List Made) (hs : List Hold) (h : ℕ) → reads (map (shown_hold cs) hs) h ≡ has_hold cs (get_or hs h free)
hold_has cs [] h = refl
hold_has cs (free ∷ hs) zero = refl
hold_has cs (held x ∷ hs) zero = has_shown cs x
hold_has cs (y ∷ hs) (suc h) = hold_has cs hs h

-- what refusals read of it
pub reads_agree : (t : Types) (b : Model) (w : List ℕ) (rs : List HoldRecord) → Agrees t b w rs → (h : ℕ) → reads rs h ≡ reading b h
reads_agree t b w rs ag h = ap (λ xs. reads xs h) ag.held ∙ hold_has b.cells b.holds h

-- word j + 1 of a reached cell, by its place
says_there : (t : Types) (b : Model) (w : List ℕ) (rs : List HoldRecord) (k j : ℕ) → Agrees t b w rs → Reached b k → j < width t (code_of b.cells k) → said_by t w (address_of b.cells k + j) (class_of t (code_of b.cells k) (suc j)) ≡ shown_word b.cells (word_of b.cells k j)
says_there t b w rs k j ag rk lt = sym (said_at t w (code_of b.cells k) (address_of b.cells k) j) ∙ ag.tidy.says k j rk lt

number_shown : (cs : List Made) (x : Word) (n : ℕ) → plain n ≡ shown_word cs x → x ≡ number n
number_shown cs (number m) n e = cc
number_shown cs second n e = absurd cc
number_shown cs (value y) n e = absurd cc

-- a plain word has its number
pub look_agree : (t : Types) (b : Model) (w : List ℕ) (rs : List HoldRecord) (k j : ℕ) → Agrees t b w rs → Reached b k → j < width t (code_of b.cells k) → class_of t (code_of b.cells k) (suc j) ≡ Plain → word_of b.cells k j ≡ number (get_or w (address_of b.cells k + j) 0)
look_agree t b w rs k j ag rk lt is =
    number_shown b.cells (word_of b.cells k j) (get_or w (address_of b.cells k + j) 0)
    (sym (ap (said_by t w (address_of b.cells k + j)) is) ∙ says_there t b w rs k j ag rk lt)

content_shown : (cs : List Made) (x : Word) (o : Option Content) → content o ≡ shown_word cs x → (y : Value) × (x ≡ value y) × (o ≡ Some (shown cs y))
content_shown cs (number m) o e = absurd cc
content_shown cs second o e = absurd cc
content_shown cs (value y) o e = (y, refl, cc)

reference_shown : (t : Types) (cs : List Made) (w : List ℕ) (p : ℕ) (c : Class) (x : Word) → reference c ≡ true → said_by t w p c ≡ shown_word cs x → (y : Value) × (x ≡ value y) × (says t w p c ≡ Some (shown cs y))
reference_shown t cs w p Plain x ok e = absurd cc
reference_shown t cs w p Pointer x ok e = content_shown cs x (says t w p Pointer) e
reference_shown t cs w p (Typed d) x ok e = content_shown cs x (says t w p (Typed d)) e
reference_shown t cs w p SecondHalf x ok e = absurd cc

-- a pointer or a typed word says its value
pub fetch_agree : (t : Types) (b : Model) (w : List ℕ) (rs : List HoldRecord) (k j : ℕ) → Agrees t b w rs → Reached b k → j < width t (code_of b.cells k) → reference (class_of t (code_of b.cells k) (suc j)) ≡ true → (x : Value) × (word_of b.cells k j ≡ value x) × (says t w (address_of b.cells k + j) (class_of t (code_of b.cells k) (suc j)) ≡ Some (shown b.cells x))
fetch_agree t b w rs k j ag rk lt ok =
    reference_shown t b.cells w (address_of b.cells k + j) (class_of t (code_of b.cells k) (suc j)) (word_of b.cells k j) ok (says_there t b w rs k j ag rk lt)
