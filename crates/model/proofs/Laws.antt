-- What the laws of a source say of sizes and classes.
use Rattle.std.proofs.Common.{◌≡◌, ℕ, suc, ◌-◌, ◌<◌, false, Some, None, Option, refl, ap, ◌∙◌, add-one, arith}
use Rattle.layouts.specs.declared.entry.Entry.{Entry}
use Rattle.layouts.specs.declared.entry.Entry.TheVariants.{Z, P, Code}
use Rattle.layouts.specs.declared.entry.Class.TheVariants.{Pointer, SecondHalf}
use Rattle.layouts.specs.Types.{Types, Lawful}
use Rattle.layouts.specs.Classes.{class_by, class_of}
use Rattle.cells.specs.Words.{words_in, cell_free}
use Rattle.scan.specs.Children.{width}

none_of : (t : Types) → Lawful t → (o : Option ℕ) → t.size 0 ≡ o → t.size 0 ≡ None
none_of t law None e = e
none_of t law (Some n) e = absurd (omega (arith, (law.sized 0 n e).0))

-- code 0 is no type
pub no_type : (t : Types) → Lawful t → t.size 0 ≡ None
no_type t law = none_of t law (t.size 0) refl

pub no_width : (t : Types) → Lawful t → width t 0 ≡ 0
no_width t law = ap words_in (no_type t law)

pub not_free : (t : Types) → Lawful t → cell_free (t.size 0) ≡ false
not_free t law = ap cell_free (no_type t law)

pointer_entry : (e before : Entry) → class_by e before ≡ Pointer → e ≡ P
pointer_entry P before is = refl
pointer_entry (Code k) before is = absurd cc
pointer_entry Z P is = absurd cc
pointer_entry Z Z is = absurd cc
pointer_entry Z (Code k) is = absurd cc

back : (j : ℕ) → suc j - 1 ≡ j
back j = omega arith

-- a pointer is never the last word
pub paired : (t : Types) (c i : ℕ) → Lawful t → class_of t c i ≡ Pointer → i < width t c
paired t c i law is =
    let p = (law.paired c i (pointer_entry (t.entry c i) (t.entry c (i - 1)) is)).0 in
    let long : width t c ≡ p.0 = ap words_in p.1 in
    omega (arith, p.2)

-- its second half follows it
pub second_half : (t : Types) (c i : ℕ) → Lawful t → class_of t c i ≡ Pointer → class_of t c (suc i) ≡ SecondHalf
second_half t c i law is =
    let first : t.entry c i ≡ P = pointer_entry (t.entry c i) (t.entry c (i - 1)) is in
    let next : t.entry c (suc i) ≡ Z = rw add-one at (law.paired c i first).1 in
    ap (λ e. class_by e (t.entry c (suc i - 1))) next ∙ ap (λ z. class_by Z (t.entry c z)) (back i) ∙ ap (class_by Z) first
