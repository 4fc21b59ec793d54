-- A child that is a cell lies within the heap.
use Rattle.std.proofs.Common.{◌≡◌, ℕ, ◌+◌, ◌<◌, ◌≤◌, Bool, true, false, cond, eqb, List, length, get_or, Some, None, Option, refl, subst, arith}
use Rattle.std.proofs.lemmas.Bool.Decides.{nat_tests}
use Rattle.layouts.specs.declared.entry.Class.{Class}
use Rattle.layouts.specs.declared.entry.Class.TheVariants.{Plain, Pointer, Typed, SecondHalf}
use Rattle.layouts.specs.Types.{Types, Lawful}
use Rattle.layouts.specs.Classes.{class_of}
use Rattle.cells.specs.declared.content.Content.{Content}
use Rattle.cells.specs.declared.content.Content.TheVariants.{Nothing as NoContent, Cell as CellContent, Immediate}
use Rattle.cells.specs.Words.{fits, cell_free, place}
use Rattle.scan.specs.Children.{width, child_in, child_by, child_at}
use Rattle.scan.specs.declared.frame.Child.TheVariants.{Nothing, Cell}

pub record Inside (t : Types) (L c a : ℕ) : Type 0 where
  pub some : 0 < width t c
  pub high : 0 < a
  pub within : a + width t c ≤ L

pub inside_fits : (t : Types) (L c a : ℕ) → fits t L c a ≡ true → Inside t L c a
inside_fits t L c a e = grind (arith, nat_tests)

-- a cell has at most 255 words
short_of : (t : Types) → Lawful t → (c : ℕ) (o : Option ℕ) → t.size c ≡ o → width t c ≤ 255
short_of t laws c None e = rw e (omega arith)
short_of t laws c (Some n) e = rw e (laws.sized c n e).2

pub short : (t : Types) → Lawful t → (c : ℕ) → width t c ≤ 255
short t laws c = short_of t laws c (t.size c) refl

inside_cell : (t : Types) (L c a c' a' : ℕ) (b : Bool) → fits t L c a ≡ b → child_in (cond b (Some (CellContent c a)) None) ≡ Cell c' a' → Inside t L c' a'
inside_cell t L c a c' a' true yes-fits e =
    let same-c : c ≡ c' = cc in
    let same-a : a ≡ a' = cc in
    subst (λ x. Inside t L x a') same-c (subst (λ x. Inside t L c x) same-a (inside_fits t L c a yes-fits))
inside_cell t L c a c' a' false no-fits e = let z : ◌≡◌ {A = ℕ} 0 1 = cc in absurd (omega arith)

-- a content that is no cell comes first, or it does not
unless : (b : Bool) (k : Content) (o : Option Content) (c a : ℕ) → child_in (Some k) ≡ Nothing → child_in (cond b (Some k) o) ≡ Cell c a → child_in o ≡ Cell c a
unless true k o c a none e = let z : ◌≡◌ {A = ℕ} 0 1 = cc in absurd (omega arith)
unless false k o c a none e = e

inside_by : (t : Types) (w : List ℕ) (p c' a' : ℕ) (k : Class) → child_by t w p k ≡ Cell c' a' → Inside t (length w) c' a'
inside_by t w p c' a' Plain e = let z : ◌≡◌ {A = ℕ} 0 1 = cc in absurd (omega arith)
inside_by t w p c' a' SecondHalf e = let z : ◌≡◌ {A = ℕ} 0 1 = cc in absurd (omega arith)
inside_by t w p c' a' Pointer e =
    inside_cell t (length w) (get_or w p 0) (get_or w (p + 1) 0) c' a' _ refl
    (unless (cell_free (t.size (get_or w p 0))) (Immediate (get_or w p 0) (get_or w (p + 1) 0)) _ c' a' refl
    (unless (eqb (get_or w p 0) 0) NoContent _ c' a' refl e))
inside_by t w p c' a' (Typed c) e =
    inside_cell t (length w) c (get_or w p 0) c' a' _ refl (unless (eqb (get_or w p 0) 0) NoContent _ c' a' refl e)

pub inside_child : (t : Types) (w : List ℕ) (c a i c' a' : ℕ) → child_at t w c a i ≡ Cell c' a' → Inside t (length w) c' a'
inside_child t w c a i c' a' e = inside_by t w (place a i) c' a' (class_of t c i) e
