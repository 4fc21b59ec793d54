-- Which texts are numbers.
use Rattle.std.proofs.Common.{◌≡◌, ℕ, zero, suc, ◌^◌, ◌<◌, Bool, false, List, length, get_or, Ok, Err, IsUtf8, decimal, Decides, Option, Result, sym, ap, ◌∙◌, subst, arith, MatchOption}
use Rattle.std.specs.Str.Parse.{AllDigits, digits_value, ParsesUnsigned}
use Rattle.std.specs.Result.{result_ok}
use Rattle.std.proofs.lemmas.Str.{IsUtf8-from_ascii}
use Rattle.std.proofs.lemmas.Fmt.{decimal_digit, decimal_nonempty, first_decimal, digits_decimal, digits_value-decimal, decimal-digits_value, IsAscii-decimal}
use Rattle.std.proofs.lemmas.Str.Parse.{IsNumeralModel, numerals_by_value, tells_digits, parse_plain, digit_at}
use Rattle.std.proofs.lemmas.Bool.Decides.{not_from_Decides}
use Rattle.lines.specs.Numbers.{Plain, Writes}

pub own : IsNumeralModel (AllDigits 10) (digits_value 10)
own = numerals_by_value (AllDigits 10) tells_digits

lone_zero : (n : ℕ) → n < 2 ^ 64 → get_or (decimal n) 0 0 ≡ 48 → length (decimal n) ≡ 1
lone_zero zero h e = ap length (decimal_digit 0 (omega arith))
lone_zero (suc n) h e = absurd (omega (arith, first_decimal (suc n) (omega arith) h))

plain_decimal : (n : ℕ) → n < 2 ^ 64 → Plain (decimal n)
plain_decimal n h = (λ e. omega (arith, digit_at (decimal n) 0 (digits_decimal own n h) (decimal_nonempty n h)), lone_zero n h)

abbrev pub Answers : List ℕ → Option ℕ → Type 0
Answers bs o = MatchOption o ((n : ℕ) → Writes bs n → ⊥) (λ n. Writes bs n)

by_parse : {E : Type 0} (bs : List ℕ) (r : Result ℕ E) → Plain bs → ParsesUnsigned 32 10 bs r → Answers bs (result_ok r)
by_parse {E} bs (Ok x) plain h =
    let p = parse_plain own {E = E} 32 bs (Ok x) h plain.0 in
    (omega (arith, p), sym (ap decimal p.1 ∙ decimal-digits_value own bs p.0.0 p.0.1 plain.1 (omega (arith, p))))
by_parse {E} bs (Err e) plain h = λ n w.
    let p = parse_plain own {E = E} 32 bs (Err e) h plain.0 in
    p (subst (AllDigits 10) (sym w.1) (digits_decimal own n (omega (arith, w.0))), omega (arith, ap length w.1, decimal_nonempty n (omega (arith, w.0))), omega (arith, w.0, ap (digits_value 10) w.1, digits_value-decimal own n (omega (arith, w.0))))

pub answers : {E : Type 0} (bs text : List ℕ) (r : Result ℕ E) (o : Option ℕ) → text ≡ bs → Plain bs → ParsesUnsigned 32 10 text r → o ≡ result_ok r → Answers bs o
answers bs text r o same plain h e = subst (Answers bs) (sym e) (by_parse bs r plain (subst (λ t. ParsesUnsigned 32 10 t r) same h))

pub not_plain : (bs : List ℕ) (b : Bool) → Decides b (Plain bs) → b ≡ false → (n : ℕ) → Writes bs n → ⊥
not_plain bs b d f n w = not_from_Decides b d f (subst Plain (sym w.1) (plain_decimal n (omega (arith, w.0))))

pub not_text : (bs : List ℕ) → (IsUtf8 bs → ⊥) → (n : ℕ) → Writes bs n → ⊥
not_text bs f n w = f (subst IsUtf8 (sym w.1) (IsUtf8-from_ascii (decimal n) (IsAscii-decimal n (omega (arith, w.0)))))
