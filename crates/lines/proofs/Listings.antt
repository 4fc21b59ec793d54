-- Numbers read one after the other.
use Rattle.std.proofs.Common.{◌≡◌, ◌≢◌, ℕ, zero, suc, ◌+◌, ◌/◌, ◌%◌, ◌<◌, ◌≤◌, true, false, nat_eq, nat_lt, cond, List, [], ◌∷◌, ◌++◌, map, length, decimal, sym, refl, ap, ◌∙◌, subst, arith, length-append}
use Rattle.std.specs.List.{flat_map}
use Rattle.std.specs.Fmt.{digits, digits_onto, digit_glyph}
use Rattle.std.proofs.lemmas.Fmt.{decimal_injective}
use Rattle.std.proofs.lemmas.List.{append_assoc, append-nil}
use Rattle.lines.specs.Numbers.{Writes, Lists}
use Rattle.lines.specs.declared.argument.Argument.{Argument}
use Rattle.lines.specs.declared.part.Part.{Part}
use Rattle.lines.specs.Parts.{NextWord, text}
use Rattle.lines.specs.Words.{Lacks, Unspaced, Follows, spaced}
use Rattle.lines.proofs.Cuts.{cut_once, follows_joined}

lacks_more : (b c : ℕ) (w : List ℕ) → c ≢ b → Lacks b w → Lacks b (c ∷ w)
lacks_more b c w ne h zero lt e = ne e
lacks_more b c w ne h (suc i) lt e = h i (omega arith) e

glyph_high : (d : ℕ) → 48 ≤ digit_glyph false d
glyph_high d = elim (nat_lt d 10) as (λ v. 48 ≤ cond v (48 + d) (87 + d)) [ true ↦ omega arith | false ↦ omega arith ]

lacks_digits : (b k n : ℕ) (w : List ℕ) → b < 48 → Lacks b w → Lacks b (digits_onto k 10 false n w)
lacks_digits b zero n w below h = h
lacks_digits b (suc k) n w below h =
    let more : Lacks b (digit_glyph false (n % 10) ∷ w) = lacks_more b (digit_glyph false (n % 10)) w (λ e. omega (arith, glyph_high (n % 10))) h in
    elim (nat_eq (n / 10) 0) as (λ v. Lacks b (cond v (digit_glyph false (n % 10) ∷ w) (digits_onto k 10 false (n / 10) (digit_glyph false (n % 10) ∷ w)))) [ true ↦ more | false ↦ lacks_digits b k (n / 10) (digit_glyph false (n % 10) ∷ w) below more ]

-- only digits stand in a decimal
pub lacks_decimal : (b n : ℕ) → b < 48 → Lacks b (decimal n)
unfolding digits
lacks_decimal b n below = lacks_digits b 64 n [] below (λ i lt e. omega arith)

unspaced_decimal : (n : ℕ) → Unspaced (decimal n)
unspaced_decimal n = lacks_decimal 32 n (omega arith)

-- a listing that goes on with a word and then the rest: its first number is the word's
pub record Begins (word rest ns : List ℕ) : Type 0 where
  pub first : ℕ
  pub others : List ℕ
  pub all : ns ≡ first ∷ others
  pub writes : Writes word first
  pub goes_on : Lists rest others

begins : (word rest ns : List ℕ) → Unspaced word → Follows rest → Lists (spaced word ++ rest) ns → Begins word rest ns
begins word rest [] u f l = cc l.1
begins word rest (n ∷ ns) u f l =
    let e : word ++ rest ≡ decimal n ++ flat_map spaced (map decimal ns) = cc l.1 in
    let p = cut_once word (decimal n) rest (flat_map spaced (map decimal ns)) u (unspaced_decimal n) f (follows_joined (map decimal ns)) e in
    record {
      first = n;
      others = ns;
      all = refl;
      writes = (l.0.0, p.0);
      goes_on = (l.0.1, p.1);
    }

-- the text lists these numbers, and then those that the rest lists
pub record Upto (bs ms rest : List ℕ) : Type 0 where
  pub to : (ns : List ℕ) → Lists rest ns → Lists bs (ms ++ ns)
  pub from : (ns : List ℕ) → Lists bs ns → (ks : List ℕ) × (ns ≡ ms ++ ks) × Lists rest ks

pub upto_none : {bs : List ℕ} → Upto bs [] bs
upto_none {bs} = record { to = λ ns l. l; from = λ ns l. (ns, refl, l) }

pub lists_more : (rest word after : Part) (n : ℕ) → NextWord rest word after → Writes (text word) n → (ns : List ℕ) → Lists (text after) ns → Lists (text rest) (n ∷ ns)
lists_more rest word after n next w ns l =
    ((w.0, l.0), next.whole ∙ ap (λ t. 32 ∷ (t ++ text after)) w.1 ∙ ap (λ t. 32 ∷ (decimal n ++ t)) l.1)

pub begun : (rest word after : Part) → NextWord rest word after → (ns : List ℕ) → Lists (text rest) ns → Begins (text word) (text after) ns
begun rest word after next ns l = begins (text word) (text after) ns next.unspaced next.follows (l.0, sym next.whole ∙ l.1)

pub upto_more : {bs ms : List ℕ} {rest word after : Part} (n : ℕ) → Upto bs ms (text rest) → NextWord rest word after → Writes (text word) n → Upto bs (ms ++ n ∷ []) (text after)
upto_more {bs} {ms} {rest} {word} {after} n up next w = record {
  to = λ ns l. subst (Lists bs) (sym (append_assoc ms (n ∷ []) ns)) (up.to (n ∷ ns) (lists_more rest word after n next w ns l));
  from = λ ns l.
      let p = up.from ns l in
      let b = begun rest word after next p.0 p.2 in
      let same : b.first ≡ n = decimal_injective b.first n (omega (arith, b.writes.0)) (omega (arith, w.0)) (sym b.writes.1 ∙ w.1) in
      (b.others, p.1 ∙ ap (λ ks. ms ++ ks) (b.all ∙ ap (λ m. m ∷ b.others) same) ∙ sym (append_assoc ms (n ∷ []) b.others), b.goes_on);
}

-- the next word is an argument
pub upto_argument : {bs ms : List ℕ} {rest word after : Part} (a : Argument) → Upto bs ms (text rest) → NextWord rest word after → a.part ≡ word → Upto bs (ms ++ a.value ∷ []) (text after)
upto_argument {bs} {ms} {rest} {word} {after} a up next e =
    upto_more a.value up next (subst (λ p. Writes (text p) a.value) e a.writes)

-- the next word is no number
pub upto_bad : {bs ms : List ℕ} {rest word after : Part} → Upto bs ms (text rest) → NextWord rest word after → ((n : ℕ) → Writes (text word) n → ⊥) → (ns : List ℕ) → Lists bs ns → ⊥
upto_bad {bs} {ms} {rest} {word} {after} up next none ns l =
    let p = up.from ns l in
    let b = begun rest word after next p.0 p.2 in
    none b.first b.writes

-- there is a next word
pub upto_full : {bs ms : List ℕ} {rest word after : Part} → Upto bs ms (text rest) → NextWord rest word after → (ns : List ℕ) → Lists bs ns → length ns ≤ length ms → ⊥
upto_full {bs} {ms} {rest} {word} {after} up next ns l h =
    let p = up.from ns l in
    let b = begun rest word after next p.0 p.2 in
    omega (arith, ap length p.1, length-append ms p.0, ap length b.all)

pub upto_end : {bs ms rest : List ℕ} → Upto bs ms rest → rest ≡ [] → Lists bs ms
upto_end {bs} {ms} {rest} up e = subst (Lists bs) (append-nil ms) (up.to [] (tt, e))

-- a text lists its numbers in one way
pub lists_once : (bs ms ns : List ℕ) → Lists bs ms → Lists bs ns → ms ≡ ns
lists_once bs [] [] l k = refl
lists_once bs [] (n ∷ ns) l k = cc (l.1, k.1)
lists_once bs (m ∷ ms) ns l k =
    let b = begins (decimal m) (flat_map spaced (map decimal ms)) ns (unspaced_decimal m) (follows_joined (map decimal ms)) (k.0, sym l.1 ∙ k.1) in
    let first : m ≡ b.first = decimal_injective m b.first (omega (arith, l.0.0)) (omega (arith, b.writes.0)) b.writes.1 in
    let others : ms ≡ b.others = lists_once (flat_map spaced (map decimal ms)) ms b.others (l.0.1, refl) b.goes_on in
    cc b.all

pub follows_lists : (bs ns : List ℕ) → Lists bs ns → Follows bs
follows_lists bs ns l = subst Follows (sym l.1) (follows_joined (map decimal ns))

-- an empty text lists nothing, and any other something
pub lists_none : (bs ns : List ℕ) → bs ≡ [] → Lists bs ns → 1 ≤ length ns → ⊥
lists_none bs [] e l h = omega arith
lists_none bs (n ∷ ns) e l h = cc l.1
