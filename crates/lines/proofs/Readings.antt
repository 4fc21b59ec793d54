-- From a line's first word and what follows it to what the line asks for.
use Rattle.std.proofs.Common.{◌≡◌, ℕ, ◌≤◌, cond, eqb, List, [], ◌∷◌, ◌++◌, map, length, get_or, take, drop, Some, None, codes, decimal, Option, sym, refl, ap, ◌∙◌, subst, arith, length-append, MatchOption}
use Rattle.std.specs.List.{flat_map}
use Rattle.std.proofs.lemmas.List.{append_assoc, append-nil, drop_at, take_at}
use Rattle.lines.specs.declared.part.Part.{Part}
use Rattle.lines.specs.declared.command.Command.{Command}
use Rattle.lines.specs.declared.argument.Argument.{Argument}
use Rattle.lines.specs.Arguments.{Follow, Stand, values}
use Rattle.lines.specs.Commands.{Holds, Says, ParsesTypes, ParsesWords}
use Rattle.lines.specs.Numbers.{Lists}
use Rattle.lines.specs.Parts.{text, Within}
use Rattle.lines.specs.Requests as requests
use Rattle.lines.specs.Requests.{Request, types, heap, release, note, copy, tell, look, set, put, fetch, name_of, numbers_of, Line, NoLine}
use Rattle.lines.specs.Words.{Cut, Unspaced, spaced}
use Rattle.lines.proofs.Cuts.{cut_once, follows_joined, lacks_by}
use Rattle.lines.proofs.Listings.{lists_once, lists_more}

unspaced_name : (q : Request) → Unspaced (name_of q)
unspaced_name (types ns) = lacks_by 32 (codes "types") refl
unspaced_name (heap l) = lacks_by 32 (codes "heap") refl
unspaced_name (requests.take h) = lacks_by 32 (codes "take") refl
unspaced_name (release h) = lacks_by 32 (codes "release") refl
unspaced_name (note h c x) = lacks_by 32 (codes "note") refl
unspaced_name (copy g h) = lacks_by 32 (codes "copy") refl
unspaced_name (tell h) = lacks_by 32 (codes "tell") refl
unspaced_name (look h i) = lacks_by 32 (codes "look") refl
unspaced_name (set h i x) = lacks_by 32 (codes "set") refl
unspaced_name (put h i g) = lacks_by 32 (codes "put") refl
unspaced_name (fetch h i g) = lacks_by 32 (codes "fetch") refl

-- the first word is the name of what is asked for, and its numbers follow
pub begins_with : (line word rest : List ℕ) (q : Request) → Cut line word rest → Line line q → (word ≡ name_of q) × Lists rest (numbers_of q)
begins_with line word rest q c l =
    let p = cut_once word (name_of q) rest (flat_map spaced (map decimal (numbers_of q))) c.unspaced (unspaced_name q) c.follows (follows_joined (map decimal (numbers_of q))) (sym c.whole ∙ l.written) in
    (p.0, (l.small, p.1))

-- a request by its name and its numbers
abbrev pub request : List ℕ → List ℕ → Request
request name ns =
    cond (eqb (get_or name 0 0) 104) (heap (get_or ns 0 0))
    (cond (eqb (get_or name 0 0) 114) (release (get_or ns 0 0))
    (cond (eqb (get_or name 0 0) 110) (note (get_or ns 0 0) (get_or ns 1 0) (get_or ns 2 0))
    (cond (eqb (get_or name 0 0) 99) (copy (get_or ns 0 0) (get_or ns 1 0))
    (cond (eqb (get_or name 0 0) 108) (look (get_or ns 0 0) (get_or ns 1 0))
    (cond (eqb (get_or name 0 0) 115) (set (get_or ns 0 0) (get_or ns 1 0) (get_or ns 2 0))
    (cond (eqb (get_or name 0 0) 112) (put (get_or ns 0 0) (get_or ns 1 0) (get_or ns 2 0))
    (cond (eqb (get_or name 0 0) 102) (fetch (get_or ns 0 0) (get_or ns 1 0) (get_or ns 2 0))
    (cond (eqb (get_or name 1 0) 97) (requests.take (get_or ns 0 0))
    (cond (eqb (get_or name 1 0) 101) (tell (get_or ns 0 0))
    (types ns))))))))))

request_of : (q : Request) → request (name_of q) (numbers_of q) ≡ q
request_of (types ns) = refl
request_of (heap l) = refl
request_of (requests.take h) = refl
request_of (release h) = refl
request_of (note h c x) = refl
request_of (copy g h) = refl
request_of (tell h) = refl
request_of (look h i) = refl
request_of (set h i x) = refl
request_of (put h i g) = refl
request_of (fetch h i g) = refl

pub request_by : (name ns : List ℕ) (q : Request) → name_of q ≡ name → numbers_of q ≡ ns → q ≡ request name ns
request_by name ns q e f = sym (request_of q) ∙ ap (λ n. request n (numbers_of q)) e ∙ ap (request name) f

-- a line asks for one thing
pub line_once : (line : List ℕ) (p q : Request) → Line line p → Line line q → p ≡ q
line_once line p q l k =
    let c : Cut line (name_of p) (flat_map spaced (map decimal (numbers_of p))) = record { whole = l.written; unspaced = unspaced_name p; follows = follows_joined (map decimal (numbers_of p)) } in
    let b = begins_with line (name_of p) (flat_map spaced (map decimal (numbers_of p))) q c k in
    let same : numbers_of p ≡ numbers_of q = lists_once (flat_map spaced (map decimal (numbers_of p))) (numbers_of p) (numbers_of q) (l.small, refl) b.1 in
    request_by (name_of q) (numbers_of q) p b.0 same ∙ request_of q

within_rest : (line before after : List ℕ) (p : Part) → line ≡ before ++ (text p ++ after) → p.at ≡ length before → Within line p
within_rest line before after p e at =
    sym (ap (take (length (text p))) (ap (λ k. drop k line) at ∙ ap (drop (length before)) e ∙ drop_at before (text p ++ after) (length before) refl) ∙ take_at (text p) after (length (text p)) refl)

-- what follows a word stands in the line
stands : (line before : List ℕ) (p : Part) (es : List Argument) → line ≡ before ++ text p → p.at ≡ length before → Follow p es → Stand line p.at es
stands line before p [] e at f = at ∙ ap length (sym (e ∙ ap (λ t. before ++ t) f ∙ append-nil before))
stands line before p (x ∷ es) e at f =
    let next = f.1 in
    let whole : line ≡ (before ++ 32 ∷ []) ++ (text x.part ++ text f.0) = e ∙ ap (λ t. before ++ t) next.whole ∙ sym (append_assoc before (32 ∷ []) (text x.part ++ text f.0)) in
    let place : x.part.at ≡ length (before ++ 32 ∷ []) = omega (arith, next.starts, length-append before (32 ∷ [])) in
    let later = stands line ((before ++ 32 ∷ []) ++ text x.part) f.0 es (whole ∙ sym (append_assoc (before ++ 32 ∷ []) (text x.part) (text f.0))) (omega (arith, next.goes_on, length-append (before ++ 32 ∷ []) (text x.part))) f.2 in
    (next.starts, within_rest line (before ++ 32 ∷ []) (text f.0) x.part whole place, subst (λ k. Stand line k es) next.goes_on later)

pub lists_follow : (p : Part) (es : List Argument) → Follow p es → Lists (text p) (values es)
lists_follow p [] f = (tt, f)
lists_follow p (x ∷ es) f = lists_more p x.part f.0 x.value f.1 x.writes (values es) (lists_follow f.0 es f.2)

no_types : (line word : List ℕ) (p : Part) → Cut line word (text p) → word ≡ codes "types" → ((ns : List ℕ) → Lists (text p) ns → length ns ≤ 64 → ⊥) → NoLine line
no_types line word p c named h q l =
    let b = begins_with line word (text p) q c l in
    let is : q ≡ types (numbers_of q) = request_by (codes "types") (numbers_of q) q (sym b.0 ∙ named) refl in
    h (numbers_of q) b.1 (subst requests.Bounded is l.bounded)

pub parsed_types : (line word : List ℕ) (p : Part) (r : Option Command) → length line ≤ 400 → Cut line word (text p) → p.at ≡ length word → word ≡ codes "types" → ParsesTypes p r → MatchOption r (NoLine line) (λ c. Says line c)
parsed_types line word p None short c at named h = no_types line word p c named h
parsed_types line word p (Some k) short c at named h =
    let ns = h.1.0 in (
      types ns,
      record {
        written = c.whole ∙ ap (λ w. w ++ text p) named ∙ ap (λ t. codes "types" ++ t) h.1.1.1;
        short = short;
        bounded = h.1.2;
        small = h.1.1.0;
      },
      subst (λ k. Holds k line (types ns)) (sym h.0) (within_rest line word [] p (c.whole ∙ ap (λ t. word ++ t) (sym (append-nil (text p)))) at, at ∙ ap length named, (ns, refl, h.1.1)),
    )

pub parsed_words : (line word : List ℕ) (p : Part) (r : Option Command) → length line ≤ 400 → Cut line word (text p) → p.at ≡ length word → (word ≡ codes "types" → ⊥) → ParsesWords word p r → MatchOption r (NoLine line) (λ c. Says line c)
parsed_words line word p None short c at other h = λ q l.
    let b = begins_with line word (text p) q c l in
    other (h q (numbers_of q) (record { named = sym b.0; numbered = refl; bounded = l.bounded }) b.1)
parsed_words line word p (Some k) short c at other h =
    let es = h.0 in
    let got = h.2 line (subst (λ k. Stand line k es) at (stands line word p es c.whole at h.1)) in
    let lists = lists_follow p es h.1 in (
      got.0,
      record {
        written = c.whole ∙ ap (λ t. word ++ t) lists.1 ∙ ap (λ w. w ++ flat_map spaced (map decimal (values es))) (sym got.1.named) ∙ ap (λ ns. name_of got.0 ++ flat_map spaced (map decimal ns)) (sym got.1.numbered);
        short = short;
        bounded = got.1.bounded;
        small = (subst (λ ns. Lists (text p) ns) (sym got.1.numbered) lists).0;
      },
      got.2,
    )
