-- From a name and the numbers after it to a command.
use Rattle.std.proofs.Common.{◌≡◌, ℕ, ◌<◌, List, [], ◌∷◌, length, Some, None, codes, Option, sym, ap, subst, arith}
use Rattle.lines.specs.declared.part.Part.{Part}
use Rattle.lines.specs.declared.command.Command.{Command}
use Rattle.lines.specs.declared.argument.Argument.{Argument}
use Rattle.lines.specs.Arguments.{Follow, values}
use Rattle.lines.specs.Commands.{Reads, Picks, ParsesWords}
use Rattle.lines.specs.Parts.{text}
use Rattle.lines.specs.Requests.{Request, types, heap, take, release, note, copy, tell, look, set, put, fetch}
use Rattle.lines.proofs.Listings.{lists_once}
use Rattle.lines.proofs.Readings.{lists_follow}

pub parsed : (name : List ℕ) (p : Part) (es : List Argument) (r : Option Command) → Follow p es → Picks name es r → ParsesWords name p r
parsed name p es None f h = λ q ns reads l.
    h q (subst (λ ms. Reads name ms q) (lists_once (text p) ns (values es) l (lists_follow p es f)) reads)
parsed name p es (Some c) f h = (es, f, h)

-- no request with one number has another name than these
pub none_with_one : (name : List ℕ) (n : ℕ) → (name ≡ codes "heap" → 1024 < n) → (name ≡ codes "take" → ⊥) → (name ≡ codes "release" → ⊥) → (name ≡ codes "tell" → ⊥) → (q : Request) → Reads name (n ∷ []) q → name ≡ codes "types"
none_with_one name n large no_take no_release no_tell (types ns) r = sym r.named
none_with_one name n large no_take no_release no_tell (heap l) r =
    let h : 1024 < n = large (sym r.named) in
    let same : l ≡ n = cc r.numbered in
    absurd (omega (arith, r.bounded))
none_with_one name n large no_take no_release no_tell (take h) r = absurd (no_take (sym r.named))
none_with_one name n large no_take no_release no_tell (release h) r = absurd (no_release (sym r.named))
none_with_one name n large no_take no_release no_tell (note h c x) r = absurd (omega (arith, ap length r.numbered))
none_with_one name n large no_take no_release no_tell (copy g h) r = absurd (omega (arith, ap length r.numbered))
none_with_one name n large no_take no_release no_tell (tell h) r = absurd (no_tell (sym r.named))
none_with_one name n large no_take no_release no_tell (look h i) r = absurd (omega (arith, ap length r.numbered))
none_with_one name n large no_take no_release no_tell (set h i x) r = absurd (omega (arith, ap length r.numbered))
none_with_one name n large no_take no_release no_tell (put h i g) r = absurd (omega (arith, ap length r.numbered))
none_with_one name n large no_take no_release no_tell (fetch h i g) r = absurd (omega (arith, ap length r.numbered))

-- the same with three numbers
pub none_with_three : (name : List ℕ) (l m n : ℕ) → (name ≡ codes "note" → ⊥) → (name ≡ codes "set" → ⊥) → (name ≡ codes "put" → ⊥) → (name ≡ codes "fetch" → ⊥) → (q : Request) → Reads name (l ∷ m ∷ n ∷ []) q → name ≡ codes "types"
none_with_three name l m n no_note no_set no_put no_fetch (types ns) r = sym r.named
none_with_three name l m n no_note no_set no_put no_fetch (heap k) r = absurd (omega (arith, ap length r.numbered))
none_with_three name l m n no_note no_set no_put no_fetch (take h) r = absurd (omega (arith, ap length r.numbered))
none_with_three name l m n no_note no_set no_put no_fetch (release h) r = absurd (omega (arith, ap length r.numbered))
none_with_three name l m n no_note no_set no_put no_fetch (note h c x) r = absurd (no_note (sym r.named))
none_with_three name l m n no_note no_set no_put no_fetch (copy g h) r = absurd (omega (arith, ap length r.numbered))
none_with_three name l m n no_note no_set no_put no_fetch (tell h) r = absurd (omega (arith, ap length r.numbered))
none_with_three name l m n no_note no_set no_put no_fetch (look h i) r = absurd (omega (arith, ap length r.numbered))
none_with_three name l m n no_note no_set no_put no_fetch (set h i x) r = absurd (no_set (sym r.named))
none_with_three name l m n no_note no_set no_put no_fetch (put h i g) r = absurd (no_put (sym r.named))
none_with_three name l m n no_note no_set no_put no_fetch (fetch h i g) r = absurd (no_fetch (sym r.named))
