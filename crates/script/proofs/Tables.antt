-- What a table brings.
use Rattle.std.proofs.Common.{◌≡◌, ℕ, false, List, is_some, Some, None, Ok, Err, Option, Result, sym, refl, ap, ◌∙◌, subst, inl, MatchResult}
use Rattle.layouts.specs.Table.{table_refusal}
use Rattle.sources.specs.Errors.{NoTable}
use Rattle.sources.specs.Words.{words_of}
use Rattle.sources.specs.declared.error.Failure.{Failure}
use Rattle.sources.specs.declared.error.Failure.TheVariants.{Refused, NoMemory}
use Rattle.sources.specs.declared.table.Table.{Table}
use Rattle.lines.specs.Requests.{types}
use Rattle.script.specs.declared.reply.Reply.TheVariants.{Done}
use Rattle.script.specs.declared.store.Store.{Store}
use Rattle.script.specs.Coming.{ComesTo}
use Rattle.script.specs.Obeying.{typed, Brings}
use Rattle.script.specs.Session.{with_store}

pub table_is : (P : Table → Type 0) (ns ws : List ℕ) (r : Result Table Failure) → ws ≡ ns → MatchResult r (λ t. (words_of t ≡ ws) × P t) (λ e. NoTable ws e) → MatchResult r (λ t. words_of t ≡ ns) (λ e. NoTable ns e)
table_is P ns ws (Ok t) e h = h.0 ∙ e
table_is P ns ws (Err f) e h = subst (λ ws. NoTable ws f) e h

none_from : {X : Type 0} (o : Option X) → is_some o ≡ false → o ≡ None
none_from None e = refl
none_from (Some x) e = cc

pub accepted : (o : Option Store) (number : ℕ) (ns : List ℕ) (t : Table) → false ≡ is_some o → words_of t ≡ ns → Brings (with_store o) number (types ns) (typed (words_of t)) (Ok Done)
accepted None number ns t e is =
    inl (refl, (Ok tt, (ap table_refusal (sym is) ∙ none_from (table_refusal (words_of t)) t.accepted, ap typed is), refl))
accepted (Some s) number ns t e is = cc

pub not_accepted : (o : Option Store) (number : ℕ) (ns : List ℕ) (e : Failure) (lost : Type 0) → false ≡ is_some o → NoTable ns e → lost → ComesTo (λ r. Brings (with_store o) number (types ns) (with_store o) r) lost (Err e)
not_accepted None number ns (Refused f) lost e h same = inl (refl, (Err f, (h, refl), refl))
not_accepted None number ns NoMemory lost e h same = same
not_accepted (Some s) number ns f lost e h same = cc e
