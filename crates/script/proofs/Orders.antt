-- From what a line asks for to what the session answers.
use Rattle.std.proofs.Common.{◌≡◌, ℕ, ◌⊎◌, List, IfOk, Ok, Err, Result, sym, refl, subst, inl, inr, MatchResult}
use Rattle.sources.specs.declared.error.Failure.{Failure}
use Rattle.sources.specs.declared.error.Failure.TheVariants.{Refused, NoMemory}
use Rattle.lines.specs.Requests.{Request, Line}
use Rattle.lines.proofs.Readings.{line_once}
use Rattle.script.specs.declared.reply.Reply.{Reply}
use Rattle.script.specs.Coming.{Comes, ComesTo}
use Rattle.script.specs.Obeying.{State, InOrder, Obeys, Brings}
use Rattle.script.specs.Replies.{Outcome, printed}
use Rattle.script.specs.Session.{Answers}
use Rattle.script.proofs.Texts.{one_line}

comes : (line : List ℕ) (number : ℕ) (s t : State) (q : Request) (o : Outcome) → Line line q → Brings s number q t o → Comes line s number t o
comes line number s t q o l (inl b) = inl (q, (l, b.0), b.1)
comes line number s t q o l (inr b) =
    inr ((λ p a. b.0 (subst (InOrder s) (line_once line p q a.0 l) a.1)), b.1, b.2)

pub all_come : (line : List ℕ) (number : ℕ) (s t : State) (q : Request) (lost : Type 0) (r : Result Reply Failure) → Line line q → ComesTo (λ o. Brings s number q t o) lost r → ComesTo (λ o. Comes line s number t o) lost r
all_come line number s t q lost (Ok reply) l h = comes line number s t q (Ok reply) l h
all_come line number s t q lost (Err (Refused refusal)) l h = comes line number s t q (Err refusal) l h
all_come line number s t q lost (Err NoMemory) l h = h

answers : (line : List ℕ) (number : ℕ) (s t : State) (o : Outcome) → Comes line s number t o → Answers line number s (printed o) t
answers line number s t o (inl c) = record {
  one_line = one_line o;
  asked = inl (c.0, c.1);
  obeyed = λ q a. (o, subst (λ q. Obeys s q t o) (line_once line c.0 q c.1.0 a.0) c.2, refl);
  other = λ h. absurd (h c.0 c.1);
}
answers line number s t o (inr c) = record {
  one_line = one_line o;
  asked = inr c.0;
  obeyed = λ q a. absurd (c.0 q a);
  other = λ h. (subst (λ r. printed o ≡ printed r) c.2 refl, c.1);
}

-- the outcome is written, or there was no memory for it
pub answered : {X E : Type 0} (text : X → List ℕ) (line : List ℕ) (number : ℕ) (s t : State) (o : Outcome) (r : Result X E) → Comes line s number t o → IfOk r (λ x. text x ≡ printed o) → MatchResult r (λ x. Answers line number s (text x) t) (λ _. (t ≡ s) ⊎ ((bytes : List ℕ) × Answers line number s bytes t))
answered text line number s t o (Ok x) c is = subst (λ bytes. Answers line number s bytes t) (sym is) (answers line number s t o c)
answered text line number s t o (Err e) c is = inr (printed o, answers line number s t o c)
