-- What each call of a list answers and leaves, from a known state; and a list of them.
use Rattle.std.proofs.Common.{◌≡◌, ℕ, min, List, [], ◌∷◌, ◌++◌, map, length, drop, set, replicate, Some, None, Ok, Err, Option, Result, sym, refl, ap, ◌∙◌, subst}
use Rattle.refusals.specs.declared.refusal.Refusal.{Refusal}
use Rattle.layouts.specs.Types.{Types}
use Rattle.layouts.specs.Classes.{class_of}
use Rattle.cells.specs.declared.content.Content.TheVariants.{Nothing}
use Rattle.cells.specs.Words.{with_content}
use Rattle.calls.specs.declared.record.HoldRecord.{HoldRecord}
use Rattle.calls.specs.Holds.{unheld, holding, at}
use Rattle.calls.specs.Calls.{Answers, take_due, held_due, make_due, plain_due, put_due, place_at, code_at}
use Rattle.scan.specs.Visits.{Visit}
use Rattle.replay.specs.declared.call.CellCall.TheVariants.{Take, Release, Set, Put}
use Rattle.replay.specs.declared.call.Call.{Call}
use Rattle.replay.specs.declared.call.Call.TheVariants.{Cell, Make, Mark, Sweep}
use Rattle.replay.specs.declared.call.Answer.{Answer}
use Rattle.replay.specs.declared.call.Answer.TheVariants.{Done, Number}
use Rattle.replay.specs.declared.call.Phase.{Phase}
use Rattle.replay.specs.declared.call.Phase.TheVariants.{Open, Marked}
use Rattle.replay.specs.States.{State, Event, Answered, answer_of}
use Rattle.replay.specs.Steps.{CallStep, Run, done, after_mark, after_sweep}
use Rattle.calls.specs.Rows.{row_1, memory_due}
use Rattle.cells.specs.Words.{words_in}
use Rattle.scan.specs.Marks.{unmarked}
use Rattle.scan.specs.Endings as ending
use Rattle.marking.specs.Roots.{Roots, roots}
use Rattle.sweeping.specs.Sweeping.{Swept, Sweeps}
use Rattle.sweeping.proofs.Once.{one_sweep}
use Rattle.making.specs.Makes.{with_cell}
use Rattle.figures.proofs.Finds.{Finds, marked, marked_only}

abbrev pub state : Phase → List ℕ → List HoldRecord → List ℕ → State
state b w rs m = record { phase = b; words = w; marks = m; records = rs }

pub state_is : (σ : State) {b : Phase} {w m : List ℕ} {rs : List HoldRecord} → σ.phase ≡ b → σ.words ≡ w → σ.records ≡ rs → σ.marks ≡ m → σ ≡ state b w rs m
state_is σ {b} {w} {m} {rs} eb ew er em =
    ap (λ x. state x σ.words σ.records σ.marks) eb
    ∙ ap (λ x. state b x σ.records σ.marks) ew
    ∙ ap (λ x. state b w x σ.marks) er
    ∙ ap (λ x. state b w rs x) em

none_some : {f : Refusal} → ◌≡◌ {A = Option Refusal} None (Some f) → ⊥
none_some e = cc

-- a call that no row refuses is done
pub accepted : {X : Type 0} {due : Option Refusal} {same : Type 0} {does : X → Type 0} (given : X → Answer) {a : Result Answer Refusal} → due ≡ None
    → Answered given a (Answers due same does) → (x : X) × (a ≡ Ok (given x)) × does x
accepted {X} {due} {same} {does} given {a} free y = by_result y.result y.is y.related
  where
    by_result : (r : Result X Refusal) → a ≡ answer_of given r → Answers due same does r → (x : X) × (a ≡ Ok (given x)) × does x
    by_result (Ok x) is related = (x, is, related.1)
    by_result (Err f) is related = absurd (none_some (sym free ∙ related.0))

cons_nil : {A : Type 0} {x : A} {xs : List A} → (x ∷ xs) ≡ [] → ⊥
cons_nil e = cc

module _ (t : Types) {S : Type 0} (step : S → Visit → Option S) (P : ℕ) where
  -- from the state σ the call answers x and leaves τ, in whatever way it is carried out
  abbrev pub Only : Call S → Result Answer Refusal → State → State → Type 0
  Only c x σ τ = CallStep t step P c σ x τ c
      × ((a : Result Answer Refusal) (d : Call S) (σ' : State) → CallStep t step P c σ a σ' d → (a ≡ x) × (σ' ≡ τ))

  -- so do the calls, one after the other
  pub data Leads : List (Call S) → List (Result Answer Refusal) → State → State → Type 0 where
    end : {σ : State} → Leads [] [] σ σ
    next : {c : Call S} {cs : List (Call S)} {x : Result Answer Refusal} {xs : List (Result Answer Refusal)} {σ τ υ : State}
        → Only c x σ τ → Leads cs xs τ υ → Leads (c ∷ cs) (x ∷ xs) σ υ

  pub joined : {cs ds : List (Call S)} {xs ys : List (Result Answer Refusal)} {σ τ υ : State} → Leads cs xs σ τ → Leads ds ys τ υ → Leads (cs ++ ds) (xs ++ ys) σ υ
  joined end more = more
  joined (next one rest) more = next one (joined rest more)

  pub every_run : {cs : List (Call S)} {xs : List (Result Answer Refusal)} {σ τ : State} → Leads cs xs σ τ
      → (es : List (Event S)) (υ : State) → map (λ (e : Event S). e.call) es ≡ cs → Run t step P es σ υ
      → (map (λ (e : Event S). e.answer) es ≡ xs) × (υ ≡ τ)
  every_run end [] υ same run = (refl, sym run)
  every_run end (e ∷ es) υ same run = absurd (cons_nil same)
  every_run (next one rest) [] υ same run = absurd (cons_nil (sym same))
  every_run {σ = σ} (next {c = c} {cs = cs} {x = x} {xs = xs} one rest) (e ∷ es) υ same run =
      let head : e.call ≡ c = cc in
      let tail : map (λ (e : Event S). e.call) es ≡ cs = cc in
      let C : Call S → Type 0 = λ d. CallStep t step P d σ e.answer run.0 e.left in
      let first = one.1 e.answer e.left run.0 (subst C head run.1) in
      let R : State → Type 0 = λ ρ. Run t step P es ρ υ in
      let later = every_run rest es υ tail (subst R first.1 run.2) in
      (ap (λ y. y ∷ map (λ (e : Event S). e.answer) es) first.0 ∙ ap (λ ys. x ∷ ys) later.0, later.1)

  pub a_run : {cs : List (Call S)} {xs : List (Result Answer Refusal)} {σ τ : State} → Leads cs xs σ τ
      → (es : List (Event S)) × (map (λ (e : Event S). e.call) es ≡ cs) × Run t step P es σ τ
  a_run end = ([], refl, refl)
  a_run (next {c = c} {x = x} {τ = τ} one rest) =
      let later = a_run rest in
      (record { call = c; answer = x; left = c } ∷ later.0, ap (λ cs. c ∷ cs) later.1, (τ, one.0, later.2))

  -- from a heap with words w, holds rs and marks m
  module _ (w m : List ℕ) (rs : List HoldRecord) where
    pub takes : (h : ℕ) → take_due rs h ≡ None → Only (Cell (Take h)) (Ok Done) (state Open w rs m) (state Open w (set rs h (holding Nothing)) m)
    takes h free = (
      ((refl, refl), refl, refl, (refl, record { result = Ok tt; is = refl; related = (free, refl) })),
      λ a d σ' does.
          let y = accepted done free does.3.1 in
          (y.1, state_is σ' does.0.1 does.3.0 y.2 does.2),
    )

    pub releases : (h : ℕ) → held_due rs h ≡ None → Only (Cell (Release h)) (Ok Done) (state Open w rs m) (state Open w (set rs h unheld) m)
    releases h free = (
      ((refl, refl), refl, refl, (refl, record { result = Ok tt; is = refl; related = (free, refl) })),
      λ a d σ' does.
          let y = accepted done free does.3.1 in
          (y.1, state_is σ' does.0.1 does.3.0 y.2 does.2),
    )

    pub sets : (h i x : ℕ) → plain_due t (length w) rs h i ≡ None
        → Only (Cell (Set h i x)) (Ok Done) (state Open w rs m) (state Open (set w (place_at rs h i) x) rs m)
    sets h i x free = (
      ((refl, refl), refl, refl, (refl, record { result = Ok tt; is = refl; related = (free, refl) })),
      λ a d σ' does.
          let y = accepted done free does.3.1 in
          (y.1, state_is σ' does.0.1 y.2 does.3.0 does.2),
    )

    pub puts : (h i g : ℕ) → put_due t (length w) rs h i g ≡ None
        → Only (Cell (Put h i g)) (Ok Done) (state Open w rs m)
        (state Open (with_content w (place_at rs h i) (class_of t (code_at rs h) i) (at rs g).content) rs m)
    puts h i g free = (
      ((refl, refl), refl, refl, (refl, record { result = Ok tt; is = refl; related = (free, refl) })),
      λ a d σ' does.
          let y = accepted done free does.3.1 in
          (y.1, state_is σ' does.0.1 y.2 does.3.0 does.2),
    )

    pub makes : (h c p : ℕ) → memory_due (length w) (length m) (min p P) ≡ None → make_due t rs h c ≡ None
        → (r : Result ℕ Refusal) (u : List ℕ) → Finds t w rs (words_in (t.size c)) u r
        → Only (Make h c p) (answer_of Number r) (state Open w rs m) (state Open u (with_cell rs h c r) (replicate (length w) 0))
    makes h c p roomy free r u found = (
      (
        (refl, refl),
        refl,
        record {
          result = r;
          is = refl;
          related = record {
            small = λ f due. absurd (none_some (sym roomy ∙ due));
            zeroed = λ _. refl;
            refused = λ _ f due. absurd (none_some (sym free ∙ due));
            made = λ _ _. (found.0, refl);
          };
        },
      ),
      λ a d σ' does.
          let y = does.2 in
          let made = y.related.made roomy free in
          let is = found.1 σ'.words y.result made.0 in (
            y.is ∙ ap (λ q. answer_of Number q) is.0,
            state_is σ' does.0.1 is.1 (made.1 ∙ ap (λ q. with_cell rs h c q) is.0) (y.related.zeroed roomy),
          ),
    )

    pub marks : (p : ℕ) {vs : List Visit} {m₁ : List ℕ} → memory_due (length w) (length m) (min p P) ≡ None
        → Roots t w (roots rs) (replicate (length w) 0) vs m₁ ending.Done
        → Only (Mark p) (Ok (Number (length vs))) (state Open w rs m) (state Marked w rs m₁)
    marks p {vs} roomy run = (
      (
        refl,
        refl,
        (refl, refl),
        record {
          result = Ok (length vs);
          is = refl;
          related = (
            record {
              small = λ f due. absurd (none_some (sym roomy ∙ due));
              marked = λ _. marked t w rs run;
            },
            refl,
          );
        },
      ),
      λ a d σ' does.
          let y = does.3 in
          let is = marked_only t w rs run (y.related.0.marked roomy) in (
            y.is ∙ ap (λ q. answer_of Number q) is.0,
            state_is σ' (y.related.1 ∙ ap (λ q. after_mark q) is.0) does.2.0 does.2.1 is.1,
          ),
    )

    pub sweeps : {u : List ℕ} → row_1 (length w) (length m) ≡ None → Swept w m u
        → Only Sweep (Ok (Number (unmarked (drop 1 m)))) (state Marked w rs m) (state Open u rs (replicate (length m) 0))
    sweeps {u} free clean = (
      (refl, refl, refl, record { result = Ok (unmarked (drop 1 m)); is = refl; related = ((free, (refl, clean, refl)), refl) }),
      λ a d σ' does. by_result a σ' does.2 does.3.result does.3.is does.3.related.0 does.3.related.1,
    )
      where
        by_result : (a : Result Answer Refusal) (σ' : State) → σ'.records ≡ rs → (r : Result ℕ Refusal) → a ≡ answer_of Number r
            → Sweeps w m σ'.words σ'.marks r → σ'.phase ≡ after_sweep r
            → (a ≡ Ok (Number (unmarked (drop 1 m)))) × (σ' ≡ state Open u rs (replicate (length m) 0))
        by_result a σ' same (Ok n) is swept after = (
          is ∙ ap (λ k. Ok (Number k)) swept.1.0,
          state_is σ' after (one_sweep w m σ'.words u swept.1.1 clean) same swept.1.2,
        )
        by_result a σ' same (Err f) is swept after = absurd (none_some (sym free ∙ swept.0))
