-- The worked run, call by call.
use Rattle.std.proofs.Common.{◌≡◌, ℕ, ◌≤◌, min, List, [], ◌∷◌, length, replicate, None, Ok, Err, Option, Result, refl, ap, arith, lit<, lit≤}
use Rattle.refusals.specs.declared.refusal.Refusal.{Refusal}
use Rattle.refusals.specs.declared.refusal.Refusal.TheVariants.{NoRun}
use Rattle.cells.specs.declared.content.Content.TheVariants as Content
use Rattle.cells.specs.declared.content.Content.TheVariants.{Nothing}
use Rattle.calls.specs.declared.record.HoldRecord.{HoldRecord}
use Rattle.calls.specs.Holds.{unheld, holding}
use Rattle.calls.specs.Rows.{memory_due}
use Rattle.scan.specs.Visits.{Visit}
use Rattle.replay.specs.declared.call.CellCall.TheVariants.{Take, Release, Set, Put}
use Rattle.replay.specs.declared.call.Call.{Call}
use Rattle.replay.specs.declared.call.Call.TheVariants.{Cell, Make, Mark, Sweep}
use Rattle.replay.specs.declared.call.Answer.{Answer}
use Rattle.replay.specs.declared.call.Answer.TheVariants.{Done, Number}
use Rattle.replay.specs.declared.call.Phase.TheVariants.{Open}
use Rattle.replay.specs.States.{State, new_state}
use Rattle.figures.specs.Runs.{types, Always, two_makes, joined, collected, refilled, RunFigures}
use Rattle.figures.proofs.Finds.{finds_at_hand, finds_none, finds_collected}
use Rattle.figures.proofs.Steps as steps
use Rattle.figures.proofs.Steps.{state, Leads, end, next, a_run, every_run}
use Rattle.figures.proofs.Scans.{heap, from, head_fit, twelve, eight, six, none_of_four, one_held, two_held, swept_to_six, swept_to_two}

-- the holds 0 and 1 are these, and no other is held
abbrev holds : HoldRecord → HoldRecord → List HoldRecord
holds r₀ r₁ = r₀ ∷ r₁ ∷ replicate 62 unheld

abbrev first : HoldRecord
first = holding (Content.Cell 1 9)

abbrev second : HoldRecord
second = holding (Content.Cell 1 3)

abbrev zeros : List ℕ
zeros = replicate 13 0

-- the heap after the makes, after the put, after the collection, and in the end
abbrev made : State
made = state Open (heap 393216 0 0 0) (holds first (holding (Content.Cell 6 7))) zeros

abbrev put : State
put = state Open (heap 393216 40 6 7) (holds first (holding (Content.Cell 6 7))) zeros

abbrev swept : State
swept = state Open (heap 393216 40 6 7) (holds first unheld) zeros

abbrev full : State
full = state Open (heap 131072 40 6 7) (holds first second) zeros

module _ {S : Type 0} (step : S → Visit → Option S) (P : ℕ) (enough : 13 ≤ P) where
  roomy : (m : List ℕ) → length m ≡ 13 → memory_due 13 (length m) (min 13 P) ≡ None
  roomy m long = let least : min 13 P ≡ 13 = omega arith in rw (long, least)

  makes_lead : (m : List ℕ) → length m ≡ 13 → Leads types step P two_makes (Ok Done ∷ Ok (Number 9) ∷ Ok Done ∷ Ok (Number 7) ∷ []) (new_state 13 m) made
  makes_lead m long =
      next (steps.takes types step P (heap 786432 0 0 0) m (replicate 64 unheld) 0 refl)
      (next (steps.makes types step P (heap 786432 0 0 0) m (holds (holding Nothing) unheld) 0 1 13 (roomy m long) refl (Ok 9) (heap 524288 0 0 0)
      (finds_at_hand types (heap 786432 0 0 0) (holds (holding Nothing) unheld) (record { some = lit≤ tt; long = lit≤ tt }) (lit≤ tt) (head_fit twelve (lit≤ tt)) (lit< tt)))
      (next (steps.takes types step P (heap 524288 0 0 0) zeros (holds first unheld) 1 refl)
      (next (steps.makes types step P (heap 524288 0 0 0) zeros (holds first (holding Nothing)) 1 6 13 (roomy zeros refl) refl (Ok 7) (heap 393216 0 0 0)
      (finds_at_hand types (heap 524288 0 0 0) (holds first (holding Nothing)) (record { some = lit≤ tt; long = lit≤ tt }) (lit≤ tt) (head_fit eight (lit≤ tt)) (lit< tt)))
      end)))

  puts_lead : Leads types step P (Cell (Set 1 1 40) ∷ Cell (Put 0 3 1) ∷ []) (Ok Done ∷ Ok Done ∷ []) made put
  puts_lead =
      next (steps.sets types step P (heap 393216 0 0 0) zeros (holds first (holding (Content.Cell 6 7))) 1 1 40 refl)
      (next (steps.puts types step P (heap 393216 40 0 0) zeros (holds first (holding (Content.Cell 6 7))) 0 3 1 refl)
      end)

  collection_leads : Leads types step P (Cell (Release 1) ∷ Mark 13 ∷ Sweep ∷ []) (Ok Done ∷ Ok (Number 2) ∷ Ok (Number 6) ∷ []) put swept
  collection_leads =
      next (steps.releases types step P (heap 393216 40 6 7) zeros (holds first (holding (Content.Cell 6 7))) 1 refl)
      (next (steps.marks types step P (heap 393216 40 6 7) zeros (holds first unheld) 13 (roomy zeros refl) (one_held 393216))
      (next (steps.sweeps types step P (heap 393216 40 6 7) (from 7) (holds first unheld) refl (swept_to_six 393216))
      end))

  refills_lead : Leads types step P
      (Cell (Take 1) ∷ Make 1 1 13 ∷ Make 1 1 13 ∷ Cell (Release 1) ∷ Cell (Take 1) ∷ Make 1 1 13 ∷ [])
      (Ok Done ∷ Ok (Number 3) ∷ Err (NoRun 4) ∷ Ok Done ∷ Ok Done ∷ Ok (Number 3) ∷ []) swept full
  refills_lead =
      next (steps.takes types step P (heap 393216 40 6 7) zeros (holds first unheld) 1 refl)
      (next (steps.makes types step P (heap 393216 40 6 7) zeros (holds first (holding Nothing)) 1 1 13 (roomy zeros refl) refl (Ok 3) (heap 131072 40 6 7)
      (finds_at_hand types (heap 393216 40 6 7) (holds first (holding Nothing)) (record { some = lit≤ tt; long = lit≤ tt }) (lit≤ tt) (head_fit six (lit≤ tt)) (lit< tt)))
      (next (steps.makes types step P (heap 131072 40 6 7) zeros (holds first second) 1 1 13 (roomy zeros refl) refl (Err (NoRun 4)) (heap 131072 40 6 7)
      (finds_none types (heap 131072 40 6 7) (holds first second) (two_held 131072) swept_to_two none_of_four none_of_four))
      (next (steps.releases types step P (heap 131072 40 6 7) zeros (holds first second) 1 refl)
      (next (steps.takes types step P (heap 131072 40 6 7) zeros (holds first unheld) 1 refl)
      (next (steps.makes types step P (heap 131072 40 6 7) zeros (holds first (holding Nothing)) 1 1 13 (roomy zeros refl) refl (Ok 3) (heap 131072 40 6 7)
      (finds_collected types (heap 131072 40 6 7) (holds first (holding Nothing)) (one_held 131072) (swept_to_six 131072) none_of_four (record { some = lit≤ tt; long = lit≤ tt }) (lit≤ tt) (head_fit six (lit≤ tt)) (lit< tt)))
      end)))))

-- a list of calls that leads to a state leaves its words
always : {S : Type 0} (step : S → Visit → Option S) {cs : List (Call S)} {xs : List (Result Answer Refusal)} (τ : State)
    → ((P : ℕ) (m : List ℕ) → 13 ≤ P → length m ≡ 13 → Leads types step P cs xs (new_state 13 m) τ) → Always step cs xs τ.words
always step τ leads P m enough long =
    let one = a_run types step P (leads P m enough long) in (
      (one.0, τ, (one.1, one.2)),
      λ es υ is.
          let all = every_run types step P (leads P m enough long) es υ is.0 is.1 in (all.0, ap (λ σ. σ.words) all.1),
    )

pub run_figures : {S : Type 0} (step : S → Visit → Option S) → RunFigures step
run_figures {S} step = record {
  makes = always step made makes_so;
  puts = always step put puts_so;
  collects = always step swept collects_so;
  refills = always step full refills_so;
  no_run = (refl, refl);
}
  where
    makes_so : (P : ℕ) (m : List ℕ) → 13 ≤ P → length m ≡ 13
        → Leads types step P two_makes (Ok Done ∷ Ok (Number 9) ∷ Ok Done ∷ Ok (Number 7) ∷ []) (new_state 13 m) made
    makes_so P m enough long = makes_lead step P enough m long

    puts_so : (P : ℕ) (m : List ℕ) → 13 ≤ P → length m ≡ 13
        → Leads types step P joined (Ok Done ∷ Ok (Number 9) ∷ Ok Done ∷ Ok (Number 7) ∷ Ok Done ∷ Ok Done ∷ []) (new_state 13 m) put
    puts_so P m enough long = steps.joined types step P (makes_so P m enough long) (puts_lead step P enough)

    collects_so : (P : ℕ) (m : List ℕ) → 13 ≤ P → length m ≡ 13
        → Leads types step P collected (Ok Done ∷ Ok (Number 9) ∷ Ok Done ∷ Ok (Number 7) ∷ Ok Done ∷ Ok Done ∷ Ok Done ∷ Ok (Number 2) ∷ Ok (Number 6) ∷ []) (new_state 13 m) swept
    collects_so P m enough long = steps.joined types step P (puts_so P m enough long) (collection_leads step P enough)

    refills_so : (P : ℕ) (m : List ℕ) → 13 ≤ P → length m ≡ 13
        → Leads types step P refilled
        (Ok Done ∷ Ok (Number 9) ∷ Ok Done ∷ Ok (Number 7) ∷ Ok Done ∷ Ok Done ∷ Ok Done ∷ Ok (Number 2) ∷ Ok (Number 6) ∷ Ok Done ∷ Ok (Number 3) ∷ Err (NoRun 4) ∷ Ok Done ∷ Ok Done ∷ Ok (Number 3) ∷ [])
        (new_state 13 m) full
    refills_so P m enough long = steps.joined types step P (collects_so P m enough long) (refills_lead step P enough)
