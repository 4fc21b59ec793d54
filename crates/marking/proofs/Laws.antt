-- The laws of marking from zero marks.
use Rattle.std.proofs.Common.{◌≡◌, ℕ, zero, suc, List, length, get_or, replicate, refl, ◌∙◌, inl, inr, arith}
use lib.ListN.{length-replicate}
use Rattle.std.proofs.ByRecursion.{All-weaker}
use Rattle.layouts.specs.Types.{Types}
use Rattle.cells.specs.declared.content.Content.{Content}
use Rattle.scan.specs.Visits.{Visit, Seen}
use Rattle.scan.specs.Marks.{IsMarked}
use Rattle.scan.specs.Reach.{Reach, root, through}
use Rattle.scan.specs.Endings.{Ending}
use Rattle.scan.proofs.Filled.{all_seen}
use Rattle.marking.specs.Roots.{Roots}
use Rattle.marking.specs.Laws.{OfCell, MarkLaws}
use Rattle.marking.proofs.Runs.{Among, New, Complete, marks_long, marks_written, marks_only, marks_tell, never_full, breaks, comes_to_end, completes}
use Rattle.marking.proofs.Unique.{same_end}

-- a zero mark is no mark
zero_byte : (n j : ℕ) → ◌≡◌ {A = ℕ} (get_or (replicate n 0) j 0) 0
zero_byte zero j = refl
zero_byte (suc n) zero = refl
zero_byte (suc n) (suc j) = zero_byte n j

unmarked_at : (n j : ℕ) → IsMarked (replicate n 0) j → ⊥
unmarked_at n j one = let none = zero_byte n j in omega arith

module _ (t : Types) (w : List ℕ) (ks : List Content) (vs : List Visit) (m' : List ℕ) where
  among : Among t w ks ks
  among h c a e = root h e

  zeros : length {A = ℕ} (replicate (length w) 0) ≡ length w
  zeros = length-replicate (length w) 0

  -- where the marking is done, what is reached is marked
  module _ (all : Complete t w ks ks (replicate (length w) 0) vs m') where
    reached_marked : (c a : ℕ) → Reach t w ks c a → IsMarked m' a
    reached_marked c a (root h e) = all.root_marked h c a e
    reached_marked c a (through {c = c₁} {a = a₁} i from low le is) = (all.closed c₁ a₁ from (reached_marked c₁ a₁ from)).1 i c a low le is

    reached_seen : (c a : ℕ) → Reach t w ks c a → Seen vs c a
    reached_seen c a at = elim (all.seen c a at (reached_marked c a at)) [ inl old ↦ absurd (unmarked_at (length w) a old) | inr new ↦ new ]

  pub mark_laws : (e : Ending) → Roots t w ks (replicate (length w) 0) vs m' e → MarkLaws t w ks vs m' e
  mark_laws e r =
      let tell = marks_tell t w ks r zeros among in
      record {
        alone = λ us m'' e'' q. same_end t w r q;
        long = marks_long t w r ∙ zeros;
        bytes = λ j. elim (marks_written t w r j) [ inl same ↦ inl (same ∙ zero_byte (length w) j) | inr one ↦ inr one ];
        only = λ j h. elim (marks_only t w ks r zeros among j h) [ inl old ↦ absurd (unmarked_at (length w) j old) | inr new ↦ new ];
        once = tell.1;
        due = All-weaker (New t w ks (replicate (length w) 0) m') (OfCell t w ks) (λ v h. h.of_cell) vs tell.0;
        broken = breaks t w ks r zeros among;
        never_full = never_full t w r zeros;
        done = comes_to_end t w ks r zeros among;
        exactly = λ done apart c a.
            let all = completes t w ks r zeros among done apart (λ c₁ a₁ at one. absurd (unmarked_at (length w) a₁ one)) in
            (reached_seen all c a, all_seen (Reach t w ks) vs c a (All-weaker (New t w ks (replicate (length w) 0) m') (λ v. Reach t w ks v.code v.address) (λ v h. h.of_cell.reached) vs tell.0));
        covered = λ done apart c a at.
            let all = completes t w ks r zeros among done apart (λ c₁ a₁ at₁ one. absurd (unmarked_at (length w) a₁ one)) in
            (all.closed c a at (reached_marked all c a at)).0;
      }
