use Rattle.std.proofs.Common.{◌≡◌, ◌≤◌, length, map, sym, ap, ◌∙◌, subst, arith}
use Rattle.std.specs.List.{zip}
use Rattle.layouts.specs.Table.{Accepted}
use Rattle.sources.specs.Slots.{slot_of, words_in, SlotsFlagged}
use Rattle.sources.proofs.SlotLaws.{words_kept, flags_kept}
use Rattle.sources.proofs.table.copied.Goals as goal

pub invariant_of-result : goal.invariant_of-result
invariant_of-result c =
    let ws = c.args.flagged.now.words.now in
    let bs = c.args.flagged.now.starts.now in
    let long : length ws ≤ length bs = omega arith in
    let e : c.in_ok-slots.slots.items ≡ map slot_of (zip ws bs) = c.in_ok-slots.ensures in record {
      accepted = subst Accepted (sym (ap words_in e ∙ words_kept ws bs long)) c.requires;
      flagged = subst SlotsFlagged (sym e) (flags_kept ws bs long c.args.flagged.now.flagged);
    }

pub returns : goal.returns
returns c =
    let ws = c.args.flagged.now.words.now in
    let bs = c.args.flagged.now.starts.now in
    let long : length ws ≤ length bs = omega arith in
    ap words_in c.in_ok-slots.ensures ∙ words_kept ws bs long
