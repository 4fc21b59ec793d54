use Rattle.std.proofs.Common.{◌≡◌, ◌+◌, ◌-◌, refl, replicate, arith, rules}
use Rattle.free_list.specs.Cells.{Cut}
use Rattle.free_list.proofs.Cutting.{fit_behind, list_after, cut_whole, cut_part, made_of, filled}
use Rattle.free_list.proofs.Once.{one_answer}
use Rattle.free_list.proofs.cut.cut.Goals as goal
use Rattle.free_list.proofs.cut.cut.Goals.{then-left-eq0, else-left-eq0}

pub bounds-words-link_at : goal.bounds-words-link_at
bounds-words-link_at c = omega (arith, fit_behind c.requires, c.requires.next.within)

pub bounds-words-link_at-then-left-eq0 : goal.bounds-words-link_at-then-left-eq0
bounds-words-link_at-then-left-eq0 c = omega (arith, fit_behind c.requires, c.requires.next.within)

pub returns : goal.returns
returns c =
    let found = c.args.found in
    let zeros : c.fill.new.self ≡ replicate c.args.n 0 = search rules in
    let cleared = filled c.if-left-eq0.words (found.run + (found.size - c.args.n)) c.args.n c.fill.new.self zeros in
    let words : Cut c.args.words.now found.link_at found.run found.size c.args.n _ =
    elim c.if-left-eq0.branch [
      | then-left-eq0 w ↦ cut_whole _ _ _ _ _ _ _ _ _ _ w.if-left-eq0.true c.requires.enough w.from-before.ensures.0 c.from-link.ensures.1 (made_of _ w.from-before.result.size c.from-link.result.link w.into.ensures (omega (arith, w.from-before.ensures.0)) (omega (arith, c.from-link.ensures.1))) w.words-is cleared
      | else-left-eq0 w ↦ cut_part _ _ _ _ _ _ _ _ _ w.if-left-eq0.false c.from-link.ensures.1 (made_of _ (found.size - c.args.n) c.from-link.result.link w.into-else-left-eq0.ensures (omega (arith, c.requires.next.size)) (omega (arith, c.from-link.ensures.1))) w.words-is cleared
    ] in
    record { answer = refl; words = words; list = list_after _ _ _ _ _ _ words; once = one_answer }
