use Rattle.std.proofs.Common.{◌+◌, get_or, drop, sym, ap, ◌∙◌, subst, arith, length-append}
use Rattle.std.specs.List.{flat_map}
use Rattle.std.proofs.lemmas.List.{drop_all}
use Rattle.inspectors.specs.Lines.{Room, appended, spaced}
use Rattle.inspectors.proofs.Appends.{then_room, appended_twice, appended_none, spaced_more}
use Rattle.inspectors.proofs.lister.Lister.put_words.Goals as goal

pub loop-w-preserved : goal.loop-w-preserved
loop-w-preserved c =
    let l = c.loop-w in
    let w = get_or c.args.words.now l.w-index 0 in
    let more = spaced_more c.args.words.now l.w-index 0 c.loop-w-test.true in
    let room = subst (Room l.self) more l.invariant.0 in
    let fits : Room l.self (spaced w) = omega (arith, room, length-append (spaced w) (flat_map spaced (drop (l.w-index + 1) c.args.words.now))) in
    (then_room l.self _ (spaced w) _ room c.put_spaced.ensures, ap (λ x. appended x (flat_map spaced (drop (l.w-index + 1) c.args.words.now))) c.put_spaced.ensures ∙ appended_twice l.self (spaced w) fits _ ∙ ap (appended l.self) (sym more) ∙ l.invariant.1)

pub returns : goal.returns
returns c =
    let l = c.loop-w in
    let none = ap (flat_map spaced) (drop_all l.w-index c.args.words.now c.loop-w-test.false) in
    sym (appended_none l.self (omega (arith, l.invariant.0))) ∙ ap (appended l.self) (sym none) ∙ l.invariant.1
