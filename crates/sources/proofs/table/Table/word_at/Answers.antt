use Rattle.std.proofs.Common.{◌≡◌, ◌+◌, ◌<◌, Some, length, get_or, sym, ap, ◌∙◌, arith}
use Rattle.std.proofs.lemmas.List.{length-map, get_or-map}
use Rattle.sources.specs.Slots.{words_in}
use Rattle.sources.proofs.EntryLaws.{within, by_test}
use Rattle.sources.proofs.table.Table.word_at.Goals as goal

pub index-requires : goal.index-requires
index-requires c =
    let t = c.args.self.now in
    let w = within (words_in t.slots.items) c.args.code c.args.word c.in_ok-n.n t.accepted (sym c.in_ok-n.ensures) (sym c.has_word.ensures ∙ c.if-has_word.true) in
    omega (arith, w, length-map t.slots.items (λ s. s.word))

pub returns-then-has_word : goal.returns-then-has_word
returns-then-has_word c =
    let t = c.args.self.now in
    let k = c.args.code + c.args.word in
    let w = within (words_in t.slots.items) c.args.code c.args.word c.in_ok-n.n t.accepted (sym c.in_ok-n.ensures) (sym c.has_word.ensures ∙ c.if-has_word.true) in
    let l : k < length t.slots.items = omega (arith, w, length-map t.slots.items (λ s. s.word)) in
    let e : c.index.result.now.word ≡ get_or (words_in t.slots.items) k 0 = ap (λ s. s.word) c.index.ensures ∙ sym (get_or-map (λ s. s.word) t.slots.items k c.index.result.now 0 l) in
    ap Some e ∙ sym (by_test (words_in t.slots.items) c.args.code c.args.word c.in_ok-n.n _ _ (sym c.in_ok-n.ensures) (sym c.has_word.ensures ∙ c.if-has_word.true))

pub returns-else-has_word : goal.returns-else-has_word
returns-else-has_word c =
    sym (by_test (words_in c.args.self.now.slots.items) c.args.code c.args.word c.in_ok-n.n _ _ (sym c.in_ok-n.ensures) (sym c.has_word.ensures ∙ c.if-has_word.false))
