use Rattle.std.proofs.Common.{◌≡◌, true, false, ◌∙◌, refl}
use Rattle.layouts.specs.Mask.{among}
use Rattle.sources.proofs.Among.{any_among}
use Rattle.sources.proofs.mask.MaskTemplateSource.entry.Goals as goal

pub returns-then-contains : goal.returns-then-contains
returns-then-contains g c =
    let a : c.contains.result ≡ among c.as_slice.result.now c.args.code c.args.word = c.contains.ensures.value ∙ any_among _ c.args.code c.args.word (λ p. refl) _ in
    let b : among c.args.self.now.places.items c.args.code c.args.word ≡ true = cc in
    rw b

pub returns-else-contains : goal.returns-else-contains
returns-else-contains g c =
    let a : c.contains.result ≡ among c.as_slice.result.now c.args.code c.args.word = c.contains.ensures.value ∙ any_among _ c.args.code c.args.word (λ p. refl) _ in
    let b : among c.args.self.now.places.items c.args.code c.args.word ≡ false = cc in
    rw b c.entry.ensures
