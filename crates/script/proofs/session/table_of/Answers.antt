use Rattle.std.proofs.Common.{◌∙◌}
use Rattle.script.proofs.Numbers.{collected}
use Rattle.script.proofs.Tables.{table_is}
use Rattle.script.proofs.session.table_of.Goals as goal

pub returns : goal.returns
returns c = λ ns l few.
    table_is _ ns _ c.new.result (c.as_slice.ensures.value ∙ collected _ c.args.follow.text.now c.numbers_in.result c.unwrap_or_default-words.result c.numbers_in.ensures c.unwrap_or_default-words.ensures ns l few) c.new.ensures
