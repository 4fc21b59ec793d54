-- The figures of tables, of the rule and of a new heap, computed.
use Rattle.std.proofs.Common.{refl}
use Rattle.figures.specs.Sources.{SourceFigures}

pub source_figures : SourceFigures
source_figures = record {
  accepted = refl;
  sizes = (refl, refl, refl);
  runs_past = (refl, refl, refl);
  unpaired = (refl, refl, refl);
  unnamed = (refl, refl, refl);
  itself = refl;
  rule_size = refl;
  rule_entries = (refl, refl, refl);
  rule_classes = (refl, refl, refl);
  new_heap = refl;
}
