-- The worked figures, together.
use Rattle.std.specs.Prelude.{Option}
use Rattle.scan.specs.Visits.{Visit}
use Rattle.figures.specs.Sources.{SourceFigures}
use Rattle.figures.specs.Runs.{RunFigures}

pub record Figures {S : Type 0} (step : S → Visit → Option S) : Type 0 where
  pub sources : SourceFigures
  pub runs : RunFigures step
