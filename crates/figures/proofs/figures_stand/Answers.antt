use Rattle.figures.proofs.Sources.{source_figures}
use Rattle.figures.proofs.Runs.{run_figures}
use Rattle.figures.proofs.figures_stand.Goals as goal

pub returns : goal.returns
returns g c = record { sources = source_figures; runs = run_figures g.I.Inspector.step }
