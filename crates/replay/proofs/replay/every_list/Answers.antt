use Rattle.replay.proofs.Lists.{every_list_lem}
use Rattle.replay.proofs.replay.every_list.Goals as goal

pub returns : goal.returns
returns g c = every_list_lem g.I.Inspector.step
