use Rattle.std.proofs.Common.{[], ◌∷◌, decimal, arith}
use Rattle.inspectors.proofs.Appends.{then_appended, then_room}
use Rattle.inspectors.proofs.lister.Lister.put_spaced.Goals as goal

pub put_number-requires : goal.put_number-requires
put_number-requires c = then_room c.args.self.now _ (32 ∷ []) (decimal c.args.n) c.requires c.put.ensures

pub returns : goal.returns
returns c = then_appended c.args.self.now _ _ (32 ∷ []) (decimal c.args.n) (omega (arith, c.requires)) c.put.ensures c.put_number.ensures
