-- `flatrecon::put_block`: a list that has room for the block's cells is lent.
use Rattle.std.proofs.Common.{ℕ, arith}
use Rattle.std.proofs.lemmas.List.{length-replicate}
use Rattle.flatrecon.specs.Cells.{cells-few}
use Rattle.flatrecon.proofs.put_block.Goals as goal

pub put_list-requires-in_default : goal.put_list-requires-in_default
put_list-requires-in_default c = (c.requires.0, c.requires.1, c.requires.2, omega (arith, cells-few c.args.block.now c.requires.1, length-replicate {A = ℕ} 1024 0))
