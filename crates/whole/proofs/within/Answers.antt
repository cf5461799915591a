use native.Mathlib.Omega.{arith}
use Rattle.whole.specs.Parts.{levels_capped}
use Rattle.whole.proofs.within.Goals as goal

pub returns : goal.returns
returns c = let h = c.struct_known-1.given in
    levels_capped c.args.ym c.args.cm c.args.l (omega arith) (omega arith) (omega arith)
