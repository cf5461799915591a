-- The code's table as that of the definitions.
use Rattle.std.specs.Prelude.{◌≡◌, refl}
use Rattle.std.specs.Float.{binary32}
use Rattle.std.specs.Float.Ieee.{of_bits}
use Rattle.paths.specs.Plan.{Table, tab, infinite}
use Rattle.relax.specs.declared.Paths.{Paths}

abbrev pub table_of : Paths → Table
table_of t = tab t.cost t.pos t.st

-- the code's infinity
pub infinity_is : of_bits binary32 2139095040 ≡ infinite
unfolding of_bits
infinity_is = refl
