-- A colour of the records as one number.
use Rattle.std.specs.Prelude.{List, map, ℕ}
use Rattle.quant.specs.Quant.{packed}
use Rattle.model.specs.declared.Color.{Color}
use Rattle.model.specs.declared.PaletteCu.{PaletteCu}

unfoldable pub packed_of : Color → ℕ
packed_of c = packed c.y c.cb c.cr

-- the palette of a block
abbrev pub palette_of : PaletteCu → List ℕ
palette_of cu = map packed_of cu.palette
