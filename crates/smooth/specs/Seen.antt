-- What smoothing does not change, of a block's samples and palette that are lent.
use Rattle.smooth.specs.declared.Scene.{Scene}
use Rattle.smooth.specs.Smooth as D

abbrev pub seen : Scene → D.Scene
seen s = D.scene s.size s.format s.escape s.tolerance s.palette.now s.cells.now s.budget
