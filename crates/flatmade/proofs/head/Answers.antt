-- `flatmade::head`: number by number.
use Rattle.flatmade.specs.Front.{head_with}
use Rattle.flatmade.proofs.head.Goals as goal

pub returns : goal.returns
unfolding head_with
returns c = rw (c.from.ensures, c.from-2.ensures, c.from-3.ensures, c.short.ensures, c.short-2.ensures, c.short-3.ensures, c.short-4.ensures, c.short-5.ensures)
