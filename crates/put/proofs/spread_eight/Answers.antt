-- `put::spread_eight`: the high seven bits, then the lowest.
use Rattle.put.specs.Words.{spread-last}
use Rattle.put.proofs.spread_eight.Goals as goal

pub returns : goal.returns
returns c = rw (c.spread_seven-high.ensures.0, c.from.ensures, c.from-2.ensures) (spread-last c.args.value)
