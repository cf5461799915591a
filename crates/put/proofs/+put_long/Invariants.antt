-- `put::put_long`: eight bits as a word, or the lowest bit after the others.
use Rattle.put.proofs.+put_long.Given as goal

abbrev pub decreases-put_long : goal.decreases-put_long
decreases-put_long l = l.n
