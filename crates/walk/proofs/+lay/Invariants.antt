-- `walk::lay`, which recurs on a falling place: the inner call has laid the points before, and this one comes after them.
use Rattle.walk.proofs.+lay.Given as goal

abbrev pub decreases-lay : goal.decreases-lay
decreases-lay l = l.q
