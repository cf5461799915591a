-- `bins::flog`: std's logarithm is the definition's.
use Rattle.std.proofs.Common.{◌∙◌}
use Rattle.bins.specs.Logarithm.{flog_logarithm}
use Rattle.bins.proofs.flog.Goals as goal

pub returns : goal.returns
returns c = let e = c.checked_ilog2.ensures in c.unwrap_or.ensures ∙ flog_logarithm c.args.n c.checked_ilog2.result e.none e.power_le e.next_power_gt
