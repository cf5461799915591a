use mathlib.Core.Path.{sym, ◌∙◌}
use Rattle.sums.specs.Sums.{short_sum}
use Rattle.sums.specs.SumLaws.{full_more}
use Rattle.sums.proofs.row_step.Goals as goal

pub returns : goal.returns
unfolding short_sum
returns c = (c.with_bits.ensures ∙ rw (c.bin_rate.ensures, c.run_class-class.ensures.class, c.requires.1), rw (c.bin_rate-2.ensures, c.run_class-class.ensures.class, c.requires.1) (sym (full_more _ _ _ _)))
