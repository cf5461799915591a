-- `rates::rates_in`. The loop's invariant: the run-type pair and the pairs below i are in range.
use mathlib.Core.Path.{◌≡◌}
use mathlib.Core.Bool.{false}
use lib.ListN.{get_or}
use Rattle.base.specs.Pick.{pick}
use Rattle.base.specs.Tests.{up_to}
use Rattle.rates.specs.Rates.{pair_in, no_rates}
use Rattle.rates.proofs.rates_in.Given as goal

abbrev pub invariant-loop-p : goal.invariant-loop-p
invariant-loop-p l = l.ok ≡ pick (pair_in l.fn.m.run_type) (up_to l.p-index (λ j. pair_in (get_or l.p-items j no_rates))) false
