-- `source::each_fits`: whether the colours passed fit.
use Rattle.std.proofs.Common.{◌≡◌, get_or}
use Rattle.base.specs.Tests.{up_to}
use Rattle.source.specs.Source.{fits}
use Rattle.source.proofs.each_fits.Given as goal

abbrev pub invariant-loop-c : goal.invariant-loop-c
invariant-loop-c l = l.ok ≡ up_to l.c-index (λ j. fits l.ym l.cm (get_or l.cells j 0))
