-- `domain::predictor_in`: whether the entries passed fit.
use Rattle.std.proofs.Common.{◌≡◌, get_or}
use Rattle.base.specs.Tests.{up_to}
use Rattle.model.specs.Domain.{color_in, no_color}
use Rattle.domain.proofs.predictor_in.Given as goal

abbrev pub invariant-loop-c : goal.invariant-loop-c
invariant-loop-c l = l.ok ≡ up_to l.c-index (λ j. color_in l.format l.luma l.chroma (get_or l.c-items j no_color))
