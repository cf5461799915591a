-- `whole::palette_holds`: whether the entries passed fit.
use Rattle.std.proofs.Common.{◌≡◌, get_or}
use Rattle.base.specs.Tests.{up_to}
use Rattle.model.specs.Domain.{color_in, no_color}
use Rattle.whole.proofs.palette_holds.Given as goal

abbrev pub invariant-loop-c : goal.invariant-loop-c
invariant-loop-c l = l.ok ≡ up_to l.c-index (λ j. color_in l.cu.chroma_idc l.cu.bd_luma l.cu.bd_chroma (get_or l.c-items j no_color))
