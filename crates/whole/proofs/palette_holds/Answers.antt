-- `whole::palette_holds`: one entry more, and all of them.
use Rattle.std.proofs.Common.{sym, ◌∙◌, arith}
use Rattle.base.specs.Tests.{up_to-none}
use Rattle.model.specs.Domain.{color_in, no_color}
use Rattle.domain.specs.Taken.{and_next, all_taken}
use Rattle.whole.proofs.palette_holds.Goals as goal

pub loop-c-init : goal.loop-c-init
loop-c-init c = sym (up_to-none _)

pub loop-c-preserved : goal.loop-c-preserved
loop-c-preserved c = and_next _ c.loop-c.c-index c.loop-c.ok c.color_in-ok.result c.loop-c.invariant c.color_in-ok.ensures

pub returns : goal.returns
returns c = let cu = c.args.cu.now in
    c.loop-c.invariant ∙ all_taken (color_in cu.chroma_idc cu.bd_luma cu.bd_chroma) no_color cu.palette cu.palette_size c.loop-c.c-index (omega arith) (omega arith) (omega arith)
