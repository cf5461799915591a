-- `flatrecon::matches_call`: the tests in a row.
use mathlib.Core.Bool.{beq}
use mathlib.Core.Path.{◌∙◌}
use lib.Dec.{eqb}
use Rattle.model.specs.Whole.{matches, matches_size}
use Rattle.flat.specs.Flat.{number, block_of}
use Rattle.whole.specs.Parts.{beq_same}
use Rattle.flatrecon.specs.Cells.{call-row}
use Rattle.flatrecon.proofs.matches_call.Goals as goal

pub returns : goal.returns
unfolding block_of matches matches_size
returns c = let b = c.args.block.now in
    let k = c.args.c in
    call-row (eqb c.byte-format.result k.chroma_idc) (eqb c.byte-luma.result k.bd_luma) (eqb c.byte-chroma.result k.bd_chroma) (beq (eqb (number b 4) 1) k.lossless) (eqb c.from.result c.args.g.size)
    ∙ rw (beq_same (eqb (number b 4) 1) k.lossless, c.byte-format.ensures, c.byte-luma.ensures, c.byte-chroma.ensures, c.from.ensures)
