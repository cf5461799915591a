-- `flatready::framed`: the tests in a row.
use mathlib.Core.Path.{◌∙◌}
use native.Mathlib.Omega.{arith}
use Rattle.flat.specs.Flat.{block_of}
use Rattle.flatready.specs.ReadyLaws.{frame_row}
use borrow.Author.Rules.{rules}
use Rattle.flatready.proofs.framed.Goals as goal

pub returns : goal.returns
unfolding block_of
returns c = frame_row c.size_in.result c.even_in.result _ c.depth_in.result c.depth_in-2.result _ _
    ∙ rw (c.size_in.ensures, c.even_in.ensures, c.depth_in.ensures, c.depth_in-2.ensures, c.byte-format.ensures, c.byte-luma.ensures, c.byte-chroma.ensures)
