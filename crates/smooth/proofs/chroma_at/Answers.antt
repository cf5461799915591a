-- `smooth::chroma_at`: by the format.
use Rattle.h265.specs.Scan.{col_of, row_of}
use Rattle.smooth.specs.Laws.{chroma-none, chroma-all, chroma-columns, chroma-cells}
use Rattle.smooth.proofs.chroma_at.Goals as goal

pub returns-then-format-eq0 : goal.returns-then-format-eq0
returns-then-format-eq0 c = chroma-none c.args.format _ _ c.if-format-eq0.true

pub returns-then-format-gt2 : goal.returns-then-format-gt2
returns-then-format-gt2 c = chroma-all c.args.format _ _ c.if-format-gt2.true

pub returns-then-format-eq2 : goal.returns-then-format-eq2
returns-then-format-eq2 c = rw c.scan_pos-p.ensures.0 (chroma-columns c.args.format (col_of c.args.size c.args.i) (row_of c.args.size c.args.i) c.if-format-eq2.true)

pub returns : goal.returns
returns c = rw (c.scan_pos-p.ensures.0, c.scan_pos-p.ensures.1) (chroma-cells c.args.format (col_of c.args.size c.args.i) (row_of c.args.size c.args.i) c.if-format-eq0.false c.if-format-gt2.false c.if-format-eq2.false)
