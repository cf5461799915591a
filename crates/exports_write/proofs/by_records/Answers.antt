-- `exports_write::by_records`: the entry point's answer over what the lists are.
use Rattle.exports_write.proofs.by_records.Goals as goal

pub returns : goal.returns
returns c = rw (c.block_of.ensures, c.runs_of.ensures) at c.write_palette_cu.ensures
