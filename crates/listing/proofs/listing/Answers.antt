-- `listing::listing`: 16 where the layout is another, else what the reader answers.
use Rattle.std.proofs.Common.{sym, ◌∙◌}
use Rattle.readblock.specs.Read.{as_read}
use Rattle.listing.specs.Printed.{count_most, listing_read, listing_refused}
use Rattle.listing.proofs.listing.Goals as goal

pub put_read-requires : goal.put_read-requires
put_read-requires c = count_most c.args.file.now (as_read c.reading-answer.result) c.reading-answer.ensures

pub returns-then-laid_out-clause-laid : goal.returns-then-laid_out-clause-laid
returns-then-laid_out-clause-laid c =
    rw (← listing_read c.args.file.now (as_read c.reading-answer.result) (sym c.laid_out.ensures ∙ c.if-laid_out.true) c.reading-answer.ensures) c.put_read.ensures.laid

pub returns-else-laid_out-clause-laid : goal.returns-else-laid_out-clause-laid
returns-else-laid_out-clause-laid c =
    rw (← listing_refused c.args.file.now (sym c.laid_out.ensures ∙ c.if-laid_out.false)) (rw c.from.ensures at c.put_refused.ensures.laid)
