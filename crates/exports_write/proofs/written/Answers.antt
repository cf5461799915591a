-- `exports_write::written`: the same from the lists and by way of the records.
use Rattle.exports_write.proofs.written.Goals as goal

pub returns-then-count-gt1024 : goal.returns-then-count-gt1024
returns-then-count-gt1024 c = c.by_records.ensures

pub write_lists-requires : goal.write_lists-requires
write_lists-requires c = c.in_order.ensures c.if-in_order.true

pub returns-then-in_order : goal.returns-then-in_order
returns-then-in_order c = c.write_lists.ensures

pub returns : goal.returns
returns c = c.by_records-2.ensures
