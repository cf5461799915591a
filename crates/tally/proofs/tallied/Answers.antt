-- `tally::tallied`: 13 or the colours; the luma pre-check is asked on 13 alone. Assumes nothing.
use Rattle.std.proofs.Common.{◌≡◌, true, ◌∙◌, arith, length}
use Rattle.colors.specs.Table.{tab}
use Rattle.census.specs.Census.{as_census, too_many, table_to}
use Rattle.tally.specs.Laws.{over, ready, many_by, few_by, tally-few, tally-many-kept, tally-many-moved}
use Rattle.tally.proofs.tallied.Goals as goal
use Rattle.tally.proofs.tallied.Goals.{in_default-via-in-Some+else-found-samples, in_default-via-in_default}

pub count-requires-clause-holds : goal.count-requires-clause-holds
count-requires-clause-holds c =
    let k = c.args.index.now in
    rw (c.clear.ensures.kept.0, c.clear.ensures.kept.1) (ready k.keys k.entry k.stamp _ k.generation _ c.clear.ensures.wide.0 c.clear.ensures.wide.1 c.clear.ensures.wide.2 c.clear.ensures.wide.3 c.requires.2 c.clear.ensures.next.0 c.clear.ensures.next.1)

pub overflow_mul-found : goal.overflow_mul-found
overflow_mul-found c = record { fits = omega (arith, c.in-Some.ensures.few) }

pub returns-in-Some : goal.returns-in-Some
returns-in-Some c =
    let s = c.args in
    let e = c.count.ensures in
    let f = c.clear.ensures in
    tally-few s.index.now c.count.new.counter s.samples.now _ s.shift c.in-Some.found c.in-Some.ensures.found (e.kept ∙ f.next.0)
    (e.table ∙ (λ i. table_to (tab (f.kept.0 i) (f.kept.1 i) (f.next.1 i)) (f.next.0 i) s.samples.now (length s.samples.now)))
    (few_by c.in-Some.found.distinct (length s.samples.now) c.in-Some.ensures.few c.if-found-samples.true)

pub returns-then-luma_exceeds : goal.returns-then-luma_exceeds
returns-then-luma_exceeds c =
    let s = c.args in
    let e = c.count.ensures in
    let f = c.clear.ensures in
    let many : too_many (as_census c.count.result).distinct (length s.samples.now) ≡ true =
    elim c.in_default.branch [
      | in_default-via-in-Some+else-found-samples w ↦ rw w.in-Some.is (many_by _ _ w.if-found-samples.false)
      | in_default-via-in_default w ↦ rw w.in_default.is (over 129 _ (omega arith))
    ]
    in
    tally-many-kept s.index.now c.count.new.counter s.samples.now _ s.shift (as_census c.count.result) e.found (e.kept ∙ f.next.0)
    (e.table ∙ (λ i. table_to (tab (f.kept.0 i) (f.kept.1 i) (f.next.1 i)) (f.next.0 i) s.samples.now (length s.samples.now)))
    many c.min.result c.min.ensures c.luma_exceeds.result c.luma_exceeds.ensures c.if-luma_exceeds.true

pub returns-else-luma_exceeds : goal.returns-else-luma_exceeds
returns-else-luma_exceeds c =
    let s = c.args in
    let e = c.count.ensures in
    let f = c.clear.ensures in
    let many : too_many (as_census c.count.result).distinct (length s.samples.now) ≡ true =
    elim c.in_default.branch [
      | in_default-via-in-Some+else-found-samples w ↦ rw w.in-Some.is (many_by _ _ w.if-found-samples.false)
      | in_default-via-in_default w ↦ rw w.in_default.is (over 129 _ (omega arith))
    ]
    in
    tally-many-moved s.index.now c.count.new.counter s.samples.now _ s.shift (as_census c.count.result) e.found (e.kept ∙ f.next.0)
    (e.table ∙ (λ i. table_to (tab (f.kept.0 i) (f.kept.1 i) (f.next.1 i)) (f.next.0 i) s.samples.now (length s.samples.now)))
    many c.min.result c.min.ensures c.luma_exceeds.result c.luma_exceeds.ensures c.if-luma_exceeds.false
