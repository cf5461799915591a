-- `getpalette::fresh_at`
use Rattle.std.proofs.Common.{sym, ◌∙◌, arith, rules, length, take}
use Rattle.base.specs.Lists.{padded-drop}
use Rattle.model.specs.Domain.{no_color}
use Rattle.syntax.specs.Block.{chosen}
use Rattle.getpalette.specs.Read.{signalled_refused, new_most, entries-refused, escape_refused, fresh-made}
use Rattle.getpalette.proofs.fresh_at.Goals as goal

pub returns-in_err-new-clause-value : goal.returns-in_err-new-clause-value
returns-in_err-new-clause-value c =
    let a = c.args in
    let z = signalled_refused a.limit a.format a.luma a.chroma a.old.now (take (length a.old.now) a.reuse.now.flags) a.reuse.now.reused a.reader.now.list.now a.reader.now.at c.requires.4 _ _ (sym c.in_err-new.ensures.value) in
    search rules

pub entries_at-requires : goal.entries_at-requires
entries_at-requires c =
    let a = c.args in
    (omega (arith, new_most a.limit a.format a.luma a.chroma a.old.now (take (length a.old.now) a.reuse.now.flags) a.reuse.now.reused a.reader.now.list.now a.reader.now.at c.requires.4 _ _ (sym c.in_ok-new.ensures.value) c.requires.0), c.requires.1, c.requires.2)

pub returns-in_err-fresh-clause-value : goal.returns-in_err-fresh-clause-value
returns-in_err-fresh-clause-value c =
    let a = c.args in
    let f = rw c.signalled_at.ensures.list at (sym c.in_err-fresh.ensures.value) in
    let z = entries-refused a.limit a.format a.luma a.chroma a.old.now (take (length a.old.now) a.reuse.now.flags) a.reuse.now.reused a.reader.now.list.now a.reader.now.at c.requires.4 _ _ (sym c.in_ok-new.ensures.value) _ _ f in
    search rules

pub overflow_add-reuse : goal.overflow_add-reuse
overflow_add-reuse c =
    let a = c.args in
    omega (arith, new_most a.limit a.format a.luma a.chroma a.old.now (take (length a.old.now) a.reuse.now.flags) a.reuse.now.reused a.reader.now.list.now a.reader.now.at c.requires.4 _ _ (sym c.in_ok-new.ensures.value) c.requires.0, c.requires.0, c.requires.5)

pub returns-in_err-escape-clause-value : goal.returns-in_err-escape-clause-value
returns-in_err-escape-clause-value c =
    let a = c.args in
    let f = rw c.signalled_at.ensures.list at (sym c.in_ok-fresh.ensures.value) in
    let e = rw (c.entries_at.ensures.list, c.signalled_at.ensures.list) at (sym c.in_err-escape.ensures.value) in
    let z = escape_refused a.limit a.format a.luma a.chroma a.old.now (take (length a.old.now) a.reuse.now.flags) a.reuse.now.reused a.reader.now.list.now a.reader.now.at c.requires.4 _ _ (sym c.in_ok-new.ensures.value) _ _ f _ _ e in
    search rules

pub with_fresh-requires : goal.with_fresh-requires
with_fresh-requires c =
    let a = c.args in
    let w = chosen (take (length a.old.now) a.reuse.now.flags) a.old.now in (
      omega (arith, new_most a.limit a.format a.luma a.chroma a.old.now (take (length a.old.now) a.reuse.now.flags) a.reuse.now.reused a.reader.now.list.now a.reader.now.at c.requires.4 _ _ (sym c.in_ok-new.ensures.value) c.requires.0, c.requires.0, c.requires.5),
      rw c.marked-first.ensures.0 (padded-drop 64 no_color w a.reuse.now.reused (c.marked-first.ensures.1 ∙ sym c.requires.4)),
    )

pub returns-clause-value : goal.returns-clause-value
returns-clause-value c =
    let a = c.args in
    let f = rw c.signalled_at.ensures.list at (sym c.in_ok-fresh.ensures.value) in
    let e = rw (c.entries_at.ensures.list, c.signalled_at.ensures.list) at (sym c.in_ok-escape.ensures.value) in
    fresh-made a.limit a.format a.luma a.chroma a.old.now (take (length a.old.now) a.reuse.now.flags) a.reuse.now.reused a.reader.now.list.now a.reader.now.at c.requires.4 _ _ (sym c.in_ok-new.ensures.value) _ _ f _ _ _ _ _ e c.marked-first.ensures.1 c.requires.6 c.marked-first.ensures.0 c.with_fresh.ensures
