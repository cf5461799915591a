-- `getpalette::palette_at`
use Rattle.std.proofs.Common.{◌≡◌, ap, refl, ◌∙◌, arith, rules, length}
use Rattle.getentries.specs.Read.{lent}
use Rattle.getreuse.specs.Read.{value_read, refused_read}
use Rattle.getpalette.specs.Read.{palette_read, reuse_refused, reuse_on, flags-padded}
use Rattle.getpalette.proofs.palette_at.Goals as goal

pub returns-in_err-reuse-clause-value : goal.returns-in_err-reuse-clause-value
unfolding palette_read
returns-in_err-reuse-clause-value c =
    let a = c.args in
    let e = refused_read a.limit (length a.old.now) a.reader.now.list.now a.reader.now.at _ c.requires.3 c.in_err-reuse.ensures.value _ _ refl in
    let z = ap (palette_read a.old.now) (reuse_refused (lent a.limit a.format a.luma a.chroma a.old.now) a.reader.now.list.now a.reader.now.at _ _ e) in
    search rules

pub fresh_at-requires : goal.fresh_at-requires
fresh_at-requires c =
    let a = c.args in
    let r = c.in_ok-reuse.reuse in
    let v = value_read a.limit (length a.old.now) a.reader.now.list.now a.reader.now.at _ c.requires.3 c.in_ok-reuse.ensures.value _ _ refl in
    let k : length r.flags ≡ 128 = search rules in
    (c.requires.0, c.requires.1, c.requires.2, c.requires.3, v.reused, v.fits, flags-padded r.flags (length a.old.now) (omega (arith, c.requires.3)) v.rest)

pub returns-clause-value : goal.returns-clause-value
returns-clause-value c =
    let a = c.args in
    let v = value_read a.limit (length a.old.now) a.reader.now.list.now a.reader.now.at _ c.requires.3 c.in_ok-reuse.ensures.value _ _ refl in
    rw c.reuse_at.ensures.list at c.fresh_at.ensures.value ∙ ap (palette_read a.old.now) (reuse_on (lent a.limit a.format a.luma a.chroma a.old.now) a.reader.now.list.now a.reader.now.at _ _ v.answer)
