use Rattle.std.proofs.Common.{◌≡◌, ◌∙◌, ⊎_elim, ◌<◌, true, false, arith}
use Rattle.relax.specs.Table.{table_of}
use Rattle.starts.specs.Starts.{copy_late, copy_low, copy_none, copy_yes}
use Rattle.starts.proofs.above_run.Goals as goal

pub returns-then-k : goal.returns-then-k
returns-then-k c = λ xs e.
    let g = c.args in
    ⊎_elim
    (λ (h : g.k ≡ true). copy_late g.t.size g.t.n g.t.most xs g.sums.now.short g.sums.now.full g.t.r0 g.t.r1 g.t.share g.p g.k g.c (table_of g.paths.now) h)
    (λ (h : (g.k ≡ false) × (g.p < g.t.size)). copy_low g.t.size g.t.n g.t.most xs g.sums.now.short g.sums.now.full g.t.r0 g.t.r1 g.t.share g.p g.k g.c (table_of g.paths.now) h.0 h.1)
    c.then-k.either

pub copy-requires : goal.copy-requires
copy-requires c = (omega arith, omega (arith, c.from-len.ensures), c.requires.1)

pub returns-then-len-gt0 : goal.returns-then-len-gt0
returns-then-len-gt0 c = λ xs e.
    let g = c.args in
    c.copy.ensures ∙ rw (c.from-len.ensures, e) (copy_yes g.t.size g.t.n g.t.most xs g.sums.now.short g.sums.now.full g.t.r0 g.t.r1 g.t.share g.p g.k g.c (table_of g.paths.now) c.if-k.false c.if-p-t.false c.requires.0 (λ z. omega (arith, c.from-len.ensures, e, z)))

pub returns-else-len-gt0 : goal.returns-else-len-gt0
returns-else-len-gt0 c = λ xs e.
    let g = c.args in
    copy_none g.t.size g.t.n g.t.most xs g.sums.now.short g.sums.now.full g.t.r0 g.t.r1 g.t.share g.p g.k g.c (table_of g.paths.now) c.if-k.false c.if-p-t.false c.requires.0 (omega (arith, c.from-len.ensures, e))
