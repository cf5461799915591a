-- `readlist::read_palette_cu`: what was read, and its runs laid.
use Rattle.std.proofs.Common.{ap, ◌∙◌, sym, rules, arith, length}
use Rattle.readblock.specs.Read.{BlockRead, as_read, refused_of}
use Rattle.refusal.specs.Laws.{number_some}
use Rattle.readlist.specs.After.{cu_read, runs_after}
use Rattle.readlist.specs.AfterLaws.{read-few, after-refused}
use Rattle.runlist.specs.Lists.{laid_on}
use Rattle.readlist.proofs.read_palette_cu.Goals as goal

pub returns-in_err-read-clause-answer : goal.returns-in_err-read-clause-answer
unfolding as_read
returns-in_err-read-clause-answer c = let r = ap cu_read c.in_err-read.ensures in search rules

pub returns-in_err-read-clause-runs : goal.returns-in_err-read-clause-runs
unfolding as_read refused_of
returns-in_err-read-clause-runs c =
    let a = c.args in
    let n = number_some c.in_err-read.field-0.0.refusal in
    sym (after-refused a.size a.format a.luma a.chroma a.lossless a.p a.bins.now a.list.now (λ z. omega (arith, ap (λ (x : BlockRead). x.refusal) c.in_err-read.ensures)))

pub lay_runs-requires : goal.lay_runs-requires
unfolding as_read
lay_runs-requires c =
    let a = c.args in
    let f = read-few a.size a.format a.luma a.chroma a.lossless a.p a.bins.now (length a.list.now) in
    let e = ap (λ (x : BlockRead). x.count) c.in_ok-read.ensures in
    (omega (arith, f.array), omega (arith, f.cells))

pub returns-clause-answer : goal.returns-clause-answer
unfolding as_read
returns-clause-answer c = ap cu_read c.in_ok-read.ensures

pub returns-clause-runs : goal.returns-clause-runs
unfolding as_read runs_after
returns-clause-runs c = c.lay_runs.ensures ∙ ap (λ (x : BlockRead). laid_on c.args.list.now x.runs x.count) c.in_ok-read.ensures
