-- `analysis::check_lent`: the two tests of 5 joined, then 7.
use Rattle.std.proofs.Common.{◌≡◌, false, true, sym, ◌∙◌}
use Rattle.std.proofs.lemmas.Bool.{le-leb, lt-leb}
use Rattle.analysis.specs.Analyze.{lent_in}
use Rattle.analysis.specs.Laws.{lent_by}
use Rattle.analysis.proofs.check_lent.Goals as goal

pub returns-then-not-holds : goal.returns-then-not-holds
returns-then-not-holds c =
    let s = c.args in
    let w : lent_in s.c s.p s.counter.now ≡ false = sym (lent_by s.c s.p s.counter.now _ _ c.predictor_in.ensures c.stamps_hold.ensures) ∙ c.if-not-holds.true in
    rw w

pub returns-then-tol-gt16 : goal.returns-then-tol-gt16
returns-then-tol-gt16 c =
    let s = c.args in
    let w : lent_in s.c s.p s.counter.now ≡ true = sym (lent_by s.c s.p s.counter.now _ _ c.predictor_in.ensures c.stamps_hold.ensures) ∙ c.if-not-holds.false in
    rw (w, lt-leb s.tol 16 c.if-tol-gt16.true)

pub returns : goal.returns
returns c =
    let s = c.args in
    let w : lent_in s.c s.p s.counter.now ≡ true = sym (lent_by s.c s.p s.counter.now _ _ c.predictor_in.ensures c.stamps_hold.ensures) ∙ c.if-not-holds.false in
    rw (w, le-leb s.tol 16 c.if-tol-gt16.false)
