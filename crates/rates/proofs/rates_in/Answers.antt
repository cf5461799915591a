use Rattle.std.proofs.Common.{sym, ◌∙◌, ◌≡◌, arith, get_or}
use Rattle.base.specs.Tests.{up_to, up_to-none, up_to-next, pick_test}
use Rattle.rates.specs.Rates.{pair_in, no_rates, rates_in}
use Rattle.rates.specs.RateLaws.{and_more}
use Rattle.rates.proofs.rates_in.Goals as goal

pub loop-p-init : goal.loop-p-init
loop-p-init c = c.pair_in-ok.ensures ∙ rw (up_to-none (λ j. pair_in (get_or c.args.m.run_prefix j no_rates))) (sym (pick_test _))

pub loop-p-preserved : goal.loop-p-preserved
loop-p-preserved c = let l = c.loop-p in
    rw l.invariant
    (and_more (pair_in c.args.m.run_type) (up_to l.p-index (λ j. pair_in (get_or c.args.m.run_prefix j no_rates))) c.pair_in-ok-in-loop-p.result
    ∙ rw (c.pair_in-ok-in-loop-p.ensures, up_to-next (λ j. pair_in (get_or c.args.m.run_prefix j no_rates)) l.p-index))

pub returns : goal.returns
unfolding rates_in
returns c = let e : c.loop-p.p-index ≡ 8 = omega arith in
    c.loop-p.invariant ∙ rw (e, pick_test)
