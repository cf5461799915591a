-- `getreuse::reuse_at` reads the reuse runs as the definition does.
use Rattle.std.proofs.Common.{rules, arith, sym, ◌∙◌, ◌+◌, ◌-◌, ltb-true, ltb-false}
use Rattle.h265.specs.ReuseTurns.{reuse_full, reuse_all, reuse_refused, reuse_stop, reuse_past}
use Rattle.getreuse.specs.Read.{read_of}
use Rattle.getreuse.specs.Loop.{going_start, going_turn, going_end, going_refused, gap_less}
use Rattle.getreuse.proofs.reuse_at.Goals as goal

pub loop-next-init : goal.loop-next-init
loop-next-init c = record { going = going_start _ _ _ _; list = search rules }

pub returns-in_err-run-clause-value : goal.returns-in_err-run-clause-value
unfolding read_of
returns-in_err-run-clause-value c =
    let f = sym (rw c.loop-next.invariant.list at c.in_err-run.ensures.value) in
    let z = going_refused c.loop-next.invariant.going _ _ (reuse_refused _ (c.args.limit - (c.loop-next.reused + 1)) _ _ _ (omega (arith, ltb-true)) (omega arith) _ _ f) in
    rw (← z) (search rules)

pub returns-then-count-next-clause-value : goal.returns-then-count-next-clause-value
unfolding read_of
returns-then-count-next-clause-value c =
    let f = sym (rw c.loop-next.invariant.list at c.in_ok-run.ensures.value) in
    let z = going_refused c.loop-next.invariant.going _ _ (reuse_past _ (c.args.limit - (c.loop-next.reused + 1)) _ _ _ (omega (arith, ltb-true)) (omega arith) _ _ f c.if-run-eq1.false (omega (arith, c.saturating_sub-gap.ensures, gap_less c.in_ok-run.run'))) in
    rw (← z) (search rules)

pub loop-next-preserved : goal.loop-next-preserved
loop-next-preserved c =
    let f = sym (rw c.loop-next.invariant.list at c.in_ok-run.ensures.value) in
    let e = c.saturating_sub-gap.ensures ∙ gap_less c.in_ok-run.run' in
    let z = going_turn c.loop-next.invariant.going _ _ c.requires c.if-reused-limit.true f c.if-run-eq1.false (omega (arith, e)) in
    record { going = rw e z; list = search rules }

pub returns-else-reused-limit-clause-value : goal.returns-else-reused-limit-clause-value
returns-else-reused-limit-clause-value c = going_end c.loop-next.invariant.going _ c.requires (reuse_full _ _ _ _ (omega (arith, ltb-false)))

pub returns-after-loop-next-clause-value : goal.returns-after-loop-next-clause-value
returns-after-loop-next-clause-value c = going_end c.loop-next.invariant.going _ c.requires (reuse_all _ _ _ _ (omega arith))

pub returns-then-run-eq1-clause-value : goal.returns-then-run-eq1-clause-value
returns-then-run-eq1-clause-value c =
    let f = sym (rw c.loop-next.invariant.list at c.in_ok-run.ensures.value) in
    going_end c.loop-next.invariant.going _ c.requires (reuse_stop _ (c.args.limit - (c.loop-next.reused + 1)) _ _ _ (omega (arith, ltb-true)) (omega arith) _ _ f c.if-run-eq1.true)
