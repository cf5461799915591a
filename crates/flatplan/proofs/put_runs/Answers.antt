-- `flatplan::put_runs`. The loop's invariant: what is left makes the whole.
use Rattle.std.proofs.Common.{◌≡◌, ap, [], ◌∷◌, ℕ, ◌+◌, ◌<◌, ◌≤◌, List, length, drop, get_or, add-one, drop-cons, drop_of_length-le, arith}
use Rattle.base.specs.Laid.{left-turn, left_end}
use Rattle.h265.specs.Strings.{bit}
use Rattle.model.specs.declared.PaletteRun.{PaletteRun}
use Rattle.flatplan.specs.Flat.{flat_runs, no_run}
use Rattle.flatplan.proofs.put_runs.Goals as goal

next_run : (rs : List PaletteRun) (i : ℕ) → i < length rs
    → flat_runs (drop i rs) ≡ bit (get_or rs i no_run).above ∷ (get_or rs i no_run).sent ∷ (get_or rs i no_run).more ∷ (get_or rs i no_run).start ∷ flat_runs (drop (i + 1) rs)
unfolding flat_runs
next_run rs i h = rw (add-one i, drop-cons rs i no_run h)

none_left : (rs : List PaletteRun) (i : ℕ) → length rs ≤ i → flat_runs (drop i rs) ≡ []
unfolding flat_runs
none_left rs i h = ap flat_runs (drop_of_length-le rs {i = i} h)

pub loop-run-preserved : goal.loop-run-preserved
loop-run-preserved c =
    let l = c.loop-run in
    let rs = c.args.runs.now in
    (omega (arith, c.put_run-to.ensures.next), left-turn (flat_runs (drop (l.run-index + 1) rs)) c.put_run-to.ensures (rw (next_run rs l.run-index c.loop-run-test.true) at l.invariant.1))

pub returns : goal.returns
returns c =
    let l = c.loop-run in
    (left_end (rw (none_left c.args.runs.now l.run-index c.loop-run-test.false) at l.invariant.1)).after
