-- `choose::remove`: what is behind moves one place on. Assumes nothing.
use Rattle.std.proofs.Common.{◌∙◌, ap, arith, take}
use Rattle.std.proofs.Common.{◌-◌}
use Rattle.choose.specs.Turns.{removed}
use Rattle.choose.proofs.remove.Goals as goal

pub returns : goal.returns
returns c =
    let s = c.args in
    let h = c.copy_within.ensures in
    (ap (take (s.m - 1)) h.after ∙ removed s.list.now s.m s.r (omega arith) (omega arith), h.len ∙ c.told-list)
