-- The numbers of truncated binary over n values fit.
use Rattle.std.specs.Prelude.{ℕ, ◌+◌, ◌^◌, ◌≤◌, ◌<◌}
use Rattle.std.proofs.Common.{arith, pow_mono}
use Rattle.h265.specs.Strings.{flog}
use Rattle.h265.specs.StringLaws.{flog-high}
use Rattle.bins.specs.Logarithm.{flog-most}

pub fits : (n : ℕ) → 1 ≤ n → n < 1073741824 → (flog n ≤ 29) × (n < 2 ^ (flog n + 1)) × (2 ^ flog n ≤ 536870912)
fits n h g =
    let o = flog-most n 30 h g in
    (omega arith, flog-high n h, pow_mono {i = flog n} {j = 29} (omega arith))
