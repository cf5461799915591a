-- What is read in bits and added fits.
use Rattle.std.specs.Prelude.{ℕ, ◌^◌, ◌≤◌}
use Rattle.std.proofs.Common.{pow_mono}

pub fits : (k : ℕ) → k ≤ 30 → 2 ^ k ≤ 1073741824
fits k h = pow_mono {i = k} {j = 30} h
