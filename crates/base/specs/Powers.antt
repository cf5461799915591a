-- Powers of two, as omega wants them.
use Rattle.std.specs.Prelude.{◌≡◌, ℕ, ◌+◌, ◌^◌, ◌<◌, ltb}
use Rattle.std.proofs.Common.{add-one, arith, pow_mono, ltb-true, ltb-false}
use Rattle.base.specs.Pick.{either}

-- omega reads 2 ^ suc k as twice 2 ^ k, and takes 2 ^ (k + 1) for a number of its own: hand it this
pub pow_next : (k : ℕ) → 2 ^ (k + 1) ≡ 2 ^ k + 2 ^ k
pow_next k = rw add-one (omega arith)

pub exp_lt : (j k : ℕ) → 2 ^ k < 2 ^ j → k < j
exp_lt j k h = either (ltb k j) (ltb-true k j) (λ e. absurd (omega (arith, pow_mono (ltb-false k j e))))
