-- The logarithm as std gives it and by the zeros above a number's highest one, and the number of a run's suffixes by its two cases.
use Rattle.std.specs.Prelude.{Option, None, Some, IfNone, IfSome, unwrap_or, ◌≡◌, ℕ, ◌+◌, ◌*◌, ◌-◌, ◌^◌, ◌≤◌, ◌<◌}
use Rattle.std.proofs.Common.{sym, arith, lt-ltb, le-ltb}
use Rattle.std.specs.Int.Count.{count_leading_zeros}
use Rattle.std.proofs.lemmas.Nat.{leading_top}
use Rattle.base.specs.Powers.{exp_lt}
use Rattle.h265.specs.Strings.{flog, flog_aux, suffixes}
use Rattle.h265.specs.StringLaws.{flog-is, flog-low, flog-high}

-- std's logarithm, and 0 of 0
pub flog_logarithm : (n : ℕ) (o : Option ℕ) → IfNone o (n ≡ 0) → IfSome o (λ k. 2 ^ k ≤ n) → IfSome o (λ k. n < 2 * 2 ^ k) → unwrap_or o 0 ≡ flog n
unfolding flog flog_aux
flog_logarithm n None z p q = rw z
flog_logarithm n (Some k) z p q = sym (flog-is k n p (omega arith))

-- with the zeros above its highest one it makes a word
pub flog_leading : (w n : ℕ) → 1 ≤ n → n < 2 ^ w → count_leading_zeros w n + flog n + 1 ≡ w
flog_leading w n h g = let t = leading_top w n h g in omega (arith, t.1, flog-is t.0 n t.2 t.3)

pub flog-most : (n k : ℕ) → 1 ≤ n → n < 2 ^ k → flog n < k
flog-most n k h g = exp_lt k (flog n) (omega (arith, flog-low n h))

pub flog_mono : (a b : ℕ) → 1 ≤ a → a ≤ b → flog a ≤ flog b
flog_mono a b h g =
    let x = exp_lt (flog b + 1) (flog a) (omega (arith, flog-low a h, flog-high b (omega arith))) in omega arith

pub suffixes-few : (longest p k : ℕ) → p ≡ 2 ^ k → longest < 2 * p → longest - p + 1 ≡ suffixes longest k
unfolding suffixes
suffixes-few longest p k e h = rw (← e, lt-ltb longest (2 * p) h)

pub suffixes-all : (longest p k : ℕ) → p ≡ 2 ^ k → 2 * p ≤ longest → p ≡ suffixes longest k
unfolding suffixes
suffixes-all longest p k e h = rw (← e, le-ltb longest (2 * p) h)
