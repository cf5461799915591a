-- Truncated binary over a power of two is plain bits.
use Rattle.std.specs.Prelude.{◌≡◌, ℕ, ◌^◌, ◌<◌}
use Rattle.std.proofs.Common.{◌∙◌, le_refl, arith, pow_pos}
use Rattle.base.specs.Powers.{pow_next}
use Rattle.h265.specs.Strings.{bits, flog, short, tb}
use Rattle.h265.specs.StringLaws.{flog-is}
use Rattle.h265.proofs.TbLaws.{tb-short}

pub tb_plain : (k v : ℕ) → v < 2 ^ k → tb (2 ^ k) v ≡ bits k v
tb_plain k v h =
    let e : flog (2 ^ k) ≡ k = flog-is k (2 ^ k) (le_refl _) (omega (arith, pow_pos k)) in
    let s : v < short (2 ^ k) = rw e (omega (arith, pow_next k)) in
    tb-short (2 ^ k) v s ∙ rw e
