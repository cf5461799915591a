-- `putrun::put_suffix`: what the prefix's power leaves, in truncated binary.
use mathlib.Core.Path.{refl, ap, ◌∙◌}
use Prim.Native.Nat.{ℕ, ◌*◌, ◌-◌, ◌^◌, ◌<◌}
use native.Mathlib.Omega.{arith}
use Rattle.base.specs.Laid.{laid_none}
use Rattle.base.specs.Powers.{pow_next}
use Rattle.h265.specs.Strings.{flog, suffix_bins}
use Rattle.h265.specs.StringLaws.{flog-low, flog-high, length-bits}
use Rattle.h265.proofs.RunLaws.{suffix_in, suffix_is}
use Rattle.bins.specs.Logarithm.{flog-most, suffixes-all}
use Rattle.putrun.specs.Plain.{tb_plain}
use Rattle.putrun.proofs.put_suffix.Goals as goal

pub returns-then-more-eq0 : goal.returns-then-more-eq0
unfolding suffix_bins
returns-then-more-eq0 c = record { laid = rw c.if-more-eq0.true (laid_none _ _); near = omega arith }

pub pow2-p-requires : goal.pow2-p-requires
pow2-p-requires c = omega (arith, c.flog-k.ensures, flog-most c.args.more 11 (omega arith) (omega arith))

pub overflow_mul-p : goal.overflow_mul-p
overflow_mul-p c = omega (arith, c.pow2-p.ensures ∙ ap (λ (x : ℕ). 2 ^ x) c.flog-k.ensures, flog-low c.args.more (omega arith))

pub overflow_sub-more : goal.overflow_sub-more
overflow_sub-more c = omega (arith, c.pow2-p.ensures ∙ ap (λ (x : ℕ). 2 ^ x) c.flog-k.ensures, flog-low c.args.more (omega arith))

pub put_bits-requires : goal.put_bits-requires
put_bits-requires c = (omega (arith, c.flog-k.ensures, flog-most c.args.more 11 (omega arith) (omega arith)), omega arith)

pub returns-then-p-longest : goal.returns-then-p-longest
returns-then-p-longest c = let m = c.args.more in
    let k = flog m in
    let pe = c.pow2-p.ensures ∙ ap (λ (x : ℕ). 2 ^ x) c.flog-k.ensures in
    let lo = flog-low m (omega arith) in
    let hi : m < 2 * 2 ^ flog m = omega (arith, flog-high m (omega arith), pow_next (flog m)) in
    let se = suffixes-all c.args.longest (2 ^ k) k refl (omega (arith, pe)) in
    let d = c.put_bits.ensures in record { laid = rw (suffix_is c.args.longest k m lo hi, ← se, tb_plain k (m - 2 ^ k) (omega arith), ← pe, ← c.flog-k.ensures) d; near = omega (arith, rw length-bits at d.next, c.flog-k.ensures, flog-most m 11 (omega arith) (omega arith)) }

pub suffixes-requires : goal.suffixes-requires
suffixes-requires c = let pe = c.pow2-p.ensures ∙ ap (λ (x : ℕ). 2 ^ x) c.flog-k.ensures in
    (omega (arith, pe, flog-low c.args.more (omega arith)), omega arith)

pub overflow_sub-more-2 : goal.overflow_sub-more-2
overflow_sub-more-2 c = let pe = c.pow2-p.ensures ∙ ap (λ (x : ℕ). 2 ^ x) c.flog-k.ensures in
    omega (arith, pe, flog-low c.args.more (omega arith))

pub put_tb-requires : goal.put_tb-requires
put_tb-requires c = let m = c.args.more in
    let pe = c.pow2-p.ensures ∙ ap (λ (x : ℕ). 2 ^ x) c.flog-k.ensures in
    let se = c.suffixes.ensures.0 (flog m) pe in
    let lo = flog-low m (omega arith) in
    let hi : m < 2 * 2 ^ flog m = omega (arith, flog-high m (omega arith), pow_next (flog m)) in
    let k = suffix_in c.args.longest (flog m) m lo hi (omega arith) in
    (omega (arith, se), omega (arith, c.suffixes.ensures.1), omega (arith, se, pe), omega arith)

pub returns : goal.returns
returns c = let m = c.args.more in
    let pe = c.pow2-p.ensures ∙ ap (λ (x : ℕ). 2 ^ x) c.flog-k.ensures in
    let se = c.suffixes.ensures.0 (flog m) pe in
    let lo = flog-low m (omega arith) in
    let hi : m < 2 * 2 ^ flog m = omega (arith, flog-high m (omega arith), pow_next (flog m)) in
    record { laid = rw (suffix_is c.args.longest (flog m) m lo hi, ← se, ← pe) c.put_tb.ensures.laid; near = c.put_tb.ensures.near }
