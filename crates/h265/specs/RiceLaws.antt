-- What the laws of num_palette_indices_minus1 ask of a number.
use Rattle.std.specs.Prelude.{◌≡◌, refl, Bool, true, false, List, [], ◌∷◌, ◌++◌, ℕ, zero, suc, ◌+◌, ◌*◌, ◌-◌, ◌/◌, ◌%◌, ◌^◌, ◌≤◌, ◌<◌, ltb}
use Rattle.std.proofs.Common.{ap, sym, ◌∙◌, mul-le-mul_right, mod-lt, div-lt_iff_lt-mul, zero-add, arith, pow_pos, lt-ltb, le-ltb, ltb-true, ltb-false}
use Rattle.std.proofs.Math.Pow.{pow-lt, high, low, split as pow-split}
use Rattle.h265.specs.EgkLaws.{Ones}

abbrev pub InRice : ℕ → ℕ → Type 0
InRice r v = Ones 16 (r + 1) (v - 4 * 2 ^ r)
