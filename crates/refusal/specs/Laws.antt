-- A refusal has a number, and 0 is none.
use Rattle.std.specs.Prelude.{◌≡◌, false, eqb}
use Rattle.std.proofs.Common.{◌≤◌, refl, arith}
use Rattle.refusal.specs.Refusal.{number_of}
use Rattle.refusal.specs.declared.Refusal.{Refusal}
use Rattle.refusal.specs.declared.Refusal.TheVariants.{Config, Geometry, Plane, Sample, Predictor, Rate, Block, Runs, Room, BinsEnd, BinClass, Value, TooManyColors, TooManyEscapes, Smoothing, InputFile}

pub number_some : (r : Refusal) → 1 ≤ number_of r
number_some Config = omega arith
number_some Geometry = omega arith
number_some Plane = omega arith
number_some Sample = omega arith
number_some Predictor = omega arith
number_some Rate = omega arith
number_some Block = omega arith
number_some Runs = omega arith
number_some Room = omega arith
number_some BinsEnd = omega arith
number_some BinClass = omega arith
number_some Value = omega arith
number_some TooManyColors = omega arith
number_some TooManyEscapes = omega arith
number_some Smoothing = omega arith
number_some InputFile = omega arith

pub number_not : (r : Refusal) → number_of r ≡ 0 → ⊥
number_not r e = let n = number_some r in omega (arith, n, e)

pub number_other : (r : Refusal) → eqb (number_of r) 0 ≡ false
number_other Config = refl
number_other Geometry = refl
number_other Plane = refl
number_other Sample = refl
number_other Predictor = refl
number_other Rate = refl
number_other Block = refl
number_other Runs = refl
number_other Room = refl
number_other BinsEnd = refl
number_other BinClass = refl
number_other Value = refl
number_other TooManyColors = refl
number_other TooManyEscapes = refl
number_other Smoothing = refl
number_other InputFile = refl
