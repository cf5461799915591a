-- The numbers of the refusals, and an answer as a number: 0 where there is no refusal.
use Rattle.std.specs.Prelude.{ℕ, Result, Ok, Err}
use Rattle.refusal.specs.declared.Refusal.{Refusal}
use Rattle.refusal.specs.declared.Refusal.TheVariants.{Config, Geometry, Plane, Sample, Predictor, Rate, Block, Runs, Room, BinsEnd, BinClass, Value, TooManyColors, TooManyEscapes, Smoothing, InputFile}

abbrev pub number_of : Refusal → ℕ
number_of Config = 1
number_of Geometry = 2
number_of Plane = 3
number_of Sample = 4
number_of Predictor = 5
number_of Rate = 6
number_of Block = 7
number_of Runs = 8
number_of Room = 9
number_of BinsEnd = 10
number_of BinClass = 11
number_of Value = 12
number_of TooManyColors = 13
number_of TooManyEscapes = 14
number_of Smoothing = 15
number_of InputFile = 16

-- the refusal's number, or 0
abbrev pub code_of : {A : Type 0} → Result A Refusal → ℕ
code_of (Ok _) = 0
code_of (Err r) = number_of r
