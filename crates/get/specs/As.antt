-- A reader's answer as the definitions': what was read and the place after it, or a refusal's number and its place.
use Rattle.std.specs.Prelude.{ℕ, Result, Ok, Err}
use Rattle.base.specs.Answer.{Answer, Value}
use Rattle.base.specs.Answer as A
use Rattle.refusal.specs.Refusal.{number_of}
use Rattle.refusal.specs.declared.Refused.{Refused}

abbrev pub answer_of : {X : Type 0} → Result X Refused → ℕ → Answer X
answer_of (Ok x) q = Value x q
answer_of (Err r) q = A.Refused (number_of r.refusal) r.place
