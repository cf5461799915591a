-- What the writer answers: a refusal's number, or 0 and the number of bins.
use Rattle.std.specs.Prelude.{ℕ, Result, Ok, Err}
use Rattle.refusal.specs.declared.Refusal.{Refusal}
use Rattle.refusal.specs.Refusal.{number_of}

pub record Written : Type 0 where
  pub refusal : ℕ
  pub bins : ℕ

abbrev pub as_written : Result ℕ Refusal → Written
as_written (Ok n) = record { refusal = 0; bins = n }
as_written (Err r) = record { refusal = number_of r; bins = 0 }
