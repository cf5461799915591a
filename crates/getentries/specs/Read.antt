-- What the reader of a palette is lent, and its answers as those of the definitions.
use Rattle.std.specs.Prelude.{◌≡◌, false, List, [], ◌∷◌, ℕ, suc, ◌+◌, ◌-◌, ◌≤◌, ◌<◌, take, replicate, Result, Ok, Err}
use Rattle.std.proofs.Common.{arith}
use Rattle.base.specs.Answer.{Answer, Value}
use Rattle.get.specs.As.{answer_of}
use Rattle.refusal.specs.declared.Refused.{Refused}
use Rattle.syntax.specs.Block.{Entry, Call, entries}
use Rattle.getentries.specs.declared.Entries.{Entries}

abbrev pub lent : ℕ → ℕ → ℕ → ℕ → List Entry → Call
lent limit format luma chroma predictor = record { size = 0; format = format; luma = luma; chroma = chroma; lossless = false; limit = limit; predictor = predictor }

-- the first n values, and the first n entries
abbrev pub as_numbers : ℕ → Result (List ℕ) Refused → ℕ → Answer (List ℕ)
as_numbers n (Ok values) q = Value (take n values) q
as_numbers n (Err r) q = answer_of (Err r) q

abbrev pub as_entries : ℕ → Result Entries Refused → ℕ → Answer (List Entry)
as_entries n (Ok r) q = Value (entries (take n r.y) (take n r.cb) (take n r.cr)) q
as_entries n (Err r) q = answer_of (Err r) q

-- one value fewer is left
pub same_next : (n i depth : ℕ) → i < n → replicate (n - i) depth ≡ depth ∷ replicate (n - (i + 1)) depth
same_next n i depth h = let e : n - i ≡ suc (n - (i + 1)) = omega arith in rw e

pub same_end : (n i depth : ℕ) → n ≤ i → replicate (n - i) depth ≡ []
same_end n i depth h = let e : n - i ≡ 0 = omega arith in rw e
