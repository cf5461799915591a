-- The code's answers as those of the definitions.
use Rattle.std.specs.Prelude.{Result, Ok, Err, List, ℕ, take}
use Rattle.base.specs.Answer.{Answer}
use Rattle.base.specs.Answer as A
use Rattle.refusal.specs.Refusal.{number_of}
use Rattle.refusal.specs.declared.Refused.{Refused}
use Rattle.syntax.specs.Block.{Map}
use Rattle.getmap.specs.declared.IndicesRead.{IndicesRead}
use Rattle.getmap.specs.declared.MapRead.{MapRead}

-- the first `count` indices and the place after them, or a refusal's number and place
abbrev pub as_indices : Result IndicesRead Refused → ℕ → Answer (List ℕ)
as_indices (Ok r) q = A.Value (take r.count r.sent) q
as_indices (Err e) q = A.Refused (number_of e.refusal) e.place

-- the map and the place after it, or a refusal's number and place
abbrev pub as_map : Result MapRead Refused → ℕ → Answer Map
as_map (Ok r) q = A.Value (record { turned = r.turned; runs = take r.count r.runs }) q
as_map (Err e) q = A.Refused (number_of e.refusal) e.place
