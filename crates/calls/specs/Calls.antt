-- What a call answers and leaves in the memory lent to it.
use Rattle.std.specs.Prelude.{ℕ, eqb}
use Rattle.base.specs.Pick.{pick}

-- a refusal's number and the lent memory as it was, or 0 and the memory after the call
abbrev pub answered : {A : Type 0} → ℕ → A → A → ℕ × A
answered number before after = (number, pick (eqb number 0) after before)
