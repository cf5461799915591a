-- `lines::put_text`. The invariant: what is left of the text makes the whole.
use Rattle.std.proofs.Common.{◌≡◌, ◌+◌, drop}
use Rattle.base.specs.Laid.{Left}
use Rattle.lines.proofs.put_text.Given as goal

abbrev pub invariant-loop-byte : goal.invariant-loop-byte
invariant-loop-byte l = (l.to ≡ l.at + l.byte-index) × Left l.initial.list l.at l.text l.list l.to (drop l.byte-index l.text)
