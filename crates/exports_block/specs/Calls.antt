-- What the exported calls answer and leave in the memory lent to them: the entry point's answer over the records that the lists of numbers are.
use Rattle.std.specs.Prelude.{Bool, List, ℕ, ℤ, set}
use Rattle.assigning.specs.Assigning.{assign_of}
use Rattle.calls.specs.Calls.{answered}
use Rattle.flat.specs.Flat.{block_of, config_of, source_of}
use Rattle.flatassign.specs.Answers.{assign_laid}
use Rattle.sse.specs.Sse.{Figure, sse_of}

unfoldable pub assign_out : List ℕ → List ℕ → List ℕ → List ℤ → List ℕ → Bool → List ℕ → ℕ × List ℕ
assign_out luma cb cr config source transpose block = assign_laid (assign_of luma cb cr (config_of config) (source_of source) transpose (block_of block)) block

-- the error figure at place 0
abbrev pub sse_laid : Figure → List ℕ → ℕ × List ℕ
sse_laid done list = answered done.refusal list (set list 0 done.sse)

unfoldable pub sse_out : List ℕ → List ℕ → List ℕ → List ℤ → List ℕ → List ℕ → List ℕ → ℕ × List ℕ
sse_out luma cb cr config source block figure = sse_laid (sse_of luma cb cr (config_of config) (source_of source) (block_of block)) figure
