-- Which bins the exported writers lay: the definition's within the leaf's domain, else none.
use Rattle.std.specs.Prelude.{Bool, List, [], ℕ, ltb, leb, length}
use Rattle.base.specs.Pick.{pick}
use Rattle.h265.specs.Strings.{bits, tb, egk, count_bins, run_bins}
use Rattle.h265.specs.Reuse.{reuse_bins}

-- none from a place so far on that the next could not be told
abbrev pub near : ℕ → List ℕ → List ℕ
near at s = pick (ltb 4611686018427387904 at) [] s

unfoldable pub bits_out : ℕ → ℕ → List ℕ
bits_out n value = pick (ltb 32 n) [] (bits n value)

unfoldable pub tb_out : ℕ → ℕ → List ℕ
tb_out n v = pick (ltb 65536 n) [] (pick (leb n v) [] (tb n v))

unfoldable pub egk_out : ℕ → ℕ → List ℕ
egk_out order value = pick (ltb 13 order) [] (pick (ltb 65535 value) [] (egk order value))

unfoldable pub count_out : ℕ → ℕ → List ℕ
count_out m v = pick (ltb 64 m) [] (pick (ltb 65535 v) [] (count_bins m v))

unfoldable pub run_out : ℕ → Bool → ℕ → ℕ → List ℕ
run_out longest above sent more = pick (ltb 1024 longest) [] (pick (ltb longest more) [] (run_bins longest above sent more))

unfoldable pub reuse_out : ℕ → List Bool → List ℕ
reuse_out limit flags = pick (ltb 64 limit) [] (pick (ltb 128 (length flags)) [] (reuse_bins limit flags))
