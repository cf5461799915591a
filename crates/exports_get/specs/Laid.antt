-- What the exported readers lay: the definition's answer within the leaf's domain, else nothing.
use Rattle.std.specs.Prelude.{Bool, List, [], ◌∷◌, ℕ, ltb, length, take}
use Rattle.base.specs.Pick.{pick}
use Rattle.base.specs.Answer.{Answer, Value, Refused, onward}
use Rattle.h265.specs.Strings.{bit}
use Rattle.h265.specs.Parse.{bin_at, bits_at, tb_at, egk_at, held, count_at, run_at}
use Rattle.h265.specs.Reuse.{reuse_at}
use Rattle.getreuse.specs.Read.{read_of}

-- an answer as three numbers
abbrev pub three : Answer ℕ → List ℕ
three (Value v q) = 0 ∷ v ∷ q ∷ []
three (Refused k q) = k ∷ 0 ∷ q ∷ []

unfoldable pub bin_out : ℕ → List ℕ → ℕ → List ℕ
bin_out class l at = three (onward (bin_at class l at) (λ b q. Value (bit b) q))

unfoldable pub bits_out : ℕ → List ℕ → ℕ → List ℕ
bits_out n l at = pick (ltb 32 n) [] (three (bits_at n l at))

unfoldable pub tb_out : ℕ → List ℕ → ℕ → List ℕ
tb_out n l at = pick (ltb n 1) [] (pick (ltb 65536 n) [] (three (tb_at n l at)))

unfoldable pub egk_out : ℕ → List ℕ → ℕ → List ℕ
egk_out order l at = pick (ltb 13 order) [] (three (egk_at order l at))

unfoldable pub held_out : ℕ → ℕ → List ℕ → ℕ → List ℕ
held_out order top l at = pick (ltb 13 order) [] (three (held at top (egk_at order l at)))

unfoldable pub count_out : ℕ → List ℕ → ℕ → List ℕ
count_out m l at = pick (ltb 64 m) [] (three (count_at m l at))

unfoldable pub run_out : ℕ → Bool → ℕ → List ℕ → ℕ → List ℕ
run_out longest above sent l at = pick (ltb 1024 longest) [] (three (run_at longest above sent l at))

-- the number of entries reused, of `count`
unfoldable pub reuse_out : ℕ → ℕ → List ℕ → ℕ → List ℕ
reuse_out limit count l at = pick (ltb 128 count) [] (three (read_of (reuse_at limit count l at)).got)

-- the flags, which came in as `old`
unfoldable pub flags_out : ℕ → List ℕ → ℕ → List Bool → List Bool
flags_out limit l at old = pick (ltb 128 (length old)) old (take (length old) (read_of (reuse_at limit (length old) l at)).flags)
