-- The reader's side of the element codes: what stands in the list of bins l at place p. Refusals: 10 the bins end, 11 another class, 12 out of range.
use Rattle.std.specs.Prelude.{ℕ, zero, suc, ◌+◌, ◌*◌, ◌-◌, ◌^◌, Bool, true, false, List, [], ◌∷◌, ltb, eqb, length, get_or}
use Rattle.base.specs.Pick.{pick}
use Rattle.base.specs.Answer.{Answer, Value, Refused, onward}
use Rattle.h265.specs.Strings.{bit, short, flog, bypass, rice_of, run_class, suffixes}

-- one bin of class c
unfoldable pub bin_at : ℕ → List ℕ → ℕ → Answer Bool
bin_at c l p =
    pick (ltb p (length l))
    (pick (eqb (get_or l p 0) (c * 2 + 1)) (Value true (p + 1)) (pick (eqb (get_or l p 0) (c * 2)) (Value false (p + 1)) (Refused 11 p)))
    (Refused 10 p)

-- the QP marker: byte 22 and no other
unfoldable pub marker_at : List ℕ → ℕ → Answer (Unit {0})
marker_at l p = pick (ltb p (length l)) (pick (eqb (get_or l p 0) 22) (Value tt (p + 1)) (Refused 11 p)) (Refused 10 p)

-- n bits of class 0, high first, after bits that made a
unfoldable pub bits_from : ℕ → ℕ → List ℕ → ℕ → Answer ℕ
bits_from zero a l p = Value a p
bits_from (suc n) a l p = onward (bin_at 0 l p) (λ b q. bits_from n (a * 2 + bit b) l q)

abbrev pub bits_at : ℕ → List ℕ → ℕ → Answer ℕ
bits_at n l p = bits_from n 0 l p

-- Exp-Golomb: m more ones are in range, s is the value's first place, k the order by now and a what the ones so far stand for
unfoldable pub ones_from : ℕ → ℕ → ℕ → ℕ → List ℕ → ℕ → Answer ℕ
ones_from zero s k a l p =
    onward (bin_at 0 l p) (λ b q. pick b (Refused 12 s) (onward (bits_at k l q) (λ v r. Value (a + v) r)))
ones_from (suc m) s k a l p =
    onward (bin_at 0 l p) (λ b q.
    let more : Answer ℕ = ones_from m s (suc k) (a + 2 ^ k) l q in
    pick b more (onward (bits_at k l q) (λ v r. Value (a + v) r)))

-- at most 16 ones
unfoldable pub egk_at : ℕ → List ℕ → ℕ → Answer ℕ
egk_at k l p = ones_from 16 p k 0 l p

-- a value tested once it is read: s is its first place
unfoldable pub held : ℕ → ℕ → Answer ℕ → Answer ℕ
held s top (Value v q) = pick (ltb top v) (Refused 12 s) (Value v q)
held s top (Refused k q) = Refused k q

unfoldable pub tb_at : ℕ → List ℕ → ℕ → Answer ℕ
tb_at n l p =
    onward (bits_at (flog n) l p) (λ x q.
    pick (ltb x (short n)) (Value x q) (onward (bits_at 1 l q) (λ b r. Value (x * 2 + b - short n) r)))

-- truncated unary, bin number i of class c i
unfoldable pub unary_at : (ℕ → ℕ) → ℕ → ℕ → List ℕ → ℕ → Answer ℕ
unary_at c i zero l p = Value 0 p
unary_at c i (suc m) l p =
    onward (bin_at (c i) l p) (λ b q.
    pick b (onward (unary_at c (suc i) m l q) (λ v r. Value (suc v) r)) (Value 0 q))

unfoldable pub rice_at : ℕ → List ℕ → ℕ → Answer ℕ
rice_at r l p =
    onward (unary_at bypass 0 4 l p) (λ h q.
    pick (ltb h 4) (onward (bits_at r l q) (λ v t. Value (h * 2 ^ r + v) t)) (onward (ones_from 16 p (r + 1) 0 l q) (λ v t. Value (4 * 2 ^ r + v) t)))

unfoldable pub count_at : ℕ → List ℕ → ℕ → Answer ℕ
count_at m l p = rice_at (rice_of m) l p

-- palette_run_suffix after a prefix
unfoldable pub suffix_at : ℕ → ℕ → List ℕ → ℕ → Answer ℕ
suffix_at longest zero l p = Value 0 p
suffix_at longest (suc k) l p = onward (tb_at (suffixes longest k) l p) (λ v q. Value (2 ^ k + v) q)

unfoldable pub run_at : ℕ → Bool → ℕ → List ℕ → ℕ → Answer ℕ
run_at longest above sent l p =
    pick (eqb longest 0) (Value 0 p)
    (onward (unary_at (run_class above sent) 0 (flog longest + 1) l p) (λ k q. suffix_at longest k l q))
