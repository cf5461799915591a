-- The cells above, one turn of the list's test, and that a test of the first n cells is one of the list's.
use Rattle.std.specs.Prelude.{◌≡◌, refl, Bool, true, false, ◌&&◌, List, [], ◌∷◌, ℕ, zero, suc, ◌+◌, ◌-◌, ◌*◌, ◌/◌, ◌≤◌, ◌<◌, ltb, eqb, length, get_or, take, set, replicate}
use Rattle.std.proofs.Common.{sym, ◌∙◌, ⊎_elim, le_refl, one-mul, add-mul, mul-le-mul, arith, get_or-take, get_or-set_same, get_or-set_other, lt-ltb, le-ltb}
use Rattle.std.specs.Int.Bits.{bit_or}
use Rattle.base.specs.Pick.{pick, either, lt_or_le}
use Rattle.syntax.specs.Runs.{Run, may_copy}
use Rattle.syntax.specs.Replay.{reference, less_one}
use Rattle.h265.specs.Scan.{row_of, above_at}
use Rattle.h265.specs.ScanLaws.{place_row, above-closed}
use Rattle.syntax.proofs.ReplayLaws.{above-take, replays_le}
use Rattle.syntax.specs.Test.{both, copied, drawn, sent_right, rules, replays, replays-rules}
use Rattle.rules.specs.Collect.{both_and, both_assoc, both_false, or_none}

-- ---- the cells above, laid out once

-- the first k cells of `up` are those above
abbrev pub Above : ℕ → List ℕ → List ℕ → ℕ → Type 0
Above size xs up k = (i : ℕ) → i < k → get_or up i 0 ≡ above_at size xs i

zero_at : (n i : ℕ) → ◌≡◌ {A = ℕ} (get_or (replicate {A = ℕ} n 0) i 0) 0
zero_at zero i = refl
zero_at (suc n) zero = refl
zero_at (suc n) (suc i) = zero_at n i

pub above-first : (size : ℕ) (xs : List ℕ) (n : ℕ) → Above size xs (replicate n 0) (1 * size)
unfolding above_at
above-first size xs n i h = let l : i < size = omega arith in rw (lt-ltb i size l) (zero_at n i)

pub above-set : (size : ℕ) (xs up : List ℕ) (k v : ℕ) → k < length up → Above size xs up k → v ≡ above_at size xs k → Above size xs (set up k v) (k + 1)
above-set size xs up k v l a e i h =
    ⊎_elim
    (λ (m : i < k). get_or-set_other up k i v 0 (λ z. omega arith) ∙ a i m)
    (λ (m : k ≤ i). let z : i ≡ k = omega arith in rw z (get_or-set_same up k v 0 l ∙ e))
    (lt_or_le i k)

pub above-row : (size : ℕ) (xs : List ℕ) (r j : ℕ) → 1 ≤ r → j < size → get_or xs (r * size - (j + 1)) 0 ≡ above_at size xs (r * size + j)
unfolding above_at row_of
above-row size xs r j h k =
    let q : 1 * size ≤ r * size = mul-le-mul h (le_refl size) in
    let y : (r * size + j) / size ≡ r = place_row size r j k in
    let z : 2 * (r * size) - (r * size + j + 1) ≡ r * size - (j + 1) = omega arith in
    rw (le-ltb (r * size + j) size (omega arith), above-closed size (r * size + j) (omega arith) (omega arith), y, z)

pub row_low : (r size : ℕ) → 1 ≤ r → size ≤ r * size
row_low r size h = let q : 1 * size ≤ r * size = mul-le-mul h (le_refl size) in omega arith

pub row_next : (r size : ℕ) → r * size + size ≡ (r + 1) * size
row_next r size = sym (add-mul r 1 size ∙ rw one-mul)

-- the index sent, in the run's index and its reference
unfoldable pub sent_as : ℕ → ℕ → ℕ → ℕ → ℕ → Bool
sent_as m v f scan sent = pick (eqb scan 0) (both (eqb sent v) (ltb sent (m + 1))) (pick (eqb v f) false (both (eqb sent (less_one v f)) (ltb sent m)))

pub sent_as_lem : (size m : ℕ) (xs up : List ℕ) (scan : ℕ) (prev : Bool) (sent f : ℕ) → Above size xs up (scan + 1) → (1 ≤ scan → f ≡ pick prev (get_or up scan 0) (get_or xs (scan - 1) 0)) → sent_as m (get_or xs scan 0) f scan sent ≡ sent_right size m xs scan prev sent
unfolding sent_as sent_right reference
sent_as_lem size m xs up zero prev sent f a h = refl
sent_as_lem size m xs up (suc s) prev sent f a h = let e : f ≡ pick prev (above_at size xs (suc s)) (get_or xs (suc s - 1) 0) = rw (← a (suc s) (omega arith)) (h (omega arith)) in rw e

-- ---- the first n cells

copied_take : (size n : ℕ) (xs : List ℕ) (k i : ℕ) → 0 < size → i + k ≤ n → copied size (take n xs) k i ≡ copied size xs k i
unfolding copied
copied_take size n xs zero i z h = refl
copied_take size n xs (suc k) i z h = rw (get_or-take n xs i 0 (omega arith), above-take size n i xs (omega arith) z, copied_take size n xs k (suc i) z (omega arith))

drawn-take : (v n : ℕ) (xs : List ℕ) (k i : ℕ) → i + k ≤ n → drawn v (take n xs) k i ≡ drawn v xs k i
unfolding drawn
drawn-take v n xs zero i h = refl
drawn-take v n xs (suc k) i h = rw (get_or-take n xs i 0 (omega arith), drawn-take v n xs k (suc i) (omega arith))

reference_in_lem : (size : ℕ) (prev : Bool) (n : ℕ) (xs : List ℕ) (i : ℕ) → 0 < size → i ≤ n → 0 < i → reference size prev (take n xs) i ≡ reference size prev xs i
unfolding reference
reference_in_lem size true n xs i z h o = above-take size n i xs h z
reference_in_lem size false n xs i z h o = get_or-take n xs (i - 1) 0 (omega arith)

sent_take : (size m n : ℕ) (xs : List ℕ) (scan : ℕ) (prev : Bool) (sent : ℕ) → 0 < size → scan < n → sent_right size m (take n xs) scan prev sent ≡ sent_right size m xs scan prev sent
unfolding sent_right
sent_take size m n xs zero prev sent z h = rw (get_or-take n xs 0 0 h)
sent_take size m n xs (suc s) prev sent z h = rw (get_or-take n xs (suc s) 0 h, reference_in_lem size prev n xs (suc s) z (omega arith) (omega arith))

rules-take : (size m n : ℕ) (xs : List ℕ) (scan : ℕ) (prev : Bool) (r : Run) → 0 < size → scan + r.more + 1 ≤ n → rules size m (take n xs) scan prev r ≡ rules size m xs scan prev r
unfolding rules
rules-take size m n xs scan prev r z h =
    rw (copied_take size n xs (suc r.more) scan z (omega arith), sent_take size m n xs scan prev r.sent z (omega arith), get_or-take n xs scan 0 (omega arith), drawn-take (get_or xs scan 0) n xs (suc r.more) scan (omega arith))

-- ---- the rules in two parts

-- what a run may be at its start, its other cells not looked at
unfoldable pub starts : ℕ → ℕ → List ℕ → ℕ → Bool → Run → Bool
starts size m xs scan prev r = both (eqb r.start scan) (pick r.above (both (may_copy size scan prev) (eqb r.sent 0)) (sent_right size m xs scan prev r.sent))

-- the k cells of a run
unfoldable pub holds : ℕ → List ℕ → ℕ → Bool → ℕ → Bool
holds size xs scan above k = pick above (copied size xs k scan) (drawn (get_or xs scan 0) xs k scan)

parts : (s p a b c d e : Bool) → both s (pick p (both a (both b c)) (both d e)) ≡ both (both s (pick p (both a b) d)) (pick p c e)
unfolding both
parts false p a b c d e = refl
parts true true a b c d e = sym (both_assoc a b c)
parts true false a b c d e = refl

module _ (size m n : ℕ) (xs : List ℕ) (scan : ℕ) (prev : Bool) (r : Run) (z : 0 < size) (h : scan + r.more + 1 ≤ n) where
  rules-parts : rules size m (take n xs) scan prev r ≡ both (starts size m xs scan prev r) (holds size xs scan r.above (suc r.more))
  unfolding rules starts holds
  rules-parts =
      rules-take size m n xs scan prev r z h
      ∙ parts (eqb r.start scan) r.above (may_copy size scan prev) (eqb r.sent 0) (copied size xs (suc r.more) scan) (sent_right size m xs scan prev r.sent) (drawn (get_or xs scan 0) xs (suc r.more) scan)

  pub rules-holds : (ok : Bool) (d : ℕ) → ok ≡ starts size m xs scan prev r → ok ≡ true → eqb d 0 ≡ holds size xs scan r.above (suc r.more) → eqb d 0 ≡ rules size m (take n xs) scan prev r
  unfolding both
  rules-holds ok d e t x = rw (rules-parts, ← e, t) x

  pub rules_not : (ok : Bool) → ok ≡ starts size m xs scan prev r → ok ≡ false → rules size m (take n xs) scan prev r ≡ false
  unfolding both
  rules_not ok e t = rw (rules-parts, ← e, t)

-- ---- one turn of the list's test, where `bad` is 0 if the cells so far are as the runs say

module _ (size n m : ℕ) (xs : List ℕ) (scan : ℕ) (prev : Bool) (r : Run) (rs : List Run) (bad : ℕ) where
  pub replays-on : (d : ℕ) → eqb d 0 ≡ rules size m xs scan prev r → both (eqb (bit_or bad d) 0) (replays size n m xs (scan + r.more + 1) r.above rs) ≡ both (eqb bad 0) (replays size n m xs scan prev (r ∷ rs))
  unfolding replays
  replays-on d h = rw (or_none bad d, ← h) (both_assoc (eqb bad 0) (eqb d 0) (replays size n m xs (scan + r.more + 1) r.above rs))

  pub replays_not : rules size m xs scan prev r ≡ false → both (eqb bad 0) (replays size n m xs scan prev (r ∷ rs)) ≡ false
  unfolding replays both
  replays_not h = rw h (both_false (eqb bad 0))

  over : n < scan + r.more + 1 → replays size n m xs scan prev (r ∷ rs) ≡ false
  over h = either (replays size n m xs scan prev (r ∷ rs)) (λ t.
      let k = replays-rules size n m xs scan prev (r ∷ rs) t in
      absurd (omega (arith, replays_le size n m xs (scan + r.more + 1) r.above rs k.1))) (λ t. t)

  pub replays-over : n < scan + r.more + 1 → both (eqb bad 0) (replays size n m xs scan prev (r ∷ rs)) ≡ false
  replays-over h = rw (over h) (both_false (eqb bad 0))

pub replays-first : (b : Bool) → both (eqb 0 0) b ≡ b
unfolding both
replays-first b = refl

pub replays-end : (size n m : ℕ) (xs : List ℕ) (scan : ℕ) (prev : Bool) (bad : ℕ) → eqb bad 0 && eqb scan n ≡ both (eqb bad 0) (replays size n m xs scan prev [])
unfolding replays
replays-end size n m xs scan prev bad = both_and (eqb bad 0) (eqb scan n)
