-- A run's prefix, and a run of fewer than eight further cells whole, as the bytes of a word: by computation for each class that the first bin may have.
use Rattle.std.specs.Prelude.{◌≡◌, refl, Bool, true, false, List, [], ◌∷◌, ◌++◌, ℕ, zero, suc, ◌+◌, ◌-◌, ◌*◌, ◌/◌, ◌%◌, ◌^◌, ◌≤◌, ◌<◌, eqb, ltb, leb, take}
use Rattle.std.proofs.Common.{ap, sym, ◌∙◌, add-zero, zero-add, one-mul, arith, pow_pos, shl_exact, take_at, eqb-true, leb-true, ltb-true, ltb-false}
use Rattle.std.proofs.Math.Nat.{mod-le}
use Rattle.base.specs.Pick.{pick, either}
use Rattle.base.specs.Powers.{pow_next, exp_lt}
use Rattle.base.specs.Tests.{up_to, up_to-at}
use Rattle.h265.specs.Strings.{bits, flog, flog_aux, unary, run_class, prefix_of, suffix_bins, run_bins}
use Rattle.h265.specs.StringLaws.{flog-low, flog-high}
use Rattle.h265.proofs.RunLaws.{suffix_is, runs-some}
use Rattle.bins.specs.Logarithm.{suffixes-all}
use Rattle.put.specs.Words.{bytes, length-bytes, bytes-append, same_list, same_list_lem, spread}
use Rattle.putrun.specs.Ones.{length-ones, stopped}
use Rattle.putrun.specs.Plain.{tb_plain}
use Rattle.putrun.specs.Word.{word_from}

-- the classes of a prefix whose first bin is of class c
unfoldable classes : Bool → ℕ → ℕ → ℕ
classes above c i = pick (eqb i 0) c (pick (ltb i 3) (pick above 9 6) (pick (ltb i 5) (pick above 10 7) 0))

-- the class of the first bin
abbrev first : Bool → ℕ → ℕ
first above sent = pick above 8 (pick (eqb sent 0) 3 (pick (ltb sent 3) 4 5))

-- the word of a prefix's zeros
abbrev zeros : Bool → ℕ → ℕ
zeros above c = c * 2 + 256 * pick above 336859666 235801612

any-first : (P : Bool → ℕ → Type 0) → P true 8 → P false 3 → P false 4 → P false 5 → (above : Bool) (sent : ℕ) → P above (first above sent)
any-first P a b c d true sent = a
any-first P a b c d false sent = either (eqb sent 0) (λ t. rw t b) (λ t. rw t (either (ltb sent 3) (λ u. rw u c) (λ u. rw u d)))

-- ---- a prefix of at most seven ones

-- so many ones, a byte each
unfoldable pub ones_of : ℕ → ℕ
ones_of k = 72340172838076673 % 2 ^ (8 * k)

prefix_test : Bool → ℕ → ℕ → Bool
prefix_test above c k = same_list (bytes (k + 1) (zeros above c + ones_of k)) (unary (classes above c) 0 (k + 1) k)

prefix_first : (above : Bool) (sent : ℕ) → up_to 8 (prefix_test above (first above sent)) ≡ true
unfolding prefix_test up_to same_list bytes ones_of unary classes
prefix_first = any-first (λ above c. up_to 8 (prefix_test above c) ≡ true) refl refl refl refl

same_word : (above : Bool) (sent : ℕ) → word_from above sent 0 ≡ zeros above (first above sent)
unfolding word_from run_class
same_word above sent = refl

same-classes : (above : Bool) (sent : ℕ) → run_class above sent ≡ classes above (first above sent)
unfolding run_class classes
same-classes above sent = refl

pub word-most : (above : Bool) (sent : ℕ) → word_from above sent 0 < 2 ^ 40
word-most above sent = rw (same_word above sent) (any-first (λ above c. zeros above c < 2 ^ 40) (omega arith) (omega arith) (omega arith) (omega arith) above sent)

-- the ones and the zero
prefix_one : (above : Bool) (sent k : ℕ) → k ≤ 7 → bytes (k + 1) (word_from above sent 0 + ones_of k) ≡ unary (run_class above sent) 0 (k + 1) k
unfolding prefix_test
prefix_one above sent k h =
    rw (same_word above sent, same-classes above sent)
    (same_list_lem (bytes (k + 1) (zeros above (first above sent) + ones_of k)) (unary (classes above (first above sent)) 0 (k + 1) k) (up_to-at (prefix_test above (first above sent)) 8 (prefix_first above sent) k (omega arith)))

-- a zero follows n ones of more than n
one_zero : (c : ℕ → ℕ) (n m : ℕ) → n < m → unary c 0 m n ≡ unary c 0 n n ++ (c n * 2 ∷ [])
one_zero c n m h =
    let e : m ≡ n + suc (m - n - 1) = omega arith in
    ap (λ (x : ℕ). unary c 0 x n) e ∙ rw (zero-add n) at (stopped c 0 n (m - n - 1))

prefix_stop : (above : Bool) (sent k most : ℕ) → k ≤ 7 → k < most → bytes (k + 1) (word_from above sent 0 + ones_of k) ≡ unary (run_class above sent) 0 most k
prefix_stop above sent k most h l = prefix_one above sent k h ∙ one_zero (run_class above sent) k (k + 1) (omega arith) ∙ sym (one_zero (run_class above sent) k most l)

-- the ones alone
prefix_full : (above : Bool) (sent k : ℕ) → k ≤ 7 → bytes k (word_from above sent 0 + ones_of k) ≡ unary (run_class above sent) 0 k k
prefix_full above sent k h =
    let w = word_from above sent 0 + ones_of k in
    let c = run_class above sent in
    sym (take_at (bytes k w) (bytes 1 (w / 2 ^ (8 * k))) k (length-bytes k w))
    ∙ ap (take k) (sym (bytes-append k 1 w) ∙ prefix_one above sent k h ∙ one_zero c k (k + 1) (omega arith))
    ∙ take_at (unary c 0 k k) (c k * 2 ∷ []) k (length-ones c 0 k)

pub prefix_bytes : (above : Bool) (sent k most n w : ℕ) → k ≤ 7 → k ≤ most → n ≡ k + pick (ltb k most) 1 0 → w ≡ word_from above sent 0 + ones_of k → bytes n w ≡ unary (run_class above sent) 0 most k
prefix_bytes above sent k most n w h l e f =
    rw (e, f)
    (either (ltb k most)
    (λ t. rw t (prefix_stop above sent k most h (ltb-true k most t)))
    (λ t.
    let z : most ≡ k = omega (arith, ltb-false k most t) in
    rw (t, add-zero k, z) (prefix_full above sent k h)))

pub ones-whole : (k : ℕ) → k ≤ 7 → 1 * 2 ^ (8 * k) % 2 ^ 64 ≡ 2 ^ (8 * k)
ones-whole k h = shl_exact {a = 1} 1 (8 * k) 64 (omega arith) (omega arith) ∙ one-mul (2 ^ (8 * k))

pub ones-most : (k : ℕ) → ones_of k ≤ 72340172838076673
unfolding ones_of
ones-most k = mod-le 72340172838076673 (2 ^ (8 * k))

-- ---- a run of fewer than eight further cells

-- bits of its bins, in seven; their number; and the shortest longest run that does not cut them short
unfoldable pub few_bits : ℕ → ℕ
few_bits more = 8535573020886974464 / 2 ^ (8 * more) % 256

unfoldable pub few_size : ℕ → ℕ
few_size more = 1717978145 / 2 ^ (4 * more) % 16

unfoldable pub few_longest : ℕ → ℕ
few_longest more = 2290631713 / 2 ^ (4 * more) % 16

-- classes of its prefix, none for the suffix
unfoldable pub few_classes : ℕ → ℕ → ℕ
few_classes w more = pick (ltb more 4) (w % 16777216) (w % 4294967296)

-- a run's bins where the longest run does not cut them short
free_bins : (ℕ → ℕ) → ℕ → List ℕ
free_bins c more = unary c 0 (prefix_of more + 1) (prefix_of more) ++ bits (prefix_of more - 1) (more - 2 ^ (prefix_of more - 1))

few_test : Bool → ℕ → ℕ → Bool
few_test above c more = same_list (bytes (few_size more) (few_classes (zeros above c) more + spread (few_bits more))) (free_bins (classes above c) more)

few-first : (above : Bool) (sent : ℕ) → up_to 8 (few_test above (first above sent)) ≡ true
unfolding few_test up_to same_list bytes few_size few_classes few_bits spread free_bins unary classes bits prefix_of flog flog_aux
few-first = any-first (λ above c. up_to 8 (few_test above c) ≡ true) refl refl refl refl

few-free : (above : Bool) (sent more : ℕ) → more < 8 → bytes (few_size more) (few_classes (word_from above sent 0) more + spread (few_bits more)) ≡ free_bins (run_class above sent) more
unfolding few_test
few-free above sent more h =
    rw (same_word above sent, same-classes above sent)
    (same_list_lem (bytes (few_size more) (few_classes (zeros above (first above sent)) more + spread (few_bits more))) (free_bins (classes above (first above sent)) more) (up_to-at (few_test above (first above sent)) 8 (few-first above sent) more h))

free_prefix : (longest : ℕ) (c : ℕ → ℕ) (p : ℕ) → 2 ^ p ≤ longest → 1 ≤ longest → unary c 0 (flog longest + 1) p ≡ unary c 0 (p + 1) p
free_prefix longest c p h l =
    let g : p < flog longest + 1 = exp_lt (flog longest + 1) p (omega (arith, flog-high longest l)) in
    one_zero c p (flog longest + 1) g ∙ sym (one_zero c p (p + 1) (omega arith))

free_suffix : (longest more : ℕ) → 2 ^ prefix_of more ≤ longest → suffix_bins longest more ≡ bits (prefix_of more - 1) (more - 2 ^ (prefix_of more - 1))
unfolding suffix_bins bits prefix_of
free_suffix longest zero h = refl
free_suffix longest (suc v) h =
    let m = suc v in
    let k = flog m in
    let lo = flog-low m (omega arith) in
    let hi : m < 2 * 2 ^ k = omega (arith, flog-high m (omega arith), pow_next k) in
    let q : flog m + 1 - 1 ≡ k = omega arith in
    let d : 2 * 2 ^ k ≤ longest = omega (arith, h, pow_next k) in
    suffix_is longest k m lo hi ∙ rw (← suffixes-all longest (2 ^ k) k refl d, q) (tb_plain k (m - 2 ^ k) (omega arith))

-- prefix and suffix stand whole where the longest run is 2^prefix or more
free : (longest : ℕ) (above : Bool) (sent more : ℕ) → 2 ^ prefix_of more ≤ longest → 1 ≤ longest → run_bins longest above sent more ≡ free_bins (run_class above sent) more
unfolding free_bins
free longest above sent more h l = runs-some longest above sent more l ∙ rw (free_prefix longest (run_class above sent) (prefix_of more) h l, free_suffix longest more h)

longest_all : up_to 8 (λ more. eqb (few_longest more) (2 ^ prefix_of more)) ≡ true
unfolding up_to few_longest prefix_of flog flog_aux
longest_all = refl

-- the bytes of the word are the run's bins
pub few_run : (longest : ℕ) (above : Bool) (sent more : ℕ) → more < 8 → few_longest more ≤ longest → bytes (few_size more) (few_classes (word_from above sent 0) more + spread (few_bits more)) ≡ run_bins longest above sent more
few_run longest above sent more h l =
    let e = eqb-true (few_longest more) (2 ^ prefix_of more) (up_to-at (λ more. eqb (few_longest more) (2 ^ prefix_of more)) 8 longest_all more h) in
    few-free above sent more h ∙ sym (free longest above sent more (omega arith) (omega (arith, pow_pos (prefix_of more))))

few-small : up_to 8 (λ more. leb (few_size more) 6) ≡ true
unfolding up_to few_size
few-small = refl

pub few-most : (more : ℕ) → more < 8 → few_size more ≤ 6
few-most more h = leb-true (few_size more) 6 (up_to-at (λ more. leb (few_size more) 6) 8 few-small more h)
