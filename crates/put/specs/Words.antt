-- Bins as the bytes of a word, the first lowest: stored in two parts that may overlap, and at most seven bits spread to bytes by one product.
use Rattle.std.specs.Prelude.{◌≡◌, refl, Bool, true, false, List, [], ◌∷◌, ◌++◌, ℕ, zero, suc, ◌+◌, ◌-◌, ◌*◌, ◌/◌, ◌%◌, ◌^◌, ◌≤◌, ◌<◌, eqb, ltb, length, set, take, drop}
use Rattle.std.proofs.Common.{ap, ap₂, sym, ◌∙◌, true≢false, zero-add, suc-add, arith, pow-add, shr-shr, shl_exact, set-set, take_at, eqb-true, append_assoc}
use Rattle.std.specs.Int.Bits.{bit_and}
use Rattle.std.proofs.lemmas.Nat.{and_le_r, shl-shr}
use Rattle.std.proofs.lemmas.List.Edits.{sets, sets-eq, paste_all}
use Rattle.std.proofs.lemmas.Slice.{put_mid-paste}
use Rattle.std.specs.Int.{byte_at, bytes_low_first, to_le_bytes, w64}
use borrow.Rule.Slice.PartMut.{put_mid}
use Rattle.std.proofs.Math.Nat.{pow-suc}
use Rattle.std.proofs.lemmas.List.{set_comm}
use Rattle.base.specs.Laid.{Laid, sets_append}
use Rattle.base.specs.Pick.{pick, either}
use Rattle.base.specs.Tests.{both, up_to, up_to-at}
use Rattle.h265.specs.Strings.{bits, flog, short, tb}
use Rattle.h265.specs.StringLaws.{length-bits, bits_mod}
use Rattle.put.specs.Straight.{bits-append, bits-last}

-- the n low bytes of a word, the lowest first
unfoldable pub bytes : ℕ → ℕ → List ℕ
bytes zero w = []
bytes (suc n) w = w % 256 ∷ bytes n (w / 256)

pub length-bytes : (n w : ℕ) → length (bytes n w) ≡ n
unfolding bytes
length-bytes zero w = refl
length-bytes (suc n) w = ap suc (length-bytes n (w / 256))

pub bytes-append : (a b w : ℕ) → bytes (a + b) w ≡ bytes a w ++ bytes b (w / 2 ^ (8 * a))
unfolding bytes
bytes-append zero b w =
    let d : w / 1 ≡ w = omega arith in
    rw (zero-add, d)
bytes-append (suc a) b w =
    let e : 8 * suc a ≡ 8 + 8 * a = omega arith in
    rw (suc-add, e, ← shr-shr w 8 (8 * a)) (ap (λ (t : List ℕ). w % 256 ∷ t) (bytes-append a b (w / 256)))

pow_bytes : (i : ℕ) → 256 ^ i ≡ 2 ^ (8 * i)
pow_bytes zero = refl
pow_bytes (suc i) =
    let e : 8 * suc i ≡ 8 * i + 8 = omega arith in
    rw (e, pow-add 2 (8 * i) 8, ← pow_bytes i, pow-suc 256 i)

byte_low : (i w : ℕ) → byte_at i w ≡ w / 2 ^ (8 * i) % 256
byte_low zero w = let e : w / 2 ^ (8 * 0) ≡ w = omega arith in rw e
byte_low (suc i) w = ap (λ (p : ℕ). w / p % 256) (pow_bytes (suc i))

-- the first n of k bytes from byte i on
bytes_first : (i n k w : ℕ) → n ≤ k → take n (bytes_low_first i k w) ≡ bytes n (w / 2 ^ (8 * i))
unfolding bytes
bytes_first i zero k w h = refl
bytes_first i (suc n) zero w h = absurd (omega arith)
bytes_first i (suc n) (suc k) w h =
    let e : 8 * i + 8 ≡ 8 * suc i = omega arith in
    let d : w / 2 ^ (8 * suc i) ≡ w / 2 ^ (8 * i) / 256 = sym (shr-shr w (8 * i) 8 ∙ ap (λ (x : ℕ). w / 2 ^ x) e) in
    rw (byte_low i w, bytes_first (suc i) n k w (omega arith), d)

-- the first n of a word's eight bytes, copied onto a list
pub bytes_copied : (n w : ℕ) (l : List ℕ) (at k : ℕ) (m : List ℕ) → n ≤ 8 → at + n ≤ length l → k ≡ n → m ≡ take n (to_le_bytes w64 w) → put_mid at k l m ≡ sets l at (bytes n w)
bytes_copied n w l at k m h g e f =
    let z : w / 2 ^ (8 * 0) ≡ w = omega arith in
    let b : m ≡ bytes n w = f ∙ bytes_first 0 n 8 w h ∙ ap (bytes n) z in
    let c : n ≡ length (bytes n w) = sym (length-bytes n w) in
    put_mid-paste at k l m (bytes n w) n b (sym e) c
    ∙ paste_all l at (bytes n w) n c
    ∙ sym ((rw (length-bytes n w) at (sets-eq (bytes n w) l at (rw (length-bytes n w) g))) ∙ append_assoc (take at l) (bytes n w) (drop (at + n) l))

-- ---- stores one over another

set_before : (s l : List ℕ) (i j b : ℕ) → i < j → set (sets l j s) i b ≡ sets (set l i b) j s
set_before [] l i j b h = refl
set_before (a ∷ s) l i j b h = set_before s (set l j a) i (suc j) b (omega arith) ∙ ap (λ (m : List ℕ). sets m (suc j) s) (set_comm l j i a b (λ e. omega arith))

-- what is stored over at least as many places is what stays
sets_over : (s t l : List ℕ) (i : ℕ) → length s ≤ length t → sets (sets l i s) i t ≡ sets l i t
sets_over [] t l i h = refl
sets_over (a ∷ s) [] l i h = absurd (omega arith)
sets_over (a ∷ s) (b ∷ t) l i h =
    ap (λ (m : List ℕ). sets m (suc i) t) (set_before s (set l i a) i (suc i) b (omega arith) ∙ ap (λ (m : List ℕ). sets m (suc i) s) (set-set l i a b))
    ∙ sets_over s t (set l i b) (suc i) (omega arith)

-- the first k bytes, then the last k of n, between k and 2 k
pub laid_twice : (k n w : ℕ) (l : List ℕ) (at : ℕ) {m o : List ℕ} → k ≤ n → n ≤ k + k → m ≡ sets l at (bytes k w) → o ≡ sets m (at + (n - k)) (bytes k (w / 2 ^ (8 * (n - k)))) → Laid l at (bytes n w) (at + n) o
laid_twice k n w l at {m} {o} h g e f =
    let a = n - k in
    let v = w / 2 ^ (8 * a) in
    let p : n ≡ a + k = omega arith in
    let q : k ≡ a + (k - a) = omega arith in
    let r : bytes n w ≡ bytes a w ++ bytes k v = ap (λ (x : ℕ). bytes x w) p ∙ bytes-append a k w in
    let t : bytes k w ≡ bytes a w ++ bytes (k - a) v = ap (λ (x : ℕ). bytes x w) q ∙ bytes-append a (k - a) w in
    let u : sets l at (bytes k w) ≡ sets (sets l at (bytes a w)) (at + a) (bytes (k - a) v) = ap (sets l at) t ∙ sym (rw (length-bytes a w) at (sets_append (bytes a w) (bytes (k - a) v) l at)) in
    record {
      next = ap (λ (x : ℕ). at + x) (sym (length-bytes n w));
      after =
          f ∙ ap (λ (x : List ℕ). sets x (at + a) (bytes k v)) (e ∙ u)
          ∙ sets_over (bytes (k - a) v) (bytes k v) (sets l at (bytes a w)) (at + a) (omega (arith, length-bytes (k - a) v, length-bytes k v))
          ∙ rw (length-bytes a w) at (sets_append (bytes a w) (bytes k v) l at)
          ∙ ap (sets l at) (sym r);
    }

-- ---- bits spread

unfoldable pub same_list : List ℕ → List ℕ → Bool
same_list [] [] = true
same_list [] (y ∷ ys) = false
same_list (x ∷ xs) [] = false
same_list (x ∷ xs) (y ∷ ys) = pick (eqb x y) (same_list xs ys) false

pub same_list_lem : (xs ys : List ℕ) → same_list xs ys ≡ true → xs ≡ ys
unfolding same_list
same_list_lem [] [] e = refl
same_list_lem [] (y ∷ ys) e = absurd (true≢false (sym e))
same_list_lem (x ∷ xs) [] e = absurd (true≢false (sym e))
same_list_lem (x ∷ xs) (y ∷ ys) e =
    let b = both (eqb x y) (same_list xs ys) e in
    rw (eqb-true x y b.0, same_list_lem xs ys b.1)

-- each bit of a number of seven to a byte of its own, the highest first
unfoldable pub spread : ℕ → ℕ
spread x = bit_and (x * 18049651735527937 / 64) 282578800148737

pub spread-most : (x : ℕ) → spread x < 2 ^ 56
unfolding spread
spread-most x = omega (arith, and_le_r (x * 18049651735527937 / 64) 282578800148737)

spread-all : up_to 128 (λ x. same_list (bytes 7 (spread x)) (bits 7 x)) ≡ true
unfolding spread bytes bits same_list up_to
spread-all = refl

spread-seven : (x : ℕ) → x < 128 → bytes 7 (spread x) ≡ bits 7 x
spread-seven x h = same_list_lem (bytes 7 (spread x)) (bits 7 x) (up_to-at (λ x. same_list (bytes 7 (spread x)) (bits 7 x)) 128 spread-all x h)

-- the first n of them are those of a number of n bits, moved up
pub spread-bits : (n v : ℕ) → n ≤ 7 → v < 2 ^ 32 → bytes n (spread (v * 2 ^ (7 - n) % 2 ^ 64 % 128)) ≡ bits n v
spread-bits n v h l =
    let b = 7 - n in
    let y = v * 2 ^ b in
    let x = y % 2 ^ 64 % 128 in
    let e : x ≡ y % 128 = ap (λ (z : ℕ). z % 128) (shl_exact {a = v} 32 b 64 l (omega arith)) in
    let p : n + b ≡ 7 = omega arith in
    let s : bytes 7 (spread x) ≡ bits 7 y = spread-seven x (omega arith) ∙ ap (bits 7) e ∙ bits_mod 7 y in
    let f : bytes 7 (spread x) ≡ bytes n (spread x) ++ bytes b (spread x / 2 ^ (8 * n)) = rw p at (bytes-append n b (spread x)) in
    let g : bits 7 y ≡ bits n v ++ bits b y = rw (p, shl-shr v b) at (bits-append n b y) in
    sym (take_at (bytes n (spread x)) (bytes b (spread x / 2 ^ (8 * n))) n (length-bytes n (spread x)))
    ∙ ap (take n) (sym f ∙ s ∙ g)
    ∙ take_at (bits n v) (bits b y) n (length-bits n v)

-- what stands past the n low bytes does not matter to them
bytes_low : (n w b : ℕ) → bytes n (w + b * 2 ^ (8 * n)) ≡ bytes n w
unfolding bytes
bytes_low zero w b = refl
bytes_low (suc n) w b =
    let e : 8 * suc n ≡ 8 + 8 * n = omega arith in
    let p : b * 2 ^ (8 + 8 * n) ≡ b * 2 ^ (8 * n) * 256 = ap (λ (x : ℕ). b * x) (pow-add 2 8 (8 * n)) ∙ omega arith in
    let q : (w + b * 2 ^ (8 * n) * 256) % 256 ≡ w % 256 = omega arith in
    let r : (w + b * 2 ^ (8 * n) * 256) / 256 ≡ w / 256 + b * 2 ^ (8 * n) = omega arith in
    rw (e, p, q, r) (ap (λ (t : List ℕ). w % 256 ∷ t) (bytes_low n (w / 256) b))

bytes_one : (w : ℕ) → bytes 1 w ≡ w % 256 ∷ []
unfolding bytes
bytes_one w = refl

-- seven bits, then the lowest of eight
pub spread-last : (v : ℕ) → bytes 8 (spread (v / 2 % 128) + v % 2 * 2 ^ 56) ≡ bits 8 v
spread-last v =
    let s = spread (v / 2 % 128) in
    let w = s + v % 2 * 2 ^ 56 in
    let l = spread-most (v / 2 % 128) in
    let h : w / 2 ^ 56 % 256 ≡ v % 2 = omega arith in
    bytes-append 7 1 w
    ∙ ap₂ ◌++◌ (bytes_low 7 s (v % 2) ∙ spread-seven (v / 2 % 128) (omega arith) ∙ bits_mod 7 (v / 2)) (bytes_one (w / 2 ^ 56) ∙ ap (λ (x : ℕ). x ∷ []) h)
    ∙ sym (bits-last 8 v (omega arith))

-- ---- truncated binary as one string of bits

pub tb-either : (n v s k x m : ℕ) → k ≡ flog n → s ≡ short n → x ≡ pick (ltb v s) v (v + s) → m ≡ pick (ltb v s) k (k + 1) → bits m x ≡ tb n v
unfolding tb
tb-either n v s k x m e f g h = rw (g, h, f, e) (either (ltb v (short n)) (λ t. rw t) (λ t. rw t))
