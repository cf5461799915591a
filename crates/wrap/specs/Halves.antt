-- A product modulo 2^64 by halves of 32 bits: of the four products of halves, what stands above 2^64 goes.
use Rattle.std.specs.Prelude.{◌≡◌, ℕ, ◌+◌, ◌*◌, ◌/◌, ◌%◌, ◌^◌, ◌<◌, ◌≤◌}
use Rattle.std.proofs.Common.{sym, ap, ◌∙◌, mul-le-mul, mul-add, add-mul, mul_assoc, mul_right_comm, arith, Fits}
use Rattle.std.proofs.Math.Nat.{mul-mul-mul_comm, add-mod, add-mul-mod_self_right}
use Rattle.std.specs.Int.{w64}

-- a product of two halves fits
pub half_fits : (x y : ℕ) → x < 4294967296 → y < 4294967296 → Fits w64 (x * y)
half_fits x y h k =
    let l : x * y ≤ 4294967295 * 4294967295 = mul-le-mul {n₁ = x} {m₁ = y} {n₂ = 4294967295} {m₂ = 4294967295} (omega arith) (omega arith) in
    record { fits = omega arith }

-- the product in base 2^32
expand : (a x b y : ℕ) → (a * 4294967296 + x) * (b * 4294967296 + y) ≡ a * b * 18446744073709551616 + a * y * 4294967296 + x * b * 4294967296 + x * y
expand a x b y =
    rw (add-mul, mul-add, mul-add)
    (omega (arith, mul-mul-mul_comm a 4294967296 b 4294967296, mul_right_comm a 4294967296 y, mul_assoc x b 4294967296))

halves : (a b : ℕ) → a * b ≡ (a / 4294967296) * (b / 4294967296) * 18446744073709551616 + (a / 4294967296) * (b % 4294967296) * 4294967296 + (a % 4294967296) * (b / 4294967296) * 4294967296 + (a % 4294967296) * (b % 4294967296)
halves a b =
    let p : a ≡ a / 4294967296 * 4294967296 + a % 4294967296 = omega arith in
    let q : b ≡ b / 4294967296 * 4294967296 + b % 4294967296 = omega arith in
    (λ i. p i * q i) ∙ expand (a / 4294967296) (a % 4294967296) (b / 4294967296) (b % 4294967296)

kept : (s p q r : ℕ) → (r + (p % 4294967296 + q % 4294967296) % 4294967296 * 4294967296) % 2 ^ 64 ≡ (s * 18446744073709551616 + p * 4294967296 + q * 4294967296 + r) % 2 ^ 64
kept s p q r =
    let e : s * 18446744073709551616 + p * 4294967296 + q * 4294967296 + r ≡ r + (p + q) % 4294967296 * 4294967296 + (s + (p + q) / 4294967296) * 2 ^ 64 = omega arith in
    rw (← add-mod p q 4294967296, e) (sym (add-mul-mod_self_right (r + (p + q) % 4294967296 * 4294967296) (s + (p + q) / 4294967296) (2 ^ 64)))

-- what is kept of the four products is the product
pub by_halves : (a b : ℕ)
    → ((a % 4294967296) * (b % 4294967296) + ((a / 4294967296) * (b % 4294967296) % 4294967296 + (a % 4294967296) * (b / 4294967296) % 4294967296) % 4294967296 * 4294967296) % 2 ^ 64
    ≡ (a * b) % 2 ^ 64
by_halves a b =
    kept ((a / 4294967296) * (b / 4294967296)) ((a / 4294967296) * (b % 4294967296)) ((a % 4294967296) * (b / 4294967296)) ((a % 4294967296) * (b % 4294967296))
    ∙ ap (λ (n : ℕ). n % 2 ^ 64) (sym (halves a b))
