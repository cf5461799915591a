-- Loops over the places from `start` on: the first turn, and one place more.
use Rattle.std.proofs.Common.{◌≡◌, ℕ, ◌+◌, ◌-◌, ◌≤◌, ◌<◌, Bool, true, false, sym, ap, ◌∙◌, arith}
use Rattle.std.specs.Prelude.{Float}
use Rattle.std.specs.Float.{binary32}
use Rattle.std.specs.Float.Ieee.{neg, add, of_bits}
use Rattle.base.specs.Tests.{up_to, up_to-none, up_to-next, up_to_fails}
use Rattle.smooth.specs.Smooth.{sum_from}
use Rattle.smooth.specs.Laws.{sum_from-none, sum_from-next}

none : (start : ℕ) → start - start ≡ 0
none start = omega arith

more : (start i : ℕ) → start ≤ i → i + 1 - start ≡ i - start + 1
more start i h = omega arith

here : (start i : ℕ) → start ≤ i → start + (i - start) ≡ i
here start i h = omega arith

module _ (f : ℕ → Float) (start : ℕ) where
  pub sum_first : neg (of_bits binary32 0) ≡ sum_from f start (start - start)
  sum_first = sum_from-none f start ∙ ap (sum_from f start) (sym (none start))

  pub sum_more : (i : ℕ) (s d : Float) → start ≤ i → s ≡ sum_from f start (i - start) → d ≡ f i → add binary32 s d ≡ sum_from f start (i + 1 - start)
  sum_more i s d h e w =
      let n : sum_from f start (i + 1 - start) ≡ add binary32 (sum_from f start (i - start)) (f (start + (i - start))) = ap (sum_from f start) (more start i h) ∙ sum_from-next f start (i - start) in
      let p : f (start + (i - start)) ≡ f i = ap f (here start i h) in
      rw (e, w) (sym (n ∙ ap (add binary32 (sum_from f start (i - start))) p))

module _ (f : ℕ → Bool) (start : ℕ) where
  pub tests_first : up_to (start - start) (λ j. f (start + j)) ≡ true
  tests_first = rw (none start) (up_to-none (λ j. f (start + j)))

  pub tests_more : (i : ℕ) → start ≤ i → up_to (i - start) (λ j. f (start + j)) ≡ true → f i ≡ true → up_to (i + 1 - start) (λ j. f (start + j)) ≡ true
  tests_more i h e w =
      let p : f (start + (i - start)) ≡ true = ap f (here start i h) ∙ w in
      rw (more start i h) (up_to-next (λ j. f (start + j)) (i - start) ∙ rw (e, p))

  pub tests_fail : (i len : ℕ) → start ≤ i → i < start + len → f i ≡ false → false ≡ up_to len (λ j. f (start + j))
  tests_fail i len h k w =
      let p : f (start + (i - start)) ≡ false = ap f (here start i h) ∙ w in
      sym (up_to_fails (λ j. f (start + j)) len (i - start) (omega arith) p)
