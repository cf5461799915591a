-- Stores one after another lay a string; bits laid in two parts, the high ones first, are the bits of the whole.
use Rattle.std.specs.Prelude.{◌≡◌, List, [], ◌∷◌, ◌++◌, ℕ, zero, suc, ◌+◌, ◌-◌, ◌/◌, ◌%◌, ◌^◌, ◌<◌, set}
use Rattle.std.proofs.Common.{ap, ◌∙◌, zero-add, suc-add, add_comm, add_assoc, arith, shr-shr}
use Rattle.std.proofs.lemmas.List.Edits.{sets}
use Rattle.base.specs.Laid.{Left, sets_append}
use Rattle.h265.specs.Strings.{bits}
use Rattle.h265.specs.StringLaws.{length-bits}

module _ (l : List ℕ) (at a b : ℕ) where
  pub sets_two : set (set l at a) (at + 1) b ≡ sets l at (a ∷ b ∷ [])
  sets_two = sets_append (a ∷ []) (b ∷ []) l at

  pub sets_three : (c : ℕ) → set (set (set l at a) (at + 1) b) (at + 2) c ≡ sets l at (a ∷ b ∷ c ∷ [])
  sets_three c = ap (λ (m : List ℕ). set m (at + 2) c) sets_two ∙ sets_append (a ∷ b ∷ []) (c ∷ []) l at

  pub sets_four : (c d : ℕ) → set (set (set (set l at a) (at + 1) b) (at + 2) c) (at + 3) d ≡ sets l at (a ∷ b ∷ c ∷ d ∷ [])
  sets_four c d = ap (λ (m : List ℕ). set m (at + 3) d) (sets_three c) ∙ sets_append (a ∷ b ∷ c ∷ []) (d ∷ []) l at

pub bits-append : (a b v : ℕ) → bits (a + b) v ≡ bits a (v / 2 ^ b) ++ bits b v
unfolding bits
bits-append zero b v = rw zero-add
bits-append (suc a) b v = rw (suc-add, shr-shr v b a, add_comm b a) (ap (λ (t : List ℕ). v / 2 ^ (a + b) % 2 ∷ t) (bits-append a b v))

-- the lowest bit is the last
pub bits-last : (n v : ℕ) → 0 < n → bits n v ≡ bits (n - 1) (v / 2) ++ (v % 2 ∷ [])
unfolding bits
bits-last n v h =
    let e : n ≡ n - 1 + 1 = omega arith in
    let d : v / 1 ≡ v = omega arith in
    ap (λ (x : ℕ). bits x v) e ∙ rw d at (bits-append (n - 1) 1 v)

-- the a high ones of a + b bits are laid, and the b low ones are left
pub left-bits : (a b v : ℕ) (l : List ℕ) (at : ℕ) {m : List ℕ} → m ≡ sets l at (bits a (v / 2 ^ b)) → Left l at (bits (a + b) v) m (at + a) (bits b v)
left-bits a b v l at {m} d = record {
  next = rw (length-bits (a + b) v, length-bits b v) (add_assoc at a b);
  after = rw (d, bits-append a b v) (rw length-bits at (sets_append (bits a (v / 2 ^ b)) (bits b v) l at));
}
