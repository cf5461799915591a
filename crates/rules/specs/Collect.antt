-- Tests collected in one number, which is 0 where they all hold.
use Rattle.std.specs.Prelude.{◌≡◌, refl, Bool, true, false, ◌&&◌, ℕ, eqb}
use Rattle.std.proofs.Common.{arith, eq-eqb, ne_eqb, eqb-true}
use Rattle.std.specs.Int.Bits.{bit_or, bit_xor, or_add_and, xor_add_and, xor_self}
use Rattle.std.proofs.lemmas.Nat.{and_le_l, and_le_r}
use Rattle.std.proofs.lemmas.Bool.{eqb-false}
use Rattle.base.specs.Pick.{either}
use Rattle.syntax.specs.Test.{both}

pub both_and : (a b : Bool) → a && b ≡ both a b
unfolding both
both_and true b = refl
both_and false b = refl

pub both_assoc : (a b c : Bool) → both (both a b) c ≡ both a (both b c)
unfolding both
both_assoc true b c = refl
both_assoc false b c = refl

pub both_unit : (a : Bool) → both a true ≡ a
unfolding both
both_unit true = refl
both_unit false = refl

pub both_false : (a : Bool) → both a false ≡ false
unfolding both
both_false true = refl
both_false false = refl

pub test_same : (a b c d : ℕ) → (a ≡ b → c ≡ d) → (c ≡ d → a ≡ b) → eqb a b ≡ eqb c d
test_same a b c d f g = either (eqb c d) (λ t. rw t (eq-eqb a b (g (eqb-true c d t)))) (λ t. rw t (ne_eqb a b (λ z. eqb-false c d t (f z))))

-- two numbers differ nowhere where they are the same
pub xor_none : (a b : ℕ) → eqb (bit_xor a b) 0 ≡ eqb a b
xor_none a b = test_same (bit_xor a b) 0 a b (λ z. omega (arith, xor_add_and a b, and_le_l a b, and_le_r a b)) (λ z. rw z (xor_self b))

-- of two numbers collected none is set where neither is
pub or_none : (a b : ℕ) → eqb (bit_or a b) 0 ≡ both (eqb a 0) (eqb b 0)
unfolding both
or_none a b =
    either (eqb a 0)
    (λ t. let z = eqb-true a 0 t in rw (t, z))
    (λ t. let z = eqb-false a 0 t in rw t (ne_eqb (bit_or a b) 0 (λ e. z (omega (arith, or_add_and a b, and_le_r a b)))))
