-- The bytes of a run prefix's zeros, class × 2, as one number in base 256: from bin i on.
use Rattle.std.specs.Prelude.{◌≡◌, refl, Bool, true, false, ℕ, zero, suc, ◌+◌, ◌*◌, ◌≤◌, eqb, ltb}
use Rattle.std.proofs.Common.{add-one, arith, ne_eqb, lt-ltb, le-ltb}
use Rattle.base.specs.Pick.{pick}
use Rattle.h265.specs.Strings.{run_class}

unfoldable pub word_from : Bool → ℕ → ℕ → ℕ
word_from above sent zero = run_class above sent 0 * 2 + 256 * pick above 336859666 235801612
word_from above sent (suc zero) = pick above 336859666 235801612
word_from above sent (suc (suc zero)) = pick above 1315858 921100
word_from above sent (suc (suc (suc zero))) = pick above 5140 3598
word_from above sent (suc (suc (suc (suc zero)))) = pick above 20 14
word_from above sent (suc (suc (suc (suc (suc i))))) = 0

-- bins from number 5 on are of class 0
far : (above : Bool) (sent i : ℕ) → 5 ≤ i → run_class above sent i ≡ 0
unfolding run_class
far above sent i h = rw (ne_eqb i 0 (λ e. omega arith), le-ltb i 3 (omega arith), le-ltb i 5 h)

next : (above : Bool) (sent i : ℕ) → word_from above sent i ≡ run_class above sent i * 2 + 256 * word_from above sent (suc i)
unfolding word_from run_class
next above sent zero = refl
next true sent (suc zero) = refl
next false sent (suc zero) = refl
next true sent (suc (suc zero)) = refl
next false sent (suc (suc zero)) = refl
next true sent (suc (suc (suc zero))) = refl
next false sent (suc (suc (suc zero))) = refl
next true sent (suc (suc (suc (suc zero)))) = refl
next false sent (suc (suc (suc (suc zero)))) = refl
next above sent (suc (suc (suc (suc (suc i))))) = rw (far above sent (suc (suc (suc (suc (suc i))))) (omega arith))

pub word_next : (above : Bool) (sent i : ℕ) → word_from above sent i ≡ run_class above sent i * 2 + 256 * word_from above sent (i + 1)
word_next above sent i = rw (add-one i) (next above sent i)

pick-most : (b : Bool) (x y m : ℕ) → x ≤ m → y ≤ m → pick b x y ≤ m
pick-most true x y m h k = h
pick-most false x y m h k = k

pub class_most : (above : Bool) (sent i : ℕ) → run_class above sent i ≤ 10
unfolding run_class
class_most above sent i =
    pick-most (eqb i 0) (pick above 8 (pick (eqb sent 0) 3 (pick (ltb sent 3) 4 5))) (pick (ltb i 3) (pick above 9 6) (pick (ltb i 5) (pick above 10 7) 0)) 10
    (pick-most above 8 (pick (eqb sent 0) 3 (pick (ltb sent 3) 4 5)) 10 (omega arith) (pick-most (eqb sent 0) 3 (pick (ltb sent 3) 4 5) 10 (omega arith) (pick-most (ltb sent 3) 4 5 10 (omega arith) (omega arith))))
    (pick-most (ltb i 3) (pick above 9 6) (pick (ltb i 5) (pick above 10 7) 0) 10 (pick-most above 9 6 10 (omega arith) (omega arith)) (pick-most (ltb i 5) (pick above 10 7) 0 10 (pick-most above 10 7 10 (omega arith) (omega arith)) (omega arith)))

-- the first bin's class goes up by one at 1 and at 3
pub word_steps : (sent : ℕ) → 60365212678 + pick (ltb 0 sent) 2 0 + pick (ltb 2 sent) 2 0 ≡ word_from false sent 0
unfolding word_from run_class
word_steps zero = refl
word_steps (suc zero) = refl
word_steps (suc (suc zero)) = refl
word_steps (suc (suc (suc n))) =
    rw (lt-ltb 0 (suc (suc (suc n))) (omega arith), lt-ltb 2 (suc (suc (suc n))) (omega arith), ne_eqb (suc (suc (suc n))) 0 (λ e. omega arith), le-ltb (suc (suc (suc n))) 3 (omega arith))
