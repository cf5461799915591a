-- A window about a colour: what is within tolerance falls into it.
use Rattle.std.specs.Prelude.{Bool, true, false, ◌&&◌, ◌||◌, List, ◌≡◌, refl, ℕ, ◌+◌, ◌-◌, ◌*◌, ◌/◌, ◌%◌, ◌≤◌, ◌<◌, max, ltb, length, get_or, take}
use Rattle.std.proofs.Common.{ap, take_all, ⊎_elim, sym, ◌∙◌, arith, lt-ltb, leb-true, get_or-take, length-take-le}
use Rattle.base.specs.Pick.{either, true_false, lt_or_le}
use Rattle.quant.specs.Quant.{gap, dist}
use Rattle.reps.specs.Reps.{within, hit_of}
use Rattle.reps.specs.Laws.{hit_le, hit-found}

-- a colour of 48 bits from its components
parts : (x : ℕ) → x % 281474976710656 ≡ x % 65536 + 65536 * (x / 65536 % 65536) + 4294967296 * (x / 4294967296 % 65536)
parts x = omega arith

-- the components of a number that has small ones
small : (z a b c : ℕ) → a < 16 → b < 16 → c < 16 → z ≡ a + 65536 * b + 4294967296 * c + 281474976710656 → (z % 65536 < 16) × (z / 65536 % 65536 < 16) × (z / 4294967296 % 65536 < 16)
small z a b c h k l e = (omega arith, omega arith, omega arith)

-- the difference, component by component
whole : (tol y y' : ℕ) → gap y y' ≤ tol → (y + tol - y') + y' ≡ y + tol
whole tol y y' h = omega arith

apart : (tol y u v y' u' v' p q r : ℕ) → p + y' ≡ y + tol → q + u' ≡ u + tol → r + v' ≡ v + tol
    → (y + 65536 * u + 4294967296 * v) + tol * 4295032833 + 281474976710656 - (y' + 65536 * u' + 4294967296 * v') ≡ p + 65536 * q + 4294967296 * r + 281474976710656
apart tol y u v y' u' v' p q r a b c = omega arith

room : (tol y y' : ℕ) → tol ≤ 7 → gap y y' ≤ tol → y + tol - y' < 16
room tol y y' t h = omega arith

-- the window about e at a tolerance of at most 7
abbrev pub offset : ℕ → ℕ → ℕ → ℕ
offset tol e x = e % 281474976710656 + tol * 4295032833 + 281474976710656 - x % 281474976710656

inside : (tol e x : ℕ) → tol ≤ 7 → within tol e x ≡ true → (offset tol e x % 65536 < 16) × (offset tol e x / 65536 % 65536 < 16) × (offset tol e x / 4294967296 % 65536 < 16)
unfolding within dist
inside tol e x t w =
    let y = e % 65536 in
    let u = e / 65536 % 65536 in
    let v = e / 4294967296 % 65536 in
    let y' = x % 65536 in
    let u' = x / 65536 % 65536 in
    let v' = x / 4294967296 % 65536 in
    let d : max (gap y y') (max (gap u u') (gap v v')) ≤ tol = leb-true _ _ w in
    let a : gap y y' ≤ tol = first (gap y y') (gap u u') (gap v v') tol d in
    let b : gap u u' ≤ tol = second (gap y y') (gap u u') (gap v v') tol d in
    let c : gap v v' ≤ tol = third (gap y y') (gap u u') (gap v v') tol d in
    small (offset tol e x) (y + tol - y') (u + tol - u') (v + tol - v') (room tol y y' t a) (room tol u u' t b) (room tol v v' t c) (rw (parts e, parts x) (apart tol y u v y' u' v' (y + tol - y') (u + tol - u') (v + tol - v') (whole tol y y' a) (whole tol u u' b) (whole tol v v' c)))
  where
    first : (p q r t : ℕ) → max p (max q r) ≤ t → p ≤ t
    first p q r t h = omega arith

    second : (p q r t : ℕ) → max p (max q r) ≤ t → q ≤ t
    second p q r t h = omega arith

    third : (p q r t : ℕ) → max p (max q r) ≤ t → r ≤ t
    third p q r t h = omega arith

abbrev pub windowed : ℕ → ℕ → ℕ → Bool
windowed tol e x = ltb (offset tol e x % 65536) 16 && ltb (offset tol e x / 65536 % 65536) 16 && ltb (offset tol e x / 4294967296 % 65536) 16

windowed_true : (tol e x : ℕ) → tol ≤ 7 → within tol e x ≡ true → windowed tol e x ≡ true
windowed_true tol e x t w = let i = inside tol e x t w in rw (lt-ltb _ _ i.0, lt-ltb _ _ i.1, lt-ltb _ _ i.2)

-- one more colour looked at
pub near_next : (tol e : ℕ) (l : List ℕ) (i : ℕ) (any : Bool) → tol ≤ 7 → (any ≡ false → (j : ℕ) → j < i → within tol e (get_or l j 0) ≡ false) → any || windowed tol e (get_or l i 0) ≡ false → (j : ℕ) → j < i + 1 → within tol e (get_or l j 0) ≡ false
near_next tol e l i true t h q j m = absurd (true_false q)
near_next tol e l i false t h q j m =
    ⊎_elim (λ (k : j < i). h refl j k)
    (λ (k : i ≤ j).
    let z : j ≡ i = omega arith in
    rw z (either (within tol e (get_or l i 0)) (λ w. absurd (true_false (sym (windowed_true tol e (get_or l i 0) t w) ∙ q))) (λ w. w)))
    (lt_or_le j i)

-- none within tolerance: no hit
pub no_hit : (tol e : ℕ) (l : List ℕ) (n : ℕ) → n ≤ length l → ((j : ℕ) → j < n → within tol e (get_or l j 0) ≡ false) → n ≡ hit_of tol e (take n l)
no_hit tol e l n k h =
    let w : length (take n l) ≡ n = length-take-le n l k in
    ⊎_elim
    (λ (q : hit_of tol e (take n l) < length (take n l)).
    let m : hit_of tol e (take n l) < n = omega arith in
    absurd (true_false (sym (hit-found tol e (take n l) q) ∙ rw (get_or-take n l (hit_of tol e (take n l)) 0 m) (h (hit_of tol e (take n l)) m))))
    (λ (q : length (take n l) ≤ hit_of tol e (take n l)). omega (arith, hit_le tol e (take n l)))
    (lt_or_le (hit_of tol e (take n l)) (length (take n l)))

-- the same of a whole list
pub no_hit_in : (tol e : ℕ) (l : List ℕ) → ((j : ℕ) → j < length l → within tol e (get_or l j 0) ≡ false) → length l ≡ hit_of tol e l
no_hit_in tol e l h = no_hit tol e l (length l) (omega arith) h ∙ ap (hit_of tol e) (take_all (length l) l (omega arith))
