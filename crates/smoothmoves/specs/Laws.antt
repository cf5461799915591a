-- When a run may be moved: the tests in their order.
use Rattle.std.specs.Prelude.{Bool, true, false, List, ◌≡◌, refl, ℕ, ◌+◌, ◌-◌, ◌≤◌, ◌<◌, leb, get_or}
use Rattle.std.proofs.Common.{arith}
use borrow.Author.Tests.{eq-eqb, ne_eqb, le-leb, lt-leb, leb-true}
use Rattle.std.specs.Float.Ieee.{lt}
use Rattle.base.specs.Pick.{pick}
use Rattle.base.specs.Tests.{up_to, both}
use Rattle.h265.specs.Scan.{above_at}
use Rattle.smooth.specs.Smooth.{fits, delta, sum_from, Scene, above_fits, colour, joins, copies}

last : (t : Bool) → t ≡ pick t true false
last true = refl
last false = refl

module _ (s : Scene) (is : List ℕ) (start len : ℕ) where
  abbrev value : ℕ
  value = get_or is start 0

  abbrev left : ℕ
  left = get_or is (start - 1) 0

  -- ---- joined to the left

  pub joins-first : start ≡ 0 → false ≡ joins s is start len
  unfolding joins
  joins-first e = rw (lt-leb 1 start (omega arith))

  pub joins_escape : 1 ≤ start → left ≡ s.escape → false ≡ joins s is start len
  unfolding joins
  joins_escape h e = rw (le-leb 1 start h, eq-eqb left s.escape e)

  pub joins-far : 1 ≤ start → (left ≡ s.escape → ⊥) → up_to len (λ (j : ℕ). fits s.cells s.tolerance (colour s left) (start + j)) ≡ false → false ≡ joins s is start len
  unfolding joins
  joins-far h n e = rw (le-leb 1 start h, ne_eqb left s.escape n, e)

  pub joins_cost : 1 ≤ start → (left ≡ s.escape → ⊥) → up_to len (λ (j : ℕ). fits s.cells s.tolerance (colour s left) (start + j)) ≡ true
      → lt (sum_from (delta s.format s.size s.cells (colour s value) (colour s left)) start len) s.budget ≡ joins s is start len
  unfolding joins
  joins_cost h n e = rw (le-leb 1 start h, ne_eqb left s.escape n, e) (last _)

  pub joins-some : joins s is start len ≡ true → 1 ≤ start
  unfolding joins
  joins-some e = leb-true 1 start (both (leb 1 start) _ e).0

  -- ---- copied from above

  pub copies-first : start < s.size → false ≡ copies s is start len
  unfolding copies
  copies-first h = rw (lt-leb s.size start h)

  pub copies-far : s.size ≤ start → up_to len (λ (j : ℕ). above_fits s.size s.escape s.tolerance s.palette s.cells is value (start + j)) ≡ false → false ≡ copies s is start len
  unfolding copies
  copies-far h e = rw (le-leb s.size start h, e)

  pub copies_cost : s.size ≤ start → up_to len (λ (j : ℕ). above_fits s.size s.escape s.tolerance s.palette s.cells is value (start + j)) ≡ true
      → lt (sum_from (λ (i : ℕ). delta s.format s.size s.cells (colour s value) (colour s (above_at s.size is i)) i) start len) s.budget ≡ copies s is start len
  unfolding copies
  copies_cost h e = rw (le-leb s.size start h, e) (last _)

  pub copies-some : copies s is start len ≡ true → s.size ≤ start
  unfolding copies
  copies-some e = leb-true s.size start (both (leb s.size start) _ e).0
