-- The luma value that the pre-check looks at, and its flags on their way.
use Rattle.std.specs.Prelude.{Bool, true, false, List, ◌≡◌, ℕ, ◌+◌, ◌/◌, ◌%◌, ◌^◌, ◌<◌, min, ltb, get_or, set, length}
use Rattle.colors.specs.Place.{place_of}

-- luma of 8 bits, shift = depth - 8
unfoldable pub coarse : ℕ → ℕ → ℕ
coarse shift key = min 255 (key % 65536 / 2 ^ shift)

-- one value marked
pub record Marked (bs₀ bs : List Bool) (v d r : ℕ) : Type 0 where
  pub old : get_or bs₀ v false ≡ true → (r ≡ d) × (bs ≡ bs₀)
  pub new : get_or bs₀ v false ≡ false → (r ≡ d + 1) × (bs ≡ set bs₀ v true)

-- the flags are on where the value has been met
pub record Flags (bs : List Bool) (d : ℕ) (ms : List ℕ) : Type 0 where
  pub wide : length bs ≡ 256
  pub count : d ≡ length ms
  pub flag : (v : ℕ) → v < 256 → get_or bs v false ≡ ltb (place_of v ms) (length ms)
