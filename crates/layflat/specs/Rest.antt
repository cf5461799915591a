-- What is left to lay of a list, from place i on: its element there and the rest, and nothing at the end.
use Rattle.std.specs.Prelude.{◌≡◌, Bool, false, List, [], ◌∷◌, map, ℕ, ◌+◌, ◌≤◌, ◌<◌, length, drop, get_or}
use Rattle.std.proofs.Common.{ap, add-one, drop_of_length-le, drop-cons}
use Rattle.h265.specs.Strings.{bit}
use Rattle.model.specs.declared.Color.{Color}
use Rattle.model.specs.declared.Levels.{Levels}
use Rattle.model.specs.Domain.{no_color}
use Rattle.model.specs.Whole.{no_levels}
use Rattle.flat.specs.Flat.{colors_of, levels_of}

module _ {A : Type 0} (xs : List A) (i : ℕ) where
  pub rest-next : (d : A) → i < length xs → drop i xs ≡ get_or xs i d ∷ drop (i + 1) xs
  rest-next d h = rw (add-one i) (drop-cons xs i d h)

  pub rest_end : length xs ≤ i → drop i xs ≡ []
  rest_end h = drop_of_length-le xs {i = i} h

pub flags-next : (fs : List Bool) (i : ℕ) → i < length fs → map bit (drop i fs) ≡ bit (get_or fs i false) ∷ map bit (drop (i + 1) fs)
flags-next fs i h = ap (map bit) (rest-next fs i false h)

pub flags-end : (fs : List Bool) (i : ℕ) → length fs ≤ i → map bit (drop i fs) ≡ []
flags-end fs i h = ap (map bit) (rest_end fs i h)

pub colors_next : (cs : List Color) (i : ℕ) → i < length cs → colors_of (drop i cs) ≡ (get_or cs i no_color).y ∷ (get_or cs i no_color).cb ∷ (get_or cs i no_color).cr ∷ colors_of (drop (i + 1) cs)
unfolding colors_of
colors_next cs i h = ap colors_of (rest-next cs i no_color h)

pub colors_end : (cs : List Color) (i : ℕ) → length cs ≤ i → colors_of (drop i cs) ≡ []
unfolding colors_of
colors_end cs i h = ap colors_of (rest_end cs i h)

pub levels-next : (ls : List Levels) (i : ℕ) → i < length ls → levels_of (drop i ls) ≡ (get_or ls i no_levels).y ∷ (get_or ls i no_levels).cb ∷ (get_or ls i no_levels).cr ∷ levels_of (drop (i + 1) ls)
unfolding levels_of
levels-next ls i h = ap levels_of (rest-next ls i no_levels h)

pub levels-end : (ls : List Levels) (i : ℕ) → length ls ≤ i → levels_of (drop i ls) ≡ []
unfolding levels_of
levels-end ls i h = ap levels_of (rest_end ls i h)
