-- What each element of a list is laid as, and what lists of elements are.
use Rattle.std.specs.Prelude.{◌≡◌, refl, Bool, List, [], ◌∷◌, ◌++◌, map, ℕ, ◌+◌, ◌*◌, ◌≤◌, ◌<◌, length, drop, get_or}
use Rattle.std.specs.List.{flat_map}
use Rattle.std.proofs.Common.{ap, ◌∙◌, arith}
use Rattle.std.proofs.lemmas.List.{drop_more, length-map}
use Rattle.h265.specs.Strings.{bit}
use Rattle.model.specs.declared.Color.{Color}
use Rattle.model.specs.declared.Levels.{Levels}
use Rattle.flat.specs.Flat.{colors_of, levels_of}
use Rattle.flat.specs.FlatLaws.{colors_length}

abbrev pub number_alone : ℕ → List ℕ
number_alone x = x ∷ []

abbrev pub bit_alone : Bool → List ℕ
bit_alone b = bit b ∷ []

abbrev pub color_numbers : Color → List ℕ
color_numbers c = c.y ∷ c.cb ∷ c.cr ∷ []

abbrev pub levels_numbers : Levels → List ℕ
levels_numbers l = l.y ∷ l.cb ∷ l.cr ∷ []

-- no element has more than three
abbrev pub Few : {A : Type 0} → (A → List ℕ) → Type 0
Few {A} f = (x : A) → length (f x) ≤ 3

pub few_alone : Few number_alone
few_alone x = omega arith

pub few_bit : Few bit_alone
few_bit b = omega arith

pub few_color : Few color_numbers
few_color c = omega arith

pub few_levels : Few levels_numbers
few_levels l = omega arith

pub numbers_alone : (xs : List ℕ) → flat_map number_alone xs ≡ xs
numbers_alone [] = refl
numbers_alone (x ∷ xs) = ap (λ (l : List ℕ). x ∷ l) (numbers_alone xs)

pub bits_alone : (bs : List Bool) → flat_map bit_alone bs ≡ map bit bs
bits_alone [] = refl
bits_alone (b ∷ bs) = ap (λ (l : List ℕ). bit b ∷ l) (bits_alone bs)

pub colors_numbers : (cs : List Color) → flat_map color_numbers cs ≡ colors_of cs
unfolding colors_of
colors_numbers [] = refl
colors_numbers (c ∷ cs) = ap (λ (l : List ℕ). c.y ∷ c.cb ∷ c.cr ∷ l) (colors_numbers cs)

pub all_levels_numbers : (ls : List Levels) → flat_map levels_numbers ls ≡ levels_of ls
unfolding levels_of
all_levels_numbers [] = refl
all_levels_numbers (l ∷ ls) = ap (λ (m : List ℕ). l.y ∷ l.cb ∷ l.cr ∷ m) (all_levels_numbers ls)

-- how many numbers they are
pub numbers_count : (xs : List ℕ) → length (flat_map number_alone xs) ≡ length xs
numbers_count xs = ap length (numbers_alone xs)

pub bits_count : (bs : List Bool) → length (flat_map bit_alone bs) ≡ length bs
bits_count bs = ap length (bits_alone bs) ∙ length-map bs bit

pub colors_count : (cs : List Color) → length (flat_map color_numbers cs) ≡ 3 * length cs
colors_count cs = ap length (colors_numbers cs) ∙ colors_length cs

-- what is left of a list from place i on
pub left_more : {A : Type 0} (f : A → List ℕ) (xs : List A) (i : ℕ) (d : A) → i < length xs → flat_map f (drop i xs) ≡ f (get_or xs i d) ++ flat_map f (drop (i + 1) xs)
left_more f xs i d h = ap (flat_map f) (drop_more xs i d h)
