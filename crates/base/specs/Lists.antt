-- Plain laws of lists: padding to a length, and lists of which the first elements agree.
use Rattle.std.specs.Prelude.{◌≡◌, refl, List, [], ◌∷◌, ◌++◌, map, ℕ, zero, suc, ◌+◌, ◌-◌, ◌≤◌, ◌<◌, length, get_or, set, take, drop, replicate}
use Rattle.std.proofs.Common.{ap, sym, ◌∙◌, append_assoc, arith, take-append-drop, length-append, length-set, take_at, drop_at, drop-drop}
use Rattle.std.proofs.lemmas.List.{map-append, length-replicate, length-map, set-append_left}
use Rattle.std.proofs.Math.ListN.{get_or-append}
use Rattle.std.proofs.Math.Seq.{set-append_seam}

-- a list of m elements that begins with l and goes on with x
abbrev pub padded : {A : Type 0} → ℕ → A → List A → List A
padded m x l = l ++ replicate (m - length l) x

pub drop-replicate : {A : Type 0} (x : A) (r m : ℕ) → drop r (replicate m x) ≡ replicate (m - r) x
drop-replicate x zero m = let e : m - 0 ≡ m = omega arith in rw e refl
drop-replicate x (suc r) zero = let e : 0 - suc r ≡ 0 = omega arith in rw e refl
drop-replicate x (suc r) (suc m) = let e : suc m - suc r ≡ m - r = omega arith in rw e (drop-replicate x r m)

-- what agrees from d on agrees from any later place on
pub drop_more : {A : Type 0} (l m : List A) (d r : ℕ) → d ≤ r → drop d l ≡ drop d m → drop r l ≡ drop r m
drop_more l m d r h e =
    let q : d + (r - d) ≡ r = omega arith in
    rw q at (sym (drop-drop (r - d) d l) ∙ ap (drop (r - d)) e ∙ drop-drop (r - d) d m)

-- what stands in an array that was blank
pub padded-is : {A : Type 0} (x : A) (l w : List A) (r m : ℕ) → take r l ≡ w → drop r l ≡ drop r (replicate m x) → r ≡ length w → l ≡ padded m x w
padded-is x l w r m a b e = sym (take-append-drop r l) ∙ rw (a, b, drop-replicate x r m, ← e) refl

-- two functions that agree on a list's elements
pub map_ext : {A B : Type 0} (f g : A → B) (d : A) (l : List A) → ((b : ℕ) → b < length l → f (get_or l b d) ≡ g (get_or l b d)) → map f l ≡ map g l
map_ext f g d [] h = refl
map_ext f g d (x ∷ xs) h = (λ i. h 0 (omega arith) i ∷ map_ext f g d xs (λ b l. h (suc b) (omega arith)) i)

-- a function of the first n elements
pub take-map : {A B : Type 0} (f : A → B) (n : ℕ) (l : List A) → take n (map f l) ≡ map f (take n l)
take-map f zero l = refl
take-map f (suc n) [] = refl
take-map {A} {B} f (suc n) (x ∷ xs) = ap (λ (z : List B). f x ∷ z) (take-map f n xs)

map-replicate : {A B : Type 0} (f : A → B) (m : ℕ) (x : A) → map f (replicate m x) ≡ replicate m (f x)
map-replicate f zero x = refl
map-replicate {A} {B} f (suc m) x = ap (λ (z : List B). f x ∷ z) (map-replicate f m x)

-- ---- a list in an array of m elements

pub padded-length : {A : Type 0} (m : ℕ) (x : A) (w : List A) → length w ≤ m → length (padded m x w) ≡ m
padded-length m x w h = simp (length-append, length-replicate) (omega arith)

pub padded-take : {A : Type 0} (m : ℕ) (x : A) (w : List A) (r : ℕ) → length w ≡ r → take r (padded m x w) ≡ w
padded-take m x w r e = take_at w (replicate (m - length w) x) r e

pub padded-drop : {A : Type 0} (m : ℕ) (x : A) (w : List A) (r : ℕ) → length w ≡ r → drop r (padded m x w) ≡ drop r (replicate m x)
padded-drop m x w r e = drop_at w (replicate (m - length w) x) r e ∙ rw e (sym (drop-replicate x r m))

pub padded-read : {A : Type 0} (m : ℕ) (x d : A) (w : List A) (p : ℕ) → p < length w → get_or (padded m x w) p d ≡ get_or w p d
padded-read m x d w p h = get_or-append w (replicate (m - length w) x) d p h

pub padded-set : {A : Type 0} (m : ℕ) (x v : A) (w : List A) (p : ℕ) → p < length w → set (padded m x w) p v ≡ padded m x (set w p v)
padded-set m x v w p h = set-append_left w (replicate (m - length w) x) p v h ∙ rw length-set

-- one more behind it
pub padded-push : {A : Type 0} (m : ℕ) (x v : A) (w : List A) → length w < m → set (padded m x w) (length w) v ≡ padded m x (w ++ (v ∷ []))
padded-push m x v w h =
    let e : m - length w ≡ suc (m - (length w + 1)) = omega arith in
    rw (e, set-append_seam w x (replicate (m - (length w + 1)) x) v, length-append w (v ∷ [])) (sym (append_assoc w (v ∷ []) (replicate (m - (length w + 1)) x)))

-- a function of each
pub padded-map : {A B : Type 0} (f : A → B) (m : ℕ) (x : A) (w : List A) → map f (padded m x w) ≡ padded m (f x) (map f w)
padded-map f m x w = map-append f w (replicate (m - length w) x) ∙ rw (map-replicate f (m - length w) x, length-map w f)
