-- Both laws of the reuse runs.
use Rattle.std.specs.Prelude.{◌≡◌, Bool, true, false, List, [], ◌∷◌, ◌++◌, map, leb, eqb, length, take, drop, get_or, replicate}
use Rattle.std.proofs.Math.Path.{refl, ap}
use Rattle.std.proofs.Common.{sym, ◌∙◌, arith, length-append, length-drop, drop-drop, add-one, eqb-true, eq-eqb, ne_eqb, leb-true, leb-false, le-leb}
use Prim.Native.Nat.{ℕ, zero, suc, ◌+◌, ◌-◌, ◌^◌, ◌≤◌, ◌<◌}
use Rattle.std.proofs.lemmas.List.{length-replicate}
use Rattle.std.proofs.lemmas.Bool.{eqb-false, lt-leb}
use Rattle.base.specs.Pick.{pick, either}
use Rattle.base.specs.Answer.{Value, went, refused_not, same-value, same_place}
use Rattle.base.specs.Counted.{read, end}
use Rattle.base.specs.Stands.{Stands, stands-none, none-stands, join, split, Code}
use Rattle.h265.specs.Strings.{bit, egk}
use Rattle.h265.specs.Parse.{egk_at}
use Rattle.h265.specs.EgkLaws.{egk_code}
use Rattle.h265.specs.Reuse.{trues, flagged, lead, code_of, gap_of, reuse_bins, reuse_at}
use Rattle.h265.specs.ReuseLaws.{ReuseOk}

-- ---- gaps

gap_code : (g : ℕ) → gap_of (code_of g) ≡ g
unfolding gap_of code_of
gap_code zero = refl
gap_code (suc g) = go (eqb (suc g) 0) refl
  where
    go : (t : Bool) → eqb (suc g) 0 ≡ t → pick (eqb (pick t 0 (suc g + 1)) 0) 0 (pick t 0 (suc g + 1) - 1) ≡ suc g
    go true e = absurd (omega (arith, eqb-true (suc g) 0 e))
    go false e =
        let o : suc g + 1 ≡ 0 → ⊥ = λ z. omega arith in
        rw (ne_eqb (suc g + 1) 0 o) (omega arith)

code_not_one : (g : ℕ) → code_of g ≡ 1 → ⊥
unfolding code_of
code_not_one g e = go (eqb g 0) refl e
  where
    go : (t : Bool) → eqb g 0 ≡ t → pick t 0 (g + 1) ≡ 1 → ⊥
    go true t e = omega arith
    go false t e = eqb-false g 0 t (omega arith)

pub code_most : (g : ℕ) → code_of g ≤ g + 1
unfolding code_of
code_most g = go (eqb g 0)
  where
    go : (t : Bool) → pick t 0 (g + 1) ≤ g + 1
    go true = omega arith
    go false = omega arith

code_gap : (r : ℕ) → (r ≡ 1 → ⊥) → code_of (gap_of r) ≡ r
unfolding code_of gap_of
code_gap r h = go (eqb r 0) refl
  where
    go : (t : Bool) → eqb r 0 ≡ t → pick (eqb (pick t 0 (r - 1)) 0) 0 (pick t 0 (r - 1) + 1) ≡ r
    go true t = sym (eqb-true r 0 t)
    go false t =
        let z : r ≡ 0 → ⊥ = eqb-false r 0 t in
        let o : r - 1 ≡ 0 → ⊥ = λ e. h (two r z e) in
        rw (ne_eqb (r - 1) 0 o) (back r z)
      where
        two : (r : ℕ) → (r ≡ 0 → ⊥) → r - 1 ≡ 0 → r ≡ 1
        two zero z e = absurd (z refl)
        two (suc r) z e = omega arith

        back : (r : ℕ) → (r ≡ 0 → ⊥) → r - 1 + 1 ≡ r
        back zero z = absurd (z refl)
        back (suc r) z = omega arith

-- ---- flags

pub lead_le : (fs : List Bool) → lead fs ≤ length fs
unfolding lead
lead_le [] = omega arith
lead_le (true ∷ fs) = omega arith
lead_le (false ∷ fs) = omega (arith, lead_le fs)

-- one flag more, as a search for the next reused entry sees it
pub lead-here : (f : Bool) (fs : List Bool) → f ≡ true → lead (f ∷ fs) ≡ 0
unfolding lead
lead-here f fs e = rw e

pub lead-next : (f : Bool) (fs : List Bool) → f ≡ false → lead (f ∷ fs) ≡ lead fs + 1
unfolding lead
lead-next f fs e = rw (e, add-one (lead fs))

pub lead-end : lead [] ≡ 0
unfolding lead
lead-end = refl

none-reused : (fs : List Bool) → lead fs ≡ length fs → fs ≡ replicate (length fs) false
unfolding lead
none-reused [] h = refl
none-reused (true ∷ fs) h = absurd (omega arith)
none-reused (false ∷ fs) h = ap (λ (x : List Bool). false ∷ x) (none-reused fs (omega arith))

no_room : (fs : List Bool) → trues fs ≡ 0 → fs ≡ replicate (length fs) false
unfolding trues
no_room [] h = refl
no_room (true ∷ fs) h = absurd (omega arith)
no_room (false ∷ fs) h = ap (λ (x : List Bool). false ∷ x) (no_room fs h)

first-reused : (fs : List Bool) → lead fs < length fs → fs ≡ replicate (lead fs) false ++ (true ∷ drop (suc (lead fs)) fs)
unfolding lead
first-reused [] h = absurd (omega arith)
first-reused (true ∷ fs) h = refl
first-reused (false ∷ fs) h = ap (λ (x : List Bool). false ∷ x) (first-reused fs (omega arith))

trues-first : (fs : List Bool) → lead fs < length fs → trues fs ≡ suc (trues (drop (suc (lead fs)) fs))
unfolding lead trues
trues-first [] h = absurd (omega arith)
trues-first (true ∷ fs) h = refl
trues-first (false ∷ fs) h = trues-first fs (omega arith)

lead-none : (k : ℕ) → lead (replicate k false) ≡ k
unfolding lead
lead-none zero = refl
lead-none (suc k) = ap suc (lead-none k)

pub trues-none : (k : ℕ) → trues (replicate k false) ≡ 0
unfolding trues
trues-none zero = refl
trues-none (suc k) = trues-none k

pub trues-append : (fs gs : List Bool) → trues (fs ++ gs) ≡ trues fs + trues gs
unfolding trues
trues-append [] gs = omega arith
trues-append (true ∷ fs) gs = omega (arith, trues-append fs gs)
trues-append (false ∷ fs) gs = trues-append fs gs

module _ (fs : List Bool) where
  abbrev gapped : ℕ → List Bool
  gapped g = replicate g false ++ (true ∷ fs)

  lead-gap : (g : ℕ) → lead (gapped g) ≡ g
  unfolding lead
  lead-gap zero = refl
  lead-gap (suc g) = ap suc (lead-gap g)

  trues-gap : (g : ℕ) → trues (gapped g) ≡ suc (trues fs)
  unfolding trues
  trues-gap zero = refl
  trues-gap (suc g) = trues-gap g

  drop-gap : (g : ℕ) → drop (suc g) (gapped g) ≡ fs
  drop-gap zero = refl
  drop-gap (suc g) = drop-gap g

  length-gap : (g : ℕ) → length (gapped g) ≡ g + suc (length fs)
  length-gap g = rw (length-append, length-replicate)

-- ---- one step of the writer

pub bins_zero : (fs : List Bool) → reuse_bins zero fs ≡ []
unfolding reuse_bins
bins_zero fs = refl

pub bins_none : (room : ℕ) (fs : List Bool) → length fs ≡ 0 → reuse_bins room fs ≡ []
unfolding reuse_bins
bins_none zero fs h = refl
bins_none (suc room) fs h = rw (eq-eqb (length fs) 0 h)

pub bins_stop : (room : ℕ) (fs : List Bool) → 0 < length fs → lead fs ≡ length fs → reuse_bins (suc room) fs ≡ egk 0 1
unfolding reuse_bins
bins_stop room fs h e =
    let z : length fs ≡ 0 → ⊥ = λ w. omega arith in
    rw (ne_eqb (length fs) 0 z, eq-eqb (lead fs) (length fs) e)

pub bins_go : (room : ℕ) (fs : List Bool) → lead fs < length fs → reuse_bins (suc room) fs ≡ egk 0 (code_of (lead fs)) ++ reuse_bins room (drop (suc (lead fs)) fs)
unfolding reuse_bins
bins_go room fs h =
    let z : length fs ≡ 0 → ⊥ = λ w. omega arith in
    let y : lead fs ≡ length fs → ⊥ = λ w. omega arith in
    rw (ne_eqb (length fs) 0 z, ne_eqb (lead fs) (length fs) y)

-- the same over what a writer holds: the entries from i on
pub bins_turn : (room : ℕ) (fs : List Bool) (i j : ℕ) → 0 < room → lead (drop i fs) < length (drop i fs) → j ≡ i + lead (drop i fs) → reuse_bins room (drop i fs) ≡ egk 0 (code_of (j - i)) ++ reuse_bins (room - 1) (drop (j + 1) fs)
bins_turn zero fs i j r h e = absurd (omega arith)
bins_turn (suc room) fs i j r h e =
    let a : j - i ≡ lead (drop i fs) = omega arith in
    let b : suc room - 1 ≡ room = omega arith in
    let d : j + 1 ≡ i + suc (lead (drop i fs)) = omega arith in
    rw (a, b, d, ← drop-drop (suc (lead (drop i fs))) i fs) (bins_go room (drop i fs) h)

pub bins_last : (room : ℕ) (fs : List Bool) → 0 < room → 0 < length fs → lead fs ≡ length fs → reuse_bins room fs ≡ egk 0 1
bins_last zero fs r h e = absurd (omega arith)
bins_last (suc room) fs r h e = bins_stop room fs h e

empty : (fs : List Bool) → length fs ≡ 0 → [] ≡ fs
empty [] h = refl
empty (f ∷ fs) h = absurd (omega arith)

reuse_there : (room k : ℕ) → k ≤ 65535 → (l : List ℕ) (p q : ℕ) (fs : List Bool) → ReuseOk room k fs → Stands l p (reuse_bins room fs) q → reuse_at room k l p ≡ Value fs q
unfolding reuse_at
reuse_there zero k small l p q fs ok s =
    let z : trues fs ≡ 0 = omega (arith, ok.fits) in
    let e : replicate k false ≡ fs = rw (← ok.count) (sym (no_room fs z)) in
    rw (e, none-stands (rw (bins_zero fs) at s))
reuse_there (suc room) k small l p q fs ok s =
    either (eqb k 0)
    (λ c.
    let z : length fs ≡ 0 = ok.count ∙ eqb-true k 0 c in
    rw (c, empty fs z, none-stands (rw (bins_none (suc room) fs z) at s)))
    (λ c. either (eqb (lead fs) (length fs))
    (λ d.
    let z : 0 < length fs = positive (length fs) (λ w. eqb-false k 0 c (sym ok.count ∙ w)) in
    let y : lead fs ≡ length fs = eqb-true (lead fs) (length fs) d in
    let e : replicate k false ≡ fs = rw (← ok.count) (sym (none-reused fs y)) in
    rw (c, (egk_code 0).there l p q 1 (omega arith) (rw (bins_stop room fs z y) at s), e))
    (λ d.
    let z : lead fs < length fs = below (lead fs) (length fs) (lead_le fs) (eqb-false (lead fs) (length fs) d) in
    let w = split (egk 0 (code_of (lead fs))) (reuse_bins room (drop (suc (lead fs)) fs)) (rw (bins_go room fs z) at s) in
    let i : ReuseOk room (k - suc (lead fs)) (drop (suc (lead fs)) fs) = record { count = rw (length-drop, ok.count); fits = omega (arith, ok.fits, trues-first fs z) } in
    let o : lead fs < k = omega (arith, ok.count) in
    rw (
      c,
      (egk_code 0).there l p w.mid (code_of (lead fs)) (omega (arith, code_most (lead fs))) w.first,
      ne_eqb (code_of (lead fs)) 1 (code_not_one (lead fs)),
      gap_code (lead fs),
      lt-leb k (lead fs) o,
      reuse_there room (k - suc (lead fs)) (omega arith) l w.mid q (drop (suc (lead fs)) fs) i w.second,
      ← first-reused fs z,
    )))
  where
    positive : (n : ℕ) → (n ≡ 0 → ⊥) → 0 < n
    positive zero h = absurd (h refl)
    positive (suc n) h = omega arith

    below : (a b : ℕ) → a ≤ b → (a ≡ b → ⊥) → a < b
    below a b h d = omega arith

-- what was read, over plain variables
abbrev Stood : ℕ → ℕ → List ℕ → ℕ → ℕ → List Bool → Type 0
Stood room k l p q fs = Stands l p (reuse_bins room fs) q × ReuseOk room k fs

stood_same : {room k : ℕ} {l : List ℕ} {p q u : ℕ} {fs gs : List Bool} → Stood room k l p u gs → Value gs u ≡ Value fs q → Stood room k l p q fs
stood_same g e = rw (← same-value e, ← same_place e) g

stood_none : (room k : ℕ) (l : List ℕ) (p q : ℕ) → Stands l p (egk 0 1) q → 0 < k → Stood (suc room) k l p q (replicate k false)
stood_none room k l p q s h =
    let n : length (replicate k false) ≡ k = length-replicate k false in
    (rw (bins_stop room (replicate k false) (rw n h) (rw n (lead-none k))) s, record { count = n; fits = omega (arith, trues-none k) })

stood_next : (room k : ℕ) (l : List ℕ) (p m q g r : ℕ) (fs : List Bool) → Stands l p (egk 0 r) m → code_of g ≡ r → g < k → Stood room (k - suc g) l m q fs → Stood (suc room) k l p q (replicate g false ++ (true ∷ fs))
stood_next room k l p m q g r fs s c h i =
    let n : length (gapped fs g) ≡ g + suc (length fs) = length-gap fs g in
    let z : lead (gapped fs g) < length (gapped fs g) = rw (lead-gap fs g) (omega arith) in
    (rw (bins_go room (gapped fs g) z, lead-gap fs g, drop-gap fs g, c) (join s i.0), record { count = omega (arith, i.1.count); fits = omega (arith, trues-gap fs g, i.1.fits) })

reuse_back : (room k : ℕ) (l : List ℕ) (p q : ℕ) (fs : List Bool) → reuse_at room k l p ≡ Value fs q → Stood room k l p q fs
unfolding reuse_at
reuse_back zero k l p q fs e =
    let g : Stood zero k l p p (replicate k false) = (rw (bins_zero (replicate k false)) (stands-none l p), record { count = length-replicate k false; fits = omega (arith, trues-none k) }) in
    stood_same g e
reuse_back (suc room) k l p q fs e =
    either (eqb k 0)
    (λ c.
    let g : Stood (suc room) k l p p [] = (rw (bins_none (suc room) [] refl) (stands-none l p), record { count = sym (eqb-true k 0 c); fits = omega (arith, trues-none 0) }) in
    stood_same g (rw c at e))
    (λ c.
    went (egk_at 0 l p) _ (rw c at e) (λ r m er e₁.
    let b = (egk_code 0).back l p m r er in
    either (eqb r 1)
    (λ d. stood_same (stood_none room k l p m (rw (eqb-true r 1 d) at b.0) (positive k (eqb-false k 0 c))) (rw d at e₁))
    (λ d. either (leb k (gap_of r))
    (λ o. absurd (refused_not (rw (d, o) at e₁)))
    (λ o.
    went (reuse_at room (k - suc (gap_of r)) l m) _ (rw (d, o) at e₁) (λ gs t eg e₂.
    stood_same (stood_next room k l p m t (gap_of r) r gs b.0 (code_gap r (eqb-false r 1 d)) (leb-false k (gap_of r) o) (reuse_back room (k - suc (gap_of r)) l m t gs eg)) e₂)))))
  where
    positive : (n : ℕ) → (n ≡ 0 → ⊥) → 0 < n
    positive zero h = absurd (h refl)
    positive (suc n) h = omega arith

pub reuse_code : (room k : ℕ) → k ≤ 65535 → Code (reuse_at room k) (reuse_bins room) (ReuseOk room k)
reuse_code room k small = record { there = reuse_there room k small; back = reuse_back room k }

-- ---- flags counted one by one

trues-cons : (b : Bool) (fs : List Bool) → trues (b ∷ fs) ≡ bit b + trues fs
unfolding trues
trues-cons true fs = omega arith
trues-cons false fs = omega arith

pub trues-at : (fs : List Bool) (count i : ℕ) → i < count → count ≤ length fs → trues (drop i (take count fs)) ≡ bit (get_or fs i false) + trues (drop (i + 1) (take count fs))
trues-at fs count i h o = rw (read fs count i false h o) (trues-cons (get_or fs i false) (drop (i + 1) (take count fs)))

pub trues-end : (fs : List Bool) (count i : ℕ) → count ≤ i → count ≤ length fs → trues (drop i (take count fs)) ≡ 0
unfolding trues
trues-end fs count i h o = rw (end fs count i h o)

-- ---- the entries that flags mark

pub flagged-map : {A B : Type 0} (f : A → B) (fs : List Bool) (es : List A) → flagged fs (map f es) ≡ map f (flagged fs es)
unfolding flagged
flagged-map f [] es = refl
flagged-map f (b ∷ fs) [] = refl
flagged-map {A} {B} f (true ∷ fs) (e ∷ es) = ap (λ (z : List B). f e ∷ z) (flagged-map f fs es)
flagged-map f (false ∷ fs) (e ∷ es) = flagged-map f fs es
