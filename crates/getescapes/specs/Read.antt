-- The reader's levels in the code's numbers, and that they are the block's.
use Rattle.std.specs.Prelude.{◌≡◌, refl, Bool, true, false, ◌&&◌, List, [], ◌∷◌, ℕ, suc, ◌+◌, ◌≤◌, ◌<◌, eqb, length, take, drop, get_or, replicate, Result, Ok, Err}
use Rattle.std.proofs.Common.{arith, pow_mono}
use Rattle.std.proofs.Math.Numerals.{add-one}
use Rattle.base.specs.Answer.{Answer, Value, onward, same-value}
use Rattle.base.specs.Codes.{each_at}
use Rattle.base.specs.Counted as C
use Rattle.base.specs.Pick.{pick}
use Rattle.due.specs.Due.{due_at}
use Rattle.get.specs.As.{answer_of}
use Rattle.refusal.specs.declared.Refused.{Refused as Refusal}
use Rattle.h265.specs.BitLaws.{bits_code}
use Rattle.h265.specs.EgkLaws.{egk_code, held_code}
use Rattle.h265.specs.Parse.{egk_at}
use Rattle.h265.specs.Strings.{egk}
use Rattle.syntax.specs.Block.{Call, Palette, Levels, colours, chroma_due, chroma_depth, dues, level_at, levels_at}
use Rattle.getescapes.specs.declared.Columns.{Columns}

-- the first n levels of a component, and of all
abbrev pub as_column : ℕ → Result (List ℕ) Refusal → ℕ → Answer (List ℕ)
as_column n (Ok values) q = Value (take n values) q
as_column n (Err r) q = answer_of (Err r) q

abbrev pub levels : List ℕ → List ℕ → List ℕ → Levels
levels ys us vs = record { y = ys; cb = us; cr = vs }

abbrev pub as_levels : ℕ → Result Columns Refusal → ℕ → Answer Levels
as_levels n (Ok r) q = Value (levels (take n r.y) (take n r.cb) (take n r.cr)) q
as_levels n (Err r) q = answer_of (Err r) q

-- whether component k has a level at cell i, where the block has escapes
unfoldable pub due_of : Bool → ℕ → ℕ → Bool → ℕ → ℕ → Bool
due_of escape format size turned k i = pick escape (due_at format size turned k i) false

-- the third component, after the first and the second
unfoldable pub third_at : Bool → ℕ → ℕ → Bool → Bool → ℕ → ℕ → List ℕ → List ℕ → List ℕ → List ℕ → ℕ → Answer Levels
third_at escape format size turned lossless depth e cells ys us l p =
    onward (each_at (level_at lossless depth) (dues (due_of escape format size turned 2) e 0 cells) l p) (λ vs t. Value (levels ys us vs) t)

-- all levels
unfoldable pub all_at : Bool → ℕ → ℕ → Bool → Bool → ℕ → ℕ → ℕ → List ℕ → List ℕ → ℕ → Answer Levels
all_at escape format size turned lossless luma chroma e cells l p =
    onward (each_at (level_at lossless luma) (dues (due_of escape format size turned 0) e 0 cells) l p) (λ ys q.
    onward (each_at (level_at lossless (pick (eqb format 0) 0 chroma)) (dues (due_of escape format size turned 1) e 0 cells) l q) (λ us r.
    third_at escape format size turned lossless (pick (eqb format 0) 0 chroma) e cells ys us l r))

-- ---- one turn

here_due : (x escape t : Bool) → pick (x && escape) t false ≡ pick x (pick escape t false) false
here_due true true t = refl
here_due true false t = refl
here_due false escape t = refl

module _ (escape : Bool) (format size : ℕ) (turned : Bool) (k e : ℕ) (xs : List ℕ) (n : ℕ) (o : n ≤ length xs) where
  pub due_turn : (i : ℕ) → i < n → dues (due_of escape format size turned k) e i (drop i (take n xs)) ≡ pick (eqb (get_or xs i 0) e && escape) (due_at format size turned k i) false ∷ dues (due_of escape format size turned k) e (i + 1) (drop (i + 1) (take n xs))
  unfolding dues due_of
  due_turn i h = rw (C.read xs n i 0 h o, add-one i, here_due (eqb (get_or xs i 0) e) escape (due_at format size turned k i))

  pub due_end : (i : ℕ) → n ≤ i → dues (due_of escape format size turned k) e i (drop i (take n xs)) ≡ []
  unfolding dues
  due_end i h = rw (C.end xs n i h o)

pub level-small : (lossless : Bool) (depth : ℕ) (due : Bool) (l : List ℕ) (p v q : ℕ) → depth ≤ 16 → level_at lossless depth due l p ≡ Value v q → v < 65536
unfolding level_at
level-small true depth true l p v q h e = omega (arith, ((bits_code depth).back l p q v e).1, pow_mono {i = depth} {j = 16} h)
level-small false depth true l p v q h e = omega (arith, ((held_code (egk_at 3) (egk 3) 32767 (egk_code 3)).back l p q v e).1.1)
level-small lossless depth false l p v q h e = omega (arith, same-value e)

-- ---- no escapes

none_here : (x : Bool) → pick x false false ≡ false
none_here true = refl
none_here false = refl

-- without escapes each level is 0, and no bin is read
pub none_at : (lossless : Bool) (depth format size : ℕ) (turned : Bool) (k e i : ℕ) (xs l : List ℕ) (p : ℕ) →
    each_at (level_at lossless depth) (dues (due_of false format size turned k) e i xs) l p ≡ Value (replicate (length xs) 0) p
unfolding each_at dues due_of level_at
none_at lossless depth format size turned k e i [] l p = refl
none_at lossless depth format size turned k e i (x ∷ xs) l p =
    rw (none_here (eqb x e), none_at lossless depth format size turned k e (suc i) xs l p)

-- ---- the block's

all_split : (c : Call) (escape turned : Bool) (e : ℕ) (cells l : List ℕ) (p : ℕ) →
    onward (each_at (level_at c.lossless c.luma) (dues (λ i. escape) e 0 cells) l p) (λ ys q.
    onward (each_at (level_at c.lossless (chroma_depth c)) (dues (λ i. pick escape (chroma_due c turned i) false) e 0 cells) l q) (λ us r.
    onward (each_at (level_at c.lossless (chroma_depth c)) (dues (λ i. pick escape (chroma_due c turned i) false) e 0 cells) l r) (λ vs t.
    Value (levels ys us vs) t)))
    ≡ all_at escape c.format c.size turned c.lossless c.luma c.chroma e cells l p
unfolding all_at third_at due_of due_at chroma_due
all_split c true turned e cells l p = refl
all_split c false turned e cells l p = refl

pub all_are : (c : Call) (x : Palette) (turned : Bool) (e : ℕ) (cells l : List ℕ) (p : ℕ) → colours x ≡ e →
    levels_at c x turned cells l p ≡ all_at x.escape c.format c.size turned c.lossless c.luma c.chroma e cells l p
unfolding levels_at
all_are c x turned e cells l p h = rw h (all_split c x.escape turned e cells l p)
