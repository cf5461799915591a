-- Both laws of the escape levels.
use Rattle.std.specs.Prelude.{◌≡◌, refl, Bool, true, false, List, [], ◌∷◌, ◌++◌, ℕ, zero, suc, ◌+◌, ◌*◌, ◌-◌, ◌^◌, ◌≤◌, ◌<◌}
use Rattle.std.proofs.Common.{ap, sym, ◌∙◌, arith}
use Rattle.base.specs.Pick.{pick, either}
use Rattle.base.specs.Answer.{Answer, Value, Refused, onward, went, refused_not, same-value, same_place}
use Rattle.base.specs.Stands.{Stands, stands-none, none-stands, join, split, Code}
use Rattle.base.specs.Pick.{true_false}
use Rattle.base.specs.Codes.{when_at, when_bins, When, when_code, each_at, each_bins, Each, All, each-length, each_code}
use Rattle.h265.specs.Strings.{bits, egk}
use Rattle.h265.specs.Parse.{bits_at, egk_at, held}
use Rattle.h265.specs.BitLaws.{bits_code}
use Rattle.h265.specs.EgkLaws.{Ones, egk_code, held_code}
use Rattle.syntax.specs.Block.{Call, Palette, Levels, chroma_depth, level_bins, level_at, luma_dues, chroma_dues, levels_bins, levels_at}

-- a level that is sent: 0 to 32,767, lossless 0 to the sample maximum
abbrev pub InLevel : Bool → ℕ → ℕ → Type 0
InLevel true depth v = v < 2 ^ depth
InLevel false depth v = v ≤ 32767

sent_code : (lossless : Bool) (depth : ℕ) → Code (λ l p. pick lossless (bits_at depth l p) (held p 32767 (egk_at 3 l p))) (λ v. pick lossless (bits depth v) (egk 3 v)) (InLevel lossless depth)
sent_code true depth = bits_code depth
sent_code false depth =
    let c : Code (λ l p. held p 32767 (egk_at 3 l p)) (egk 3) (λ v. Ones 16 3 v × (v ≤ 32767)) = held_code (egk_at 3) (egk 3) 32767 (egk_code 3) in
    record { there = λ l p q v h s. c.there l p q v (omega arith, h) s; back = λ l p q v e. let b = c.back l p q v e in (b.0, b.1.1) }

-- sent where it is due, else 0
abbrev pub LevelOk : Bool → ℕ → Bool → ℕ → Type 0
LevelOk lossless depth due v = When due 0 (InLevel lossless depth) v

level_code : (lossless : Bool) (depth : ℕ) (due : Bool) → Code (level_at lossless depth due) (level_bins lossless depth due) (LevelOk lossless depth due)
unfolding level_at level_bins
level_code lossless depth due = when_code due 0 (sent_code lossless depth)

all-good : (xs : List Bool) → All (λ (x : Bool). Unit {0}) xs
all-good [] = tt
all-good (x ∷ xs) = (tt, all-good xs)

each_level : (lossless : Bool) (depth : ℕ) (xs : List Bool) → Code (each_at (level_at lossless depth) xs) (each_bins (level_bins lossless depth) xs) (Each (LevelOk lossless depth) xs)
each_level lossless depth xs = each_code (level_at lossless depth) (level_bins lossless depth) (λ x. Unit {0}) (LevelOk lossless depth) (λ x u. level_code lossless depth x) xs (all-good xs)

pub record LevelsOk (c : Call) (x : Palette) (turned : Bool) (cells : List ℕ) (v : Levels) : Type 0 where
  pub y : Each (LevelOk c.lossless c.luma) (luma_dues x cells) v.y
  pub cb : Each (LevelOk c.lossless (chroma_depth c)) (chroma_dues c x turned cells) v.cb
  pub cr : Each (LevelOk c.lossless (chroma_depth c)) (chroma_dues c x turned cells) v.cr

module _ (c : Call) (x : Palette) (turned : Bool) (cells : List ℕ) where
  levels_there : (l : List ℕ) (p q : ℕ) (v : Levels) → LevelsOk c x turned cells v → Stands l p (levels_bins c x turned cells v) q → levels_at c x turned cells l p ≡ Value v q
  unfolding levels_bins levels_at
  levels_there l p q v ok s =
      let us = each_bins (level_bins c.lossless (chroma_depth c)) (chroma_dues c x turned cells) v.cb in
      let vs = each_bins (level_bins c.lossless (chroma_depth c)) (chroma_dues c x turned cells) v.cr in
      let a = split (each_bins (level_bins c.lossless c.luma) (luma_dues x cells) v.y) (us ++ vs) s in
      let b = split us vs a.second in
      rw ((each_level c.lossless c.luma (luma_dues x cells)).there l p a.mid v.y ok.y a.first, (each_level c.lossless (chroma_depth c) (chroma_dues c x turned cells)).there l a.mid b.mid v.cb ok.cb b.first, (each_level c.lossless (chroma_depth c) (chroma_dues c x turned cells)).there l b.mid q v.cr ok.cr b.second)

  levels_back : (l : List ℕ) (p q : ℕ) (v : Levels) → levels_at c x turned cells l p ≡ Value v q → Stands l p (levels_bins c x turned cells v) q × LevelsOk c x turned cells v
  unfolding levels_bins levels_at
  levels_back l p q v e =
      went (each_at (level_at c.lossless c.luma) (luma_dues x cells) l p) _ e (λ ys m ey e₁.
      went (each_at (level_at c.lossless (chroma_depth c)) (chroma_dues c x turned cells) l m) _ e₁ (λ us r eu e₂.
      went (each_at (level_at c.lossless (chroma_depth c)) (chroma_dues c x turned cells) l r) _ e₂ (λ vs t ev e₃.
      let a = (each_level c.lossless c.luma (luma_dues x cells)).back l p m ys ey in
      let b = (each_level c.lossless (chroma_depth c) (chroma_dues c x turned cells)).back l m r us eu in
      let d = (each_level c.lossless (chroma_depth c) (chroma_dues c x turned cells)).back l r t vs ev in
      rw (← same-value e₃, ← same_place e₃) (join a.0 (join b.0 d.0), record { y = a.1; cb = b.1; cr = d.1 }))))

  pub levels_code : Code (levels_at c x turned cells) (levels_bins c x turned cells) (LevelsOk c x turned cells)
  levels_code = record { there = levels_there; back = levels_back }
