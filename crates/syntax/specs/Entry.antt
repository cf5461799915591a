-- What the two entry points answer, with every refusal in document 01's order, as functions that compute.
use Rattle.std.specs.Prelude.{◌≡◌, refl, ◌≢◌, Bool, true, false, not, List, [], ◌∷◌, ◌++◌, ℕ, zero, suc, ◌+◌, ◌*◌, ◌-◌, ◌^◌, ◌≤◌, ◌<◌, ltb, leb, eqb, length, take}
use Rattle.std.proofs.Common.{ap, sym, ◌∙◌, le_refl, arith, lt-ltb, le-ltb, ltb-true, ltb-false, eqb-true, eq-eqb, ne_eqb, leb-true, leb-false, le-leb}
use Rattle.std.proofs.lemmas.Bool.{eqb-false, lt-leb, not-true}
use Rattle.base.specs.Pick.{pick}
use Rattle.base.specs.Answer.{Answer, Value, Refused}
use Rattle.h265.specs.Reuse.{trues}
use Rattle.syntax.specs.Runs.{Run}
use Rattle.syntax.specs.Test.{both, replays}
use Rattle.syntax.specs.Block.{Entry, Call, Block, Told, cells_in, chroma_depth, even, block_bins, read_block}
use Rattle.syntax.specs.Whole.{top_index}

-- ---- tests over lists

unfoldable pub every : {X : Type 0} → (X → Bool) → List X → Bool
every f [] = true
every f (x ∷ xs) = both (f x) (every f xs)

unfoldable pub pairwise : {X A : Type 0} → (X → A → Bool) → List X → List A → Bool
pairwise f [] [] = true
pairwise f [] (v ∷ vs) = false
pairwise f (x ∷ xs) [] = false
pairwise f (x ∷ xs) (v ∷ vs) = both (f x v) (pairwise f xs vs)

-- ---- the tests of refusals 1, 2, 5 and 7

abbrev depth : ℕ → Bool
depth d = pick (eqb d 8) true (pick (eqb d 10) true (eqb d 12))

unfoldable pub test1 : Call → Bool
test1 c = both (ltb c.format 4) (both (depth c.luma) (both (depth c.chroma) (leb c.limit 64)))

unfoldable pub test2 : Call → Bool
test2 c = both (leb 1 c.size) (both (leb c.size 32) (pick (eqb c.format 1) (even c.size) (pick (eqb c.format 2) (even c.size) true)))

unfoldable pub fitting : Call → Entry → Bool
fitting c e = both (ltb e.y (2 ^ c.luma)) (both (ltb e.cb (2 ^ chroma_depth c)) (ltb e.cr (2 ^ chroma_depth c)))

unfoldable pub test5 : Call → Bool
test5 c = both (leb (length c.predictor) 128) (every (fitting c) c.predictor)

unfoldable pub level : Bool → ℕ → ℕ → Bool
level lossless d v = pick lossless (ltb v (2 ^ d)) (leb v 32767)

unfoldable pub test7 : Call → Block → Bool
test7 c b =
    both (leb (length b.colours) c.limit)
    (both (leb (length b.flags) 128)
    (both (eqb (trues b.flags + b.signalled) (length b.colours))
    (both (every (fitting c) b.colours)
    (both (eqb (length b.cells) (cells_in c))
    (both (every (λ x. leb x (top_index b)) b.cells)
    (both (pairwise (λ x v. pick (eqb x (length b.colours)) (level c.lossless c.luma v) true) b.cells b.levels.y)
    (both (pairwise (λ x v. pick (eqb x (length b.colours)) (pick (eqb c.format 0) true (level c.lossless c.chroma v)) true) b.cells b.levels.cb)
    (both (pairwise (λ x v. pick (eqb x (length b.colours)) (pick (eqb c.format 0) true (level c.lossless c.chroma v)) true) b.cells b.levels.cr)
    (pick (eqb (length b.colours) 0) (both b.escape (not b.transpose)) true)))))))))

unfoldable pub test8 : Call → Block → List Run → Bool
test8 c b rs = pick (ltb 0 (top_index b)) (replays c.size (cells_in c) (top_index b) b.cells 0 false rs) true

-- ---- the answers

-- room: runs that the lent list holds
unfoldable pub read_answer : Call → ℕ → List ℕ → Answer Told
read_answer c room l =
    let reading : Answer Told = read_block c l 0 in
    pick (test1 c) (pick (test2 c) (pick (test5 c) (pick (leb (cells_in c) room) reading (Refused 9 0)) (Refused 5 0)) (Refused 2 0)) (Refused 1 0)

-- room: bins that the lent list holds; the value is the bins, the place after them their count
unfoldable pub write_answer : Call → Block → List Run → ℕ → Answer (List ℕ)
write_answer c b rs room =
    let bins : List ℕ = block_bins c b rs in
    pick (test1 c) (pick (test2 c) (pick (test7 c b) (pick (test8 c b rs) (pick (leb (length bins) room) (Value bins (length bins)) (Refused 9 0)) (Refused 8 0)) (Refused 7 0)) (Refused 2 0)) (Refused 1 0)

pub record Wrote (c : Call) (b : Block) (rs : List Run) (room : ℕ) (s : List ℕ) (q : ℕ) : Type 0 where
  pub one : test1 c ≡ true
  pub two : test2 c ≡ true
  pub seven : test7 c b ≡ true
  pub eight : test8 c b rs ≡ true
  pub nine : length (block_bins c b rs) ≤ room
  pub bins : block_bins c b rs ≡ s
  pub count : length (block_bins c b rs) ≡ q
