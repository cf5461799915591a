-- The cheapest path through a block's cells, as source 000 finds it: f32 sums in its order, its order of offers, and a cheaper path only where it is strictly cheaper.
use Rattle.std.specs.Prelude.{Bool, true, false, List, [], ◌∷◌, ◌++◌, ℕ, zero, suc, ◌+◌, ◌*◌, ◌-◌, ◌/◌, ◌%◌, eqb, ltb, Float, get_or, set, replicate}
use Rattle.std.specs.Float.{nan, inf, binary32}
use Rattle.std.specs.Float.Ieee.{add, lt}
use Rattle.base.specs.Pick.{pick}
use Rattle.base.specs.Tests.{every}
use Rattle.base.specs.Upto.{number}
use Rattle.model.specs.declared.PaletteRun.{PaletteRun}
use Rattle.rates.specs.declared.RateModel.{RateModel}
use Rattle.rates.specs.Rates.{run_rate, index_rate, share_rate}
use Rattle.syntax.specs.Runs.{may_copy}
use Rattle.paths.specs.Cells.{copies, index_length, above_length, draws, sent_for, stops_at}

-- ---- costs

-- what a run-type flag of an index run and of a copy-above run costs, an index run's share of the index count,
-- and the length of a run (the longest, copy-above or not, the index sent, length - 1)
pub record Price : Type 0 where
  pub index : Float
  pub above : Float
  pub share : Float
  pub run : ℕ → Bool → ℕ → ℕ → Float

abbrev pub price_of : RateModel → ℕ → Price
price_of m most = record { index = m.run_type.bin0; above = m.run_type.bin1; share = share_rate most; run = run_rate m }

-- what is to be planned: n cells with the indices xs along the scan, the greatest index M, and the prices
pub record Job : Type 0 where
  pub size : ℕ
  pub n : ℕ
  pub most : ℕ
  pub xs : List ℕ
  pub price : Price

abbrev pub job : ℕ → ℕ → ℕ → List ℕ → Price → Job
job size n most xs price = record { size = size; n = n; most = most; xs = xs; price = price }

-- the flag is sent where a copy-above run could start at p, but at the last cell
unfoldable pub flag_rate : Job → ℕ → Bool → Float
flag_rate j p k = pick (every (may_copy j.size p k ∷ ltb (p + 1) j.n ∷ [])) j.price.index (number 0)

abbrev pub alphabet_at : ℕ → ℕ → ℕ
alphabet_at most p = pick (eqb p 0) (most + 1) most

-- an index run from p, after a path of cost c whose last run is of kind k, but for its length
unfoldable pub head_rate : Job → ℕ → Bool → Float → Float
head_rate j p k c =
    add binary32 (add binary32 (add binary32 c (flag_rate j p k)) (index_rate (alphabet_at j.most p) (sent_for j.size j.xs p k))) j.price.share

-- the length of an index run from p up to q: none is sent for the last run
unfoldable pub draw_cost : Job → ℕ → ℕ → Float → ℕ → Float
draw_cost j p sent head q = add binary32 head (pick (eqb q j.n) (number 0) (j.price.run (j.n - p - 1) false sent (q - p - 1)))

-- a copy-above run from p up to q: the last run's kind is not sent either
unfoldable pub copy_cost : Job → ℕ → Float → ℕ → Float
copy_cost j p c q = add binary32 c (pick (eqb q j.n) (number 0) (add binary32 j.price.above (j.price.run (j.n - p - 1) true 0 (q - p - 1))))

-- ---- the table: for each place and each kind of the run that ends there, the least cost of a path so far, and where that run started

pub record Table : Type 0 where
  pub cost : List Float
  pub pos : List ℕ
  pub st : List Bool

abbrev pub tab : List Float → List ℕ → List Bool → Table
tab c p s = record { cost = c; pos = p; st = s }

-- the slot of place q after a run of kind k, and back
abbrev pub slot : ℕ → Bool → ℕ
slot q true = q * 2 + 1
slot q false = q * 2

abbrev pub place_of : ℕ → ℕ
place_of s = s / 2

abbrev pub kind_of : ℕ → Bool
kind_of s = eqb (s % 2) 1

-- not reached
abbrev pub infinite : Float
infinite = inf false

-- a path of cost c whose last run started at p, after a run of kind k, is offered at slot s: it stays where it is cheaper
unfoldable pub relaxed : Table → ℕ → Float → ℕ → Bool → Table
relaxed t s c p k = pick (lt c (get_or t.cost s nan)) (tab (set t.cost s c) (set t.pos s p) (set t.st s k)) t

-- the stops among the f cells from q on, in order: g q is what a run up to q makes of the cost
unfoldable pub stopped : (ℕ → Bool) → (ℕ → Float) → ℕ → Bool → ℕ → ℕ → Table → Table
stopped stop g p k zero q t = t
stopped stop g p k (suc f) q t = stopped stop g p k f (suc q) (pick (stop q) (relaxed t (slot q false) (g q) p k) t)

-- the index runs from p: each early stop, and the whole length
unfoldable pub indexed : Job → ℕ → Bool → Float → Table → Table
indexed j p k c t =
    let sent : ℕ = sent_for j.size j.xs p k in
    let g : ℕ → Float = draw_cost j p sent (head_rate j p k c) in
    let end : ℕ = p + index_length j.n j.xs p in
    pick (draws j.size j.xs p k)
    (relaxed (stopped (stops_at j.size j.xs p) g p k (end - (p + 1)) (p + 1) t) (slot end false) (g end) p k) t

-- the copy-above run from p, always as long as can be
unfoldable pub copied : Job → ℕ → Bool → Float → Table → Table
copied j p k c t =
    let end : ℕ = p + above_length j.size j.n j.xs p in
    pick (every (may_copy j.size p k ∷ copies j.size j.xs p ∷ [])) (relaxed t (slot end true) (copy_cost j p c end) p k) t

-- the runs that start at slot s, where some path ends
unfoldable pub stepped : Job → ℕ → Table → Table
stepped j s t =
    let c : Float = get_or t.cost s nan in
    let after : Table = copied j (place_of s) (kind_of s) c (indexed j (place_of s) (kind_of s) c t) in
    pick (lt c infinite) after t

-- the slots below s, in order
unfoldable pub swept : Job → ℕ → Table → Table
swept j zero t = t
swept j (suc s) t = stepped j s (swept j s t)

-- the empty path ends at place 0, as after an index run
abbrev pub fresh : Table
fresh = tab (set (replicate 2050 infinite) 0 (number 0)) (replicate 2050 0) (replicate 2050 false)

-- ---- the path that is chosen, and its runs

-- where a run ends, and its kind
pub record Point : Type 0 where
  pub place : ℕ
  pub kind : Bool

abbrev pub point : ℕ → Bool → Point
point q k = record { place = q; kind = k }

-- the ends of the runs of the path up to q, in order, by where the runs started; f is at least q
unfoldable pub trail : List ℕ → List Bool → ℕ → ℕ → Bool → List Point
trail pos st zero q k = []
trail pos st (suc f) q k =
    let before : List Point = trail pos st f (get_or pos (slot q k) 0) (get_or st (slot q k) false) in
    pick (eqb q 0) [] (before ++ (point q k ∷ []))

-- the run from p, after a run of kind k, to its end
unfoldable pub run_to : ℕ → List ℕ → ℕ → Bool → Point → PaletteRun
run_to size xs p k e = record { above = e.kind; sent = pick e.kind 0 (sent_for size xs p k); more = e.place - p - 1; start = p }

unfoldable pub runs_of : ℕ → List ℕ → ℕ → Bool → List Point → List PaletteRun
runs_of size xs p k [] = []
runs_of size xs p k (e ∷ es) = run_to size xs p k e ∷ runs_of size xs e.place e.kind es

-- the final-run flag closes the choice: copy-above where that is strictly cheaper
unfoldable pub end_cost : Job → Table → Bool → Float
end_cost j t true = add binary32 (get_or t.cost (slot j.n true) nan) j.price.above
end_cost j t false = add binary32 (get_or t.cost (slot j.n false) nan) j.price.index

unfoldable pub last_kind : Job → Table → Bool
last_kind j t = lt (end_cost j t true) (end_cost j t false)

pub record Planned : Type 0 where
  pub total : Float
  pub runs : List PaletteRun

abbrev pub chosen : Job → Table → Planned
chosen j t = record { total = end_cost j t (last_kind j t); runs = runs_of j.size j.xs 0 false (trail t.pos t.st j.n j.n (last_kind j t)) }

unfoldable pub planned : Job → Planned
planned j = chosen j (swept j (j.n * 2) fresh)
