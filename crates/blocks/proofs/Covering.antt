-- A box that covers another is no farther from a third: where its test skips, so does the other's. Assumes nothing.
use mathlib.Core.Path.{◌≡◌, refl, sym, ap, ◌∙◌, subst}
use mathlib.Core.Logic.{◌⊎◌, inl, inr}
use mathlib.Core.Bool.{Bool, true, false, cond, false≢true}
use mathlib.Core.List.{List, [], ◌∷◌, foldl}
use Rattle.std.specs.Prelude.{None, Some}
use Rattle.std.specs.declared.option.Option.{Option}
use Prim.Native.Nat.{◌-◌, ◌^◌}
use lib.Dec.{T}
use lib.IntN.{negsuc}
use lib.Ieee.{Float, nan, inf, fin, binary64, mul, lt, le, fits}
use lib.Ieee.Bits.{is_true}
use lib.Ieee.Fits.{mul-fits, cond-fits, inf-fits}
use Rattle.ieee754.specs.MinMax.{absolute_of}
use Rattle.ieee754.proofs.AxisGaps.{least_gap, least_gap_fits}
use Rattle.ieee754.proofs.FloatOrder.{le_reflexive, le_transitive, lt→le, lt_number_left, lt_number_right}
use Rattle.ieee754.proofs.GapOrder.{covering_no_farther_absolute, scaling_keeps_order}
use Rattle.ieee754.proofs.SumsAndSquares.{sum_of_squares_fits, lesser_sum_sign_clear, greater_sum_sign_clear, sum_of_squares_keeps_order}
use Rattle.primitives.specs.declared.Witness.{Witness}
use Rattle.primitives.specs.declared.Aabb.{Aabb}
use Rattle.primitives.specs.Boxes as boxes
use Rattle.primitives.specs.Boxes.{squared, least_squared_gap}
use Rattle.extremes.specs.Sweeps.{skipping, one_minus_slack}
use Rattle.extremes.proofs.Lists.{Each}
use Rattle.extremes.proofs.BoxOfAll.{Axis, EndsFit, Fitting, axis_x, axis_y, axis_z}
use Rattle.items.specs.declared.Item.{Item}
use Rattle.items.specs.Items.{box_of_item}
use Rattle.items.specs.Closest.{with_each}
use Rattle.extremes.specs.ClosestSweep.{no_closer}
use Rattle.blocks.specs.Cover.{lower_of, upper_of, cover_of, empty_cover, cover_item, cover_of_items}

-- ---- what a cover is

-- k is at most m, or -infinity (which alone serves an m that is NaN)
abbrev pub LowerBound : Float → Float → Type 0
LowerBound k m = T (le k m) ⊎ (k ≡ inf true)

-- k is at least m, or +infinity
abbrev pub UpperBound : Float → Float → Type 0
UpperBound k m = T (le m k) ⊎ (k ≡ inf false)

-- on one axis: the range lo .. hi covers lo' .. hi'
abbrev pub CoversOn : Float → Float → Float → Float → Type 0
CoversOn lo hi lo' hi' = LowerBound lo lo' × UpperBound hi hi'

-- K covers M on each axis
pub record Covers (K M : Aabb) : Type 0 where
  pub on_x : CoversOn K.lo.x K.hi.x M.lo.x M.hi.x
  pub on_y : CoversOn K.lo.y K.hi.y M.lo.y M.hi.y
  pub on_z : CoversOn K.lo.z K.hi.z M.lo.z M.hi.z

-- ---- a covering box is no farther

slack_fits : T (fits binary64 one_minus_slack)
unfolding fits
slack_fits = tt

module _ (a K M : Aabb) (fa : Fitting a) (fk : Fitting K) (fm : Fitting M) (c : Covers K M) where
  abbrev gap : Axis → Aabb → Float
  gap x b = least_gap (x.lo a) (x.hi a) (x.lo b) (x.hi b)

  gap_fits : (x : Axis) (b : Aabb) → T (fits binary64 (gap x b))
  gap_fits x b = least_gap_fits (x.lo a) (x.hi a) (x.lo b) (x.hi b)

  on_axis : (x : Axis) → EndsFit x a → EndsFit x K → EndsFit x M → CoversOn (x.lo K) (x.hi K) (x.lo M) (x.hi M) → T (le (absolute_of (gap x K)) (absolute_of (gap x M)))
  on_axis x f g h e = covering_no_farther_absolute (x.lo a) (x.hi a) (x.lo K) (x.hi K) (x.lo M) (x.hi M) f.0 f.1 g.0 g.1 h.0 h.1 e.0 e.1

  -- the covering box is no farther, also where both gaps are made less by the slack
  no_farther : T (le (mul binary64 (least_squared_gap a K) one_minus_slack) (mul binary64 (least_squared_gap a M) one_minus_slack))
  unfolding axis_x axis_y axis_z boxes.least_gap least_squared_gap
  no_farther =
      let x = on_axis axis_x fa.ends_x fk.ends_x fm.ends_x c.on_x in
      let y = on_axis axis_y fa.ends_y fk.ends_y fm.ends_y c.on_y in
      let z = on_axis axis_z fa.ends_z fk.ends_z fm.ends_z c.on_z in
      let kx = gap axis_x K in
      let ky = gap axis_y K in
      let kz = gap axis_z K in
      let mx = gap axis_x M in
      let my = gap axis_y M in
      let mz = gap axis_z M in
      let fkx = gap_fits axis_x K in
      let fky = gap_fits axis_y K in
      let fkz = gap_fits axis_z K in
      let fmx = gap_fits axis_x M in
      let fmy = gap_fits axis_y M in
      let fmz = gap_fits axis_z M in
      scaling_keeps_order (2 ^ 49 - 2) (negsuc 48) slack_fits (least_squared_gap a K) (least_squared_gap a M)
      (lesser_sum_sign_clear kx ky kz mx my mz fkx fky fkz fmx fmy fmz x y z) (greater_sum_sign_clear kx ky kz mx my mz fkx fky fkz fmx fmy fmz x y z)
      (sum_of_squares_fits kx ky kz) (sum_of_squares_fits mx my mz) (sum_of_squares_keeps_order kx ky kz mx my mz fkx fky fkz fmx fmy fmz x y z)

-- what is skipped against K is skipped against each M that K covers
pub covered_skipped : (a K M : Aabb) → Fitting a → Fitting K → Fitting M → Covers K M → (s : Option Witness) → no_closer s (least_squared_gap a K) ≡ true → no_closer s (least_squared_gap a M) ≡ true
unfolding no_closer
covered_skipped a K M fa fk fm c None h = absurd (false≢true h)
covered_skipped a K M fa fk fm c (Some best) h =
    let d = best.d in
    is_true (le (squared d) (mul binary64 (least_squared_gap a M) one_minus_slack))
    (le_transitive (squared d) (mul binary64 (least_squared_gap a K) one_minus_slack) (mul binary64 (least_squared_gap a M) one_minus_slack) (mul-fits binary64 d d) (mul-fits binary64 (least_squared_gap a K) one_minus_slack) (mul-fits binary64 (least_squared_gap a M) one_minus_slack)
    (subst T (sym h) tt) (no_farther a K M fa fk fm c))

-- ---- the lower of two ends, and the upper: `reaches k m` is the order, `beyond m k` its strict form, `last` the infinity that it ends at
abbrev Fit : Float → Type 0
Fit x = T (fits binary64 x)

module _ (reaches beyond : Float → Float → Bool) (last : Float) (last_Fits : Fit last) (own : (m k : Float) → Fit m → beyond m k ≡ true → T (reaches m m))
    (through : (m k n : Float) → Fit m → Fit k → Fit n → beyond m k ≡ true → T (reaches k n) → T (reaches m n)) (none-beyond : (m : Float) → beyond m last ≡ false) where
  abbrev farther : Float → Float → Float
  farther k m = cond (reaches k m) k (cond (beyond m k) m last)

  abbrev Bound : Float → Float → Type 0
  Bound k m = T (reaches k m) ⊎ (k ≡ last)

  farther_fits : (k m : Float) → Fit k → Fit m → Fit (farther k m)
  farther_fits k m fk fm = cond-fits binary64 (reaches k m) k (cond (beyond m k) m last) fk (cond-fits binary64 (beyond m k) m last fm last_Fits)

  -- it bounds the second, and what the first bounds
  bounds_second : (k m : Float) → Fit m → Bound (farther k m) m
  bounds_second k m fm = go (reaches k m) refl (beyond m k) refl
    where
      go : (p : Bool) → reaches k m ≡ p → (q : Bool) → beyond m k ≡ q → Bound (cond p k (cond q m last)) m
      go true e q h = inl (subst T (sym e) tt)
      go false e true h = inl (own m k fm h)
      go false e false h = inr refl

  bounds_kept : (k m n : Float) → Fit k → Fit m → Fit n → Bound k n → Bound (farther k m) n
  bounds_kept k m n fk fm fn b = go (reaches k m) (beyond m k) refl b
    where
      go : (p q : Bool) → beyond m k ≡ q → Bound k n → Bound (cond p k (cond q m last)) n
      go true q h b = b
      go false true h (inl r) = inl (through m k n fm fk fn h r)
      go false true h (inr e) = absurd (false≢true (sym (none-beyond m) ∙ ap (beyond m) (sym e) ∙ h))
      go false false h b = inr refl

none_below : (m : Float) → lt m (inf true) ≡ false
unfolding lt
none_below nan = refl
none_below (inf true) = refl
none_below (inf false) = refl
none_below (fin s m e) = refl

none_above : (m : Float) → lt (inf false) m ≡ false
unfolding lt
none_above nan = refl
none_above (inf s) = refl
none_above (fin s m e) = refl

lower_own : (m k : Float) → Fit m → lt m k ≡ true → T (le m m)
lower_own m k fm h = le_reflexive m (lt_number_left m k h) fm

upper_own : (m k : Float) → Fit m → lt k m ≡ true → T (le m m)
upper_own m k fm h = le_reflexive m (lt_number_right k m h) fm

lower_through : (m k n : Float) → Fit m → Fit k → Fit n → lt m k ≡ true → T (le k n) → T (le m n)
lower_through m k n fm fk fn h r = le_transitive m k n fm fk fn (lt→le m k (lt_number_left m k h) (lt_number_right m k h) fm fk h) r

upper_through : (m k n : Float) → Fit m → Fit k → Fit n → lt k m ≡ true → T (le n k) → T (le n m)
upper_through m k n fm fk fn h r = le_transitive n k m fn fk fm r (lt→le k m (lt_number_left k m h) (lt_number_right k m h) fk fm h)

axis_covers : (klo khi mlo mhi : Float) → Fit mlo → Fit mhi → CoversOn (lower_of klo mlo) (upper_of khi mhi) mlo mhi
axis_covers klo khi mlo mhi fl fh = (
  bounds_second le lt (inf true) (inf-fits binary64 true) lower_own lower_through none_below klo mlo fl,
  bounds_second (λ p q. le q p) (λ p q. lt q p) (inf false) (inf-fits binary64 false) upper_own upper_through none_above khi mhi fh,
)

axis_keeps : (klo khi mlo mhi nlo nhi : Float) → Fit klo → Fit khi → Fit mlo → Fit mhi → Fit nlo → Fit nhi → CoversOn klo khi nlo nhi → CoversOn (lower_of klo mlo) (upper_of khi mhi) nlo nhi
axis_keeps klo khi mlo mhi nlo nhi fkl fkh fml fmh fnl fnh c = (
  bounds_kept le lt (inf true) (inf-fits binary64 true) lower_own lower_through none_below klo mlo nlo fkl fml fnl c.0,
  bounds_kept (λ p q. le q p) (λ p q. lt q p) (inf false) (inf-fits binary64 false) upper_own upper_through none_above khi mhi nhi fkh fmh fnh c.1,
)

lower_fits : (k m : Float) → Fit k → Fit m → Fit (lower_of k m)
lower_fits k m = farther_fits le lt (inf true) (inf-fits binary64 true) lower_own lower_through none_below k m

upper_fits : (k m : Float) → Fit k → Fit m → Fit (upper_of k m)
upper_fits k m = farther_fits (λ p q. le q p) (λ p q. lt q p) (inf false) (inf-fits binary64 false) upper_own upper_through none_above k m

-- ---- a cover of one box more
module _ (k m : Aabb) (fk : Fitting k) (fm : Fitting m) where
  pub cover_fitting : Fitting (cover_of k m)
  unfolding axis_x axis_y axis_z cover_of
  cover_fitting =
      record {
        ends_x = (lower_fits k.lo.x m.lo.x fk.ends_x.0 fm.ends_x.0, upper_fits k.hi.x m.hi.x fk.ends_x.1 fm.ends_x.1);
        ends_y = (lower_fits k.lo.y m.lo.y fk.ends_y.0 fm.ends_y.0, upper_fits k.hi.y m.hi.y fk.ends_y.1 fm.ends_y.1);
        ends_z = (lower_fits k.lo.z m.lo.z fk.ends_z.0 fm.ends_z.0, upper_fits k.hi.z m.hi.z fk.ends_z.1 fm.ends_z.1);
      }

  -- it covers the box
  pub cover_covers : Covers (cover_of k m) m
  unfolding axis_x axis_y axis_z cover_of
  cover_covers =
      record {
        on_x = axis_covers k.lo.x k.hi.x m.lo.x m.hi.x fm.ends_x.0 fm.ends_x.1;
        on_y = axis_covers k.lo.y k.hi.y m.lo.y m.hi.y fm.ends_y.0 fm.ends_y.1;
        on_z = axis_covers k.lo.z k.hi.z m.lo.z m.hi.z fm.ends_z.0 fm.ends_z.1;
      }

  -- and what k covers
  pub cover_keeps : (n : Aabb) → Fitting n → Covers k n → Covers (cover_of k m) n
  unfolding axis_x axis_y axis_z cover_of
  cover_keeps n fn c =
      record {
        on_x = axis_keeps k.lo.x k.hi.x m.lo.x m.hi.x n.lo.x n.hi.x fk.ends_x.0 fk.ends_x.1 fm.ends_x.0 fm.ends_x.1 fn.ends_x.0 fn.ends_x.1 c.on_x;
        on_y = axis_keeps k.lo.y k.hi.y m.lo.y m.hi.y n.lo.y n.hi.y fk.ends_y.0 fk.ends_y.1 fm.ends_y.0 fm.ends_y.1 fn.ends_y.0 fn.ends_y.1 c.on_y;
        on_z = axis_keeps k.lo.z k.hi.z m.lo.z m.hi.z n.lo.z n.hi.z fk.ends_z.0 fk.ends_z.1 fm.ends_z.0 fm.ends_z.1 fn.ends_z.0 fn.ends_z.1 c.on_z;
      }

pub empty_fitting : Fitting empty_cover
unfolding axis_x axis_y axis_z empty_cover
empty_fitting = let f = inf-fits binary64 false in let t = inf-fits binary64 true in record { ends_x = (f, t); ends_y = (f, t); ends_z = (f, t) }

-- ---- a cover of a block of items
abbrev BoxFitting : Item → Type 0
BoxFitting i = Fitting (box_of_item i)

block_fitting : (k : Aabb) (l : List Item) → Fitting k → Each BoxFitting l → Fitting (foldl cover_item k l)
unfolding cover_item
block_fitting k [] f e = f
block_fitting k (i ∷ l) f e = block_fitting (cover_item k i) l (cover_fitting k (box_of_item i) f e.0) e.1

block_keeps : (k : Aabb) (l : List Item) → Fitting k → Each BoxFitting l → (n : Aabb) → Fitting n → Covers k n → Covers (foldl cover_item k l) n
unfolding cover_item
block_keeps k [] f e n fn c = c
block_keeps k (i ∷ l) f e n fn c = block_keeps (cover_item k i) l (cover_fitting k (box_of_item i) f e.0) e.1 n fn (cover_keeps k (box_of_item i) f e.0 n fn c)

block_covers : (k : Aabb) (l : List Item) → Fitting k → Each BoxFitting l → Each (λ (i : Item). Covers (foldl cover_item k l) (box_of_item i)) l
unfolding cover_item
block_covers k [] f e = tt
block_covers k (i ∷ l) f e =
    let g = cover_fitting k (box_of_item i) f e.0 in
    (block_keeps (cover_item k i) l g e.1 (box_of_item i) e.0 (cover_covers k (box_of_item i) f e.0), block_covers (cover_item k i) l g e.1)

pub items_fitting : (l : List Item) → Each (λ (i : Item). Fitting (box_of_item i)) l → Fitting (cover_of_items l)
unfolding cover_of_items
items_fitting l e = block_fitting empty_cover l empty_fitting e

pub items_covered : (l : List Item) → Each (λ (i : Item). Fitting (box_of_item i)) l → Each (λ (i : Item). Covers (cover_of_items l) (box_of_item i)) l
unfolding cover_of_items
items_covered l e = block_covers empty_cover l empty_fitting e

-- a block that is skipped against a cover of it is passed over: each of its items would be skipped
pub block_skipped : (a : Item) (K : Aabb) → Fitting (box_of_item a) → Fitting K → (l : List Item) → Each (λ (i : Item). Fitting (box_of_item i)) l → Each (λ (i : Item). Covers K (box_of_item i)) l
    → (s : Option Witness) → no_closer s (least_squared_gap (box_of_item a) K) ≡ true → with_each a s l ≡ s
unfolding with_each skipping
block_skipped a K fa fk [] e c s h = refl
block_skipped a K fa fk (b ∷ l) e c s h = rw (covered_skipped (box_of_item a) K (box_of_item b) fa fk e.0 c.0 s h) (block_skipped a K fa fk l e.1 c.1 s h)
