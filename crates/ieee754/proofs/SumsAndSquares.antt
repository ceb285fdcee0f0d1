-- Sums and squares keep the order of numbers. Assumes nothing.
use mathlib.Core.Bool.{true, false, not}
use mathlib.Core.Path.{subst, sym, ◌≡◌, refl, ap, ◌∙◌}
use Prim.Native.Nat.{ℕ, zero, suc, ◌+◌, ◌*◌}
use native.Mathlib.Nat.{mul_comm, mul_assoc, mul_right_comm, mul-mul-mul_comm, add-mul, mul-le-mul, mul-le-mul_right, mul-pos}
use lib.Dec.{T}
use lib.Ieee.{is_nan, le, Float, nan, inf, fin, binary64, up, down, round, sum, add, mul, fits}
use lib.Ieee.Fits.{add-fits, mul-fits, down_pos}
use lib.Ieee.Order.{round_mono}
use lib.Ieee.Scale.{round_same}
use lib.IntN.{ℤ}
use lib.Pow.{pow_pos}
use Rattle.ieee754.specs.MinMax.{absolute_of}
use Rattle.ieee754.specs.Root.{units_of}
use Rattle.ieee754.proofs.Arithmetic.{add_le_add}
use Rattle.ieee754.proofs.FloatOrder.{le_number_left, le_number_right}
use Rattle.ieee754.proofs.FloatUnits.{units_exact}
use Rattle.ieee754.proofs.SignClear.{sign_clear, le→units, round_sign_clear, below_infinity, absolute_sign_clear, number_of_absolute}
use Rattle.ieee754.proofs.SquaredRoot.{D}

abbrev pub square_of : Float → Float
square_of x = mul binary64 x x

abbrev pub sum_of_3 : Float → Float → Float → Float
sum_of_3 x y z = add binary64 (add binary64 x y) z

-- ---- sums
pub sum_of_units : (m : ℕ) (e : ℤ) (n : ℕ) (d : ℤ) → T (fits binary64 (fin false m e)) → T (fits binary64 (fin false n d))
    → add binary64 (fin false m e) (fin false n d) ≡ round binary64 false (units_of (fin false m e) + units_of (fin false n d)) D
unfolding add sum
sum_of_units m e n d f g =
    round_same binary64 false (m * up e * down d + n * up d * down e) (down e * down d) (units_of (fin false m e) + units_of (fin false n d)) D (mul-pos (down_pos e) (down_pos d)) (pow_pos 1074)
    (go (m * up e) (n * up d) (down e) (down d) (units_of (fin false m e)) (units_of (fin false n d)) D (units_exact false m e f) (units_exact false n d g))
  where
    go : (a b p q w v u : ℕ) → a * u ≡ w * p → b * u ≡ v * q → (a * q + b * p) * u ≡ (w + v) * (p * q)
    go a b p q w v u e f =
        add-mul (a * q) (b * p) u
        ∙ ap (λ (z : ℕ). z + b * p * u) (mul_right_comm a q u ∙ ap (λ (z : ℕ). z * q) e ∙ mul_assoc w p q)
        ∙ ap (λ (z : ℕ). w * (p * q) + z) (mul_right_comm b p u ∙ ap (λ (z : ℕ). z * p) f ∙ mul_assoc v q p ∙ ap (λ (z : ℕ). v * z) (mul_comm q p))
        ∙ sym (add-mul w v (p * q))

-- of numbers with a clear sign: no NaN, and the sign is clear
pub sum_sign_clear : (x y : Float) → T (sign_clear x) → T (sign_clear y) → T (fits binary64 x) → T (fits binary64 y) → T (sign_clear (add binary64 x y))
sum_sign_clear (inf false) (inf false) c d f g = unfold add in tt
sum_sign_clear (inf false) (fin false n d) c k f g = unfold add in tt
sum_sign_clear (fin false m e) (inf false) c k f g = unfold add in tt
sum_sign_clear (fin false m e) (fin false n d) c k f g = subst (λ (z : Float). T (sign_clear z)) (sym (sum_of_units m e n d f g)) (round_sign_clear (units_of (fin false m e) + units_of (fin false n d)) D)
sum_sign_clear nan y c d f g = elim c [ ]
sum_sign_clear (inf false) nan c d f g = elim d [ ]
sum_sign_clear (inf false) (inf true) c d f g = elim d [ ]
sum_sign_clear (inf false) (fin true n d) c k f g = elim k [ ]
sum_sign_clear (inf true) y c d f g = elim c [ ]
sum_sign_clear (fin false m e) nan c k f g = elim k [ ]
sum_sign_clear (fin false m e) (inf true) c k f g = elim k [ ]
sum_sign_clear (fin false m e) (fin true n d) c k f g = elim k [ ]
sum_sign_clear (fin true m e) y c k f g = elim c [ ]

-- x ≤ x' and y ≤ y' give x + y ≤ x' + y'
pub sum_keeps_order : (x x' y y' : Float) → T (sign_clear x) → T (sign_clear x') → T (sign_clear y) → T (sign_clear y') → T (fits binary64 x) → T (fits binary64 x') → T (fits binary64 y) → T (fits binary64 y')
    → T (le x x') → T (le y y') → T (le (add binary64 x y) (add binary64 x' y'))
sum_keeps_order x (inf false) y (inf false) a b c d f f' g g' h k = unfold add in below_infinity (add binary64 x y) (sum_sign_clear x y a c f g)
sum_keeps_order x (inf false) y (fin false n d') a b c d f f' g g' h k = unfold add in below_infinity (add binary64 x y) (sum_sign_clear x y a c f g)
sum_keeps_order x (fin false m e) y (inf false) a b c d f f' g g' h k = unfold add in below_infinity (add binary64 x y) (sum_sign_clear x y a c f g)
sum_keeps_order (inf false) (fin false m e) y (fin false n d') a b c d f f' g g' h k = absurd (unfold le in h)
sum_keeps_order (fin false m₀ e₀) (fin false m e) (inf false) (fin false n d') a b c d f f' g g' h k = absurd (unfold le in k)
sum_keeps_order (fin false m₀ e₀) (fin false m e) (fin false n₀ d₀) (fin false n d') a b c d f f' g g' h k =
    let x = le→units (fin false m₀ e₀) (fin false m e) tt tt f f' h in
    let y = le→units (fin false n₀ d₀) (fin false n d') tt tt g g' k in
    subst (λ (z : Float). T (le z (add binary64 (fin false m e) (fin false n d')))) (sym (sum_of_units m₀ e₀ n₀ d₀ f g))
    (subst (λ (z : Float). T (le (round binary64 false (units_of (fin false m₀ e₀) + units_of (fin false n₀ d₀)) D) z)) (sym (sum_of_units m e n d' f' g'))
    (round_mono binary64 (units_of (fin false m₀ e₀) + units_of (fin false n₀ d₀)) D (units_of (fin false m e) + units_of (fin false n d')) D (pow_pos 1074) (pow_pos 1074) (mul-le-mul_right D (add_le_add (units_of (fin false m₀ e₀)) (units_of (fin false n₀ d₀)) (units_of (fin false m e)) (units_of (fin false n d')) x y))))
sum_keeps_order x nan y _ a b c d f f' g g' h k = elim b [ ]
sum_keeps_order x (inf false) y nan a b c d f f' g g' h k = elim d [ ]
sum_keeps_order x (inf false) y (inf true) a b c d f f' g g' h k = elim d [ ]
sum_keeps_order x (inf false) y (fin true n d') a b c d f f' g g' h k = elim d [ ]
sum_keeps_order x (inf true) y _ a b c d f f' g g' h k = elim b [ ]
sum_keeps_order x (fin false m e) y nan a b c d f f' g g' h k = elim d [ ]
sum_keeps_order x (fin false m e) y (inf true) a b c d f f' g g' h k = elim d [ ]
sum_keeps_order nan (fin false m e) y (fin _ n d') a b c d f f' g g' h k = elim a [ ]
sum_keeps_order (inf false) (fin false m e) y (fin true n d') a b c d f f' g g' h k = elim d [ ]
sum_keeps_order (inf true) (fin false m e) y (fin _ n d') a b c d f f' g g' h k = elim a [ ]
sum_keeps_order (fin false m₀ e₀) (fin false m e) nan (fin _ n d') a b c d f f' g g' h k = elim c [ ]
sum_keeps_order (fin false m₀ e₀) (fin false m e) (inf false) (fin true n d') a b c d f f' g g' h k = elim d [ ]
sum_keeps_order (fin false m₀ e₀) (fin false m e) (inf true) (fin _ n d') a b c d f f' g g' h k = elim c [ ]
sum_keeps_order (fin false m₀ e₀) (fin false m e) (fin false n₀ d₀) (fin true n d') a b c d f f' g g' h k = elim d [ ]
sum_keeps_order (fin false m₀ e₀) (fin false m e) (fin true n₀ d₀) (fin _ n d') a b c d f f' g g' h k = elim c [ ]
sum_keeps_order (fin true m₀ e₀) (fin false m e) y (fin _ n d') a b c d f f' g g' h k = elim a [ ]
sum_keeps_order x (fin true m e) y _ a b c d f f' g g' h k = elim b [ ]

-- ---- products with a clear sign, where no zero meets an infinity
pub product_of_units : (m : ℕ) (e : ℤ) (n : ℕ) (d : ℤ) → T (fits binary64 (fin false m e)) → T (fits binary64 (fin false n d))
    → mul binary64 (fin false m e) (fin false n d) ≡ round binary64 false (units_of (fin false m e) * units_of (fin false n d)) (D * D)
unfolding mul
product_of_units m e n d f g =
    round_same binary64 false (m * up e * (n * up d)) (down e * down d) (units_of (fin false m e) * units_of (fin false n d)) (D * D) (mul-pos (down_pos e) (down_pos d)) (mul-pos (pow_pos 1074) (pow_pos 1074))
    (mul-mul-mul_comm (m * up e) (n * up d) D D ∙ ap (λ (z : ℕ). z * (n * up d * D)) (units_exact false m e f) ∙ ap (λ (z : ℕ). units_of (fin false m e) * down e * z) (units_exact false n d g) ∙ mul-mul-mul_comm (units_of (fin false m e)) (down e) (units_of (fin false n d)) (down d))

pub square_sign_clear_positive : (x : Float) → T (sign_clear x) → T (fits binary64 x) → T (sign_clear (mul binary64 x x))
square_sign_clear_positive (inf false) c f = unfold mul in tt
square_sign_clear_positive (fin false m e) c f = subst (λ (z : Float). T (sign_clear z)) (sym (product_of_units m e m e f f)) (round_sign_clear (units_of (fin false m e) * units_of (fin false m e)) (D * D))
square_sign_clear_positive nan c f = elim c [ ]
square_sign_clear_positive (inf true) c f = elim c [ ]
square_sign_clear_positive (fin true m e) c f = elim c [ ]

pub square_keeps_order_positive : (x y : Float) → T (sign_clear x) → T (sign_clear y) → T (fits binary64 x) → T (fits binary64 y) → T (le x y) → T (le (mul binary64 x x) (mul binary64 y y))
square_keeps_order_positive x (inf false) c d f g h = unfold mul in below_infinity (mul binary64 x x) (square_sign_clear_positive x c f)
square_keeps_order_positive (inf false) (fin false n d) c k f g h = absurd (unfold le in h)
square_keeps_order_positive (fin false m e) (fin false n d) c k f g h =
    let w = le→units (fin false m e) (fin false n d) tt tt f g h in
    subst (λ (z : Float). T (le z (mul binary64 (fin false n d) (fin false n d)))) (sym (product_of_units m e m e f f))
    (subst (λ (z : Float). T (le (round binary64 false (units_of (fin false m e) * units_of (fin false m e)) (D * D)) z)) (sym (product_of_units n d n d g g))
    (round_mono binary64 (units_of (fin false m e) * units_of (fin false m e)) (D * D) (units_of (fin false n d) * units_of (fin false n d)) (D * D) (mul-pos (pow_pos 1074) (pow_pos 1074)) (mul-pos (pow_pos 1074) (pow_pos 1074)) (mul-le-mul_right (D * D) (mul-le-mul w w))))
square_keeps_order_positive x nan c d f g h = elim d [ ]
square_keeps_order_positive x (inf true) c d f g h = elim d [ ]
square_keeps_order_positive nan (fin _ n d) c k f g h = elim c [ ]
square_keeps_order_positive (inf false) (fin true n d) c k f g h = elim k [ ]
square_keeps_order_positive (inf true) (fin _ n d) c k f g h = elim c [ ]
square_keeps_order_positive (fin false m e) (fin true n d) c k f g h = elim k [ ]
square_keeps_order_positive (fin true m e) (fin _ n d) c k f g h = elim c [ ]

-- x² = |x|²
pub square_of_absolute : (x : Float) → mul binary64 x x ≡ mul binary64 (absolute_of x) (absolute_of x)
unfolding mul
square_of_absolute nan = refl
square_of_absolute (inf true) = refl
square_of_absolute (inf false) = refl
square_of_absolute (fin true m e) = refl
square_of_absolute (fin false m e) = refl

pub absolute_fits : (x : Float) → T (fits binary64 x) → T (fits binary64 (absolute_of x))
unfolding fits
absolute_fits nan f = tt
absolute_fits (inf s) f = tt
absolute_fits (fin s zero e) f = f
absolute_fits (fin s (suc m) e) f = f

-- a sum that is a number has numbers for its terms
pub sum_number : (x y : Float) → T (not (is_nan (add binary64 x y))) → T (not (is_nan x)) × T (not (is_nan y))
unfolding add is_nan
sum_number nan y n = absurd n
sum_number (inf s) nan n = absurd n
sum_number (inf s) (inf t) n = (tt, tt)
sum_number (inf s) (fin t m e) n = (tt, tt)
sum_number (fin s m e) nan n = absurd n
sum_number (fin s m e) (inf t) n = (tt, tt)
sum_number (fin s m e) (fin t k d) n = (tt, tt)

-- and so has a square that is a number
pub square_number : (x : Float) → T (not (is_nan (square_of x))) → T (not (is_nan x))
unfolding mul is_nan
square_number nan n = absurd n
square_number (inf s) n = tt
square_number (fin s m e) n = tt

-- a square is no NaN, and its sign is clear
pub square_sign_clear : (x : Float) → T (fits binary64 x) → T (not (is_nan x)) → T (sign_clear (square_of x))
square_sign_clear x f n = subst (λ (z : Float). T (sign_clear z)) (sym (square_of_absolute x)) (square_sign_clear_positive (absolute_of x) (absolute_sign_clear x n) (absolute_fits x f))

-- |u| ≤ |v| gives u² ≤ v²
pub square_keeps_order : (u v : Float) → T (fits binary64 u) → T (fits binary64 v) → T (le (absolute_of u) (absolute_of v)) → T (le (square_of u) (square_of v))
square_keeps_order u v f g h =
    let a = absolute_of u in
    let b = absolute_of v in
    let c = absolute_sign_clear u (number_of_absolute u (le_number_left a b h)) in
    let d = absolute_sign_clear v (number_of_absolute v (le_number_right a b h)) in
    subst (λ (z : Float). T (le z (square_of v))) (sym (square_of_absolute u))
    (subst (λ (z : Float). T (le (square_of a) z)) (sym (square_of_absolute v)) (square_keeps_order_positive a b c d (absolute_fits u f) (absolute_fits v g) h))

-- ---- three squares, summed from left to right
abbrev pub sum_of_squares : Float → Float → Float → Float
sum_of_squares x y z = sum_of_3 (square_of x) (square_of y) (square_of z)

pub sum_of_squares_fits : (x y z : Float) → T (fits binary64 (sum_of_squares x y z))
sum_of_squares_fits x y z = add-fits binary64 (add binary64 (square_of x) (square_of y)) (square_of z)

pub sum_of_squares_numbers : (x y z : Float) → T (not (is_nan (sum_of_squares x y z))) → T (not (is_nan x)) × T (not (is_nan y)) × T (not (is_nan z))
sum_of_squares_numbers x y z n =
    let a = sum_number (add binary64 (square_of x) (square_of y)) (square_of z) n in
    let b = sum_number (square_of x) (square_of y) a.0 in
    (square_number x b.0, square_number y b.1, square_number z a.1)

pub sum_of_squares_sign_clear : (x y z : Float) → T (fits binary64 x) → T (fits binary64 y) → T (fits binary64 z) → T (not (is_nan x)) → T (not (is_nan y)) → T (not (is_nan z)) → T (sign_clear (sum_of_squares x y z))
sum_of_squares_sign_clear x y z f g h p q r =
    sum_sign_clear (add binary64 (square_of x) (square_of y)) (square_of z) (sum_sign_clear (square_of x) (square_of y) (square_sign_clear x f p) (square_sign_clear y g q) (mul-fits binary64 x x) (mul-fits binary64 y y))
    (square_sign_clear z h r) (add-fits binary64 (square_of x) (square_of y)) (mul-fits binary64 z z)

module _ (x y z x' y' z' : Float) (fx : T (fits binary64 x)) (fy : T (fits binary64 y)) (fz : T (fits binary64 z)) (fx' : T (fits binary64 x')) (fy' : T (fits binary64 y')) (fz' : T (fits binary64 z'))
    (hx : T (le (absolute_of x) (absolute_of x'))) (hy : T (le (absolute_of y) (absolute_of y'))) (hz : T (le (absolute_of z) (absolute_of z'))) where
  pub lesser_sum_sign_clear : T (sign_clear (sum_of_squares x y z))
  lesser_sum_sign_clear =
      sum_of_squares_sign_clear x y z fx fy fz (number_of_absolute x (le_number_left (absolute_of x) (absolute_of x') hx)) (number_of_absolute y (le_number_left (absolute_of y) (absolute_of y') hy)) (number_of_absolute z (le_number_left (absolute_of z) (absolute_of z') hz))

  pub greater_sum_sign_clear : T (sign_clear (sum_of_squares x' y' z'))
  greater_sum_sign_clear =
      sum_of_squares_sign_clear x' y' z' fx' fy' fz' (number_of_absolute x' (le_number_right (absolute_of x) (absolute_of x') hx)) (number_of_absolute y' (le_number_right (absolute_of y) (absolute_of y') hy)) (number_of_absolute z' (le_number_right (absolute_of z) (absolute_of z') hz))

  -- axis by axis no greater: the sum of squares is no greater
  pub sum_of_squares_keeps_order : T (le (sum_of_squares x y z) (sum_of_squares x' y' z'))
  sum_of_squares_keeps_order =
      sum_keeps_order (add binary64 (square_of x) (square_of y)) (add binary64 (square_of x') (square_of y')) (square_of z) (square_of z') (two x y fx fy nx ny) (two x' y' fx' fy' nx' ny') (square_sign_clear z fz nz) (square_sign_clear z' fz' nz')
      (add-fits binary64 (square_of x) (square_of y)) (add-fits binary64 (square_of x') (square_of y')) (mul-fits binary64 z z) (mul-fits binary64 z' z')
      (sum_keeps_order (square_of x) (square_of x') (square_of y) (square_of y') (square_sign_clear x fx nx) (square_sign_clear x' fx' nx') (square_sign_clear y fy ny) (square_sign_clear y' fy' ny')
      (mul-fits binary64 x x) (mul-fits binary64 x' x') (mul-fits binary64 y y) (mul-fits binary64 y' y') (square_keeps_order x x' fx fx' hx) (square_keeps_order y y' fy fy' hy))
      (square_keeps_order z z' fz fz' hz)
    where
      two : (u v : Float) → T (fits binary64 u) → T (fits binary64 v) → T (not (is_nan u)) → T (not (is_nan v)) → T (sign_clear (add binary64 (square_of u) (square_of v)))
      two u v f g p q = sum_sign_clear (square_of u) (square_of v) (square_sign_clear u f p) (square_sign_clear v g q) (mul-fits binary64 u u) (mul-fits binary64 v v)

      nx : T (not (is_nan x))
      nx = number_of_absolute x (le_number_left (absolute_of x) (absolute_of x') hx)

      ny : T (not (is_nan y))
      ny = number_of_absolute y (le_number_left (absolute_of y) (absolute_of y') hy)

      nz : T (not (is_nan z))
      nz = number_of_absolute z (le_number_left (absolute_of z) (absolute_of z') hz)

      nx' : T (not (is_nan x'))
      nx' = number_of_absolute x' (le_number_right (absolute_of x) (absolute_of x') hx)

      ny' : T (not (is_nan y'))
      ny' = number_of_absolute y' (le_number_right (absolute_of y) (absolute_of y') hy)

      nz' : T (not (is_nan z'))
      nz' = number_of_absolute z' (le_number_right (absolute_of z) (absolute_of z') hz)
