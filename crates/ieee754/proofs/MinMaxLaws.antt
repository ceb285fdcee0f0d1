-- Minimum and maximum bound their operands. Assumes nothing.
use mathlib.Core.Bool.{◌&&◌, Bool, true, false, not, cond}
use mathlib.Core.Path.{◌≡◌, refl, sym, subst}
use lib.Dec.{T}
use lib.Ieee.{Float, binary64, lt, le, is_nan, fits}
use lib.Ieee.Bits.{is_false}
use lib.Ieee.Fits.{cond-fits}
use Rattle.ieee754.specs.MinMax.{minimum_of, maximum_of}
use Rattle.ieee754.proofs.FloatOrder.{le_number_left, le_number_right, le_transitive, not_lt→le, lt→le, lt_number_right, lt_number_left}

pub below_maximum_left : (m a b : Float) → T (fits binary64 m) → T (fits binary64 a) → T (fits binary64 b) → T (le m a) → T (le m (maximum_of a b))
below_maximum_left m a b fm fa fb h = go (is_nan a) refl (lt a b) refl
  where
    go : (p : Bool) → is_nan a ≡ p → (q : Bool) → lt a b ≡ q → T (le m (cond p b (cond q b a)))
    go true e q k = absurd (subst (λ (t : Bool). T (not t)) e (le_number_right m a h))
    go false e true k = le_transitive m a b fm fa fb h (lt→le a b (le_number_right m a h) (lt_number_right a b k) fa fb k)
    go false e false k = h

pub below_maximum_right : (m a b : Float) → T (fits binary64 m) → T (fits binary64 a) → T (fits binary64 b) → T (le m b) → T (le m (maximum_of a b))
below_maximum_right m a b fm fa fb h = go (is_nan a) refl (lt a b) refl
  where
    go : (p : Bool) → is_nan a ≡ p → (q : Bool) → lt a b ≡ q → T (le m (cond p b (cond q b a)))
    go true e q k = h
    go false e true k = h
    go false e false k = le_transitive m b a fm fb fa h (not_lt→le a b (subst (λ (t : Bool). T (not t)) (sym e) tt) (le_number_right m b h) fa fb k)

pub maximum_below : (a b m : Float) → (T (not (is_nan a)) → T (le a m)) → (T (not (is_nan b)) → T (le b m)) → T (not (is_nan (maximum_of a b))) → T (le (maximum_of a b) m)
maximum_below a b m h k = go (is_nan a) refl (lt a b) refl
  where
    go : (p : Bool) → is_nan a ≡ p → (q : Bool) → lt a b ≡ q → T (not (is_nan (cond p b (cond q b a)))) → T (le (cond p b (cond q b a)) m)
    go true e q l n = k n
    go false e true l n = k n
    go false e false l n = h n

pub above_minimum_left : (m a b : Float) → T (fits binary64 m) → T (fits binary64 a) → T (fits binary64 b) → T (le a m) → T (le (minimum_of a b) m)
above_minimum_left m a b fm fa fb h = go (is_nan a) refl (lt b a) refl
  where
    go : (p : Bool) → is_nan a ≡ p → (q : Bool) → lt b a ≡ q → T (le (cond p b (cond q b a)) m)
    go true e q k = absurd (subst (λ (t : Bool). T (not t)) e (le_number_left a m h))
    go false e true k = le_transitive b a m fb fa fm (lt→le b a (lt_number_left b a k) (le_number_left a m h) fb fa k) h
    go false e false k = h

pub above_minimum_right : (m a b : Float) → T (fits binary64 m) → T (fits binary64 a) → T (fits binary64 b) → T (le b m) → T (le (minimum_of a b) m)
above_minimum_right m a b fm fa fb h = go (is_nan a) refl (lt b a) refl
  where
    go : (p : Bool) → is_nan a ≡ p → (q : Bool) → lt b a ≡ q → T (le (cond p b (cond q b a)) m)
    go true e q k = h
    go false e true k = h
    go false e false k = le_transitive a b m fa fb fm (not_lt→le b a (le_number_left b m h) (subst (λ (t : Bool). T (not t)) (sym e) tt) fb fa k) h

pub minimum_fits : (a b : Float) → T (fits binary64 a) → T (fits binary64 b) → T (fits binary64 (minimum_of a b))
minimum_fits a b f g = cond-fits binary64 (is_nan a) b (cond (lt b a) b a) g (cond-fits binary64 (lt b a) b a g f)

pub maximum_fits : (a b : Float) → T (fits binary64 a) → T (fits binary64 b) → T (fits binary64 (maximum_of a b))
maximum_fits a b f g = cond-fits binary64 (is_nan a) b (cond (lt a b) b a) g (cond-fits binary64 (lt a b) b a g f)

-- NaN exactly if both operands are
pub minimum_nan : (a b : Float) → is_nan (minimum_of a b) ≡ (is_nan a && is_nan b)
minimum_nan a b = go (is_nan a) refl (lt b a) refl
  where
    go : (p : Bool) → is_nan a ≡ p → (q : Bool) → lt b a ≡ q → is_nan (cond p b (cond q b a)) ≡ (p && is_nan b)
    go true e q k = refl
    go false e true k = is_false (is_nan b) (lt_number_left b a k)
    go false e false k = e

pub maximum_nan : (a b : Float) → is_nan (maximum_of a b) ≡ (is_nan a && is_nan b)
maximum_nan a b = go (is_nan a) refl (lt a b) refl
  where
    go : (p : Bool) → is_nan a ≡ p → (q : Bool) → lt a b ≡ q → is_nan (cond p b (cond q b a)) ≡ (p && is_nan b)
    go true e q k = refl
    go false e true k = is_false (is_nan b) (lt_number_right a b k)
    go false e false k = e
