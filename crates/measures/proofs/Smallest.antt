-- The smallest of some witnesses: offered at once, or one by one. Assumes nothing.
use mathlib.Core.Path.{◌≡◌, refl, ap, ◌∙◌}
use mathlib.Core.Bool.{Bool, true, false, cond}
use mathlib.Core.List.{List, [], ◌∷◌, foldl}
use Rattle.std.specs.Prelude.{None, Some}
use Rattle.std.specs.declared.option.Option.{Option}
use lib.Dec.{T}
use lib.Ieee.{Float, binary64, lt, fits}
use Rattle.ieee754.proofs.FloatOrder.{lt_number_left, lt_number_right, lt_transitive, le_transitive, not_lt→le, le→not_lt}
use Rattle.primitives.specs.declared.Witness.{Witness}
use Rattle.primitives.specs.Witnesses.{smaller_of}
use Rattle.extremes.specs.Sweeps.{shorter, taking}
use Rattle.extremes.proofs.Lists.{Each}
use Rattle.extremes.proofs.Senses.{Number}
use Rattle.extremes.specs.BestSoFar.{BestFits}

-- what is not less than a number is not less than what that number is not less than
not_less_through : (x m y : Float) → T (fits binary64 x) → Number m → T (fits binary64 y) → lt y m ≡ false → lt m x ≡ false → lt y x ≡ false
not_less_through x m y f n g h k = go (lt y x) refl
  where
    go : (b : Bool) → lt y x ≡ b → lt y x ≡ false
    go false e = e
    go true e =
        le→not_lt y x g f
        (le_transitive x m y f n.fit g (not_lt→le m x n.real (lt_number_right y x e) n.fit f k)
        (not_lt→le y m (lt_number_left y x e) n.real g n.fit h))

-- the smaller of two, offered, is the first offered and then the second, where the first is no NaN
smaller_offered : (s : Option Witness) (m w : Witness) → BestFits s → Number m.d → T (fits binary64 w.d) → taking shorter s (smaller_of m w) ≡ taking shorter (taking shorter s m) w
unfolding taking smaller_of
smaller_offered None m w f n g = refl
smaller_offered (Some best) m w f n g = go (lt w.d m.d) (lt m.d best.d) refl refl
  where
    go : (a b : Bool) → lt w.d m.d ≡ a → lt m.d best.d ≡ b → taking shorter (Some best) (cond a w m) ≡ taking shorter (Some (cond b m best)) w
    go true true h k = rw (h, lt_transitive w.d m.d best.d g n.fit f h k)
    go true false h k = refl
    go false true h k = rw (h, k)
    go false false h k = rw (k, not_less_through best.d m.d w.d f n g h k)

smaller_number : (m w : Witness) → Number m.d → T (fits binary64 w.d) → Number (smaller_of m w).d
unfolding smaller_of
smaller_number m w n g = go (lt w.d m.d) refl
  where
    go : (b : Bool) → lt w.d m.d ≡ b → Number (cond b w m).d
    go true h = record { fit = g; real = lt_number_left w.d m.d h }
    go false h = n

-- the distance is a value of binary64
abbrev pub Fitting : Witness → Type 0
Fitting w = T (fits binary64 w.d)

-- the smallest of many, offered, is each offered in turn, where the first is no NaN
pub smallest_offered : (s : Option Witness) (m : Witness) (ws : List Witness) → BestFits s → Number m.d → Each Fitting ws → taking shorter s (foldl smaller_of m ws) ≡ foldl (taking shorter) (taking shorter s m) ws
smallest_offered s m [] f n e = refl
smallest_offered s m (w ∷ ws) f n e =
    smallest_offered s (smaller_of m w) ws f (smaller_number m w n e.0) e.1
    ∙ ap (λ (t : Option Witness). foldl (taking shorter) t ws) (smaller_offered s m w f n e.0)

-- a witness that None is less than is the smallest
pub not_less_stays : (m w : Witness) → lt w.d m.d ≡ false → smaller_of m w ≡ m
unfolding smaller_of
not_less_stays m w h = ap (λ (b : Bool). cond b w m) h

pub smallest_first : (m : Witness) (ws : List Witness) → Each (λ (w : Witness). lt w.d m.d ≡ false) ws → foldl smaller_of m ws ≡ m
smallest_first m [] e = refl
smallest_first m (w ∷ ws) e = ap (λ (t : Witness). foldl smaller_of t ws) (not_less_stays m w e.0) ∙ smallest_first m ws e.1
