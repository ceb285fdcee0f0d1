-- Longest and shortest: what the order of floats must have for strict comparison to find the first extreme. Assumes nothing.
use mathlib.Core.Path.{◌≡◌, refl, sym, ◌∙◌}
use mathlib.Core.Bool.{Bool, true, false, not, true≢false}
use lib.Dec.{T}
use lib.Ieee.{Float, binary64, lt, is_nan, fits}
use Rattle.ieee754.proofs.FloatOrder.{le_transitive, not_lt→le, lt→le, le→not_lt, lt_number_left, lt_number_right}
use Rattle.extremes.specs.Extreme.{at_most, at_least}
use Rattle.extremes.specs.Sweeps.{longer, shorter}

-- a float of the format that is no NaN
pub record Number (x : Float) : Type 0 where
  pub fit : T (fits binary64 x)
  pub real : T (not (is_nan x))

pub record Sense (order beats : Float → Float → Bool) : Type 0 where
  -- only a number beats, and only a number is beaten
  pub winner : (x y : Float) → beats x y ≡ true → T (not (is_nan y))
  pub loser : (x y : Float) → beats x y ≡ true → T (not (is_nan x))
  pub gain : (x y : Float) → Number x → Number y → beats x y ≡ true → T (order x y)
  pub stay : (x y : Float) → Number x → Number y → beats x y ≡ false → T (order y x)
  pub strict : (x y : Float) → Number x → Number y → beats x y ≡ true → T (order y x) → ⊥
  pub chain : (x y z : Float) → Number x → Number y → Number z → T (order x y) → T (order y z) → T (order x z)

clash : (b : Bool) → b ≡ true → b ≡ false → ⊥
clash b p q = true≢false (sym p ∙ q)

pub longest : Sense at_most longer
longest =
    record {
      winner = lt_number_right;
      loser = lt_number_left;
      gain = λ x y p q h. lt→le x y p.real q.real p.fit q.fit h;
      stay = λ x y p q h. not_lt→le x y p.real q.real p.fit q.fit h;
      strict = λ x y p q h l. clash (lt x y) h (le→not_lt x y p.fit q.fit l);
      chain = λ x y z p q r h k. le_transitive x y z p.fit q.fit r.fit h k;
    }

pub shortest : Sense at_least shorter
shortest =
    record {
      winner = λ x y h. lt_number_left y x h;
      loser = λ x y h. lt_number_right y x h;
      gain = λ x y p q h. lt→le y x q.real p.real q.fit p.fit h;
      stay = λ x y p q h. not_lt→le y x q.real p.real q.fit p.fit h;
      strict = λ x y p q h l. clash (lt y x) h (le→not_lt y x q.fit p.fit l);
      chain = λ x y z p q r h k. le_transitive z y x r.fit q.fit p.fit k h;
    }

-- ---- what follows for either sense, where every float is of the format
module _ {order beats : Float → Float → Bool} (σ : Sense order beats) where
  -- a number stands in the order to itself
  pub order_self : (x : Float) → Number x → T (order x x)
  order_self x n = go (beats x x) refl
    where
      go : (b : Bool) → beats x x ≡ b → T (order x x)
      go true h = σ.gain x x n n h
      go false h = σ.stay x x n n h

  -- none beats itself
  pub not_itself : (x : Float) → T (fits binary64 x) → beats x x ≡ false
  not_itself x f = go (beats x x) refl
    where
      go : (b : Bool) → beats x x ≡ b → beats x x ≡ false
      go true h = let n : Number x = record { fit = f; real = σ.winner x x h } in absurd (σ.strict x x n n h (order_self x n))
      go false h = h

  -- what beats x is beaten by whatever stands above it
  pub beats_up : (x y z : Float) → Number x → Number y → Number z → beats x y ≡ true → T (order y z) → beats x z ≡ true
  beats_up x y z a b c h k = go (beats x z) refl
    where
      go : (t : Bool) → beats x z ≡ t → beats x z ≡ true
      go true e = e
      go false e = absurd (σ.strict x y a b h (σ.chain y z x b c a k (σ.stay x z a c e)))

  pub beats_down : (x y z : Float) → Number x → Number y → Number z → T (order x y) → beats y z ≡ true → beats x z ≡ true
  beats_down x y z a b c h k = go (beats x z) refl
    where
      go : (t : Bool) → beats x z ≡ t → beats x z ≡ true
      go true e = e
      go false e = absurd (σ.strict y z b c k (σ.chain z x y c a b (σ.stay x z a c e) h))

  -- what does not beat x does not beat what beats x; NaN or not
  pub still_beaten : (x y z : Float) → T (fits binary64 x) → T (fits binary64 y) → T (fits binary64 z) → beats x y ≡ true → beats x z ≡ false → beats y z ≡ false
  still_beaten x y z fx fy fz h k = go (beats y z) refl
    where
      go : (t : Bool) → beats y z ≡ t → beats y z ≡ false
      go false e = e
      go true e =
          let a : Number x = record { fit = fx; real = σ.loser x y h } in
          let b : Number y = record { fit = fy; real = σ.winner x y h } in
          let c : Number z = record { fit = fz; real = σ.winner y z e } in
          absurd (clash (beats x z) (beats_up x y z a b c h (σ.gain y z b c e)) k)
