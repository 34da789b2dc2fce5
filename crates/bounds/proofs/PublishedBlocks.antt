-- The published forms of the helpers beside document 01's, at what a block is handed. `max` and `min` stand for any that Rust allows. Assumes nothing.
use Rattle.std.proofs.Common.{◌≡◌, ℕ, ◌*◌, ◌/◌, ◌<◌, ◌≤◌, Bool, true, false, cond, not, ◌&&◌, ◌||◌, T, ◌⊎◌, ℤ, pos, sym, refl, ap, ◌∙◌, subst, inl, inr, ⊎_elim, Option, Some, None, div-mul-le_self, zero-lt-suc, true≢false, arith, lit≤, eqb, ltb, leb, leb→le, ltb→lt}
use mathlib.Core.Bool.{and-false}
use native.Mathlib.Nat.{le_trans as le_trans_nat}
use lib.Dec.{not_T}
use Rattle.std.proofs.lemmas.Bool.{cond_both}
use lib.Ieee.{Float, fin, binary64, low, round, lt, eq, le, is_nan, fits}
use lib.Ieee.Fits.{and_l, and_r, add-fits, mul-fits}
use Rattle.std.proofs.lemmas.Float.{le_refl, lt_irrefl, lt_trans, lt_of_lt_of_le, le_of_not-lt, le_left, le_right, le_trans, le_of_lt, le_of_eq, eq_flip, eq_trans}
use Rattle.f64_helpers.specs.F64.{◌⊕◌, ◌⊖◌, ◌⊗◌, ◌⊘◌, decimal, zero as zeroᶠ}
use Rattle.f64_helpers.specs.Helpers as Today
use Rattle.f64_helpers.specs.Helpers.{floor, negative, both_zero}
use Rattle.f64_helpers.specs.Ranges.{NotMinusZero, Finite}
use Rattle.f64_helpers.specs.Seconds.{Whole, IsTime, seconds}
use Rattle.f64_helpers.proofs.Order.{le_numbers, lt_is_not_le}
use Rattle.f64_helpers.proofs.WholeSeconds.{eq_whole, zero_whole}
use Rattle.f64_helpers.proofs.Times.{decimal_whole}
use Rattle.cdl_recurrences.specs.CdlRecurrences.{clamp, hysteresis, sample_index, sample_due, sampler_output, initial_sample_time, true_delay_output, buildings_line}
use Rattle.cdl_recurrences.proofs.SampleGrid.{initial_sample_time_whole}
use Rattle.cooling_only_controller_timing.specs.Timing.{sampler_sample, unit_delay_sample, true_delay, step_seconds}
use Rattle.cooling_only_controller_timing.specs.declared.SamplerState.{SamplerState}
use Rattle.cooling_only_controller_timing.specs.declared.UnitDelayState.{UnitDelayState}
use Rattle.cooling_only_controller_timing.specs.declared.TrueDelayState.{TrueDelayState}
use Rattle.bounds.specs.PublishedHelpers.{published, published_clamp, published_hysteresis, published_sample_index, RustMax, RustMin}
use Rattle.bounds.specs.PublishedController.{buildings_line_over, true_delay_output_over, sample_due_over, sampler_output_over, sampler_sample_over, unit_delay_sample_over, true_delay_over, step_seconds_over}
use Rattle.f64_helpers.proofs.Tests.{yes}
use Rattle.f64_helpers.proofs.EqualNumbers.{equal_of_le, equal_to_itself, zeros_equal, zero_not_nan, zeros_alike, zeros_not_below, plain_zero, sign_hidden, sum_same}
use lib.Ieee.Bits.{is_true, is_false}
use Rattle.f64_helpers.proofs.Intervals.{finite_number}
use Rattle.f64_helpers.proofs.SignedZeros.{sum_not_minus_zero, difference_not_minus_zero}
use Rattle.bounds.proofs.PublishedSampleIndex.{sample_index_same}

-- a `max` and a `min` that Rust allows
pub record Rust : Type 0 where
  pub max : Float → Float → Float
  pub min : Float → Float → Float
  pub max_is : RustMax max
  pub min_is : RustMin min

-- an f64 that is not -0.0, as an integrator or a flow
pub record NotMinusZeroF64 (x : Float) : Type 0 where
  pub is_f64 : T (fits binary64 x)
  pub not_minus_zero : NotMinusZero x

-- ---- `hysteresis`, where u is a number and the low end is not above the high end
pub hysteresis_same : (u low high : Float) (previous : Bool) → Finite u → T (le low high) → published_hysteresis u low high previous ≡ hysteresis u low high previous
unfolding published_hysteresis hysteresis
hysteresis_same u low high previous f h =
    rw (lt_is_not_le u low (finite_number u f) (le_numbers low high h).0) (go (lt high u) (le low u) previous (λ a. le_trans low high u h (le_of_lt high u a)))
  where
    go : (above at_least previous : Bool) → (T above → T at_least) → cond above true (cond (not at_least) false previous) ≡ ((not previous && above) || (previous && at_least))
    go true true true f = refl
    go true true false f = refl
    go true false previous f = absurd (f tt)
    go false true true f = refl
    go false true false f = refl
    go false false true f = refl
    go false false false f = refl

-- ---- document 01's `max` and `min` are among those that Rust allows
-- each of two zeros is one
both_l : (x y : Float) → both_zero x y ≡ true → T (eq x zeroᶠ)
both_l x y e = and_l (eq x zeroᶠ) (eq y zeroᶠ) (yes e)

both_r : (x y : Float) → both_zero x y ≡ true → T (eq y zeroᶠ)
both_r x y e = and_r (eq x zeroᶠ) (eq y zeroᶠ) (yes e)

-- the sign that `max` gives of two zeros is that of one of them, and so for `min`
one_sign : (s t : Bool) → (fin (s && t) 0 (pos 0) ≡ fin s 0 (pos 0)) ⊎ (fin (s && t) 0 (pos 0) ≡ fin t 0 (pos 0))
one_sign true t = inr refl
one_sign false t = inl refl

either_sign : (s t : Bool) → (fin (s || t) 0 (pos 0) ≡ fin s 0 (pos 0)) ⊎ (fin (s || t) 0 (pos 0) ≡ fin t 0 (pos 0))
either_sign true t = inl refl
either_sign false t = inr refl

max_of_zeros : (x y : Float) → both_zero x y ≡ true → Today.max x y ≡ fin (negative x && negative y) 0 (pos 0)
unfolding Today.max
max_of_zeros x y e = rw (zero_not_nan x (both_l x y e), zeros_not_below x y (both_l x y e) (both_r x y e), e)

min_of_zeros : (x y : Float) → both_zero x y ≡ true → Today.min x y ≡ fin (negative x || negative y) 0 (pos 0)
unfolding Today.min
min_of_zeros x y e = rw (zero_not_nan x (both_l x y e), zeros_not_below y x (both_r x y e) (both_l x y e), e)

pub todays_max : RustMax Today.max
todays_max = record { off_zeros = λ x y e. refl; of_zeros = λ x y e. rw (max_of_zeros x y e) (one_sign (negative x) (negative y)) }

pub todays_min : RustMin Today.min
todays_min = record { off_zeros = λ x y e. refl; of_zeros = λ x y e. rw (min_of_zeros x y e) (either_sign (negative x) (negative y)) }

-- ---- the one that is picked of two numbers, by a comparison: off zeros it is that one, and of zeros it is equal to it
-- what holds of a zero of either sign holds of one of two zeros
one_zero : {z : Float} {s t : Bool} (P : Float → Type 0) → ((r : Bool) → P (fin r 0 (pos 0))) → (z ≡ fin s 0 (pos 0)) ⊎ (z ≡ fin t 0 (pos 0)) → P z
one_zero {z} {s} {t} P f c = ⊎_elim (λ e. subst P (sym e) (f s)) (λ e. subst P (sym e) (f t)) c

is_zero : {z : Float} {s t : Bool} → (z ≡ fin s 0 (pos 0)) ⊎ (z ≡ fin t 0 (pos 0)) → T (eq z zeroᶠ)
is_zero c = one_zero (λ z. T (eq z zeroᶠ)) zeros_equal c

picked : (z x y : Float) (second : Bool) → T (not (is_nan x)) → T (not (is_nan y)) → (both_zero x y ≡ false → z ≡ cond second y x)
    → (both_zero x y ≡ true → (z ≡ fin (negative x) 0 (pos 0)) ⊎ (z ≡ fin (negative y) 0 (pos 0))) → T (eq z (cond second y x))
picked z x y second n m off zeros = go (both_zero x y) refl
  where
    one : Float
    one = cond second y x

    number : T (not (is_nan one))
    number = cond_both second y x (λ (v : Float). T (not (is_nan v))) (λ e. m) (λ e. n)

    go : (b : Bool) → both_zero x y ≡ b → T (eq z one)
    go true e = zeros_alike z one (is_zero (zeros e)) (cond_both second y x (λ (v : Float). T (eq v zeroᶠ)) (λ p. both_r x y e) (λ p. both_l x y e))
    go false e = subst (λ (v : Float). T (eq v one)) (sym (off e)) (equal_to_itself one number)

module _ (max : Float → Float → Float) (rust : RustMax max) (x y : Float) (n : T (not (is_nan x))) where
  larger : both_zero x y ≡ false → max x y ≡ cond (lt x y) y x
  unfolding Today.max
  larger e = rust.off_zeros x y e ∙ rw (is_false (is_nan x) n, e) refl

  larger_equal : T (not (is_nan y)) → T (eq (max x y) (cond (lt x y) y x))
  larger_equal m = picked (max x y) x y (lt x y) n m larger (rust.of_zeros x y)

module _ (min : Float → Float → Float) (rust : RustMin min) (x y : Float) (n : T (not (is_nan x))) where
  smaller : both_zero x y ≡ false → min x y ≡ cond (lt y x) y x
  unfolding Today.min
  smaller e = rust.off_zeros x y e ∙ rw (is_false (is_nan x) n, e) refl

  smaller_equal : T (not (is_nan y)) → T (eq (min x y) (cond (lt y x) y x))
  smaller_equal m = picked (min x y) x y (lt y x) n m smaller (rust.of_zeros x y)

-- ---- `clamp`
-- the value or, where it lies above, the high end
abbrev limited : Float → Float → Float
limited value high = cond (lt high value) high value

limited_le : (value high : Float) → T (not (is_nan value)) → T (le (limited value high) value)
limited_le value high n = cond_both (lt high value) high value (λ x. T (le x value)) (λ e. le_of_lt high value (yes e)) (λ e. le_refl value n)

limited_ge : (value low high : Float) → T (le low high) → T (le low value) → T (le low (limited value high))
limited_ge value low high h k = cond_both (lt high value) high value (λ x. T (le low x)) (λ e. h) (λ e. k)

-- the larger of the low end and the smaller of the value and the high end is the value, limited
clamp_numbers : (value low high m c : Float) → T (not (is_nan value)) → T (le low high) → T (eq m (limited value high)) → T (eq c (cond (lt low m) m low))
    → T (eq c (cond (lt value low) low (limited value high)))
clamp_numbers value low high m c n h p q =
    eq_trans c (cond (lt low m) m low) (cond (lt value low) low (limited value high)) q
    (go (lt low m) (lt value low) (λ k. k) (λ k. k) (le_of_not-lt low m low_number (le_left m (limited value high) m_le)) (le_of_not-lt value low n low_number))
  where
    low_number : T (not (is_nan low))
    low_number = le_left low high h

    m_le : T (le m (limited value high))
    m_le = le_of_eq m (limited value high) p

    m_ge : T (le (limited value high) m)
    m_ge = le_of_eq (limited value high) m (eq_flip m (limited value high) p)

    go : (a b : Bool) → (T a → T (lt low m)) → (T b → T (lt value low)) → (T (not a) → T (le m low)) → (T (not b) → T (le low value))
        → T (eq (cond a m low) (cond b low (limited value high)))
    go true true f g k l = absurd (lt_irrefl low (lt_trans low value low (lt_of_lt_of_le low m value (f tt) (le_trans m (limited value high) value m_le (limited_le value high n))) (g tt)))
    go true false f g k l = p
    go false true f g k l = equal_to_itself low low_number
    go false false f g k l = equal_of_le low (limited value high) (limited_ge value low high h (l tt)) (le_trans (limited value high) m low m_ge (k tt))

one_no_zero : (x : Float) → both_zero x (decimal 1 1) ≡ false
unfolding round eq
one_no_zero x = and-false (eq x zeroᶠ)

zero_below_one : T (lt zeroᶠ (decimal 1 1))
unfolding round lt
zero_below_one = tt

zero_number : T (not (is_nan zeroᶠ))
unfolding is_nan
zero_number = tt

zero_beside : (x : Float) → both_zero zeroᶠ x ≡ eq x zeroᶠ
unfolding eq
zero_beside x = refl

-- of two zeros of one sign there is no choice
zero_and_zero : (max : Float → Float → Float) → RustMax max → max zeroᶠ zeroᶠ ≡ cond (lt zeroᶠ zeroᶠ) zeroᶠ zeroᶠ
unfolding eq lt
zero_and_zero max rust = ⊎_elim (λ e. e) (λ e. e) (rust.of_zeros zeroᶠ zeroᶠ refl)

-- of a number that is no zero
one_below : (x : Float) → T (not (is_nan x)) → (T (eq x zeroᶠ) → ⊥) → cond (lt zeroᶠ x) x zeroᶠ ≡ cond (lt x zeroᶠ) zeroᶠ x
one_below x n z = go (lt zeroᶠ x) (lt x zeroᶠ) (λ k. k) (λ k. k) (le_of_not-lt zeroᶠ x zero_number n) (le_of_not-lt x zeroᶠ n zero_number)
  where
    go : (a b : Bool) → (T a → T (lt zeroᶠ x)) → (T b → T (lt x zeroᶠ)) → (T (not a) → T (le x zeroᶠ)) → (T (not b) → T (le zeroᶠ x)) → cond a x zeroᶠ ≡ cond b zeroᶠ x
    go true true f g k l = absurd (lt_irrefl x (lt_trans x zeroᶠ x (g tt) (f tt)))
    go true false f g k l = refl
    go false true f g k l = refl
    go false false f g k l = absurd (z (equal_of_le x zeroᶠ (k tt) (l tt)))

module _ (r : Rust) where
  -- as numbers it is always the same, where the value is a number and the low end is not above the high end
  clamp_equal : (value low high : Float) → T (not (is_nan value)) → T (le low high) → T (eq (published_clamp r.max r.min value low high) (clamp value low high))
  unfolding published_clamp clamp
  clamp_equal value low high n h =
      let m = r.min value high in
      let p = smaller_equal r.min r.min_is value high n (le_right low high h) in
      clamp_numbers value low high m (r.max low m) n h p (larger_equal r.max r.max_is low m (le_left low high h) (le_left m (limited value high) (le_of_eq m (limited value high) p)))

  -- Between 0.0 and 1.0 it is the same in every bit, where the value is not -0.0.
  clamp_same : (value : Float) → T (not (is_nan value)) → T (fits binary64 value) → NotMinusZero value
      → published_clamp r.max r.min value zeroᶠ (decimal 1 1) ≡ clamp value zeroᶠ (decimal 1 1)
  unfolding published_clamp clamp
  clamp_same value n f m =
      rw (smaller r.min r.min_is value (decimal 1 1) n (one_no_zero value))
      (cond_both (lt (decimal 1 1) value) (decimal 1 1) value (λ x. r.max zeroᶠ x ≡ cond (lt value zeroᶠ) zeroᶠ x) (λ e. above (yes e)) (λ e. within))
    where
      above : T (lt (decimal 1 1) value) → r.max zeroᶠ (decimal 1 1) ≡ cond (lt value zeroᶠ) zeroᶠ (decimal 1 1)
      above k =
          larger r.max r.max_is zeroᶠ (decimal 1 1) zero_number (one_no_zero zeroᶠ)
          ∙ rw (
            is_true (lt zeroᶠ (decimal 1 1)) zero_below_one,
            is_false (lt value zeroᶠ) (not_T (lt value zeroᶠ) (λ l. lt_irrefl value (lt_trans value zeroᶠ value l (lt_trans zeroᶠ (decimal 1 1) value zero_below_one k)))),
          ) refl

      within : r.max zeroᶠ value ≡ cond (lt value zeroᶠ) zeroᶠ value
      within = by_zero (eq value zeroᶠ) refl
        where
          by_zero : (b : Bool) → eq value zeroᶠ ≡ b → r.max zeroᶠ value ≡ cond (lt value zeroᶠ) zeroᶠ value
          by_zero true e = rw (plain_zero value f m (yes e)) (zero_and_zero r.max r.max_is)
          by_zero false e = larger r.max r.max_is zeroᶠ value zero_number (zero_beside value ∙ e) ∙ one_below value n (λ k. true≢false (sym (is_true (eq value zeroᶠ) k) ∙ e))

  -- So it is for a PI before its limits, whose integrator is not -0.0.
  pub limits_same : (gain error integrator : Float) → NotMinusZeroF64 integrator → Finite (gain ⊗ error ⊕ integrator)
      → published_clamp r.max r.min (gain ⊗ error ⊕ integrator) zeroᶠ (decimal 1 1) ≡ clamp (gain ⊗ error ⊕ integrator) zeroᶠ (decimal 1 1)
  limits_same gain error integrator kept f =
      clamp_same (gain ⊗ error ⊕ integrator) (finite_number (gain ⊗ error ⊕ integrator) f) (add-fits binary64 (gain ⊗ error) integrator)
      (sum_not_minus_zero (gain ⊗ error) integrator (mul-fits binary64 gain error) kept.is_f64 (inr kept.not_minus_zero))

  -- ---- the line, of which f2 is an f64 that is not -0.0
  pub line_same : (x1 f1 x2 f2 u : Float) → Finite u → T (le x1 x2) → NotMinusZeroF64 f2 → buildings_line_over (published r.max r.min) x1 f1 x2 f2 u ≡ buildings_line x1 f1 x2 f2 u
  unfolding buildings_line_over buildings_line
  line_same x1 f1 x2 f2 u f h kept =
      let slope = (f2 ⊖ f1) ⊘ (x2 ⊖ x1) in
      sum_same (f2 ⊖ slope ⊗ x2) slope (published_clamp r.max r.min u x1 x2) (clamp u x1 x2)
      (difference_not_minus_zero f2 (slope ⊗ x2) kept.is_f64 (mul-fits binary64 slope x2) kept.not_minus_zero) (clamp_equal u x1 x2 (finite_number u f) h)

-- ---- the larger of a difference of times and 0.0, where the sign of a zero does not show
module _ (max : Float → Float → Float) (rust : RustMax max) (d : Float) where
  step_hidden : (shown : Float → Float) → ((s t : Bool) → shown (fin s 0 (pos 0)) ≡ shown (fin t 0 (pos 0))) → shown (max d zeroᶠ) ≡ shown (Today.max d zeroᶠ)
  step_hidden shown hidden = go (both_zero d zeroᶠ) refl
    where
      of_zeros : {z : Float} {s t : Bool} → (z ≡ fin s 0 (pos 0)) ⊎ (z ≡ fin t 0 (pos 0)) → shown z ≡ shown zeroᶠ
      of_zeros c = one_zero (λ z. shown z ≡ shown zeroᶠ) (λ r. hidden r false) c

      go : (b : Bool) → both_zero d zeroᶠ ≡ b → shown (max d zeroᶠ) ≡ shown (Today.max d zeroᶠ)
      go true e = of_zeros (rust.of_zeros d zeroᶠ e) ∙ sym (of_zeros (todays_max.of_zeros d zeroᶠ e))
      go false e = ap shown (rust.off_zeros d zeroᶠ e)

  step_added : (x : Float) → NotMinusZero x → x ⊕ max d zeroᶠ ≡ x ⊕ Today.max d zeroᶠ
  step_added x n = step_hidden (λ z. x ⊕ z) (λ s t. sign_hidden x s t n)

  product_of_step : (x g : Float) → NotMinusZero x → x ⊕ g ⊗ max d zeroᶠ ≡ x ⊕ g ⊗ Today.max d zeroᶠ
  product_of_step x g n = step_hidden (λ z. x ⊕ g ⊗ z) (λ s t. sum_same x g _ _ n (zeros_alike _ _ (zeros_equal s) (zeros_equal t)))

-- ---- the timing blocks
length_no_zero : (n : ℕ) → T (ltb 0 n) → T (leb n 1800) → both_zero (decimal n 1) zeroᶠ ≡ false
length_no_zero n P N = rw (eq_whole (decimal n 1) zeroᶠ n 0 (decimal_whole n (le_trans_nat (leb→le n 1800 N) (lit≤ tt))) zero_whole) (go n (ltb→lt 0 n P))
  where
    go : (n : ℕ) → 0 < n → (eqb n 0 && eq zeroᶠ zeroᶠ) ≡ false
    go n P = grind arith

-- a sample grid that starts on a whole second, which is not after t
pub record Started (t0 t : Float) : Type 0 where
  pub whole : Whole t0 (seconds t0)
  pub begun : seconds t0 ≤ seconds t

module _ (r : Rust) where
  delay_output_same : (t : Float) (u : Bool) (delay_time : Float) (delay_on_init : Bool) (previous_time : Option Float) (previous_u held : Bool) (timer : Float)
      → both_zero delay_time zeroᶠ ≡ false → NotMinusZero timer
      → true_delay_output_over (published r.max r.min) t u delay_time delay_on_init previous_time previous_u held timer
      ≡ true_delay_output t u delay_time delay_on_init previous_time previous_u held timer
  unfolding true_delay_output_over true_delay_output
  delay_output_same t false delay_time delay_on_init previous_time previous_u held timer e n = refl
  delay_output_same t true delay_time delay_on_init None previous_u held timer e n = rw (r.max_is.off_zeros delay_time zeroᶠ e) refl
  delay_output_same t true delay_time delay_on_init (Some previous) previous_u held timer e n =
      rw (r.max_is.off_zeros delay_time zeroᶠ e, step_added r.max r.max_is (t ⊖ previous) timer n) refl

  true_delay_same : (s : TrueDelayState) (t delay_time : Float) (delay_on_init : Bool) → both_zero delay_time zeroᶠ ≡ false → NotMinusZero s.timer → (input : Bool)
      → true_delay_over (published r.max r.min) s t input delay_time delay_on_init ≡ true_delay s t input delay_time delay_on_init
  unfolding true_delay_over true_delay
  true_delay_same s t delay_time delay_on_init e n input =
      rw (delay_output_same t input delay_time delay_on_init s.previous_time s.previous_input s.held s.timer e n) refl

  -- of n seconds
  pub delay_same : (n : ℕ) → T (ltb 0 n && leb n 1800) → (s : TrueDelayState) (t : Float) (delay_on_init : Bool) → NotMinusZero s.timer → (input : Bool)
      → true_delay_over (published r.max r.min) s t input (decimal n 1) delay_on_init ≡ true_delay s t input (decimal n 1) delay_on_init
  delay_same n h s t delay_on_init k input = true_delay_same s t (decimal n 1) delay_on_init (length_no_zero n (and_l (ltb 0 n) (leb n 1800) h) (and_r (ltb 0 n) (leb n 1800) h)) k input

  pub integral_same : (x : Float) (previous_time : Option Float) (t : Float) → NotMinusZero x → (g : Float)
      → x ⊕ g ⊗ step_seconds_over (published r.max r.min) previous_time t ≡ x ⊕ g ⊗ step_seconds previous_time t
  integral_same x None t n g = refl
  integral_same x (Some previous) t n g = product_of_step r.max r.max_is (t ⊖ previous) x g n

  -- a grid that starts on a whole second, which is not after t
  module _ (t : Float) (time : IsTime t) (t0 : Float) (started : Started t0 t) where
    index_same : published_sample_index t t0 (decimal 120 1) ≡ sample_index t t0 (decimal 120 1)
    index_same = sample_index_same t t0 (seconds t) (seconds t0) time.0 started.whole started.begun time.1

    due_same : (last : ℤ) → sample_due_over (published r.max r.min) t t0 (decimal 120 1) last ≡ sample_due t t0 (decimal 120 1) last
    unfolding sample_due_over sample_due
    due_same last = rw index_same refl

  first_index_same : (t : Float) → IsTime t
      → published_sample_index t (initial_sample_time t (decimal 120 1)) (decimal 120 1) ≡ sample_index t (initial_sample_time t (decimal 120 1)) (decimal 120 1)
  first_index_same t time =
      let n = seconds t in
      sample_index_same t (initial_sample_time t (decimal 120 1)) n (n / 120 * 120) time.0
      (initial_sample_time_whole t (decimal 120 1) n 120 time.0 time.1 (decimal_whole 120 (omega arith)) (zero-lt-suc 119) (lit≤ tt)) (div-mul-le_self n 120) time.1

  pub sampler_same : (s : SamplerState) (t : Float) → IsTime t → Started s.t0 t → (input : Float)
      → sampler_sample_over (published r.max r.min) s t input (decimal 120 1) ≡ sampler_sample s t input (decimal 120 1)
  unfolding sampler_sample_over sampler_sample sampler_output_over sampler_output
  sampler_same s t time started input = rw (due_same t time s.t0 started s.last_index, first_index_same t time) refl

  pub unit_delay_same : (s : UnitDelayState) (t : Float) → IsTime t → Started s.t0 t → (input : Float)
      → unit_delay_sample_over (published r.max r.min) s t input (decimal 120 1) ≡ unit_delay_sample s t input (decimal 120 1)
  unfolding unit_delay_sample_over unit_delay_sample
  unit_delay_same s t time started input = rw (due_same t time s.t0 started s.last_index, first_index_same t time) refl
