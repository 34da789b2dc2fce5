-- The sample grid on whole seconds: rounding to six decimals leaves a whole number, the first sample instant is the last multiple of the period that is not after the start, and the index counts the periods since. Assumes nothing.
use mathlib.Core.Path.{◌≡◌, refl, ap, ◌∙◌, subst}
use Prim.Native.Nat.{ℕ, ◌+◌, ◌-◌, ◌*◌, ◌/◌, ◌^◌, ◌≤◌, ◌<◌}
use native.Mathlib.Nat.{le_trans, mul-one, add-mul, mul-mul-mul_comm, mul-pos, zero-lt-suc, div-le_self, div-mul-le_self, add-mul-div_right, le-div_iff_mul-le, le_refl, le_antisymm, eq-zero-or-pos}
use native.Mathlib.Omega.{arith}
use mathlib.Core.Logic.{◌⊎◌, inl, inr}
use mathlib.Core.Bool.{Bool, true, false}
use lib.IntN.{ℤ, pos, negsuc}
use lib.Dec.{T, ltb, lit≤}
use lib.Ieee.{Float, nan, inf, fin, binary64, unlike, up, down, round, add, sub, div, neg, fits}
use lib.Ieee.Fits.{down_pos, div-fits}
use lib.Ieee.Exact.{HasValue}
use lib.Ieee.Back.{whole_unique}
use lib.Ieee.Scale.{round_same}
use Rattle.f64_helpers.specs.F64.{◌⊕◌, ◌⊖◌, ◌⊗◌, ◌⊘◌, ◌>ᶠ◌, decimal, zero as zeroᶠ}
use Rattle.std.specs.Prelude.{if◌then◌else◌}
use Rattle.f64_helpers.specs.Helpers.{floor, ceil, negative}
use Rattle.f64_helpers.specs.Seconds.{Whole, seconds, is_time}
use Rattle.std.proofs.lemmas.Bool.{lt-ltb}
use Rattle.std.proofs.lemmas.Bool.Decides.{nat_tests}
use Rattle.f64_helpers.proofs.WholeSeconds.{zero_whole, lt_whole, sub_whole}
use Rattle.f64_helpers.proofs.Times.{decimal_whole, is_time_of, is_time_means}
use Rattle.f64_helpers.proofs.Quotients.{round_zero, mul_is, mul_whole, div_exact, floor_rounded, floor_quotient, as_i64_whole}
use Rattle.cdl_recurrences.specs.CdlRecurrences.{buildings_round_six, initial_sample_time, sample_index, sample_due}

-- ---- the literals 1e6 and 0.5
abbrev million : Float
million = decimal 1000000 1

million_whole : Whole million 1000000
million_whole = decimal_whole 1000000 (omega arith)

half_is : decimal 5 10 ≡ fin false 1 (negsuc 0)
unfolding round
half_is = refl

-- ---- above 0
-- a number above 0 and a half: the fraction, rounded once
add_half : (x : Float) (n : ℕ) → Whole x n → 0 < n → x ⊕ fin false 1 (negsuc 0) ≡ round binary64 false (n * 2 + 1) 2
unfolding add
add_half nan n v N = absurd v
add_half (inf s) n v N = absurd v
add_half (fin true m e) n v N = absurd (omega (arith, v.1 tt))
add_half (fin false m e) n v N =
    round_same binary64 false (m * up e * 2 + 1 * 1 * down e) (down e * 2) (n * 2 + 1) 2 (mul-pos (down_pos e) (zero-lt-suc 1)) (zero-lt-suc 1) (halves (m * up e) n (down e) v.0)
  where
    halves : (a n d : ℕ) → a ≡ n * d → (a * 2 + 1 * 1 * d) * 2 ≡ (n * 2 + 1) * (d * 2)
    halves a n d h = omega (arith, add-mul (n * 2) 1 (d * 2), mul-mul-mul_comm n 2 d 2)

floor_half : (x : Float) (n : ℕ) → Whole x n → 0 < n → n < 2 ^ 52 → Whole (floor (x ⊕ decimal 5 10)) n
floor_half x n v P N =
    let q : (n * 2 + 1) / 2 ≡ n = omega arith in
    rw (half_is, add_half x n v P) (subst (Whole (floor (round binary64 false (n * 2 + 1) 2))) q (floor_rounded (n * 2 + 1) 2 1 (zero-lt-suc 1) (lit≤ tt) (lit≤ tt) (omega arith)))

round_six_positive : (x : Float) (n : ℕ) → Whole x n → 0 < n → n ≤ 2147483648 → Whole (floor (x ⊗ million ⊕ decimal 5 10) ⊘ million) n
round_six_positive x n v P N =
    div_exact (floor (x ⊗ million ⊕ decimal 5 10)) million n 1000000
    (floor_half (x ⊗ million) (n * 1000000) (mul_whole x million n 1000000 v million_whole (omega arith)) (omega arith) (omega arith))
    million_whole (omega arith) (omega arith)

-- ---- 0
-- below 0 by a half, cut up: -0.0
ceil_half : (s : Bool) → ceil (fin s 0 (pos 0) ⊖ decimal 5 10) ⊘ million ≡ fin true 0 (pos 0)
unfolding ceil sub round div
ceil_half true = refl
ceil_half false = refl

round_six_zero_whole : (x : Float) → Whole x 0 → buildings_round_six x ≡ fin true 0 (pos 0)
unfolding buildings_round_six
round_six_zero_whole x v =
    let s = unlike (negative x) (negative million) in
    rw (lt_whole zeroᶠ x 0 0 zero_whole v, mul_is x million 0 1000000 v million_whole, round_zero s 1 (zero-lt-suc 0)) (ceil_half s)

-- ---- both
round_six_is : (x : Float) (n : ℕ) → Whole x n → 0 < n → buildings_round_six x ≡ floor (x ⊗ million ⊕ decimal 5 10) ⊘ million
unfolding buildings_round_six
round_six_is x n v P = rw (lt_whole zeroᶠ x 0 n zero_whole v, lt-ltb 0 n P)

pub round_six_whole : (x : Float) (n : ℕ) → Whole x n → n ≤ 2147483648 → Whole (buildings_round_six x) n
round_six_whole x n v N = go (eq-zero-or-pos n)
  where
    go : (n ≡ 0) ⊎ (0 < n) → Whole (buildings_round_six x) n
    go (inl z) = rw (z, round_six_zero_whole x (subst (Whole x) z v)) (refl, λ q. refl)
    go (inr P) = rw (round_six_is x n v P) (round_six_positive x n v P N)

positive_value : (x : Float) (n : ℕ) → Whole x n → 0 < n → HasValue x false n 1
positive_value nan n v P = absurd v
positive_value (inf s) n v P = absurd v
positive_value (fin true m e) n v P = absurd (omega (arith, v.1 tt))
positive_value (fin false m e) n v P = (refl, mul-one (m * up e) ∙ v.0)

pub round_six_above : (x : Float) (n : ℕ) → Whole x n → 0 < n → n ≤ 2147483648 → T (fits binary64 x) → buildings_round_six x ≡ x
round_six_above x n v P N t =
    let y = floor (x ⊗ million ⊕ decimal 5 10) in
    round_six_is x n v P
    ∙ whole_unique binary64 (y ⊘ million) x false n (div-fits binary64 y million) t (positive_value (y ⊘ million) n (round_six_positive x n v P N) P) (positive_value x n v P)

-- For a time nothing is rounded: it comes back, and a zero of either sign gives -0.0.
pub round_six_time : (x : Float) → T (fits binary64 x) → T (is_time x) → buildings_round_six x ≡ (if x >ᶠ zeroᶠ then x else neg zeroᶠ)
unfolding neg
round_six_time x t h = go (seconds x) ((is_time_means x).0 h).0 ((is_time_means x).0 h).1 (eq-zero-or-pos (seconds x))
  where
    go : (n : ℕ) → Whole x n → n ≤ 2147483648 → (n ≡ 0) ⊎ (0 < n) → buildings_round_six x ≡ (if x >ᶠ zeroᶠ then x else fin true 0 (pos 0))
    go n v N (inl z) = rw (lt_whole zeroᶠ x 0 n zero_whole v, z, round_six_zero_whole x (subst (Whole x) z v))
    go n v N (inr P) = rw (lt_whole zeroᶠ x 0 n zero_whole v, lt-ltb 0 n P, round_six_above x n v P N t)

-- ---- the grid
-- the last multiple of the period that is not after the start
multiple_whole : (t period : Float) (n p : ℕ) → Whole t n → n ≤ 2147483648 → Whole period p → 0 < p → p ≤ 2 ^ 20 → Whole (floor (t ⊘ period) ⊗ period) (n / p * p) × (n / p * p ≤ 2147483648)
multiple_whole t period n p v N w P Q =
    let l : n / p * p ≤ n = div-mul-le_self n p in
    (mul_whole (floor (t ⊘ period)) period (n / p) p (floor_quotient t period n p v w P Q (omega arith)) w (omega arith), omega arith)

-- It is a time again, so that the first sample time is found without a division by 1,000,000.
pub multiple_is_time : (t period : Float) (n p : ℕ) → Whole t n → n ≤ 2147483648 → Whole period p → 0 < p → p ≤ 2 ^ 20 → T (is_time (floor (t ⊘ period) ⊗ period))
multiple_is_time t period n p v N w P Q =
    let m = multiple_whole t period n p v N w P Q in
    is_time_of (floor (t ⊘ period) ⊗ period) (n / p * p) m.0 m.1

pub initial_sample_time_whole : (t period : Float) (n p : ℕ) → Whole t n → n ≤ 2147483648 → Whole period p → 0 < p → p ≤ 2 ^ 20 → Whole (initial_sample_time t period) (n / p * p)
unfolding initial_sample_time
initial_sample_time_whole t period n p v N w P Q =
    let m = multiple_whole t period n p v N w P Q in
    round_six_whole (floor (t ⊘ period) ⊗ period) (n / p * p) m.0 m.1

-- the whole periods from t0 to t
pub sample_index_whole : (t t0 period : Float) (n m p : ℕ) → Whole t n → Whole t0 m → m ≤ n → n ≤ 2147483648 → Whole period p → 0 < p → p ≤ 2 ^ 20
    → sample_index t t0 period ≡ pos ((n - m) / p)
unfolding sample_index
sample_index_whole t t0 period n m p v u M N w P Q =
    as_i64_whole (floor ((t ⊖ t0) ⊘ period)) ((n - m) / p)
    (floor_quotient (t ⊖ t0) period (n - m) p (sub_whole binary64 t t0 n m v u M (omega arith)) w P Q (omega arith))
    (omega (arith, div-le_self (n - m) p))

-- ---- from tick to tick
-- After a tick at n seconds: the grid starts `first` periods after 0, and `last` counts the periods from there to n.
pub record OnGrid (p : ℕ) (t0 : Float) (last : ℤ) (n : ℕ) : Type 0 where
  first : ℕ
  starts : Whole t0 (first * p)
  begun : first ≤ n / p
  counted : last ≡ pos (n / p - first)

periods_since : (n a p : ℕ) → 0 < p → a ≤ n / p → (n - a * p) / p ≡ n / p - a
periods_since n a p P A =
    let l : a * p ≤ n = (le-div_iff_mul-le P).0 A in
    let back : n - a * p + a * p ≡ n = omega arith in
    let more : (n - a * p + a * p) / p ≡ (n - a * p) / p + a = add-mul-div_right (n - a * p) a P in
    let same : n / p ≡ (n - a * p) / p + a = subst (λ (z : ℕ). z / p ≡ (n - a * p) / p + a) back more in
    omega arith

less_counted : (x y a : ℕ) → a ≤ x → ltb (x - a) (y - a) ≡ ltb x y
less_counted x y a h = grind (arith, nat_tests)

module _ (period : Float) (p : ℕ) (w : Whole period p) (P : 0 < p) (Q : p ≤ 2 ^ 20) (t : Float) (n : ℕ) (v : Whole t n) (N : n ≤ 2147483648) where
  grid_index : (t0 : Float) (a : ℕ) → Whole t0 (a * p) → a ≤ n / p → sample_index t t0 period ≡ pos (n / p - a)
  grid_index t0 a u A = sample_index_whole t t0 period n (a * p) p v u ((le-div_iff_mul-le P).0 A) N w P Q ∙ ap pos (periods_since n a p P A)

  -- the first tick
  pub grid_first : OnGrid p (initial_sample_time t period) (sample_index t (initial_sample_time t period) period) n
  grid_first =
      let g = initial_sample_time_whole t period n p v N w P Q in
      record { first = n / p; starts = g; begun = le_refl (n / p); counted = grid_index (initial_sample_time t period) (n / p) g (le_refl (n / p)) }

  -- A later tick, where the one before it was at m. A sample is due exactly if a multiple of the period lies after m and not after n.
  module _ (t0 : Float) (last : ℤ) (m : ℕ) (c : OnGrid p t0 last m) (M : m ≤ n) where
    later : m / p ≤ n / p
    later = (le-div_iff_mul-le P).1 (le_trans (div-mul-le_self m p) M)

    index_is : (sample_due t t0 period last).index ≡ pos (n / p - c.first)
    unfolding sample_due
    index_is = grid_index t0 c.first c.starts (le_trans c.begun later)

    pub grid_due : (sample_due t t0 period last).due ≡ ltb (m / p) (n / p)
    unfolding sample_due
    grid_due = rw (c.counted, index_is, less_counted (m / p) (n / p) c.first c.begun)

    pub grid_sampled : OnGrid p t0 (sample_due t t0 period last).index n
    grid_sampled = record { first = c.first; starts = c.starts; begun = le_trans c.begun later; counted = index_is }

    pub grid_kept : n / p ≤ m / p → OnGrid p t0 last n
    grid_kept h = let e : m / p ≡ n / p = le_antisymm later h in record { first = c.first; starts = c.starts; begun = le_trans c.begun later; counted = c.counted ∙ ap (λ (z : ℕ). pos (z - c.first)) e }
