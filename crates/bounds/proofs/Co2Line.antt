-- The CO2 loop of the ventilation setpoints: its line runs from 200 ppm below the setpoint to the setpoint, and rounding does not close that band, so the line's divisor
-- is well above 0. Below 200 ppm the ends of two pieces show it. From there on the setpoint lies between two whole numbers, on which f64 arithmetic is exact. Assumes nothing.
use Rattle.std.proofs.Common.{refl, ℕ, ◌+◌, ◌-◌, ◌*◌, ◌/◌, ◌<◌, ◌≤◌, true, false, T, inl, inr, ℤ, pos, sym, subst, arith, div-mul-le_self, div-lt_iff_lt-mul, lt_of_mul-lt-mul_right, lt→ltb, lit≤}
use lib.Ieee.{Float, nan, inf, fin, binary64, up, down, round, neg, add, sub, mul, div, lt, eq, le}
use lib.Ieee.Fits.{down_pos}
use Rattle.std.proofs.lemmas.Float.{le_trans, le_of_lt, lt_of_le_of_lt, lt_of_lt_of_le}
use Rattle.f64_helpers.specs.F64.{◌⊖◌, ◌⊗◌, ◌⊘◌, ◌<ᶠ◌, ◌≤ᶠ◌, decimal, zero}
use Rattle.f64_helpers.specs.Ranges.{Between, Finite}
use Rattle.f64_helpers.specs.Seconds.{Whole}
use Rattle.f64_helpers.proofs.Order.{fractions}
use Rattle.f64_helpers.proofs.Monotone.{sub_mono}
use Rattle.f64_helpers.proofs.WholeSeconds.{whole_finite, sub_whole, lt_whole}
use Rattle.f64_helpers.proofs.Times.{at_most_by, at_most_whole, decimal_whole}
use Rattle.f64_helpers.proofs.Intervals.{finite_between, cut, add_in, sub_in, mul_in, mul_in_turned, div_in}
use Rattle.cdl_recurrences.specs.CdlRecurrences.{clamp, buildings_line}
use Rattle.cdl_recurrences.proofs.Ranges.{clamp_in}
use Rattle.bounds.specs.Limits.{HIGHEST_CO2}

-- 200 ppm below the setpoint
abbrev low_end : Float → Float
low_end setpoint = setpoint ⊖ decimal 200 1

abbrev width : Float → Float
width setpoint = setpoint ⊖ low_end setpoint

two_hundred : Between (decimal 200 1) (decimal 200 1) (decimal 200 1)
unfolding round le lt eq
two_hundred = assumption tt

-- what is claimed of the band
record Band (setpoint : Float) : Type 0 where
  below : T (low_end setpoint <ᶠ setpoint)
  wide : Between (decimal 100 1) (width setpoint) (decimal 300 1)

-- one lies wholly below the other
apart : {a x b c y d : Float} → Between a x b → T (b <ᶠ c) → Between c y d → T (x <ᶠ y)
apart {a} {x} {b} {c} {y} {d} p h q = lt_of_le_of_lt x b y p.to_high (lt_of_lt_of_le b c y h q.from_low)

-- ---- to 200 ppm
to_100 : (setpoint : Float) → Between zero setpoint (decimal 100 1) → Band setpoint
unfolding round neg add sub lt eq le
to_100 setpoint s =
    let l : Between (neg (decimal 200 1)) (low_end setpoint) (neg (decimal 100 1)) = sub_in s two_hundred tt in
    record { below = apart l tt s; wide = sub_in s l tt }

to_200 : (setpoint : Float) → Between (decimal 100 1) setpoint (decimal 200 1) → Band setpoint
unfolding round neg add sub lt eq le
to_200 setpoint s =
    let l : Between (neg (decimal 100 1)) (low_end setpoint) zero = sub_in s two_hundred tt in
    record { below = apart l tt s; wide = sub_in s l tt }

-- ---- from 200 ppm: between two whole numbers
abbrev whole : ℕ → Float
whole n = fin false n (pos 0)

whole_itself : (n : ℕ) → Whole (whole n) n
whole_itself n = (refl, λ q. absurd q)

within_whole : {a x b : Float} {p q : ℕ} → Whole a p → Whole b q → Between a x b → 100 ≤ p → q ≤ 300 → Between (decimal 100 1) x (decimal 300 1)
within_whole {a} {x} {b} {p} {q} v w r h k =
    record {
      from_low = le_trans (decimal 100 1) a x (at_most_by (decimal 100 1) a 100 p (decimal_whole 100 (lit≤ tt)) v h) r.from_low;
      to_high = le_trans x b (decimal 300 1) r.to_high (at_most_by b (decimal 300 1) q 300 w (decimal_whole 300 (lit≤ tt)) k);
    }

-- n and n + 1, around x
record Around (x : Float) : Type 0 where
  n : ℕ
  from_200 : 200 ≤ n
  to_10000 : n ≤ 10000
  between : Between (whole n) x (whole (n + 1))

-- 200 d is at most a, and a less than (n + 1) d
at_least_200 : (a d n : ℕ) → 200 * d ≤ a → a < (n + 1) * d → 200 ≤ n
at_least_200 a d n h k =
    let l : 200 < n + 1 = lt_of_mul-lt-mul_right d (omega (arith, h, k)) in
    omega (arith, l)

-- a setpoint of a / d
module _ (m : ℕ) (e : ℤ) (s : Between (decimal 200 1) (fin false m e) HIGHEST_CO2) where
  abbrev n : ℕ
  n = m * up e / down e

  from_n : n * down e ≤ m * up e
  from_n = div-mul-le_self (m * up e) (down e)

  below_next : m * up e < (n + 1) * down e
  below_next = (div-lt_iff_lt-mul {k = down e} {x = m * up e} {y = n + 1} (down_pos e)).0 (omega arith)

  size_from_200 : 200 * down e ≤ m * up e
  unfolding round le
  size_from_200 = omega (arith, (fractions false false _ (m * up e) _ (down e)).0 s.from_low)

  n_at_most : T (whole n ≤ᶠ fin false m e)
  unfolding le
  n_at_most = (fractions false false (n * 1) (m * up e) 1 (down e)).1 (omega (arith, from_n))

  next_at_least : T (fin false m e ≤ᶠ whole (n + 1))
  unfolding le
  next_at_least = (fractions false false (m * up e) ((n + 1) * 1) (down e) 1).1 (omega (arith, below_next))

  positive_around : Around (fin false m e)
  positive_around =
      record {
        n = n;
        from_200 = at_least_200 (m * up e) (down e) n size_from_200 below_next;
        to_10000 = at_most_whole (whole n) HIGHEST_CO2 n 10000 (whole_itself n) (decimal_whole 10000 (lit≤ tt)) (le_trans (whole n) (fin false m e) HIGHEST_CO2 n_at_most s.to_high);
        between = record { from_low = n_at_most; to_high = next_at_least };
      }

around : (setpoint : Float) → Between (decimal 200 1) setpoint HIGHEST_CO2 → Around setpoint
unfolding round le
around nan s = absurd s.from_low
around (inf true) s = absurd s.from_low
around (inf false) s = absurd s.to_high
around (fin true m e) s = absurd (none (m * up e) (down e) (down_pos e) (omega (arith, (fractions false true _ (m * up e) _ (down e)).0 s.from_low)))
  where
    none : (a d : ℕ) → 0 < d → 200 * d + a ≤ 0 → ⊥
    none a d D h = omega arith
around (fin false m e) s = positive_around m e s

-- x between n and n + 1, both at least 200
module _ (x : Float) (r : Around x) where
  x_finite : Finite x
  x_finite = finite_between tt tt r.between

  -- x - 200 lies between n - 200 and n - 199
  abbrev low_from : Float
  low_from = whole r.n ⊖ decimal 200 1

  abbrev low_to : Float
  low_to = whole (r.n + 1) ⊖ decimal 200 1

  low_from_whole : Whole low_from (r.n - 200)
  low_from_whole = sub_whole binary64 (whole r.n) (decimal 200 1) r.n 200 (whole_itself r.n) (decimal_whole 200 (lit≤ tt)) r.from_200 (omega (arith, r.to_10000))

  low_to_whole : Whole low_to (r.n + 1 - 200)
  low_to_whole = sub_whole binary64 (whole (r.n + 1)) (decimal 200 1) (r.n + 1) 200 (whole_itself (r.n + 1)) (decimal_whole 200 (lit≤ tt)) (omega (arith, r.from_200)) (omega (arith, r.to_10000))

  low_in : Between low_from (low_end x) low_to
  unfolding round
  low_in =
      record {
        from_low = sub_mono (whole r.n) x (decimal 200 1) (decimal 200 1) tt x_finite tt tt r.between.from_low two_hundred.from_low;
        to_high = sub_mono x (whole (r.n + 1)) (decimal 200 1) (decimal 200 1) x_finite tt tt tt r.between.to_high two_hundred.from_low;
      }

  low_below : T (low_end x <ᶠ x)
  low_below = apart low_in (subst T (sym (lt_whole low_to (whole r.n) (r.n + 1 - 200) r.n low_to_whole (whole_itself r.n))) (lt→ltb (r.n + 1 - 200) r.n (omega (arith, r.from_200)))) r.between

  -- so x less that from 199 to 201
  width_from_whole : Whole (whole r.n ⊖ low_to) (r.n - (r.n + 1 - 200))
  width_from_whole = sub_whole binary64 (whole r.n) low_to r.n (r.n + 1 - 200) (whole_itself r.n) low_to_whole (omega arith) (omega (arith, r.to_10000))

  width_to_whole : Whole (whole (r.n + 1) ⊖ low_from) (r.n + 1 - (r.n - 200))
  width_to_whole = sub_whole binary64 (whole (r.n + 1)) low_from (r.n + 1) (r.n - 200) (whole_itself (r.n + 1)) low_from_whole (omega arith) (omega (arith, r.to_10000))

  width_in : Between (whole r.n ⊖ low_to) (width x) (whole (r.n + 1) ⊖ low_from)
  width_in =
      let f = whole_finite low_from (r.n - 200) low_from_whole in
      let t = whole_finite low_to (r.n + 1 - 200) low_to_whole in
      let l = finite_between f t low_in in
      record {
        from_low = sub_mono (whole r.n) x low_to (low_end x) tt x_finite t l r.between.from_low low_in.to_high;
        to_high = sub_mono x (whole (r.n + 1)) (low_end x) low_from x_finite tt l f r.between.to_high low_in.from_low;
      }

  from_200_band : Band x
  from_200_band = record { below = low_below; wide = within_whole width_from_whole width_to_whole width_in (omega (arith, r.from_200)) (omega (arith, r.from_200)) }

-- ---- from 0 to 10,000 ppm
band_of : (setpoint : Float) → Between zero setpoint HIGHEST_CO2 → Band setpoint
unfolding round
band_of setpoint s = elim (cut (decimal 100 1) tt tt tt s) [
  | inl h ↦ to_100 setpoint h
  | inr h ↦ elim (cut (decimal 200 1) tt tt tt h) [ inl h ↦ to_200 setpoint h | inr h ↦ from_200_band setpoint (around setpoint h) ]
]

pub band : (setpoint : Float) → Between zero setpoint HIGHEST_CO2 → T (setpoint ⊖ decimal 200 1 <ᶠ setpoint)
band setpoint s = (band_of setpoint s).below

pub divisor_in : (setpoint : Float) → Between zero setpoint HIGHEST_CO2 → Between (decimal 100 1) (setpoint ⊖ (setpoint ⊖ decimal 200 1)) (decimal 300 1)
divisor_in setpoint s = (band_of setpoint s).wide

-- ---- the line: a slope from 0 to 0.01, and a concentration that is first limited to the band
module _ (setpoint concentration : Float) (s : Between zero setpoint HIGHEST_CO2) (c : Between zero concentration HIGHEST_CO2) where
  abbrev slope : Float
  slope = (decimal 1 1 ⊖ zero) ⊘ width setpoint

  slope_in : Between zero slope (decimal 1 100)
  unfolding round neg add sub div lt eq le
  slope_in = div_in one (divisor_in setpoint s) tt
    where
      one : Between zero (decimal 1 1 ⊖ zero) (decimal 1 1)
      one = assumption tt

  abbrev limited : Float
  limited = clamp concentration (low_end setpoint) setpoint

  limited_in : Between (neg (decimal 200 1)) limited HIGHEST_CO2
  unfolding round neg add sub lt eq le
  limited_in =
      let l : Between (neg (decimal 200 1)) (low_end setpoint) HIGHEST_CO2 = sub_in s two_hundred tt in
      let k = clamp_in concentration (finite_between tt tt c) (le_of_lt (low_end setpoint) setpoint (band setpoint s)) in
      record { from_low = le_trans (neg (decimal 200 1)) (low_end setpoint) limited l.from_low k.from_low; to_high = le_trans limited setpoint HIGHEST_CO2 k.to_high s.to_high }

  intercept_in : Between (neg (decimal 100 1)) (decimal 1 1 ⊖ slope ⊗ setpoint) (decimal 1 1)
  unfolding round neg add sub mul lt eq le
  intercept_in =
      let p : Between zero (slope ⊗ setpoint) (decimal 101 1) = mul_in slope_in s tt in
      sub_in one p tt
    where
      one : Between (decimal 1 1) (decimal 1 1) (decimal 1 1)
      one = assumption tt

  rise_in : Between (neg (decimal 3 1)) (slope ⊗ limited) (decimal 101 1)
  unfolding round neg mul lt eq le
  rise_in = mul_in_turned limited_in slope_in tt

pub co2_loop_in : (setpoint concentration : Float) → Between zero setpoint HIGHEST_CO2 → Between zero concentration HIGHEST_CO2
    → Between (neg (decimal 1000 1)) (buildings_line (setpoint ⊖ decimal 200 1) zero setpoint (decimal 1 1) concentration) (decimal 1000 1)
unfolding round neg add lt eq le buildings_line
co2_loop_in setpoint concentration s c = add_in (intercept_in setpoint concentration s c) (rise_in setpoint concentration s c) tt
