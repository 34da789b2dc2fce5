-- Where the next integrator lies, by where the error, the integrator and the step lie: one law over the gain, the integral time and the ranges. And that it keeps to its range,
-- by tables of the pieces of that range. Assumes nothing.
use Rattle.std.proofs.Common.{◌&&◌, T, inl, inr, List, [], ◌∷◌}
use lib.Ieee.{Float, neg}
use Rattle.f64_helpers.specs.F64.{◌⊕◌, ◌⊖◌, ◌⊗◌, ◌⊘◌, ◌<ᶠ◌, ◌≤ᶠ◌, decimal, zero}
use Rattle.f64_helpers.specs.Ranges.{Between, is_finite, Finite}
use Rattle.f64_helpers.proofs.Intervals.{ends, inside, around_zero, finite_between, add_in, sub_in, mul_in, mul_in_turned, div_by_in, cut}
use Rattle.cdl_recurrences.specs.CdlRecurrences.{clamp}
use Rattle.cdl_recurrences.proofs.Ranges.{clamp_unit}
use Rattle.bounds.specs.Limits.{WINDUP_SHARE, next_integrator}

abbrev one : Float
one = decimal 1 1

-- The error lies from a to b, the integrator from p to q, and the step from 0 to d.
module _ (gain integral_time a b p q d : Float) where
  abbrev divisor : Float
  divisor = gain ⊗ WINDUP_SHARE

  abbrev rate : Float
  rate = gain ⊘ integral_time

  -- the ends of what the PI computes in between
  abbrev unlimited_low : Float
  unlimited_low = a ⊗ gain ⊕ p

  abbrev unlimited_high : Float
  unlimited_high = b ⊗ gain ⊕ q

  abbrev windup_low : Float
  windup_low = (unlimited_low ⊖ one) ⊘ divisor

  abbrev windup_high : Float
  windup_high = (unlimited_high ⊖ zero) ⊘ divisor

  -- Tests of these ends, for a drive (the error less the anti-windup) from f to g, and a next integrator from low to high. Of literals each computes to an answer.
  pub record Tests (f g low high : Float) : Type 0 where
    pub gain_at_least : T (zero ≤ᶠ gain)
    pub gain_itself : T (gain ≤ᶠ gain)
    pub proportional : T (ends a b && is_finite gain && around_zero a b && inside (a ⊗ gain) (a ⊗ gain) (b ⊗ gain) (b ⊗ gain))
    pub unlimited : T (ends (a ⊗ gain) (b ⊗ gain) && ends p q && inside unlimited_low unlimited_low unlimited_high unlimited_high)
    pub unlimited_low_finite : Finite unlimited_low
    pub unlimited_high_finite : Finite unlimited_high
    pub excess : T (ends unlimited_low unlimited_high && ends zero one && inside (unlimited_low ⊖ one) (unlimited_low ⊖ one) (unlimited_high ⊖ zero) (unlimited_high ⊖ zero))
    pub windup : T (ends (unlimited_low ⊖ one) (unlimited_high ⊖ zero) && (is_finite divisor && (zero <ᶠ divisor)) && inside windup_low windup_low windup_high windup_high)
    pub drive : T (ends a b && ends windup_low windup_high && inside f (a ⊖ windup_high) (b ⊖ windup_low) g)
    pub rate_at_least : T (zero ≤ᶠ rate)
    pub rate_itself : T (rate ≤ᶠ rate)
    pub rated : T (ends f g && is_finite rate && around_zero f g && inside (f ⊗ rate) (f ⊗ rate) (g ⊗ rate) (g ⊗ rate))
    pub change : T (ends (f ⊗ rate) (g ⊗ rate) && is_finite d && around_zero (f ⊗ rate) (g ⊗ rate) && inside (f ⊗ rate ⊗ d) (f ⊗ rate ⊗ d) (g ⊗ rate ⊗ d) (g ⊗ rate ⊗ d))
    pub next : T (ends p q && ends (f ⊗ rate ⊗ d) (g ⊗ rate ⊗ d) && inside low (p ⊕ f ⊗ rate ⊗ d) (q ⊕ g ⊗ rate ⊗ d) high)

  module _ (integrator error dt : Float) (e : Between a error b) (i : Between p integrator q) (s : Between zero dt d) {f g low high : Float} (t : Tests f g low high) where
    abbrev unlimited : Float
    unlimited = gain ⊗ error ⊕ integrator

    abbrev drive_of : Float
    drive_of = error ⊖ (unlimited ⊖ clamp unlimited zero one) ⊘ divisor

    unlimited_in : Between unlimited_low unlimited unlimited_high
    unlimited_in =
        let proportional : Between (a ⊗ gain) (gain ⊗ error) (b ⊗ gain) = mul_in_turned e (record { from_low = t.gain_at_least; to_high = t.gain_itself }) t.proportional in
        add_in proportional i t.unlimited

    drive_in : Between f drive_of g
    drive_in =
        let limited : Between zero (clamp unlimited zero one) one = clamp_unit unlimited (finite_between t.unlimited_low_finite t.unlimited_high_finite unlimited_in) in
        let excess : Between (unlimited_low ⊖ one) (unlimited ⊖ clamp unlimited zero one) (unlimited_high ⊖ zero) = sub_in unlimited_in limited t.excess in
        let windup : Between windup_low ((unlimited ⊖ clamp unlimited zero one) ⊘ divisor) windup_high = div_by_in excess divisor t.windup in
        sub_in e windup t.drive

    pub next_in : Between low (next_integrator gain integral_time integrator error dt) high
    unfolding next_integrator
    next_in =
        let rated : Between (f ⊗ rate) (rate ⊗ drive_of) (g ⊗ rate) = mul_in_turned drive_in (record { from_low = t.rate_at_least; to_high = t.rate_itself }) t.rated in
        let change : Between (f ⊗ rate ⊗ d) (rate ⊗ drive_of ⊗ dt) (g ⊗ rate ⊗ d) = mul_in rated s t.change in
        add_in i change t.next

-- ---- The integrator's range, cut in pieces: a row (k, f, g) says that the next piece runs up to k, with a drive from f to g. The last piece runs up to the end.
-- An error below 0 and one above 0 are tested apart.
abbrev pub Row : Type 0
Row = Float × Float × Float

module _ (gain integral_time a b d end low high : Float) where
  abbrev Piece : Float → Float → Float → Float → Type 0
  Piece p q f g = Tests gain integral_time a zero p q d f g low high × Tests gain integral_time zero b p q d f g low high

  -- the pieces from p on
  abbrev pub Pieces : Float → List Row → Float → Float → Type 0
  Pieces p [] f g = Piece p end f g
  Pieces p (r ∷ rows) f g = Piece p r.0 r.1 r.2 × Finite r.0 × Pieces r.0 rows f g

  module _ (integrator error dt : Float) (finite : Finite a × Finite b × Finite end) (e : Between a error b) (s : Between zero dt d) where
    piece_in : (p q f g : Float) → Piece p q f g → Between p integrator q → Between low (next_integrator gain integral_time integrator error dt) high
    piece_in p q f g t i = elim (cut zero finite.0 finite.1 tt e) [
      | inl h ↦ next_in gain integral_time a zero p q d integrator error dt h i s t.0
      | inr h ↦ next_in gain integral_time zero b p q d integrator error dt h i s t.1
    ]

    pieces_in : (p : Float) (rows : List Row) (f g : Float) → Finite p → Pieces p rows f g → Between p integrator end → Between low (next_integrator gain integral_time integrator error dt) high
    pieces_in p [] f g P t i = piece_in p end f g t i
    pieces_in p (r ∷ rows) f g P t i = elim (cut r.0 P finite.2 t.1 i) [
      | inl h ↦ piece_in p r.0 r.1 r.2 t.0 h
      | inr h ↦ pieces_in r.0 rows f g t.1 t.2 h
    ]

-- One table keeps the next integrator at or below `end`, the other at or above -`end`, each within `wide` on its other side.
pub record Tables (gain integral_time error_end d end wide : Float) : Type 0 where
  pub ends_finite : Finite (neg error_end) × Finite error_end × Finite (neg end) × Finite end
  pub upper : List Row
  pub upper_last : Float × Float
  pub lower : List Row
  pub lower_last : Float × Float
  pub keeps_below : Pieces gain integral_time (neg error_end) error_end d end (neg wide) end (neg end) upper upper_last.0 upper_last.1
  pub keeps_above : Pieces gain integral_time (neg error_end) error_end d end (neg end) wide (neg end) lower lower_last.0 lower_last.1

pub between_ends : {gain integral_time error_end d end wide : Float} → Tables gain integral_time error_end d end wide → (integrator error dt : Float)
    → Between (neg error_end) error error_end → Between (neg end) integrator end → Between zero dt d → Between (neg end) (next_integrator gain integral_time integrator error dt) end
between_ends {gain} {integral_time} {error_end} {d} {end} {wide} t integrator error dt e i s =
    let F = t.ends_finite in
    let f : Finite (neg error_end) × Finite error_end × Finite end = (F.0, F.1, F.3) in
    let a = neg error_end in
    record {
      from_low = (pieces_in gain integral_time a error_end d end (neg end) wide integrator error dt f e s (neg end) t.lower t.lower_last.0 t.lower_last.1 F.2 t.keeps_above i).from_low;
      to_high = (pieces_in gain integral_time a error_end d end (neg wide) end integrator error dt f e s (neg end) t.upper t.upper_last.0 t.upper_last.1 F.2 t.keeps_below i).to_high;
    }
