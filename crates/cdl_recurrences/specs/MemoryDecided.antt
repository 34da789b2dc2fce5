-- Document 02, N2: when memory decided. What `decided_by_memory` comes to for each of the three comparisons, over their thresholds.
-- `fits binary64 u2` says that u2 is an f64, as every argument of the code is.
use Rattle.std.specs.Prelude.{◌≡◌, ◌↔◌, ◌⊎◌, Bool, true, false, not, ◌&&◌, T, Float}
use Rattle.std.specs.Float.{binary64}
use Rattle.std.specs.Float.Ieee.{fits, is_nan}
use Rattle.f64_helpers.specs.F64.{◌⊕◌, ◌⊖◌, ◌⊗◌, ◌<ᶠ◌, ◌>ᶠ◌, ◌≤ᶠ◌, ◌≥ᶠ◌, decimal, zero}
use Rattle.cdl_recurrences.specs.CdlRecurrences.{
  hysteresis,
  less_hysteretic,
  greater_hysteretic,
  decided_by_memory,
  dead_band_output,
}
use Rattle.cdl_recurrences.specs.declared.DeadBandOutput.{DeadBandOutput}

-- Memory decided exactly if the reading lies in the band, and the answer there is `given`.
pub record Decided (answer : Bool → Bool) (previous in_band given : Bool) : Type 0 where
  pub exactly : decided_by_memory answer previous ≡ in_band
  pub answer_there : T in_band → answer previous ≡ given

-- what a NaN as a reading gives, or as what it is compared with: u2, or both ends
abbrev pub no_whatever_it_was : DeadBandOutput
no_whatever_it_was = record { output = false; decided_by_memory = false }

pub record HysteresisBand (u u_low u_high : Float) (previous : Bool) : Type 0 where
  -- not above the high end and not below the low one: the answer stays what it was
  pub upright : T (u_low ≤ᶠ u_high) → Decided (hysteresis u u_low u_high) previous (not (u >ᶠ u_high) && (u ≥ᶠ u_low)) previous
  -- turned round, above the high end and below the low one: the answer is never what it was
  pub turned_round : T (u_low >ᶠ u_high) → Decided (hysteresis u u_low u_high) previous ((u >ᶠ u_high) && not (u ≥ᶠ u_low)) (not previous)
  -- with a NaN for an end the test at the other end is left
  pub low_nan : T (is_nan u_low) → Decided (hysteresis u u_low u_high) previous (u >ᶠ u_high) (not previous)
  pub high_nan : T (is_nan u_high) → Decided (hysteresis u u_low u_high) previous (u ≥ᶠ u_low) previous
  -- with a NaN for both ends, or as a reading, neither test passes
  pub ends_nan : T (is_nan u_low) → T (is_nan u_high) → dead_band_output (hysteresis u u_low u_high) previous ≡ no_whatever_it_was
  pub reading_nan : T (is_nan u) → dead_band_output (hysteresis u u_low u_high) previous ≡ no_whatever_it_was

pub record LessBand (u1 u2 h : Float) (previous : Bool) : Type 0 where
  -- not below u2, and below u2 + h: the answer stays what it was
  pub upright : T (zero ≤ᶠ h) → Decided (less_hysteretic u1 u2 h) previous (not (u1 <ᶠ u2) && (u1 <ᶠ u2 ⊕ h)) previous
  -- turned round, below u2 and not below u2 + h: the answer is never what it was
  pub turned_round : T (h <ᶠ zero) → Decided (less_hysteretic u1 u2 h) previous ((u1 <ᶠ u2) && not (u1 <ᶠ u2 ⊕ h)) (not previous)
  -- with a NaN for h nothing keeps it on
  pub h_nan : T (is_nan h) → Decided (less_hysteretic u1 u2 h) previous (u1 <ᶠ u2) (not previous)
  pub nan_compared : T (is_nan u1) ⊎ T (is_nan u2) → dead_band_output (less_hysteretic u1 u2 h) previous ≡ no_whatever_it_was

pub record GreaterBand (u1 u2 h : Float) (previous : Bool) : Type 0 where
  -- not above u2, and above u2 - h: the answer stays what it was
  pub upright : T (zero ≤ᶠ h) → Decided (greater_hysteretic u1 u2 h) previous (not (u1 >ᶠ u2) && (u1 >ᶠ u2 ⊖ h)) previous
  -- turned round, above u2 and not above u2 - h: the answer is never what it was
  pub turned_round : T (h <ᶠ zero) → Decided (greater_hysteretic u1 u2 h) previous ((u1 >ᶠ u2) && not (u1 >ᶠ u2 ⊖ h)) (not previous)
  -- with a NaN for h nothing keeps it on
  pub h_nan : T (is_nan h) → Decided (greater_hysteretic u1 u2 h) previous (u1 >ᶠ u2) (not previous)
  pub nan_compared : T (is_nan u1) ⊎ T (is_nan u2) → dead_band_output (greater_hysteretic u1 u2 h) previous ≡ no_whatever_it_was

-- Whether a flow counts as high, and whether memory decided that, after what it was before: `flow_high` of `alarms`, whose numbers
-- these are (`flow_high_compared`, a law of the alarms stage).
abbrev pub flow_high : Float → Bool → DeadBandOutput
flow_high flow = dead_band_output (greater_hysteretic flow (decimal 1 10 ⊗ decimal 15 10) (decimal 1 100))

-- ---- N2
pub record MemoryDecided : Type 0 where
  -- beside the answer, which is the one that the comparison gave before, stands whether the other memory would have given the other one
  pub answer_stays : (answer : Bool → Bool) (previous : Bool) → (dead_band_output answer previous).output ≡ answer previous
  pub other_memory : (answer : Bool → Bool) (previous : Bool)
      → T (dead_band_output answer previous).decided_by_memory ↔ (answer (not previous) ≡ not (answer previous))
  -- that is so exactly in the dead band
  pub hysteresis_band : (u u_low u_high : Float) (previous : Bool) → HysteresisBand u u_low u_high previous
  pub less_band : (u1 u2 h : Float) (previous : Bool) → T (fits binary64 u2) → LessBand u1 u2 h previous
  pub greater_band : (u1 u2 h : Float) (previous : Bool) → T (fits binary64 u2) → GreaterBand u1 u2 h previous
  -- nor is an h or a pair of ends left out: with 0 and h for x and y, or the low and the high end, one of these holds
  pub nothing_left_out : (x y : Float) → T (x ≤ᶠ y) ⊎ (T (y <ᶠ x) ⊎ (T (is_nan x) ⊎ T (is_nan y)))
  -- a flow of 0.145: high by memory after one of 0.16, not high by memory as a first flow
  pub after_0_16 : flow_high (decimal 145 1000) (flow_high (decimal 16 100) false).output
      ≡ record { output = true; decided_by_memory = true }
  pub as_first_flow : flow_high (decimal 145 1000) false ≡ record { output = false; decided_by_memory = true }
