-- Document 02, N13: boxes of other sizes. What building refuses, that a box keeps what it was built with, and that a box with 0.5 and 1.5 is the old
-- box. Demand 2 for any design flows is Demand2.antt, which speaks of every box, and the statement about the sensor is Demand3.antt.
-- The method `AirBox::build` is proved to return `build`, `AirBox::fresh` `fresh_box`, and `AirBox::tick` `tick`.
use Rattle.std.specs.Prelude.{◌≡◌, ◌↔◌, ◌⊎◌, List, map, ℕ, Bool, false, not, T, Float, Option, None}
use Rattle.std.proofs.Common.{inl, inr}
use Rattle.std.specs.Float.Ieee.{is_nan, neg}
use Rattle.f64_helpers.specs.F64.{◌⊖◌, ◌<ᶠ◌, ◌≤ᶠ◌, ◌≥ᶠ◌, decimal, zero}
use Rattle.box_choices.specs.BoxChoices.{chosen, usual}
use Rattle.box_choices.specs.declared.Choices.{Choices}
use Rattle.air_box.specs.AirBox.{delay_on_init, unticked, fresh_box, build, box_or_number, tick}
use Rattle.air_box.specs.declared.Tick.{Tick}
use Rattle.air_box.specs.declared.Start.{Start}
use Rattle.air_box.specs.declared.LastTick.{LastTick}
use Rattle.air_box.specs.declared.AirBox.{AirBox}
use Rattle.nights.specs.Nights.{night_of, box_after}
use Rattle.nights.specs.Demand3.{H}
use Rattle.nights.specs.FixedSizes.{FixedBox, fixed_fresh_box, fixed_tick, fixed_given}

-- ---- building

-- the maximum is from 0.1 to 10.0, and the minimum from 0.0 to the maximum
pub record InRange (minimum maximum : Float) : Type 0 where
  pub maximum_from : T (maximum ≥ᶠ decimal 1 10)
  pub maximum_to : T (maximum ≤ᶠ decimal 10 1)
  pub minimum_from : T (minimum ≥ᶠ zero)
  pub minimum_to : T (minimum ≤ᶠ maximum)

-- what building gives with these choices: the box, or a number
abbrev pub gives : Bool → Float → Float → Bool → AirBox ⊎ ℕ
gives quiet minimum maximum second_reading = box_or_number (build (chosen quiet minimum maximum second_reading))

pub record Building : Type 0 where
  -- it refuses, with 8, exactly where a design flow is out of its range
  pub refused : (quiet : Bool) (minimum maximum : Float) (second_reading : Bool)
      → (gives quiet minimum maximum second_reading ≡ inr 8) ↔ ¬ InRange minimum maximum
  -- there is no other number
  pub no_other_number : (quiet : Bool) (minimum maximum : Float) (second_reading : Bool) (number : ℕ)
      → gives quiet minimum maximum second_reading ≡ inr number → number ≡ 8
  -- else it gives a box that has had no tick, and has the design flows and the other choices as they came
  pub built : (quiet : Bool) (minimum maximum : Float) (second_reading : Bool) → InRange minimum maximum
      → gives quiet minimum maximum second_reading ≡ inl (unticked (chosen quiet minimum maximum second_reading))
  -- a NaN is in no range
  pub nan_minimum : (minimum maximum : Float) → T (is_nan minimum) → ¬ InRange minimum maximum
  pub nan_maximum : (minimum maximum : Float) → T (is_nan maximum) → ¬ InRange minimum maximum
  -- the ends belong to the ranges, and -0.0 is a minimum of 0
  pub lowest : InRange zero (decimal 1 10)
  pub lowest_equal : InRange (decimal 1 10) (decimal 1 10)
  pub highest : InRange zero (decimal 10 1)
  pub highest_equal : InRange (decimal 10 1) (decimal 10 1)
  pub minus_zero : InRange (neg zero) (decimal 15 10)
  -- a box that is built without naming design flows has 0.5 and 1.5, and the first reading
  pub without_naming : (start : Start) → fresh_box start ≡ unticked (chosen (delay_on_init start) (decimal 5 10) (decimal 15 10) false)

-- ---- a box keeps what it was built with

pub record Kept : Type 0 where
  -- at every tick, accepted or refused, whatever the box holds
  pub at_a_tick : (box : AirBox) (k : Tick) → (tick box k).state.choices ≡ box.choices
  -- and so after any ticks
  pub for_ever : (box : AirBox) (ticks : List Tick) → (box_after tick box ticks).choices ≡ box.choices

-- ---- a box with 0.5 and 1.5, and the first reading, is the old box

-- the old box as one of today, which keeps something of its last tick besides (document 02, N3)
abbrev pub of_fixed : Option LastTick → FixedBox → AirBox
of_fixed kept box = record { state = box.state; last_time = box.last_time; choices = usual (delay_on_init box.start); last_tick = kept }

pub record OldBox : Type 0 where
  -- one that has had no tick
  pub fresh : (start : Start) → fresh_box start ≡ of_fixed None (fixed_fresh_box start)
  -- every tick gives what it gave, and leaves the box that it left, with what the box of today keeps of its last tick beside it, whatever the box holds
  pub answer : (kept : Option LastTick) (box : FixedBox) (k : Tick) → (tick (of_fixed kept box) k).answer ≡ (fixed_tick box k).answer
  pub next : (kept : Option LastTick) (box : FixedBox) (k : Tick)
      → (tick (of_fixed kept box) k).state ≡ of_fixed (tick (of_fixed kept box) k).state.last_tick (fixed_tick box k).state
  -- and so does every night
  pub night : (start : Start) (ticks : List Tick)
      → map (λ s. s.given) (night_of (usual (delay_on_init start)) ticks) ≡ fixed_given (fixed_fresh_box start) ticks

-- ---- H less 0.01 is not above H, whatever stands as cooling maximum

abbrev pub LowerLimit : Type 0
LowerLimit = (choices : Choices) → T (not (H choices <ᶠ H choices ⊖ decimal 1 100))

-- ---- N13
pub record OtherSizes : Type 0 where
  pub building : Building
  pub kept : Kept
  pub old_box : OldBox
  pub lower_limit : LowerLimit
