-- What a box grown from a start keeps: a range for each f64 of its state, and what these ranges need of each other from one tick to the next.
-- A fresh box has it, and an accepted tick keeps it (`KeptBox`: proofs/KeptBox.antt). `last` is the time of the last accepted tick.
-- `KeptSigns` at the end serves the published helpers alone.
use Rattle.std.specs.Prelude.{◌≡◌, ℕ, ◌≤◌, Bool, false, T, Float, Option, Some, None}
use Rattle.std.specs.Float.{binary64}
use Rattle.std.specs.Float.Ieee.{fits, neg}
use Rattle.f64_helpers.specs.F64.{◌⊕◌, ◌≤ᶠ◌, decimal, zero}
use Rattle.f64_helpers.specs.Helpers.{negative}
use Rattle.f64_helpers.specs.Seconds.{IsTime, seconds}
use Rattle.f64_helpers.specs.Ranges.{Between, NotMinusZero}
use Rattle.cooling_only_controller_timing.specs.declared.SamplerState.{SamplerState}
use Rattle.cooling_only_controller_timing.specs.declared.UnitDelayState.{UnitDelayState}
use Rattle.cooling_only_controller_timing.specs.declared.TrueDelayState.{TrueDelayState}
use Rattle.cooling_only_controller_conditioning.specs.declared.TimeSuppressionState.{TimeSuppressionState}
use Rattle.cooling_only_controller_conditioning.specs.declared.LoopPiState.{LoopPiState}
use Rattle.cooling_only_controller_conditioning.specs.declared.ControlLoopsState.{ControlLoopsState}
use Rattle.cooling_only_controller_airflow.specs.declared.DamperState.{DamperState}
use Rattle.cooling_only_controller_airflow.specs.declared.SystemRequestsState.{SystemRequestsState}
use Rattle.cooling_only_controller_airflow.specs.declared.AlarmsState.{AlarmsState}
use Rattle.cooling_only_controller.specs.declared.ControllerState.{ControllerState}
use Rattle.air_box.specs.declared.AirBox.{AirBox}
use Rattle.bounds.specs.Limits.{LONGEST_STEP, HOTTEST, HIGHEST_FLOW}

-- ---- times

abbrev pub TimeIfPresent : Option Float → Type 0
TimeIfPresent None = Unit
TimeIfPresent (Some t) = IsTime t

-- 0 before the first accepted tick
abbrev pub last_seconds : Option Float → ℕ
last_seconds None = 0
last_seconds (Some t) = seconds t

-- ---- the timing blocks

-- a grid starts at a whole second that is not after the last accepted tick
pub record KeptGrid (last : Option Float) (t0 : Float) : Type 0 where
  pub time : IsTime t0
  pub begun : seconds t0 ≤ last_seconds last

-- and the sampler holds what lies from low to high
pub record KeptSampler (last : Option Float) (low high : Float) (s : SamplerState) : Type 0 where
  pub grid : KeptGrid last s.t0
  pub held : Between low s.held high

pub record KeptUnitDelay (last : Option Float) (low high : Float) (s : UnitDelayState) : Type 0 where
  pub grid : KeptGrid last s.t0
  pub held : Between low s.held high
  pub staged : Between low s.staged high

-- a true delay of this length: its timer runs on at most one step past the end, and its sign bit is clear
pub record KeptTrueDelay (last : Option Float) (delay : Float) (s : TrueDelayState) : Type 0 where
  pub previous_time : s.previous_time ≡ last
  pub timer : Between zero s.timer (delay ⊕ LONGEST_STEP)
  pub runs : s.held ≡ false → T (s.timer ≤ᶠ delay)
  pub sign_clear : negative s.timer ≡ false

-- ---- the loops' PI, of 64 either way

pub record KeptLoopPi (last : Option Float) (s : LoopPiState) : Type 0 where
  pub integrator : Between (neg (decimal 64 1)) s.integrator (decimal 64 1)
  pub previous_time : s.previous_time ≡ last

-- ---- the stages

pub record KeptTimeSuppression (last : Option Float) (s : TimeSuppressionState) : Type 0 where
  pub setpoint_sampler : KeptSampler last zero HOTTEST s.setpoint_sampler
  pub previous_sample : KeptUnitDelay last zero HOTTEST s.previous_sample
  pub startup_delay : KeptTrueDelay last (decimal 120 1) s.startup_delay
  pub entry_time : TimeIfPresent s.timer.entry_time
  pub captured_setpoint : Between zero s.captured_setpoint HOTTEST
  pub captured_zone : Between zero s.captured_zone HOTTEST

pub record KeptControlLoops (last : Option Float) (s : ControlLoopsState) : Type 0 where
  pub cooling_pi : KeptLoopPi last s.cooling_pi
  pub heating_pi : KeptLoopPi last s.heating_pi
  pub cooling_delay : KeptTrueDelay last (decimal 30 1) s.cooling_delay
  pub heating_delay : KeptTrueDelay last (decimal 30 1) s.heating_delay

pub record KeptDamper (last : Option Float) (end : Float) (s : DamperState) : Type 0 where
  pub integrator : Between (neg end) s.integrator end
  pub previous_time : s.previous_time ≡ last

pub record KeptSystemRequests (last : Option Float) (maximum : Float) (s : SystemRequestsState) : Type 0 where
  pub hot_three_delay : KeptTrueDelay last (decimal 120 1) s.hot_three_delay
  pub hot_two_delay : KeptTrueDelay last (decimal 120 1) s.hot_two_delay
  pub damper_delay : KeptTrueDelay last (decimal 60 1) s.damper_delay
  pub cooling_sampler : KeptSampler last zero (decimal 1 1) s.cooling_sampler
  pub setpoint_sampler : KeptSampler last zero maximum s.setpoint_sampler
  pub discharge_sampler : KeptSampler last (neg HIGHEST_FLOW) HIGHEST_FLOW s.discharge_sampler
  pub damper_sampler : KeptSampler last zero (decimal 1 1) s.damper_sampler

pub record KeptAlarms (last : Option Float) (s : AlarmsState) : Type 0 where
  pub fan_armed : KeptTrueDelay last (decimal 1800 1) s.fan_armed
  pub setpoint_on : KeptTrueDelay last (decimal 300 1) s.setpoint_on
  pub low_half_delay : KeptTrueDelay last (decimal 300 1) s.low_half_delay
  pub low_seventy_delay : KeptTrueDelay last (decimal 300 1) s.low_seventy_delay
  pub sensor_delay : KeptTrueDelay last (decimal 600 1) s.sensor_delay
  pub leak_delay : KeptTrueDelay last (decimal 600 1) s.leak_delay

-- ---- the box; the damper's integrator lies from -`end` to `end`, which the box's size decides
pub record KeptBox (end : Float) (box : AirBox) : Type 0 where
  pub last_time : TimeIfPresent box.last_time
  pub time_suppression : KeptTimeSuppression box.last_time box.state.time_suppression
  pub control_loops : KeptControlLoops box.last_time box.state.control_loops
  pub dampers : KeptDamper box.last_time end box.state.dampers
  pub system_requests : KeptSystemRequests box.last_time box.choices.design_cooling_maximum_flow box.state.system_requests
  pub alarms : KeptAlarms box.last_time box.state.alarms

-- ---- signs, for the agreement with the published helpers (PublishedAgrees.antt; proofs/Signs.antt)
-- No integrator is -0.0. A loop's reset stores minus its proportional part, which is above 0 there: the PI resets only where its enable rises,
-- since the trigger that it remembers is the enable that the loops remember.

pub record KeptLoopSign (enable : Bool) (s : LoopPiState) : Type 0 where
  pub is_f64 : T (fits binary64 s.integrator)
  pub sign : NotMinusZero s.integrator
  pub trigger : s.previous_trigger ≡ enable

pub record KeptSigns (s : ControllerState) : Type 0 where
  pub cooling : KeptLoopSign s.control_loops.cooling_enable s.control_loops.cooling_pi
  pub heating : KeptLoopSign s.control_loops.heating_enable s.control_loops.heating_pi
  pub damper_is_f64 : T (fits binary64 s.dampers.integrator)
  pub damper_sign : NotMinusZero s.dampers.integrator
