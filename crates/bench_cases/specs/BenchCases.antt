-- Document 01's bench cases a to k, each as what the definitions give beside what it should be.
use Rattle.std.specs.Prelude.{Some, ◌≡◌, List, [], ◌∷◌, ◌++◌, ℕ, ◌*◌, length, replicate, Bool, true, false, ℤ, pos, negsuc, Float, Result, Ok, Err}
use Rattle.std.specs.Float.Ieee.{neg}
use Rattle.f64_helpers.specs.F64.{decimal, zero}
use Rattle.box_choices.specs.BoxChoices.{usual}
use Rattle.cdl_recurrences.specs.CdlRecurrences.{buildings_line}
use Rattle.cooling_only_controller_timing.specs.Timing.{sampler_sample, fresh_sampler, fresh_unit_delay, fresh_true_delay}
use Rattle.cooling_only_controller_timing.specs.History.{Sample, true_delay_after}
use Rattle.cooling_only_controller_timing.specs.declared.SamplerState.{SamplerState}
use Rattle.cooling_only_controller_conditioning.specs.Conditioning.{time_suppression, fresh_latch}
use Rattle.cooling_only_controller_conditioning.specs.Conditioning.{active_airflow, zone_states, fresh_zone_states}
use Rattle.cooling_only_controller_conditioning.specs.ConditioningPieces.{suppression_window}
use Rattle.cooling_only_controller_conditioning.specs.declared.TimeSuppressionState.{TimeSuppressionState}
use Rattle.cooling_only_controller_airflow.specs.Airflow.{damper, fresh_damper, alarms, fresh_alarms}
use Rattle.cooling_only_controller_airflow.specs.declared.DamperInput.{DamperInput}
use Rattle.cooling_only_controller_airflow.specs.declared.AlarmInput.{AlarmInput}
use Rattle.cooling_only_controller_airflow.specs.declared.AlarmsState.{AlarmsState}
use Rattle.air_box.specs.AirBox.{tick, fresh_box}
use Rattle.air_box.specs.BenchTick.{bench_tick}
use Rattle.air_box.specs.declared.Tick.{Tick}
use Rattle.cooling_only_controller.specs.declared.ControllerOutput.{ControllerOutput}
use Rattle.air_box.specs.declared.Refusal.{Refusal}
use Rattle.air_box.specs.declared.Start.TheVariants.{Plain}

-- what a case gives: a flag, an f64, an integer, or an f64 that depends on another
pub data Value : Type 0 where
  flag : Bool → Value
  number : Float → Value
  integer : ℤ → Value
  of_base : (Float → Float) → Value

pub record Case : Type 0 where
  pub gives : Value
  pub should_be : Value

infix 3 ◌is◌
abbrev pub ◌is◌ : Value → Value → Case
a is b = record { gives = a; should_be = b }

-- ---- a, b, c: a true delay of 600, plain start
-- samples each 60 seconds from 0, with these inputs, newest first
abbrev each_60 : List Bool → List Sample
each_60 [] = []
each_60 (input ∷ older) = record { time = decimal (60 * length older) 1; input = input } ∷ each_60 older

abbrev delayed : List Bool → Value
delayed inputs = flag (true_delay_after (decimal 600 1) false (each_60 inputs)).held

-- b: false at 0, then true n times
abbrev b_after : ℕ → Value
b_after n = delayed (replicate n true ++ (false ∷ []))

-- c: false at 0, true up to 240, false at 300, then true n times
abbrev c_after : ℕ → Value
c_after n = delayed (replicate n true ++ (false ∷ (replicate 4 true ++ (false ∷ []))))

-- ---- d: the flow-high memory of the alarms stage after these flows, newest first
abbrev flow_of : Float → AlarmInput
flow_of flow =
    record {
      discharge_airflow = flow;
      active_airflow_setpoint = zero;
      supply_fan_status = false;
      operation_mode = pos 1;
      damper_position = zero;
    }

abbrev alarms_after : List Float → AlarmsState
alarms_after [] = fresh_alarms
alarms_after (flow ∷ older) = (alarms (alarms_after older) zero (flow_of flow) (usual false)).state

abbrev high : List Float → Value
high flows = flag (alarms_after flows).flow_high

-- ---- e: the damper's airflow setpoint with this override; zone state 2, so that the base is the active minimum
abbrev base_of : ℤ → Float → DamperInput
base_of index base =
    record {
      active_minimum_flow = base;
      supply_air_temperature = zero;
      zone_temperature = zero;
      cooling_loop = zero;
      active_cooling_maximum_flow = zero;
      zone_state = pos 2;
      airflow_override_index = index;
      supply_fan_status = false;
      discharge_airflow = zero;
      damper_override_index = pos 0;
    }

abbrev overridden : ℤ → Value
overridden index = of_base (λ base. (damper fresh_damper zero (base_of index base) (usual false)).output.airflow_setpoint)

-- ---- h: suppression since 0 with these captured, and whether the window has passed when so much time has elapsed
abbrev suppressed : Float → Float → TimeSuppressionState
suppressed captured_setpoint captured_zone =
    record {
      setpoint_sampler = fresh_sampler;
      previous_sample = fresh_unit_delay;
      startup_delay = fresh_true_delay;
      change_detected = false;
      suppression_latch = record { held = true; previous_input = false };
      passed_latch = fresh_latch;
      timer = record { entry_time = Some zero; previous_input = true };
      previous_active = true;
      previous_passed = false;
      captured_setpoint = captured_setpoint;
      captured_zone = captured_zone;
    }

abbrev passed : Float → Float → Float → Value
passed elapsed captured_setpoint captured_zone =
    flag (time_suppression (suppressed captured_setpoint captured_zone) elapsed captured_setpoint captured_zone).state.previous_passed

-- ---- i: the sampler of period 120, first tick at 130 with 1.0, then one with 2.0
abbrev first_sampled : SamplerState
first_sampled = (sampler_sample fresh_sampler (decimal 130 1) (decimal 1 1) (decimal 120 1)).state

abbrev then_sampled : Float → Value
then_sampled t = number (sampler_sample first_sampled t (decimal 2 1) (decimal 120 1)).output

-- ---- k: the whole box on its first tick: discharge 0.75, airflow override 2, no damper override
abbrev tick_k : Tick
tick_k = bench_tick (decimal 75 100) (pos 2) (pos 0) true

-- the damper command of an answer; a refusal has none, for which -1.0 stands
abbrev damper_command : Result ControllerOutput Refusal → Value
damper_command (Ok output) = number output.damper_command
damper_command (Err reason) = number (neg (decimal 1 1))

abbrev pub cases : List Case
cases =
    -- a: the first tick true
    (delayed (true ∷ []) is flag true)
    -- b: at 600 and at 660
    ∷ (b_after 10 is flag false)
    ∷ (b_after 11 is flag true)
    -- c: at 0 and each 60 after, up to 900, and at 960
    ∷ (b_after 0 is flag false)
    ∷ (b_after 1 is flag false)
    ∷ (b_after 2 is flag false)
    ∷ (b_after 3 is flag false)
    ∷ (b_after 4 is flag false)
    ∷ (c_after 0 is flag false)
    ∷ (c_after 1 is flag false)
    ∷ (c_after 2 is flag false)
    ∷ (c_after 3 is flag false)
    ∷ (c_after 4 is flag false)
    ∷ (c_after 5 is flag false)
    ∷ (c_after 6 is flag false)
    ∷ (c_after 7 is flag false)
    ∷ (c_after 8 is flag false)
    ∷ (c_after 9 is flag false)
    ∷ (c_after 10 is flag false)
    ∷ (c_after 11 is flag true)
    -- d
    ∷ (high (decimal 16 100 ∷ []) is flag true)
    ∷ (high (decimal 145 1000 ∷ decimal 16 100 ∷ []) is flag true)
    ∷ (high (decimal 13 100 ∷ decimal 145 1000 ∷ decimal 16 100 ∷ []) is flag false)
    ∷ (high (decimal 145 1000 ∷ []) is flag false)
    -- e
    ∷ (overridden (pos 1) is of_base (λ base. zero))
    ∷ (overridden (pos 2) is of_base (λ base. decimal 15 10))
    ∷ (overridden (pos 3) is of_base (λ base. decimal 5 10))
    ∷ (overridden (negsuc 0) is of_base (λ base. base))
    ∷ (overridden (pos 0) is of_base (λ base. base))
    ∷ (overridden (pos 4) is of_base (λ base. base))
    -- f
    ∷ (number (active_airflow (pos 1) (decimal 75 100) (usual false)).cooling_maximum is number (decimal 15 10))
    ∷ (number (active_airflow (pos 1) (decimal 75 100) (usual false)).minimum is number (decimal 75 100))
    ∷ (number (active_airflow (pos 2) (decimal 75 100) (usual false)).cooling_maximum is number (decimal 15 10))
    ∷ (number (active_airflow (pos 2) (decimal 75 100) (usual false)).minimum is number zero)
    ∷ (number (active_airflow (pos 3) (decimal 75 100) (usual false)).cooling_maximum is number (decimal 15 10))
    ∷ (number (active_airflow (pos 3) (decimal 75 100) (usual false)).minimum is number zero)
    ∷ (number (active_airflow (pos 4) (decimal 75 100) (usual false)).cooling_maximum is number zero)
    ∷ (number (active_airflow (pos 4) (decimal 75 100) (usual false)).minimum is number zero)
    -- g
    ∷ (number (buildings_line zero (decimal 5 10) (decimal 1 1) (decimal 15 10) (decimal 25 100)) is number (decimal 75 100))
    ∷ (number (buildings_line zero (decimal 5 10) (decimal 1 1) (decimal 15 10) (neg (decimal 1 1))) is number (decimal 5 10))
    ∷ (number (buildings_line zero (decimal 5 10) (decimal 1 1) (decimal 15 10) (decimal 2 1)) is number (decimal 15 10))
    -- h
    ∷ (number (suppression_window (decimal 297 1) (decimal 296 1)) is number (decimal 540 1))
    ∷ (passed (decimal 540 1) (decimal 297 1) (decimal 296 1) is flag false)
    ∷ (passed (decimal 600 1) (decimal 297 1) (decimal 296 1) is flag true)
    ∷ (number (suppression_window (decimal 300 1) (decimal 296 1)) is number (decimal 1800 1))
    ∷ (passed (decimal 1800 1) (decimal 300 1) (decimal 296 1) is flag false)
    ∷ (passed (decimal 1860 1) (decimal 300 1) (decimal 296 1) is flag true)
    -- i
    ∷ (number first_sampled.t0 is number (decimal 120 1))
    ∷ (then_sampled (decimal 239 1) is number (decimal 1 1))
    ∷ (then_sampled (decimal 240 1) is number (decimal 2 1))
    -- j
    ∷ (integer (zone_states fresh_zone_states (decimal 6 100) zero).output is integer (pos 1))
    ∷ (integer (zone_states fresh_zone_states (decimal 6 100) (decimal 6 100)).output is integer (pos 3))
    ∷ (integer (zone_states fresh_zone_states zero zero).output is integer (pos 2))
    -- k
    ∷ (damper_command (tick (fresh_box Plain) tick_k).answer is number (decimal 25 100))
    ∷ []

-- each case of a list gives what it should
abbrev pub Hold : List Case → Type 0
Hold [] = Unit
Hold (c ∷ cs) = (c.gives ≡ c.should_be) × Hold cs

-- the claim about the list
abbrev pub BenchCasesHold : Type 0
BenchCasesHold = Hold cases
