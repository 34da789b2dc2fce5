-- Stage by stage, and then whole: the controller over the published helpers gives what today's gives, at what it is handed. Assumes nothing.
-- `Handed` lists that: plain facts of what the ventilation setpoints read, of the memories and of today's signals at this tick.
use Rattle.std.proofs.Common.{◌≡◌, ℕ, Bool, true, false, cond, not, ◌&&◌, ◌||◌, T, ℤ, pos, refl}
use lib.Ieee.{Float, binary64, round, neg, lt, eq, le, fits}
use lib.Ieee.Fits.{round-fits}
use Rattle.f64_helpers.specs.F64.{◌⊕◌, ◌⊖◌, ◌⊗◌, ◌⊘◌, ◌≤ᶠ◌, decimal, zero}
use Rattle.f64_helpers.specs.Helpers as Today
use Rattle.f64_helpers.specs.Helpers.{both_zero, abs}
use Rattle.f64_helpers.specs.Integers.{◌==ᶻ◌}
use Rattle.f64_helpers.specs.Ranges.{NotMinusZero, Finite}
use Rattle.f64_helpers.specs.Seconds.{IsTime}
use Rattle.box_choices.specs.declared.Choices.{Choices}
use Rattle.cdl_recurrences.specs.CdlRecurrences.{buildings_line, less_hysteretic, sample_due, sampler_output}
use Rattle.cooling_only_controller_timing.specs.Timing.{sampler_sample}
use Rattle.cooling_only_controller_timing.specs.declared.SamplerState.{SamplerState}
use Rattle.cooling_only_controller_conditioning.specs.Conditioning.{TEMPERATURE_HYSTERESIS, time_suppression, loop_pi, control_loops, setpoints, zone_states, active_airflow}
use Rattle.cooling_only_controller_conditioning.specs.declared.TimeSuppressionState.{TimeSuppressionState}
use Rattle.cooling_only_controller_conditioning.specs.declared.LoopPiState.{LoopPiState}
use Rattle.cooling_only_controller_conditioning.specs.declared.ControlLoopsState.{ControlLoopsState}
use Rattle.cooling_only_controller_conditioning.specs.declared.SetpointInput.{SetpointInput}
use Rattle.cooling_only_controller_conditioning.specs.declared.SetpointsState.{SetpointsState}
use Rattle.cooling_only_controller_conditioning.specs.declared.ZoneStatesState.{ZoneStatesState}
use Rattle.cooling_only_controller_airflow.specs.Airflow.{damper, system_requests, alarms}
use Rattle.cooling_only_controller_airflow.specs.declared.DamperInput.{DamperInput}
use Rattle.cooling_only_controller_airflow.specs.declared.DamperState.{DamperState}
use Rattle.cooling_only_controller_airflow.specs.declared.SystemRequestInput.{SystemRequestInput}
use Rattle.cooling_only_controller_airflow.specs.declared.SystemRequestsState.{SystemRequestsState}
use Rattle.cooling_only_controller_airflow.specs.declared.AlarmInput.{AlarmInput}
use Rattle.cooling_only_controller_airflow.specs.declared.AlarmsState.{AlarmsState}
use Rattle.cooling_only_controller.specs.Controller.{controller_output}
use Rattle.cooling_only_controller.specs.ControllerPieces.{setpoint_input, damper_input, request_input, alarm_input}
use Rattle.std.specs.Int.Signed.{le_z}
use Rattle.cooling_only_controller.specs.declared.ControllerInput.{ControllerInput}
use Rattle.cooling_only_controller.specs.declared.ControllerState.{ControllerState}
use Rattle.air_box.specs.declared.Tick.{Tick}
use Rattle.air_box.specs.declared.AirBox.{AirBox}
use Rattle.bounds.specs.PublishedHelpers.{published, RustMax, RustMin}
use Rattle.bounds.specs.PublishedController.{time_suppression_over, loop_pi_over, control_loops_over, setpoints_over, zone_states_over, damper_over, system_requests_over, alarms_over, controller_output_over}
use Rattle.bounds.proofs.PublishedBlocks.{Rust, NotMinusZeroF64, Started, hysteresis_same, limits_same, line_same, delay_same, integral_same, sampler_same, unit_delay_same}
use Rattle.f64_helpers.proofs.SignedZeros.{decimal_sign}
use mathlib.Core.Bool.{and-false}
use Rattle.std.proofs.lemmas.Bool.{cond_both}

-- ---- what is handed

-- the memories of each stage, at a tick at t
pub record SuppressionKept (s : TimeSuppressionState) (t : Float) : Type 0 where
  pub setpoint_grid : Started s.setpoint_sampler.t0 t
  pub previous_grid : Started s.previous_sample.t0 t
  pub startup_timer : NotMinusZero s.startup_delay.timer

pub record LoopsKept (s : ControlLoopsState) : Type 0 where
  pub cooling_integrator : NotMinusZeroF64 s.cooling_pi.integrator
  pub heating_integrator : NotMinusZeroF64 s.heating_pi.integrator
  pub cooling_timer : NotMinusZero s.cooling_delay.timer
  pub heating_timer : NotMinusZero s.heating_delay.timer

pub record RequestsKept (s : SystemRequestsState) (t : Float) : Type 0 where
  pub hot_three_timer : NotMinusZero s.hot_three_delay.timer
  pub hot_two_timer : NotMinusZero s.hot_two_delay.timer
  pub damper_timer : NotMinusZero s.damper_delay.timer
  pub cooling_grid : Started s.cooling_sampler.t0 t
  pub setpoint_grid : Started s.setpoint_sampler.t0 t
  pub discharge_grid : Started s.discharge_sampler.t0 t
  pub damper_grid : Started s.damper_sampler.t0 t
  pub cooling_held : Finite s.cooling_sampler.held
  pub setpoint_held : Finite s.setpoint_sampler.held
  pub damper_held : Finite s.damper_sampler.held

pub record AlarmsKept (s : AlarmsState) : Type 0 where
  pub fan_timer : NotMinusZero s.fan_armed.timer
  pub setpoint_timer : NotMinusZero s.setpoint_on.timer
  pub low_half_timer : NotMinusZero s.low_half_delay.timer
  pub low_seventy_timer : NotMinusZero s.low_seventy_delay.timer
  pub sensor_timer : NotMinusZero s.sensor_delay.timer
  pub leak_timer : NotMinusZero s.leak_delay.timer

pub record MemoriesKept (s : ControllerState) (t : Float) : Type 0 where
  pub suppression : SuppressionKept s.time_suppression t
  pub loops : LoopsKept s.control_loops
  pub damper_integrator : NotMinusZeroF64 s.dampers.integrator
  pub requests : RequestsKept s.system_requests t
  pub alarms : AlarmsKept s.alarms

-- what the ventilation setpoints are handed
abbrev pub co2_loop_at : SetpointInput → Float
co2_loop_at input = buildings_line (input.co2_setpoint ⊖ decimal 200 1) zero input.co2_setpoint (decimal 1 1) input.co2_concentration

pub record Ventilation (input : SetpointInput) (maximum : Float) : Type 0 where
  pub co2_concentration : Finite input.co2_concentration
  pub co2_band : T (input.co2_setpoint ⊖ decimal 200 1 ≤ᶠ input.co2_setpoint)
  pub co2_loop : Finite (co2_loop_at input)
  pub cooling_maximum : NotMinusZeroF64 maximum

-- today's signals at this tick: of the loops and of the damper also the PI before its limits
abbrev pub loop_unlimited : LoopPiState → Float → Float
loop_unlimited s error = decimal 1 10 ⊗ error ⊕ s.integrator

abbrev pub damper_unlimited : DamperState → Float → Float → Float → Float
damper_unlimited s setpoint flow maximum = decimal 5 10 ⊗ (setpoint ⊘ maximum ⊖ flow ⊘ maximum) ⊕ s.integrator

pub record LoopSignals (s : ControlLoopsState) (t cooling_setpoint zone_temperature heating_setpoint : Float) : Type 0 where
  pub cooling_error : Finite (zone_temperature ⊖ cooling_setpoint)
  pub cooling_unlimited : Finite (loop_unlimited s.cooling_pi (zone_temperature ⊖ cooling_setpoint))
  pub heating_unlimited : Finite (loop_unlimited s.heating_pi (heating_setpoint ⊖ zone_temperature))
  pub cooling : Finite (control_loops s t cooling_setpoint zone_temperature heating_setpoint).output.cooling
  pub heating : Finite (control_loops s t cooling_setpoint zone_temperature heating_setpoint).output.heating
  pub difference :
      let loops = control_loops s t cooling_setpoint zone_temperature heating_setpoint in Finite (loops.output.heating ⊖ loops.output.cooling)

pub record Signals (s : ControllerState) (t : Float) (input : ControllerInput) (choices : Choices) : Type 0 where
  pub loops : LoopSignals s.control_loops t input.cooling_setpoint input.zone_temperature input.heating_setpoint
  pub damper : Finite (damper_unlimited s.dampers (controller_output s t input choices).output.airflow_setpoint input.discharge_airflow choices.design_cooling_maximum_flow)
  pub airflow_setpoint : Finite (controller_output s t input choices).output.airflow_setpoint
  pub damper_command : Finite (controller_output s t input choices).output.damper_command

pub record Handed (box : AirBox) (k : Tick) : Type 0 where
  pub time : IsTime k.t
  pub ventilation : Ventilation (setpoint_input k.input) box.choices.design_cooling_maximum_flow
  pub memories : MemoriesKept box.state k.t
  pub signals : Signals box.state k.t k.input box.choices

-- ---- the stages' numbers
window_above_zero : (x : Float) → both_zero x (decimal 1800 1) ≡ false
unfolding round eq
window_above_zero x = and-false (eq x zero)

-- the low end of each range is at most its high end
record Ranges : Type 0 where
  unit : T (le zero (decimal 1 1))
  signal : T (le (decimal 1 100) (decimal 5 100))
  tiebreak : T (le (neg (decimal 1 100)) (decimal 1 100))
  hot_three : T (le (decimal 275 100) (decimal 3 1))
  hot_two : T (le (decimal 175 100) (decimal 2 1))
  high : T (le (decimal 94 100) (decimal 95 100))
  flow : T (le (decimal 5 1000) (decimal 1 100))

ranges : Ranges
unfolding round neg le lt eq
ranges = assumption tt

decimal_is_f64 : (n d : ℕ) → NotMinusZeroF64 (decimal n d)
decimal_is_f64 n d = record { is_f64 = round-fits binary64 false n d; not_minus_zero = decimal_sign n d }

active_maximum : (mode : ℤ) (minimum : Float) (choices : Choices) → NotMinusZeroF64 choices.design_cooling_maximum_flow → NotMinusZeroF64 (active_airflow mode minimum choices).cooling_maximum
unfolding active_airflow fits
active_maximum mode minimum choices maximum =
    cond_both (le_z (pos 1) mode && le_z mode (pos 3)) choices.design_cooling_maximum_flow zero NotMinusZeroF64 (λ e. maximum) (λ e. record { is_f64 = tt; not_minus_zero = tt })

-- what a sampler gives is the input or the number that it holds
sampled_finite : (s : SamplerState) (t input period : Float) → Finite s.held → Finite input → Finite (sampler_sample s t input period).output
unfolding sampler_sample sampler_output
sampled_finite s t input period h k = cond_both (not s.initialized || (sample_due t s.t0 period s.last_index).due) input s.held Finite (λ e. k) (λ e. h)

module _ (r : Rust) where
  -- ---- time suppression
  window_same : (x : Float) → r.min x (decimal 1800 1) ≡ Today.min x (decimal 1800 1)
  window_same x = r.min_is.off_zeros x (decimal 1800 1) (window_above_zero x)

  suppression_same : (s : TimeSuppressionState) (t setpoint_temperature zone_temperature : Float) → IsTime t → SuppressionKept s t
      → time_suppression_over (published r.max r.min) s t setpoint_temperature zone_temperature ≡ time_suppression s t setpoint_temperature zone_temperature
  unfolding time_suppression_over time_suppression
  suppression_same s t setpoint_temperature zone_temperature time kept =
      rw (
        sampler_same r s.setpoint_sampler t time kept.setpoint_grid,
        unit_delay_same r s.previous_sample t time kept.previous_grid,
        delay_same r 120 tt s.startup_delay t true kept.startup_timer,
        window_same,
      )
      refl

  -- ---- the loops
  loop_same : (s : LoopPiState) (t error : Float) (trigger : Bool) → NotMinusZeroF64 s.integrator → Finite (loop_unlimited s error)
      → loop_pi_over (published r.max r.min) s t error trigger ≡ loop_pi s t error trigger
  unfolding loop_pi_over loop_pi
  loop_same s t error trigger kept n =
      rw (
        limits_same r (decimal 1 10) error s.integrator kept n,
        integral_same r s.integrator s.previous_time t kept.not_minus_zero,
      )
      refl

  loops_same : (s : ControlLoopsState) (t cooling_setpoint zone_temperature heating_setpoint : Float) → LoopsKept s → LoopSignals s t cooling_setpoint zone_temperature heating_setpoint
      → control_loops_over (published r.max r.min) s t cooling_setpoint zone_temperature heating_setpoint ≡ control_loops s t cooling_setpoint zone_temperature heating_setpoint
  unfolding control_loops_over control_loops
  loops_same s t cooling_setpoint zone_temperature heating_setpoint kept signals =
      let cooling_enable = less_hysteretic cooling_setpoint zone_temperature TEMPERATURE_HYSTERESIS s.cooling_enable in
      let heating_enable = less_hysteretic zone_temperature heating_setpoint TEMPERATURE_HYSTERESIS s.heating_enable in
      rw (
        loop_same s.cooling_pi t (zone_temperature ⊖ cooling_setpoint) cooling_enable kept.cooling_integrator signals.cooling_unlimited,
        loop_same s.heating_pi t (heating_setpoint ⊖ zone_temperature) heating_enable kept.heating_integrator signals.heating_unlimited,
        delay_same r 30 tt s.cooling_delay t false kept.cooling_timer,
        delay_same r 30 tt s.heating_delay t false kept.heating_timer,
      )
      refl

  -- ---- the ventilation setpoints
  setpoints_same : (s : SetpointsState) (input : SetpointInput) (choices : Choices) → Ventilation input choices.design_cooling_maximum_flow
      → setpoints_over (published r.max r.min) s input choices ≡ setpoints s input choices
  unfolding setpoints_over setpoints
  setpoints_same s input choices v =
      let low = input.co2_setpoint ⊖ decimal 200 1 in
      let corrected = cond (input.operating_mode ==ᶻ 1) (co2_loop_at input) zero in
      let corrected_finite : Finite corrected = cond_both (input.operating_mode ==ᶻ 1) (co2_loop_at input) zero Finite (λ e. v.co2_loop) (λ e. tt) in
      let one = decimal 1 1 in
      let most = choices.design_cooling_maximum_flow in
      let least = choices.design_minimum_flow in
      rw (
        line_same r low zero input.co2_setpoint one input.co2_concentration v.co2_concentration v.co2_band (decimal_is_f64 1 1),
        line_same r zero least one most corrected corrected_finite ranges.unit v.cooling_maximum,
        line_same r zero zero one (decimal 5 1000) corrected corrected_finite ranges.unit (decimal_is_f64 5 1000),
      )
      refl

  -- ---- the zone state
  zone_same : (s : ZoneStatesState) (heating cooling : Float) → Finite heating → Finite cooling → Finite (heating ⊖ cooling)
      → zone_states_over (published r.max r.min) s heating cooling ≡ zone_states s heating cooling
  unfolding zone_states_over zone_states
  zone_same s heating cooling h c d =
      rw (
        hysteresis_same heating (decimal 1 100) (decimal 5 100) s.heating_signal h ranges.signal,
        hysteresis_same cooling (decimal 1 100) (decimal 5 100) s.cooling_signal c ranges.signal,
        hysteresis_same (heating ⊖ cooling) (neg (decimal 1 100)) (decimal 1 100) s.heating_tiebreak d ranges.tiebreak,
      )
      refl

  -- ---- the damper
  damper_same : (s : DamperState) (t : Float) (input : DamperInput) (choices : Choices) → NotMinusZeroF64 s.integrator → Finite input.cooling_loop
      → NotMinusZeroF64 input.active_cooling_maximum_flow
      → Finite (damper_unlimited s (damper s t input choices).output.airflow_setpoint input.discharge_airflow choices.design_cooling_maximum_flow)
      → damper_over (published r.max r.min) s t input choices ≡ damper s t input choices
  unfolding damper_over damper
  damper_same s t input choices kept loop maximum n =
      let most = input.active_cooling_maximum_flow in
      let least = input.active_minimum_flow in
      let one = decimal 1 1 in
      let M = choices.design_cooling_maximum_flow in
      let setpoint = (damper s t input choices).output.airflow_setpoint in
      rw (
        line_same r zero least one most input.cooling_loop loop ranges.unit maximum,
        limits_same r (decimal 5 10) (setpoint ⊘ M ⊖ input.discharge_airflow ⊘ M) s.integrator kept n,
        integral_same r s.integrator s.previous_time t kept.not_minus_zero,
      )
      refl

  -- ---- the system requests
  requests_same : (s : SystemRequestsState) (t : Float) (input : SystemRequestInput) (choices : Choices) → IsTime t → RequestsKept s t
      → Finite (input.zone_temperature ⊖ input.cooling_setpoint) → Finite input.cooling_loop → Finite input.airflow_setpoint → Finite input.damper_position
      → system_requests_over (published r.max r.min) s t input choices ≡ system_requests s t input choices
  unfolding system_requests_over system_requests
  requests_same s t input choices time kept error loop airflow position =
      let difference = input.zone_temperature ⊖ input.cooling_setpoint in
      let cooling = sampler_sample s.cooling_sampler t input.cooling_loop (decimal 120 1) in
      let airflow_setpoint = sampler_sample s.setpoint_sampler t input.airflow_setpoint (decimal 120 1) in
      let command = sampler_sample s.damper_sampler t input.damper_position (decimal 120 1) in
      rw (
        hysteresis_same difference (decimal 275 100) (decimal 3 1) s.hot_three error ranges.hot_three,
        hysteresis_same difference (decimal 175 100) (decimal 2 1) s.hot_two error ranges.hot_two,
        delay_same r 120 tt s.hot_three_delay t choices.quiet kept.hot_three_timer,
        delay_same r 120 tt s.hot_two_delay t choices.quiet kept.hot_two_timer,
        sampler_same r s.cooling_sampler t time kept.cooling_grid,
        sampler_same r s.setpoint_sampler t time kept.setpoint_grid,
        sampler_same r s.discharge_sampler t time kept.discharge_grid,
        sampler_same r s.damper_sampler t time kept.damper_grid,
        hysteresis_same cooling.output (decimal 94 100) (decimal 95 100) s.cooling_high (sampled_finite s.cooling_sampler t input.cooling_loop (decimal 120 1) kept.cooling_held loop) ranges.high,
        hysteresis_same airflow_setpoint.output (decimal 5 1000) (decimal 1 100) s.setpoint_on
            (sampled_finite s.setpoint_sampler t input.airflow_setpoint (decimal 120 1) kept.setpoint_held airflow) ranges.flow,
        hysteresis_same command.output (decimal 94 100) (decimal 95 100) s.damper_high (sampled_finite s.damper_sampler t input.damper_position (decimal 120 1) kept.damper_held position) ranges.high,
        delay_same r 60 tt s.damper_delay t choices.quiet kept.damper_timer,
      )
      refl

  -- ---- the alarms
  alarms_same : (s : AlarmsState) (t : Float) (input : AlarmInput) (choices : Choices) → AlarmsKept s → Finite input.active_airflow_setpoint
      → alarms_over (published r.max r.min) s t input choices ≡ alarms s t input choices
  unfolding alarms_over alarms
  alarms_same s t input choices kept setpoint =
      rw (
        delay_same r 1800 tt s.fan_armed t false kept.fan_timer,
        hysteresis_same input.active_airflow_setpoint (decimal 5 1000) (decimal 1 100) s.setpoint_nonzero setpoint ranges.flow,
        delay_same r 300 tt s.setpoint_on t choices.quiet kept.setpoint_timer,
        delay_same r 300 tt s.low_half_delay t choices.quiet kept.low_half_timer,
        delay_same r 300 tt s.low_seventy_delay t choices.quiet kept.low_seventy_timer,
        delay_same r 600 tt s.sensor_delay t choices.quiet kept.sensor_timer,
        delay_same r 600 tt s.leak_delay t choices.quiet kept.leak_timer,
      )
      refl

  -- ---- the controller
  controller_same : (s : ControllerState) (t : Float) (input : ControllerInput) (choices : Choices)
      → IsTime t → Ventilation (setpoint_input input) choices.design_cooling_maximum_flow → MemoriesKept s t → Signals s t input choices
      → controller_output_over (published r.max r.min) s t input choices ≡ controller_output s t input choices
  unfolding controller_output_over controller_output
  controller_same s t input choices time handed kept signals =
      let suppression = time_suppression s.time_suppression t input.cooling_setpoint input.zone_temperature in
      let loops = control_loops s.control_loops t input.cooling_setpoint input.zone_temperature input.heating_setpoint in
      let ventilation = setpoints s.setpoints (setpoint_input input) choices in
      let active = active_airflow input.operating_mode ventilation.output.occupied_minimum_flow choices in
      let zone = zone_states s.zone_states loops.output.heating loops.output.cooling in
      let air = damper_input input loops.output active zone.output in
      let step = damper s.dampers t air choices in
      let most = active_maximum input.operating_mode ventilation.output.occupied_minimum_flow choices handed.cooling_maximum in
      let signal = signals.loops in
      rw (
        suppression_same s.time_suppression t input.cooling_setpoint input.zone_temperature time kept.suppression,
        loops_same s.control_loops t input.cooling_setpoint input.zone_temperature input.heating_setpoint kept.loops signal,
        setpoints_same s.setpoints (setpoint_input input) choices handed,
        zone_same s.zone_states loops.output.heating loops.output.cooling signal.heating signal.cooling signal.difference,
        damper_same s.dampers t air choices kept.damper_integrator signal.cooling most signals.damper,
        requests_same s.system_requests t (request_input input suppression.output loops.output step.output) choices time kept.requests
            signal.cooling_error signal.cooling signals.airflow_setpoint signals.damper_command,
        alarms_same s.alarms t (alarm_input input step.output) choices kept.alarms signals.airflow_setpoint,
      )
      (refl {a = controller_output s t input choices})

-- The claim, over every `max` and `min` that Rust allows.
pub published_agrees : (max min : Float → Float → Float) → RustMax max → RustMin min → (box : AirBox) (k : Tick) → Handed box k
    → controller_output_over (published max min) box.state k.t k.input box.choices ≡ controller_output box.state k.t k.input box.choices
published_agrees max min rust_max rust_min box k handed =
    controller_same (record { max = max; min = min; max_is = rust_max; min_is = rust_min }) box.state k.t k.input box.choices handed.time handed.ventilation handed.memories handed.signals
