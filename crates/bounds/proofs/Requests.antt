-- System requests and alarms keep their ranges over an accepted tick. Assumes nothing.
use Rattle.std.proofs.Common.{Some, Option}
use lib.Ieee.{Float, neg}
use Rattle.f64_helpers.specs.F64.{decimal, zero}
use Rattle.f64_helpers.specs.Ranges.{Between}
use Rattle.box_choices.specs.declared.Choices.{Choices}
use Rattle.cooling_only_controller_airflow.specs.Airflow.{system_requests, alarms}
use Rattle.cooling_only_controller_airflow.specs.declared.SystemRequestInput.{SystemRequestInput}
use Rattle.cooling_only_controller_airflow.specs.declared.SystemRequestsState.{SystemRequestsState}
use Rattle.cooling_only_controller_airflow.specs.declared.AlarmInput.{AlarmInput}
use Rattle.cooling_only_controller_airflow.specs.declared.AlarmsState.{AlarmsState}
use Rattle.bounds.specs.Limits.{HIGHEST_FLOW}
use Rattle.bounds.specs.Kept.{KeptSystemRequests, KeptAlarms}
use Rattle.bounds.proofs.Timing.{Accepted, kept_true_delay, kept_sampler, lengths}

module _ {last : Option Float} {t : Float} (a : Accepted last t) (choices : Choices) where
  pub kept_system_requests : {maximum : Float} (s : SystemRequestsState) → KeptSystemRequests last maximum s → (input : SystemRequestInput)
      → Between zero input.cooling_loop (decimal 1 1) → Between zero input.airflow_setpoint maximum
      → Between (neg HIGHEST_FLOW) input.discharge_airflow HIGHEST_FLOW → Between zero input.damper_position (decimal 1 1)
      → KeptSystemRequests (Some t) maximum (system_requests s t input choices).state
  unfolding system_requests
  kept_system_requests s k input loop setpoint flow damper = record {
    hot_three_delay = kept_true_delay lengths.2 a s.hot_three_delay k.hot_three_delay _ _;
    hot_two_delay = kept_true_delay lengths.2 a s.hot_two_delay k.hot_two_delay _ _;
    damper_delay = kept_true_delay lengths.1 a s.damper_delay k.damper_delay _ _;
    cooling_sampler = (kept_sampler a s.cooling_sampler k.cooling_sampler input.cooling_loop loop).0;
    setpoint_sampler = (kept_sampler a s.setpoint_sampler k.setpoint_sampler input.airflow_setpoint setpoint).0;
    discharge_sampler = (kept_sampler a s.discharge_sampler k.discharge_sampler input.discharge_airflow flow).0;
    damper_sampler = (kept_sampler a s.damper_sampler k.damper_sampler input.damper_position damper).0;
  }

  pub kept_alarms : (s : AlarmsState) → KeptAlarms last s → (input : AlarmInput) → KeptAlarms (Some t) (alarms s t input choices).state
  unfolding alarms
  kept_alarms s k input = record {
    fan_armed = kept_true_delay lengths.5 a s.fan_armed k.fan_armed _ _;
    setpoint_on = kept_true_delay lengths.3 a s.setpoint_on k.setpoint_on _ _;
    low_half_delay = kept_true_delay lengths.3 a s.low_half_delay k.low_half_delay _ _;
    low_seventy_delay = kept_true_delay lengths.3 a s.low_seventy_delay k.low_seventy_delay _ _;
    sensor_delay = kept_true_delay lengths.4 a s.sensor_delay k.sensor_delay _ _;
    leak_delay = kept_true_delay lengths.4 a s.leak_delay k.leak_delay _ _;
  }
