-- What the alarms stage keeps as flow high is the answer of a comparison of which the claim of N2 speaks, from any state: for any cooling maximum, and at the usual one that of its example. Assumes nothing.
use mathlib.Core.Path.{◌≡◌, refl}
use mathlib.Core.Bool.{Bool}
use lib.Ieee.{Float}
use Rattle.f64_helpers.specs.F64.{◌⊗◌, decimal}
use Rattle.box_choices.specs.BoxChoices.{usual}
use Rattle.box_choices.specs.declared.Choices.{Choices}
use Rattle.cdl_recurrences.specs.CdlRecurrences.{greater_hysteretic, dead_band_output}
use Rattle.cdl_recurrences.specs.MemoryDecided.{flow_high}
use Rattle.cooling_only_controller_airflow.specs.Airflow.{FLOW_HYSTERESIS, alarms}
use Rattle.cooling_only_controller_airflow.specs.declared.AlarmInput.{AlarmInput}
use Rattle.cooling_only_controller_airflow.specs.declared.AlarmsState.{AlarmsState}

pub flow_high_compared : (s : AlarmsState) (t : Float) (input : AlarmInput) (choices : Choices)
    → (alarms s t input choices).state.flow_high
    ≡ (dead_band_output (greater_hysteretic input.discharge_airflow (decimal 1 10 ⊗ choices.design_cooling_maximum_flow) FLOW_HYSTERESIS) s.flow_high).output
unfolding alarms
flow_high_compared s t input choices = refl

pub usual_flow_high_compared : (s : AlarmsState) (t : Float) (input : AlarmInput) (quiet : Bool)
    → (alarms s t input (usual quiet)).state.flow_high ≡ (flow_high input.discharge_airflow s.flow_high).output
unfolding alarms
usual_flow_high_compared s t input quiet = refl
