-- One tick over the record of the C interface, part by part. Each stage gives its part afterwards, beside what it hands on to the next;
-- `ByParts.antt` shows that together they are the tick of the box.
use Rattle.std.specs.Prelude.{true, ⊤, Some, Result, Ok, Err}
use Rattle.cooling_only_controller_conditioning.specs.Conditioning.{time_suppression}
use Rattle.cooling_only_controller_airflow.specs.Airflow.{system_requests, alarms}
use Rattle.cooling_only_controller.specs.ControllerPieces.{airflow_steps, request_input, alarm_input, outputs}
use Rattle.cooling_only_controller.specs.declared.AirflowSteps.{AirflowSteps}
use Rattle.air_box.specs.AirBox as AirBoxes
use Rattle.air_box.specs.AirBox.{questions}
use Rattle.air_box.specs.declared.Tick.{Tick}
use Rattle.air_box.specs.declared.Refusal.{Refusal}
use Rattle.cooling_only_controller_timing.specs.declared.Step.{Step}
use Rattle.cooling_only_controller.specs.declared.ControllerOutput.{ControllerOutput}
use Rattle.air_box_c.specs.Records.{open_time, open_time_suppression, shut_time_suppression}
use Rattle.air_box_c.specs.Records.{open_control_loops, open_damper, shut_airflow}
use Rattle.air_box_c.specs.Records.{open_system_requests, shut_system_requests, open_alarms, shut_alarms, shut_last_tick}
use Rattle.air_box_c.specs.declared.records.TimeSuppressionC.{TimeSuppressionC}
use Rattle.air_box_c.specs.declared.records.AirflowC.{AirflowC}
use Rattle.air_box_c.specs.declared.records.SystemRequestsC.{SystemRequestsC}
use Rattle.air_box_c.specs.declared.records.AlarmsC.{AlarmsC}
use Rattle.air_box_c.specs.declared.records.LastTickC.{LastTickC}
use Rattle.air_box_c.specs.declared.stages.TickStart.{TickStart}
use Rattle.air_box_c.specs.declared.stages.AfterSuppression.{AfterSuppression}
use Rattle.air_box_c.specs.declared.stages.AfterDampers.{AfterDampers}
use Rattle.air_box_c.specs.declared.stages.AfterRequests.{AfterRequests}
use Rattle.air_box_c.specs.declared.stages.AfterAlarms.{AfterAlarms}

-- What the stages begin with where the questions accept.
abbrev pub begun : Result ⊤ Refusal → TickStart → Result TickStart Refusal
begun (Ok tt) start = Ok start
begun (Err reason) start = Err reason

-- the questions
abbrev pub questioned : LastTickC → Tick → Result TickStart Refusal
questioned c k = begun (questions (open_time c.time) k) (record { tick = k; choices = c.choices })

-- time suppression
abbrev pub suppression_tick : TimeSuppressionC → TickStart → Step TimeSuppressionC AfterSuppression
suppression_tick c start =
    let k = start.tick in
    let step = time_suppression (open_time_suppression c) k.t k.input.cooling_setpoint k.input.zone_temperature in
    record { state = shut_time_suppression step.state; output = record { start = start; after_suppression = step.output } }

-- from the control loops to the damper
abbrev pub airflow_ticked : AfterSuppression → AirflowSteps → Step AirflowC AfterDampers
airflow_ticked suppression steps =
    record {
      state = shut_airflow steps.loops.state steps.setpoints.state steps.zone.state steps.damper.state;
      output = record {
        suppression = suppression;
        loops = steps.loops.output;
        flows = steps.setpoints.output;
        damper = steps.damper.output;
      };
    }

abbrev pub airflow_tick : AirflowC → AfterSuppression → Step AirflowC AfterDampers
airflow_tick c suppression =
    let k = suppression.start.tick in
    let loops = open_control_loops c.control_loops in
    let damper = open_damper c.dampers in
    airflow_ticked suppression (airflow_steps k.t k.input suppression.start.choices loops c.setpoints c.zone_states damper)

-- the system requests
abbrev pub requests_tick : SystemRequestsC → AfterDampers → Step SystemRequestsC AfterRequests
requests_tick c airflow =
    let start = airflow.suppression.start in
    let wanted = request_input start.tick.input airflow.suppression.after_suppression airflow.loops airflow.damper in
    let step = system_requests (open_system_requests c) start.tick.t wanted start.choices in
    record { state = shut_system_requests step.state; output = record { airflow = airflow; requests = step.output } }

-- the alarms, what the box keeps of the tick, from the memories that it met, and the ten outputs
abbrev pub alarms_tick : AlarmsC → AfterRequests → Step AlarmsC AfterAlarms
alarms_tick c after =
    let airflow = after.airflow in
    let start = airflow.suppression.start in
    let step = alarms (open_alarms c) start.tick.t (alarm_input start.tick.input airflow.damper) start.choices in
    let kept = AirBoxes.last_tick (open_alarms c) start.tick.input airflow.damper.damper_command start.choices in
    let output = outputs airflow.damper airflow.flows after.requests step.output in
    record { state = shut_alarms step.state; output = record { t = start.tick.t; kept = kept; output = output } }

-- the time of an accepted tick and what is kept of it, and its outputs
abbrev pub last_tick : LastTickC → AfterAlarms → Step LastTickC ControllerOutput
last_tick c done =
    record {
      state = record { time = record { present = true; time = done.t }; choices = c.choices; tick = shut_last_tick (Some done.kept) };
      output = done.output;
    }
