-- `air_box_c::air_box_tick` meets its contract: the parts, run one after the other in their places, leave the record that ByParts.antt has. Assumes nothing.
use Rattle.std.proofs.Common.{◌≡◌, Ok, sym, ◌∙◌}
use Rattle.cooling_only_controller.specs.declared.ControllerOutput.{ControllerOutput}
use Rattle.cooling_only_controller_timing.specs.declared.Step.{Step}
use Rattle.air_box.specs.AirBox.{questions}
use Rattle.air_box.specs.declared.Tick.{Tick}
use Rattle.air_box_c.specs.Promises.{Ticked}
use Rattle.air_box_c.specs.Records.{open_time}
use Rattle.air_box_c.specs.Stages.{questioned, suppression_tick, airflow_tick, requests_tick, alarms_tick, last_tick}
use Rattle.air_box_c.specs.declared.records.AirBoxC.{AirBoxC}
use Rattle.air_box_c.specs.declared.records.TimeSuppressionC.{TimeSuppressionC}
use Rattle.air_box_c.specs.declared.records.AirflowC.{AirflowC}
use Rattle.air_box_c.specs.declared.records.SystemRequestsC.{SystemRequestsC}
use Rattle.air_box_c.specs.declared.records.AlarmsC.{AlarmsC}
use Rattle.air_box_c.specs.declared.records.LastTickC.{LastTickC}
use Rattle.air_box_c.specs.declared.stages.TickStart.{TickStart}
use Rattle.air_box_c.specs.declared.stages.AfterSuppression.{AfterSuppression}
use Rattle.air_box_c.specs.declared.stages.AfterDampers.{AfterDampers}
use Rattle.air_box_c.specs.declared.stages.AfterRequests.{AfterRequests}
use Rattle.air_box_c.specs.declared.stages.AfterAlarms.{AfterAlarms}
use Rattle.air_box_c.proofs.ByParts.{begins, accepts, tick_stored, tick_refused}
use Rattle.air_box_c.proofs.air_box_tick.Goals as goal

taken : (c : AirBoxC) (k : Tick) (w : ControllerOutput) (start : TickStart)
    (r₀ : Step TimeSuppressionC AfterSuppression) (r₁ : Step AirflowC AfterDampers) (r₂ : Step SystemRequestsC AfterRequests) (r₃ : Step AlarmsC AfterAlarms) (r₄ : Step LastTickC ControllerOutput)
    → questioned c.last k ≡ Ok start → r₀ ≡ suppression_tick c.time_suppression start → r₁ ≡ airflow_tick c.airflow r₀.output
    → r₂ ≡ requests_tick c.system_requests r₁.output → r₃ ≡ alarms_tick c.alarms r₂.output → r₄ ≡ last_tick c.last r₃.output
    → Ticked c k w (record { time_suppression = r₀.state; airflow = r₁.state; system_requests = r₂.state; alarms = r₃.state; last = r₄.state }) r₄.output 0
taken c k w start r₀ r₁ r₂ r₃ r₄ is e₀ e₁ e₂ e₃ e₄ =
    let begun_there = (accepts (questions (open_time c.last.time) k) (begins c k) start is).1 in
    rw (e₄, e₃, e₂, e₁, e₀, begun_there) (tick_stored c k w start is)

pub returns-in-Ok : goal.returns-in-Ok
returns-in-Ok c =
    taken c.args.b.now c.args.tick.now c.args.output.now c.in-Ok.start
    c.tick-suppression.result c.tick-airflow.result c.tick-requests.result c.tick-alarms.result c.tick-last.result
    (sym c.question.ensures ∙ c.in-Ok.is)
    c.tick-suppression.ensures c.tick-airflow.ensures c.tick-requests.ensures c.tick-alarms.ensures c.tick-last.ensures

pub returns-in-Err : goal.returns-in-Err
returns-in-Err c =
    rw c.into.ensures (tick_refused c.args.b.now c.args.tick.now c.args.output.now c.in-Err.reason (sym c.question.ensures ∙ c.in-Err.is))
