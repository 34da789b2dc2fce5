-- The stages of `Stages.antt`, one after the other, are the tick of the box. Assumes nothing.
use mathlib.Core.Path.{◌≡◌, refl, sym}
use Rattle.std.specs.Prelude.{⊤, Result, Ok, Err}
use native.Mathlib.Omega.{arith}
use lib.Dec.{T, eqb, eqb→eq}
use Rattle.cooling_only_controller.proofs.ByPieces.{controller_by_pieces}
use Rattle.air_box.specs.AirBox.{tick, questions, decided, accepted_tick, refusal_number}
use Rattle.cooling_only_controller.specs.declared.ControllerOutput.{ControllerOutput}
use Rattle.air_box.specs.declared.Tick.{Tick}
use Rattle.cooling_only_controller_timing.specs.declared.Step.{Step}
use Rattle.air_box_c.specs.declared.records.TimeSuppressionC.{TimeSuppressionC}
use Rattle.air_box_c.specs.declared.records.AirflowC.{AirflowC}
use Rattle.air_box_c.specs.declared.records.SystemRequestsC.{SystemRequestsC}
use Rattle.air_box_c.specs.declared.records.AlarmsC.{AlarmsC}
use Rattle.air_box_c.specs.declared.records.LastTickC.{LastTickC}
use Rattle.air_box_c.specs.declared.stages.TickStart.{TickStart}
use Rattle.air_box_c.specs.declared.stages.AfterSuppression.{AfterSuppression}
use Rattle.air_box_c.specs.declared.stages.AfterDampers.{AfterDampers}
use Rattle.air_box_c.specs.declared.stages.AfterRequests.{AfterRequests}
use Rattle.air_box_c.specs.declared.stages.AfterAlarms.{AfterAlarms}
use Rattle.air_box.specs.declared.Refusal.{Refusal}
use Rattle.air_box.proofs.Demands.{above_zero}
use Rattle.air_box_c.specs.Records.{open_time, open_controller, open_box, shut_box}
use Rattle.air_box_c.specs.Promises.{Ticked}
use Rattle.air_box_c.specs.Stages.{begun, questioned, suppression_tick, airflow_tick, requests_tick, alarms_tick, last_tick}
use Rattle.air_box_c.specs.declared.records.AirBoxC.{AirBoxC}
use Rattle.air_box_c.proofs.OpenShut.{open_shut}

-- what an accepted tick begins with
abbrev pub begins : AirBoxC → Tick → TickStart
begins c k = record { tick = k; choices = c.last.choices }

-- the stages of an accepted tick
abbrev suppressed : AirBoxC → Tick → Step TimeSuppressionC AfterSuppression
suppressed c k = suppression_tick c.time_suppression (begins c k)

abbrev aired : AirBoxC → Tick → Step AirflowC AfterDampers
aired c k = airflow_tick c.airflow (suppressed c k).output

abbrev requested : AirBoxC → Tick → Step SystemRequestsC AfterRequests
requested c k = requests_tick c.system_requests (aired c k).output

abbrev alarmed : AirBoxC → Tick → Step AlarmsC AfterAlarms
alarmed c k = alarms_tick c.alarms (requested c k).output

abbrev lasted : AirBoxC → Tick → Step LastTickC ControllerOutput
lasted c k = last_tick c.last (alarmed c k).output

-- the record after them
abbrev stored : AirBoxC → Tick → AirBoxC
stored c k = record {
  time_suppression = (suppressed c k).state;
  airflow = (aired c k).state;
  system_requests = (requested c k).state;
  alarms = (alarmed c k).state;
  last = (lasted c k).state;
}

stored_is : (c : AirBoxC) (k : Tick) → stored c k ≡ shut_box (accepted_tick (open_box c) k).state
unfolding shut_box open_box accepted_tick
stored_is c k = rw (sym (controller_by_pieces (open_controller c) k.t k.input c.last.choices))

pub told_is : (c : AirBoxC) (k : Tick) → (accepted_tick (open_box c) k).answer ≡ Ok (lasted c k).output
unfolding open_box accepted_tick
told_is c k = rw (sym (controller_by_pieces (open_controller c) k.t k.input c.last.choices))

-- the two outcomes, by the verdict v
pub ticks : (c : AirBoxC) (k : Tick) (v : Result ⊤ Refusal) → questions (open_time c.last.time) k ≡ v → tick (open_box c) k ≡ decided v (open_box c) k
unfolding tick open_box
ticks c k v e = rw e

pub not_zero : (reason : Refusal) → T (eqb (refusal_number reason) 0) → ⊥
not_zero reason z = omega (arith, above_zero reason, eqb→eq (refusal_number reason) 0 z)

accepted_by : (c : AirBoxC) (k : Tick) (w : ControllerOutput) → questions (open_time c.last.time) k ≡ Ok tt
    → Ticked c k w (shut_box (accepted_tick (open_box c) k).state) (lasted c k).output 0
accepted_by c k w e = record {
  next_box = rw (ticks c k (Ok tt) e, open_shut);
  next_output = rw (ticks c k (Ok tt) e, told_is c k);
  number_told = rw (ticks c k (Ok tt) e, told_is c k);
  every_field = rw e;
}

refused_by : (c : AirBoxC) (k : Tick) (w : ControllerOutput) (reason : Refusal) → questions (open_time c.last.time) k ≡ Err reason
    → Ticked c k w c w (refusal_number reason)
refused_by c k w reason e = record {
  next_box = rw (ticks c k (Err reason) e);
  next_output = rw (ticks c k (Err reason) e);
  number_told = rw (ticks c k (Err reason) e);
  every_field = rw e;
}

-- what the questions decided, by what the stages begin with
pub accepts : (v : Result ⊤ Refusal) (s start : TickStart) → begun v s ≡ Ok start → (v ≡ Ok tt) × (start ≡ s)
accepts (Ok tt) s start e = (refl, cc)
accepts (Err reason) s start e = (cc, cc)

refuses : (v : Result ⊤ Refusal) (s : TickStart) (reason : Refusal) → begun v s ≡ Err reason → v ≡ Err reason
refuses (Ok tt) s reason e = cc
refuses (Err first) s reason e = cc

pub tick_stored : (c : AirBoxC) (k : Tick) (w : ControllerOutput) (start : TickStart) → questioned c.last k ≡ Ok start
    → Ticked c k w (stored c k) (lasted c k).output 0
tick_stored c k w start is = rw (stored_is c k) (accepted_by c k w (accepts (questions (open_time c.last.time) k) (begins c k) start is).0)

pub tick_refused : (c : AirBoxC) (k : Tick) (w : ControllerOutput) (reason : Refusal) → questioned c.last k ≡ Err reason
    → Ticked c k w c w (refusal_number reason)
tick_refused c k w reason is = refused_by c k w reason (refuses (questions (open_time c.last.time) k) (begins c k) reason is)
