-- A trace that is made of a text log is read back whole, and its run ends at its end, for its room, or by a tick. Assumes nothing.
use Rattle.std.proofs.Common.{◌≡◌, refl, sym, subst, ℕ, Bool, true, List, take, arith}
use Rattle.std.specs.Prelude.{Contains, All, None}
use Rattle.std.proofs.lemmas.List.Elements.{All-head, All-tail}
use Rattle.air_box.specs.AirBox.{refusal_number}
use Rattle.air_box.specs.declared.Refusal.{Refusal}
use Rattle.air_box.specs.declared.Refusal.TheVariants.{NotWholeSeconds, TimeOutOfRange, BeforeLast, TooLongAfterLast, TemperatureOutOfRange, Co2OutOfRange, AirflowOutOfRange}
use Rattle.trace.specs.Trace.{Trace, over_limit}
use Rattle.trace.specs.Order.{keeps_order}
use Rattle.trace.specs.declared.Record.{Record}
use Rattle.trace.proofs.Order.{parts}
use Rattle.trace_run.specs.TraceRun.{end_number, fresh_boxes, run_records, run_trace}
use Rattle.trace_run.proofs.EachRecord.{OfRuns, Holds, of_every_run}
use Rattle.text_log.specs.Conversion.{text_source, to_trace}
use Rattle.text_log.proofs.ReadBack.{read_back}
use Rattle.text_log.proofs.Stops.{stops_rightly}
use Rattle.log_runs.specs.LogRuns.{numbers_left, LogRuns}

-- ---- the run of records that keep their limits and the order

reason_left : (reason : Refusal) → Contains numbers_left (refusal_number reason)
reason_left NotWholeSeconds = (1, omega arith, refl)
reason_left TimeOutOfRange = (2, omega arith, refl)
reason_left BeforeLast = (3, omega arith, refl)
reason_left TooLongAfterLast = (4, omega arith, refl)
reason_left TemperatureOutOfRange = (5, omega arith, refl)
reason_left Co2OutOfRange = (6, omega arith, refl)
reason_left AirflowOutOfRange = (7, omega arith, refl)

abbrev InLimits : Record → Type 0
InLimits r = over_limit r ≡ None

LeftNumber : OfRuns
LeftNumber rs box_before time boxes room run = All InLimits rs → keeps_order box_before rs ≡ true → Contains numbers_left run.number

left_number : Holds 0 LeftNumber
unfolding LeftNumber
left_number = record {
  at_the_end = λ box_before time boxes room kept order. (0, omega arith, refl);
  over_a_limit = λ r rest box_before time boxes room refusal o kept order. let none = All-head InLimits r rest kept in cc;
  not_in_order = λ r rest box_before time boxes room o l kept order. let here = parts box_before r rest order in cc;
  no_room = λ r rest box_before time boxes room o l f kept order. (8, omega arith, refl);
  not_taken = λ r rest box_before time boxes room reason o l f a kept order. reason_left reason;
  is_done = λ r rest box_before time boxes room output o l f a after more kept order. more (All-tail InLimits r rest kept) (parts box_before r rest order).rest_keeps;
}

run : (text : List ℕ) (room : ℕ) (second_reading : Bool) (codes : ℕ) → Contains numbers_left (run_trace (to_trace text room).written second_reading codes).number
unfolding run_trace LeftNumber
run text room second_reading codes =
    let c = to_trace text room in
    subst (λ (t : Trace). Contains numbers_left (run_records (end_number t.refusal) t.records None 0 (fresh_boxes second_reading) codes).number)
    (sym (read_back text room))
    (of_every_run 0 LeftNumber left_number (take c.done (text_source text).records) None 0 (fresh_boxes second_reading) codes
    (stops_rightly.of_text.done_in_limits text room) (stops_rightly.of_text.done_in_order text room))

pub log_runs : LogRuns
log_runs = record { read_back = read_back; run = run }
