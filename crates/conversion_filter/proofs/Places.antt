-- A conversion does no more records than its input has bytes, and one, so that the place of a refusal is a u64. Assumes nothing.
use Rattle.std.proofs.Common.{◌≡◌, sym, ap, ℕ, zero, suc, ◌+◌, ◌-◌, ◌^◌, ◌≤◌, ◌<◌, Bool, true, false, List, length, drop, arith, Fits, w64}
use Rattle.std.specs.Prelude.{Option, Some, None, Ok, Err, ltb, if◌then◌else◌}
use Rattle.trace.specs.Order.{out_of_order}
use Rattle.log_lines.specs.WritingLines.{record_line}
use Rattle.text_log.specs.Conversion.{Form, Conversion, stopped, one_more, into_room, record_in_trace, outcome}
use Rattle.text_log.specs.Steps.{Front, Reads, step, steps, stepped, next_line, next_kept_record}
use Rattle.text_log.specs.declared.Outcome.{Outcome}
use Rattle.text_log.proofs.Steps.{text_steps, trace_steps}
use Rattle.conversion_filter.specs.Filter.{conversion}
use Rattle.conversion_filter.specs.declared.Direction.{Direction}
use Rattle.conversion_filter.specs.declared.Direction.TheVariants.{ToTrace, ToText}

in_room : (most room : ℕ) (bytes : Option (List ℕ)) (more : ℕ → Conversion)
    → ((left : ℕ) → (more left).done ≤ most) → (into_room room bytes more).done ≤ suc most
in_room most room None more h = omega arith
in_room most room (Some bytes) more h = go (ltb room (length bytes))
  where
    go : (full : Bool) → (if◌then◌else◌ full (stopped 54) (one_more bytes (more (room - length bytes)))).done ≤ suc most
    go true = omega arith
    go false = omega (arith, h (room - length bytes))

after_front : (form : Form) (most : ℕ) (found : Front) (bytes : List ℕ) (box_before : Option ℕ) (room : ℕ) (more : List ℕ → Option ℕ → ℕ → Conversion)
    → ((bytes : List ℕ) (box_before : Option ℕ) (room : ℕ) → (more bytes box_before room).done ≤ most)
    → (step form found bytes box_before room more).done ≤ suc most
after_front form most (Ok None) bytes box_before room more h = omega arith
after_front form most (Err number) bytes box_before room more h = omega arith
after_front form most (Ok (Some read)) bytes box_before room more h = go (out_of_order box_before read.value)
  where
    rest : ℕ → Conversion
    rest left = more (drop read.size bytes) (Some read.value.box_number) left

    go : (broken : Bool) → (if◌then◌else◌ broken (stopped 27) (into_room room (form read.value) rest)).done ≤ suc most
    go true = omega arith
    go false = in_room most room (form read.value) rest (h (drop read.size bytes) (Some read.value.box_number))

done_within : (front : Reads) (form : Form) (most : ℕ) (bytes : List ℕ) (box_before : Option ℕ) (room : ℕ)
    → (steps front form most bytes box_before room).done ≤ most
unfolding steps
done_within front form zero bytes box_before room = omega arith
done_within front form (suc most) bytes box_before room =
    after_front form most (front bytes) bytes box_before room (steps front form most) (done_within front form most)

done_in_input : (direction : Direction) (input : List ℕ) (room : ℕ) → (conversion direction input room).done ≤ suc (length input)
unfolding conversion stepped
done_in_input ToTrace input room = rw (sym (text_steps input room)) (done_within next_line record_in_trace (suc (length input)) input None room)
done_in_input ToText input room = rw (sym (trace_steps input room)) (done_within next_kept_record record_line (suc (length input)) input None room)

pub place_fits : (direction : Direction) (input : List ℕ) (room : ℕ) (o : Outcome)
    → o ≡ outcome (conversion direction input room) → length input < 2 ^ 63 → Fits w64 (o.done + 1)
place_fits direction input room o e short =
    omega (arith, ap (λ (x : Outcome). x.done) e, done_in_input direction input room, short)
