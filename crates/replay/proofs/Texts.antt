-- A run's text on its way: at its start it is all of it, and each line is the next. Assumes nothing.
use mathlib.Core.Path.{◌≡◌, refl, sym, ap, ◌∙◌}
use Prim.Native.Nat.{ℕ, ◌+◌, ◌%◌, ◌^◌, ◌≤◌}
use Rattle.std.proofs.Math.Nat.{mod-eq_of_lt}
use Rattle.std.proofs.Math.Seq.{take-append_seam}
use native.Mathlib.Omega.{arith}
use mathlib.Core.Bool.{Bool}
use mathlib.Core.List.{List, [], ◌∷◌, ◌++◌, append_assoc}
use lib.ListN.{take, drop, length}
use Rattle.std.specs.Prelude.{Result, Option, None}
use Rattle.std.proofs.lemmas.List.{length-map}
use Rattle.trace.specs.Trace.{Trace, trace, next_record, after_record}
use Rattle.trace.specs.declared.Read.{Read}
use Rattle.trace.specs.declared.Record.{Record}
use Rattle.trace.specs.declared.TraceRefusal.{TraceRefusal}
use Rattle.trace.proofs.ReadsOn.{reads_on_at}
use Rattle.trace_run.specs.TraceRun.{Accepted, named_box, code, codes, run_trace, fresh_boxes, outcome, buffer}
use Rattle.trace_run.specs.declared.Outcome.{Outcome}
use Rattle.trace.proofs.Limits.{settings_within}
use Rattle.trace_run.proofs.Running.{Stands, accepted_in_time}
use Rattle.trace_run.proofs.EachRecord.{OfRuns, Holds, of_every_run, however_it_stops}
use Rattle.replay.specs.Replay.{code_line, code_lines, last_line, lines_left, run_text}

-- ---- line by line

-- the line of a record that stands there comes before those that are left then
pub line_stands : (bytes : List ℕ) (position time code : ℕ) (codes last : List ℕ) (r : Record) (there : Stands position bytes r)
    → let now = (time + r.seconds) % 2 ^ 64 in
    code_line now r.box_number code ++ (lines_left now (trace (drop (position + there.size) bytes)).records codes ++ last)
    ≡ lines_left time (trace (drop position bytes)).records (code ∷ codes) ++ last
unfolding lines_left
line_stands bytes position time code codes last r there =
    let now = (time + r.seconds) % 2 ^ 64 in
    sym (append_assoc (code_line now r.box_number code) (lines_left now (trace (drop (position + there.size) bytes)).records codes) last)
    ∙ ap (λ (t : Trace). lines_left time t.records (code ∷ codes) ++ last) (sym (reads_on_at bytes position _ there.read))

-- where none stands there is no line
pub no_line : (bytes : List ℕ) (position time : ℕ) (codes : List ℕ) (r : Result (Option (Read Record)) TraceRefusal) → next_record (drop position bytes) ≡ r
    → ((more : Read Record → Trace) → (after_record r more).records ≡ [])
    → lines_left time (trace (drop position bytes)).records codes ≡ []
unfolding lines_left
no_line bytes position time codes r e none =
    ap (λ rs. lines_left time rs codes) (ap (λ (t : Trace). t.records) (reads_on_at bytes position r e) ∙ none (λ read. trace (drop (position + read.size) bytes))) ∙ empty codes
  where
    empty : (codes : List ℕ) → lines_left time [] codes ≡ []
    empty [] = refl
    empty (code ∷ codes) = refl

-- ---- all of it

-- the accepted records are the first, at the sums of their steps, which no accepted time lets wrap
LinesOf : OfRuns
LinesOf rs box_before time boxes room run = time ≤ 2147483648 → lines_left time rs (codes run) ≡ code_lines run.accepted

lines_of : (ended : ℕ) → Holds ended LinesOf
unfolding LinesOf lines_left code_lines
lines_of ended =
    however_it_stops ended LinesOf (λ rs box_before time boxes room number h. refl)
    (λ r rest box_before time boxes room output o l f e after more h.
    let within = settings_within r o in
    let in_time = accepted_in_time (named_box boxes r) r (time + r.seconds) output (omega (arith, h, within.step)) e in
    let same : (time + r.seconds) % 2 ^ 64 ≡ time + r.seconds = mod-eq_of_lt (omega (arith, in_time)) in
    ap (λ n. code_line n r.box_number (code output) ++ lines_left n rest (codes after)) same
    ∙ ap (λ l. code_line (time + r.seconds) r.box_number (code output) ++ l) (more in_time))

pub all_lines : (bytes : List ℕ) (second_reading : Bool) (room : ℕ)
    → lines_left 0 (trace bytes).records (codes (run_trace bytes second_reading room)) ≡ code_lines (run_trace bytes second_reading room).accepted
unfolding run_trace LinesOf
all_lines bytes second_reading room =
    of_every_run _ LinesOf (lines_of _) (trace bytes).records None 0 (fresh_boxes second_reading) room (omega arith)

-- what the run gives is what its text is made of
pub start_text : (bytes : List ℕ) (second_reading : Bool) (before now : List ℕ) (o : Outcome)
    → let run = run_trace bytes second_reading (length before) in
    o ≡ outcome run → now ≡ buffer run before
    → lines_left 0 (trace bytes).records (take o.done now) ++ last_line o.done o.number ≡ run_text run
unfolding run_text
start_text bytes second_reading before now o p q =
    let run = run_trace bytes second_reading (length before) in
    let count : length run.accepted ≡ length (codes run) = sym (length-map run.accepted (λ (a : Accepted). code a.output)) in
    let taken : take (length run.accepted) now ≡ codes run =
    ap (take (length run.accepted)) q ∙ ap (λ n. take n (codes run ++ drop (length run.accepted) before)) count ∙ take-append_seam (codes run) (drop (length run.accepted) before) in
    ap (λ (x : Outcome). lines_left 0 (trace bytes).records (take x.done now) ++ last_line x.done x.number) p
    ∙ ap (λ l. lines_left 0 (trace bytes).records l ++ last_line (length run.accepted) run.number) taken
    ∙ ap (λ l. l ++ last_line (length run.accepted) run.number) (all_lines bytes second_reading (length before))
