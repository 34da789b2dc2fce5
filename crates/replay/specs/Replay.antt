-- What `replay` writes, as bytes.
use Rattle.std.specs.Prelude.{ℕ, ◌+◌, ◌%◌, ◌^◌, suc, List, [], ◌∷◌, ◌++◌, length, drop, flat_map, if◌then◌else◌}
use Rattle.text_pieces.specs.TextPieces.{decimal_text}
use Rattle.trace.specs.Trace.{trace}
use Rattle.trace.specs.declared.Record.{Record}
use Rattle.trace_run.specs.TraceRun.{Accepted, Run, code}
use Rattle.replay.specs.declared.RunText.{RunText}

-- of an accepted record: "SECONDS BOX CODE"; a newline, 10, ends it
unfoldable pub code_line : ℕ → ℕ → ℕ → List ℕ
code_line seconds box_number code = decimal_text seconds ++ (32 ∷ []) ++ decimal_text box_number ++ (32 ∷ []) ++ decimal_text code ++ (10 ∷ [])

-- the last: "done N number M"
unfoldable pub last_line : ℕ → ℕ → List ℕ
last_line done number = (100 ∷ 111 ∷ 110 ∷ 101 ∷ 32 ∷ []) ++ decimal_text done ++ (32 ∷ 110 ∷ 117 ∷ 109 ∷ 98 ∷ 101 ∷ 114 ∷ 32 ∷ []) ++ decimal_text number ++ (10 ∷ [])

-- ---- of a run: a line for each accepted record, in the trace's order, and the last

unfoldable pub code_lines : List Accepted → List ℕ
code_lines accepted = flat_map (λ (a : Accepted). code_line a.time a.what.box_number (code a.output)) accepted

unfoldable pub run_text : Run → List ℕ
run_text run = code_lines run.accepted ++ last_line (length run.accepted) run.number

-- of a trace that is larger than the room, alone: "trace larger than 4194304 bytes"
unfoldable pub too_large_line : ℕ → List ℕ
too_large_line room = (116 ∷ 114 ∷ 97 ∷ 99 ∷ 101 ∷ 32 ∷ 108 ∷ 97 ∷ 114 ∷ 103 ∷ 101 ∷ 114 ∷ 32 ∷ 116 ∷ 104 ∷ 97 ∷ 110 ∷ 32 ∷ []) ++ decimal_text room ++ (32 ∷ 98 ∷ 121 ∷ 116 ∷ 101 ∷ 115 ∷ 10 ∷ [])

-- ---- a run's text on its way, as the program keeps it

-- The lines of records that follow a time, for the codes that are left; the time as the program adds it, modulo 2 ^ 64.
unfoldable pub lines_left : ℕ → List Record → List ℕ → List ℕ
lines_left time rs [] = []
lines_left time [] (code ∷ codes) = []
lines_left time (r ∷ rs) (code ∷ codes) =
    let now = (time + r.seconds) % 2 ^ 64 in
    code_line now r.box_number code ++ lines_left now rs codes

-- what of the text is not made yet
unfoldable pub text_left : RunText → List ℕ
text_left text =
    if text.ended then []
    else lines_left text.seconds (trace (drop text.reader.position text.reader.bytes.now)).records text.codes.now ++ last_line text.outcome.done text.outcome.number

-- how many lines that is at most
unfoldable pub lines_at_most : RunText → ℕ
lines_at_most text = if text.ended then 0 else suc (length text.codes.now)
