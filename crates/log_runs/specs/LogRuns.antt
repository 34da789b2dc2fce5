-- Document 02, N6 with N1 and N9: a trace that is made of a text log is run to its end, or refused for its room or by a tick alone: never with 20 to 25 or 27.
use Rattle.std.specs.Prelude.{◌≡◌, ℕ, Bool, List, [], ◌∷◌, take, Contains, None}
use Rattle.trace.specs.Trace.{trace}
use Rattle.trace_run.specs.TraceRun.{run_trace}
use Rattle.text_log.specs.Conversion.{text_source, to_trace}

-- a clean end, a tick's own numbers, and no room for the code
abbrev pub numbers_left : List ℕ
numbers_left = 0 ∷ 1 ∷ 2 ∷ 3 ∷ 4 ∷ 5 ∷ 6 ∷ 7 ∷ 26 ∷ []

-- Of every text, what is written for it: all of it where it is not refused, and else what was converted before.
pub record LogRuns : Type 0 where
  -- it is read back as the records that were done, to its end
  pub read_back : (text : List ℕ) (room : ℕ) → let c = to_trace text room in trace c.written ≡ record { records = take c.done (text_source text).records; refusal = None }
  pub run : (text : List ℕ) (room : ℕ) (second_reading : Bool) (room_for_codes : ℕ)
      → Contains numbers_left (run_trace (to_trace text room).written second_reading room_for_codes).number
