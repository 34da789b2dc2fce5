-- Document 02, N7: the leak comes first in the desk code. Which codes move by that, and which alarms can stand together.
-- The method `AirBox::tick` is proved to return `tick`, of which `given_for` is made, and `desk_code` to return `desk_code`.
use Rattle.std.specs.Prelude.{◌≡◌, ◌↔◌, ◌⊎◌, ◌≢◌, List, [], ◌∷◌, ℕ, true, pos, if◌then◌else◌}
use Rattle.std.proofs.Common.{inl}
use Rattle.f64_helpers.specs.F64.{decimal}
use Rattle.f64_helpers.specs.Integers.{◌==ᶻ◌}
use Rattle.cooling_only_controller.specs.declared.ControllerOutput.{ControllerOutput}
use Rattle.cooling_only_controller_airflow.specs.declared.AlarmOutput.{AlarmOutput}
use Rattle.air_box.specs.AirBox.{fresh_box, given_for, desk_code}
use Rattle.air_box.specs.BenchTick.{bench_tick}
use Rattle.air_box.specs.declared.Tick.{Tick}
use Rattle.air_box.specs.declared.AirBox.{AirBox}
use Rattle.air_box.specs.declared.Start.TheVariants.{Plain}

-- ---- the alarms of a tick and their code

-- the three alarms among the ten outputs
abbrev pub alarms_of : ControllerOutput → AlarmOutput
alarms_of output =
    record {
      low_airflow = output.low_airflow_alarm;
      airflow_sensor = output.airflow_sensor_alarm;
      leaking_damper = output.leaking_damper_alarm;
    }

-- the box accepts the tick, and these are the alarms that it gives for it
abbrev pub Shows : AirBox → Tick → AlarmOutput → Type 0
Shows box k a = (output : ControllerOutput) × (given_for box k ≡ inl output) × (alarms_of output ≡ a)

-- P holds of the alarms of every tick that any box accepts, whatever that box holds.
abbrev pub AtEveryTick : (AlarmOutput → Type 0) → Type 0
AtEveryTick P = (box : AirBox) (k : Tick) (a : AlarmOutput) → Shows box k a → P a

-- the desk code of three alarms
abbrev pub code : AlarmOutput → ℕ
code a = desk_code a.low_airflow a.airflow_sensor a.leaking_damper

-- what it was by document 01's order, which N7 replaces: low airflow, the sensor, the leak
abbrev pub old_code : AlarmOutput → ℕ
old_code a =
    if a.low_airflow ==ᶻ 2 then 12
    else (if a.low_airflow ==ᶻ 3 then 13
    else (if a.airflow_sensor ==ᶻ 3 then 23
    else (if a.leaking_damper ==ᶻ 4 then 34
    else 0)))

-- ---- the list of changes

-- low airflow is 2 or 3
abbrev pub Low : AlarmOutput → Type 0
Low a = (a.low_airflow ≡ pos 2) ⊎ (a.low_airflow ≡ pos 3)

-- The code is another than it was exactly where leak is 4 and low airflow is 2 or 3.
-- There it was 12 or 13, and is 34. No other code moves.
pub record ListOfChanges (a : AlarmOutput) : Type 0 where
  pub changed : (code a ≢ old_code a) ↔ ((a.leaking_damper ≡ pos 4) × Low a)
  pub from_12 : a.leaking_damper ≡ pos 4 → a.low_airflow ≡ pos 2 → (old_code a ≡ 12) × (code a ≡ 34)
  pub from_13 : a.leaking_damper ≡ pos 4 → a.low_airflow ≡ pos 3 → (old_code a ≡ 13) × (code a ≡ 34)
  pub no_other : ¬ ((a.leaking_damper ≡ pos 4) × Low a) → code a ≡ old_code a

-- ---- the sensor rule overlaps neither of the others, in either of its readings (N12)

pub record SensorAlone (a : AlarmOutput) : Type 0 where
  pub without_leak : a.airflow_sensor ≡ pos 3 → a.leaking_damper ≢ pos 4
  pub without_low : a.airflow_sensor ≡ pos 3 → ¬ Low a

-- ---- which alarms can stand together

-- the levels of low airflow, airflow sensor and leaking damper
abbrev pub levels : ℕ → ℕ → ℕ → AlarmOutput
levels low sensor leak = record { low_airflow = pos low; airflow_sensor = pos sensor; leaking_damper = pos leak }

-- the old code, the code, and the alarms that stand
pub record Line : Type 0 where
  pub was : ℕ
  pub is : ℕ
  pub standing : AlarmOutput

abbrev pub line_of : AlarmOutput → Line
line_of a = record { was = old_code a; is = code a; standing = a }

infix 3 ◌to◌for◌
abbrev pub ◌to◌for◌ : ℕ → ℕ → AlarmOutput → Line
was to is for a = record { was = was; is = is; standing = a }

abbrev pub together : List Line
together =
    (0 to 0 for levels 0 0 0)
    ∷ (12 to 12 for levels 2 0 0)
    ∷ (13 to 13 for levels 3 0 0)
    ∷ (23 to 23 for levels 0 3 0)
    ∷ (34 to 34 for levels 0 0 4)
    ∷ (12 to 34 for levels 2 0 4)
    ∷ (13 to 34 for levels 3 0 4)
    ∷ []

abbrev pub Among : Line → List Line → Type 0
Among l [] = ⊥
Among l (m ∷ ms) = (l ≡ m) ⊎ Among l ms

-- What a code tells of the three alarms: 0, 12, 13 and 23 all, and 34 all but low airflow, which may stand beside the leak.
pub record Tells (a : AlarmOutput) : Type 0 where
  pub code_0 : code a ≡ 0 → a ≡ levels 0 0 0
  pub code_12 : code a ≡ 12 → a ≡ levels 2 0 0
  pub code_13 : code a ≡ 13 → a ≡ levels 3 0 0
  pub code_23 : code a ≡ 23 → a ≡ levels 0 3 0
  pub code_34 : code a ≡ 34 → (a.airflow_sensor ≡ pos 0) × (a.leaking_damper ≡ pos 4)

-- ---- any three numbers, also those that no tick shows

-- With leak 4 the code is 34, and with any other leak what it was.
pub record OfAnyThree (a : AlarmOutput) : Type 0 where
  pub leak_4 : a.leaking_damper ≡ pos 4 → code a ≡ 34
  pub other_leak : a.leaking_damper ≢ pos 4 → code a ≡ old_code a

-- ---- N7
pub record LeakFirst : Type 0 where
  pub list_of_changes : AtEveryTick ListOfChanges
  pub sensor_alone : AtEveryTick SensorAlone
  -- the list of what can stand together is complete
  pub complete : AtEveryTick (λ a. Among (line_of a) together)
  -- and each of its lines is shown: by a plain start's first tick
  pub each_shown : (l : Line) → Among l together → (k : Tick) × (a : AlarmOutput) × Shows (fresh_box Plain) k a × (line_of a ≡ l)
  pub tells : AtEveryTick Tells
  pub any_three : (a : AlarmOutput) → OfAnyThree a
  -- document 02's tick: flow 0.3, airflow override 3, damper override 1, fan on; at a plain start's first tick what stands counts as long enough
  pub document_02 : Shows (fresh_box Plain) (bench_tick (decimal 3 10) (pos 3) (pos 1) true) (levels 3 0 4)
