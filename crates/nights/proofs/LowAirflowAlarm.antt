-- The low airflow alarm after a history of accepted ticks, for either delay_on_init of the fan's arming: it is told by three true delays over that history. A box whose fan is armed earlier shows it no later. Assumes nothing.
use mathlib.Core.Path.{◌≡◌, refl, subst}
use mathlib.Core.Logic.{◌⊎◌}
use mathlib.Core.List.{List, [], ◌∷◌}
use native.Mathlib.Nat.{le_refl}
use native.Mathlib.Omega.{arith}
use mathlib.Core.Bool.{Bool, false, ◌&&◌}
use lib.IntN.{ℤ, pos}
use lib.Dec.{T}
use lib.Ieee.{Float}
use lib.Ieee.Fits.{and_i, and_l, and_r}
use Rattle.f64_helpers.specs.F64.{decimal}
use Rattle.std.specs.Prelude.{if◌then◌else◌}
use Rattle.f64_helpers.specs.Integers.{◌==ᶻ◌}
use Rattle.f64_helpers.specs.Seconds.{seconds}
use Rattle.box_choices.specs.declared.Choices.{Choices}
use Rattle.cooling_only_controller_timing.specs.Timing.{true_delay, fresh_true_delay}
use Rattle.cooling_only_controller_timing.specs.History.{true_delay_after}
use Rattle.cooling_only_controller_timing.specs.declared.TrueDelayState.{TrueDelayState}
use Rattle.cooling_only_controller_timing.proofs.TrueDelayLaw.{true_since_later}
use Rattle.cooling_only_controller_airflow.specs.Airflow.{fresh_alarms}
use Rattle.cooling_only_controller_airflow.specs.declared.AlarmInput.{AlarmInput}
use Rattle.cooling_only_controller_airflow.specs.declared.AlarmsState.{AlarmsState}
use Rattle.air_box.specs.declared.Tick.{Tick}
use Rattle.nights.specs.Nights.{fan, mode}
use Rattle.nights.specs.QuietStart.{alarms_armed}
use Rattle.nights.proofs.AcceptedTicks.{decimal_reached, AllAccepted}
use Rattle.nights.proofs.Conditions.{samples, held_since_law, held_by_both}

-- ---- the memories of an alarms stage along a history

abbrev fan_on : List Tick → Bool
fan_on [] = false
fan_on (k ∷ h) = fan k

-- the level, from the two delayed low flows, the delayed setpoint and the mode
abbrev low_level : Bool → Bool → Bool → Bool → ℤ
low_level half seventy setpoint_on occupied = if half && setpoint_on && occupied then pos 2 else (if seventy && setpoint_on && occupied then pos 3 else pos 0)

-- Where an old low flow has stood for long, the new has; and where the new half and the old seventy have, the old half has.
levels : (half seventy old_half old_seventy setpoint_on occupied : Bool) → (T old_half → T half) → (T old_seventy → T seventy) → (T half → T old_seventy → T old_half)
    → (low_level old_half old_seventy setpoint_on occupied ≡ pos 0) ⊎ (low_level half seventy setpoint_on occupied ≡ low_level old_half old_seventy setpoint_on occupied)
levels half seventy old_half old_seventy setpoint_on occupied f g b = grind arith

-- The stage takes the tick k: its state before and afterwards, and the low airflow alarm that it shows.
abbrev pub Taken : Bool → Choices → Tick → AlarmsState → AlarmsState → ℤ → Type 0
Taken arming choices k before after level =
    (input : AlarmInput)
    × (input.supply_fan_status ≡ fan k)
    × (input.operation_mode ≡ mode k)
    × (after ≡ (alarms_armed arming before k.t input choices).state)
    × (level ≡ (alarms_armed arming before k.t input choices).output.low_airflow)

-- a stage that takes every history of ticks: its state after each, and the alarm at the newest tick
pub record AlarmsAlong (arming : Bool) (choices : Choices) : Type 0 where
  pub after : List Tick → AlarmsState
  pub level : List Tick → Tick → ℤ
  pub fresh : after [] ≡ fresh_alarms
  pub taken : (h : List Tick) (k : Tick) → Taken arming choices k (after h) (after (k ∷ h)) (level h k)

-- one of the two low flows: its memory, and the delay that it is given to while the fan is armed
abbrev Given : (AlarmsState → Bool) → (AlarmsState → TrueDelayState) → Type 0
Given memory delay =
    (arming : Bool) (s : AlarmsState) (t : Float) (input : AlarmInput) (choices : Choices)
    → let next = (alarms_armed arming s t input choices).state in
    delay next ≡ (true_delay (delay s) t (memory next && next.fan_armed.held) (decimal 300 1) choices.quiet).state

record LowFlow : Type 0 where
  memory : AlarmsState → Bool
  delay : AlarmsState → TrueDelayState
  fresh_delay : delay fresh_alarms ≡ fresh_true_delay
  given : Given memory delay

half_given : Given (λ s. s.low_half) (λ s. s.low_half_delay)
unfolding alarms_armed true_delay
half_given arming s t input choices = refl

seventy_given : Given (λ s. s.low_seventy) (λ s. s.low_seventy_delay)
unfolding alarms_armed true_delay
seventy_given arming s t input choices = refl

abbrev half : LowFlow
half = record { memory = λ s. s.low_half; delay = λ s. s.low_half_delay; fresh_delay = refl; given = half_given }

abbrev seventy : LowFlow
seventy = record { memory = λ s. s.low_seventy; delay = λ s. s.low_seventy_delay; fresh_delay = refl; given = seventy_given }

module _ (arming : Bool) (choices : Choices) (a : AlarmsAlong arming choices) where
  abbrev low : LowFlow → List Tick → Bool
  low x h = x.memory (a.after h) && (a.after h).fan_armed.held

  armed_kept : (h : List Tick) → (a.after h).fan_armed ≡ true_delay_after (decimal 1800 1) arming (samples fan_on h)
  unfolding alarms_armed
  armed_kept [] = rw a.fresh
  armed_kept (k ∷ h) = let next = a.taken h k in rw (next.3, next.1, armed_kept h)

  delay_kept : (x : LowFlow) (h : List Tick) → x.delay (a.after h) ≡ true_delay_after (decimal 300 1) choices.quiet (samples (low x) h)
  delay_kept x [] = rw (a.fresh, x.fresh_delay)
  delay_kept x (k ∷ h) = let next = a.taken h k in rw (next.3, x.given, delay_kept x h)

  level_kept : (h : List Tick) (k : Tick) → a.level h k ≡ low_level (half.delay (a.after (k ∷ h))).held (seventy.delay (a.after (k ∷ h))).held (a.after (k ∷ h)).setpoint_on.held (mode k ==ᶻ 1)
  unfolding alarms_armed true_delay
  level_kept h k = let next = a.taken h k in rw (next.4, next.3, next.2)

-- ---- two stages that agree in the low-flow memories and the delayed setpoint: the fan of the new one arms by a plain start, that of the old one by the box's start
pub record Agree (new old : AlarmsState) : Type 0 where
  pub low_half : new.low_half ≡ old.low_half
  pub low_seventy : new.low_seventy ≡ old.low_seventy
  pub setpoint_on : new.setpoint_on ≡ old.setpoint_on

module _ (choices : Choices) (new : AlarmsAlong false choices) (old : AlarmsAlong choices.quiet choices) (agree : (h : List Tick) → Agree (new.after h) (old.after h)) where
  abbrev new_low : LowFlow → List Tick → Bool
  new_low = low false choices new

  abbrev old_low : LowFlow → List Tick → Bool
  old_low = low choices.quiet choices old

  -- the new fan is armed wherever the old is
  armed_if_armed : (h : List Tick) (k : Tick) → AllAccepted (k ∷ h) → T (old.after (k ∷ h)).fan_armed.held → T (new.after (k ∷ h)).fan_armed.held
  armed_if_armed h k x =
      let reach = decimal_reached 1800 (omega arith) in
      rw (armed_kept choices.quiet choices old (k ∷ h), armed_kept false choices new (k ∷ h)) (λ t.
      (held_since_law (decimal 1800 1) 1800 reach false fan_on h k x).1
      (true_since_later 1800 choices.quiet false (λ n. tt) (seconds k.t) (seconds k.t) (le_refl (seconds k.t)) (samples fan_on (k ∷ h)) ((held_since_law (decimal 1800 1) 1800 reach choices.quiet fan_on h k x).0 t)))

  -- so where an old low flow has been held for long, the new one has
  held_if_held : (x : LowFlow) → ((h : List Tick) → x.memory (new.after h) ≡ x.memory (old.after h)) → (h : List Tick) (k : Tick) → AllAccepted (k ∷ h)
      → T (x.delay (old.after (k ∷ h))).held → T (x.delay (new.after (k ∷ h))).held
  held_if_held x same h k all =
      rw (delay_kept choices.quiet choices old x (k ∷ h), delay_kept false choices new x (k ∷ h)) (λ t.
      held_by_both (decimal 300 1) 300 (decimal_reached 300 (omega arith)) choices.quiet (old_low x) (old_low x) (new_low x)
      (λ h k all o p. rw (same (k ∷ h)) (and_i (x.memory (old.after (k ∷ h))) _ (and_l (x.memory (old.after (k ∷ h))) _ o) (armed_if_armed h k all (and_r (x.memory (old.after (k ∷ h))) _ o))))
      h k all t t)

  -- Where the old seventy has been held for long, so has the old fan's arming; if the new half has too, the old half has.
  half_by_both : (h : List Tick) (k : Tick) → AllAccepted (k ∷ h) → T (half.delay (new.after (k ∷ h))).held → T (seventy.delay (old.after (k ∷ h))).held → T (half.delay (old.after (k ∷ h))).held
  half_by_both h k all =
      rw (delay_kept false choices new half (k ∷ h), delay_kept choices.quiet choices old seventy (k ∷ h), delay_kept choices.quiet choices old half (k ∷ h)) (λ t u.
      held_by_both (decimal 300 1) 300 (decimal_reached 300 (omega arith)) choices.quiet (new_low half) (old_low seventy) (old_low half)
      (λ h k all o p. and_i (half.memory (old.after (k ∷ h))) _ (subst T (agree (k ∷ h)).low_half (and_l (half.memory (new.after (k ∷ h))) _ o)) (and_r (seventy.memory (old.after (k ∷ h))) _ p))
      h k all t u)

  -- and the alarm of the old stage is none, or that of the new one is the same
  pub never_later : (h : List Tick) (k : Tick) → AllAccepted (k ∷ h) → (old.level h k ≡ pos 0) ⊎ (new.level h k ≡ old.level h k)
  never_later h k all =
      rw (level_kept false choices new h k, level_kept choices.quiet choices old h k, (agree (k ∷ h)).setpoint_on)
      (levels (new.after (k ∷ h)).low_half_delay.held (new.after (k ∷ h)).low_seventy_delay.held (old.after (k ∷ h)).low_half_delay.held (old.after (k ∷ h)).low_seventy_delay.held (old.after (k ∷ h)).setpoint_on.held (mode k ==ᶻ 1)
      (held_if_held half (λ h. (agree h).low_half) h k all) (held_if_held seventy (λ h. (agree h).low_seventy) h k all) (half_by_both h k all))
