-- The sampler and the unit delay over a history of ticks, and the rules by which a reader tells what they give.
-- A history is a list of ticks, the newest first. Times are whole seconds.
-- That the blocks keep to the rules is proved (`sampler_law`, `unit_delay_law`) for a period p of whole seconds from 1 to 1,048,576,
-- which is 2 ^ 20.
use Rattle.std.specs.Prelude.{ℕ, ◌/◌, ◌%◌, ◌≤◌, Bool, true, List, [], ◌∷◌, ◌==◌, nat_lt, Float, if◌then◌else◌}
use Rattle.f64_helpers.specs.F64.{zero}
use Rattle.f64_helpers.specs.Seconds.{seconds, IsTime}
use Rattle.cooling_only_controller_timing.specs.declared.SamplerState.{SamplerState}
use Rattle.cooling_only_controller_timing.specs.declared.UnitDelayState.{UnitDelayState}
use Rattle.cooling_only_controller_timing.specs.Timing.{fresh_sampler, sampler_sample, fresh_unit_delay, unit_delay_sample}

pub record SamplerTick : Type 0 where
  pub time : Float
  pub input : Float

-- the sampler's state after a history
abbrev pub sampler_after : Float → List SamplerTick → SamplerState
sampler_after period [] = fresh_sampler
sampler_after period (k ∷ h) = (sampler_sample (sampler_after period h) k.time k.input period).state

-- each tick is at a time, and never before an older one
abbrev pub NotBefore : SamplerTick → List SamplerTick → Type 0
NotBefore k [] = Unit
NotBefore k (j ∷ h) = seconds j.time ≤ seconds k.time

abbrev pub TimesInOrder : List SamplerTick → Type 0
TimesInOrder [] = Unit
TimesInOrder (k ∷ h) = IsTime k.time × NotBefore k h × TimesInOrder h

-- A tick is sampled if it is the first, or a multiple of the period lies after the tick before it and not after it.
abbrev pub sampled : ℕ → SamplerTick → List SamplerTick → Bool
sampled p k [] = true
sampled p k (j ∷ h) = nat_lt (seconds j.time / p) (seconds k.time / p)

-- What the sampler holds: the input of the newest sampled tick, and 0.0 before the first.
abbrev pub held_by_rule : ℕ → List SamplerTick → Float
held_by_rule p [] = zero
held_by_rule p (k ∷ h) = if sampled p k h then k.input else held_by_rule p h

-- the unit delay's state after a history
abbrev pub unit_delay_after : Float → List SamplerTick → UnitDelayState
unit_delay_after period [] = fresh_unit_delay
unit_delay_after period (k ∷ h) = (unit_delay_sample (unit_delay_after period h) k.time k.input period).state

-- Whether the unit delay takes a tick's input for later. It takes the first only at a multiple of the period.
abbrev pub staged : ℕ → SamplerTick → List SamplerTick → Bool
staged p k [] = seconds k.time % p == 0
staged p k (j ∷ h) = sampled p k (j ∷ h)

-- the newest input that it took, and 0.0 where there is none
abbrev pub staged_by_rule : ℕ → List SamplerTick → Float
staged_by_rule p [] = zero
staged_by_rule p (k ∷ h) = if staged p k h then k.input else staged_by_rule p h

-- What the unit delay gives: at a sampled tick the newest input that it took before that tick, and between sampled ticks the same again.
abbrev pub delayed_by_rule : ℕ → List SamplerTick → Float
delayed_by_rule p [] = zero
delayed_by_rule p (k ∷ h) = if sampled p k h then staged_by_rule p h else delayed_by_rule p h
