-- The true delay over a history of inputs, and what it means that an input has been true for a time.
-- A history is a list with the newest sample first.
use Rattle.std.specs.Prelude.{◌≡◌, ℕ, ◌+◌, ◌≤◌, Bool, not, T, ◌⊎◌, List, [], ◌∷◌, ◌++◌, Float}
use Rattle.f64_helpers.specs.Seconds.{seconds, IsTime}
use Rattle.cooling_only_controller_timing.specs.Timing.{true_delay, fresh_true_delay}
use Rattle.cooling_only_controller_timing.specs.declared.TrueDelayState.{TrueDelayState}

pub record Sample : Type 0 where
  pub time : Float
  pub input : Bool

-- the delay's state after a history; its output at the newest sample is the field `held`
abbrev pub true_delay_after : Float → Bool → List Sample → TrueDelayState
true_delay_after delay_time delay_on_init [] = fresh_true_delay
true_delay_after delay_time delay_on_init (k ∷ h) =
    (true_delay (true_delay_after delay_time delay_on_init h) k.time k.input delay_time delay_on_init).state

-- t is not before the newest sample
abbrev pub NotBefore : Float → List Sample → Type 0
NotBefore t [] = Unit
NotBefore t (k ∷ h) = seconds k.time ≤ seconds t

-- each time is a whole number of seconds from 0 to 2,147,483,648, and none is before an older one
abbrev pub Timed : List Sample → Type 0
Timed [] = Unit
Timed (k ∷ h) = IsTime k.time × NotBefore k.time h × Timed h

-- every input is true
abbrev pub AllTrue : List Sample → Type 0
AllTrue [] = Unit
AllTrue (k ∷ h) = T k.input × AllTrue h

-- The history h is `newer`, then `start`, then `older`. The input is true at `start` and at every newer sample.
-- The sample `start` is d seconds or more before `now`, or, unless `delay_on_init`, it is the very first.
pub record TrueFor (d : ℕ) (delay_on_init : Bool) (now : ℕ) (h : List Sample) : Type 0 where
  pub newer : List Sample
  pub start : Sample
  pub older : List Sample
  pub parts : h ≡ newer ++ (start ∷ older)
  pub newer_true : AllTrue newer
  pub start_true : T start.input
  pub long : (seconds start.time + d ≤ now) ⊎ ((older ≡ []) × T (not delay_on_init))

-- j and k have the same time, and the input of k is true if that of j is
abbrev pub TrueIfTrue : Sample → Sample → Type 0
TrueIfTrue j k = (seconds j.time ≡ seconds k.time) × (T j.input → T k.input)
