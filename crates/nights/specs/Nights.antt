-- Nights of ticks: what a box does along a list of ticks, what a tick carries, and rules over the ticks that were accepted.
-- A night is a list of ticks in the order in which they come.
-- Each is run by `tick`, which is what the method `AirBox::tick` is proved to return.
use Rattle.std.specs.Prelude.{Some, None, Option, ◌≡◌, ◌⊎◌, List, [], ◌∷◌, ◌++◌, ℕ, ◌+◌, ◌≤◌, Bool, not, ℤ, T, Float}
use Rattle.std.proofs.Common.{inl, inr}
use Rattle.f64_helpers.specs.F64.{◌⊖◌, ◌>ᶠ◌, decimal}
use Rattle.f64_helpers.specs.Seconds.{seconds}
use Rattle.box_choices.specs.declared.Choices.{Choices}
use Rattle.cdl_recurrences.specs.CdlRecurrences.{greater_hysteretic}
use Rattle.cooling_only_controller.specs.declared.ControllerOutput.{ControllerOutput}
use Rattle.air_box.specs.AirBox.{unticked, tick, outputs_or_number}
use Rattle.air_box.specs.declared.Tick.{Tick}
use Rattle.air_box.specs.declared.AirBox.{AirBox}
use Rattle.air_box.specs.declared.AirBoxStep.{AirBoxStep}

-- ---- a night, run

-- a tick of a night, what the box gave for it, and the box after it
pub record NightStep : Type 0 where
  pub ticked : Tick
  pub given : ControllerOutput ⊎ ℕ
  pub box : AirBox

-- Each tick gets the box that the one before it left. `ticked` is what a tick does.
abbrev pub steps_by : (AirBox → Tick → AirBoxStep) → AirBox → List Tick → List NightStep
steps_by ticked box [] = []
steps_by ticked box (k ∷ ks) =
    record { ticked = k; given = outputs_or_number (ticked box k).answer; box = (ticked box k).state }
    ∷ steps_by ticked (ticked box k).state ks

-- what this box does
abbrev pub steps : AirBox → List Tick → List NightStep
steps box ticks = steps_by tick box ticks

-- the night of a box that has had no tick before it, by what was chosen when it was built
abbrev pub night_of : Choices → List Tick → List NightStep
night_of choices ticks = steps (unticked choices) ticks

-- the box after these ticks
abbrev pub box_after : (AirBox → Tick → AirBoxStep) → AirBox → List Tick → AirBox
box_after ticked box [] = box
box_after ticked box (k ∷ ks) = box_after ticked (ticked box k).state ks

-- ---- the accepted ticks of a night: those for which the box gave outputs

-- the ticks accepted so far, `earlier`, and then k, if the box gave outputs for it
abbrev pub accepted_after : List Tick → Tick → ControllerOutput ⊎ ℕ → List Tick
accepted_after earlier k (inl output) = earlier ++ (k ∷ [])
accepted_after earlier k (inr number) = earlier

-- P holds of each step of a night, and of the ticks that were accepted before it. Before the night those were `earlier`.
abbrev pub Along : (List Tick → NightStep → Type 0) → List Tick → List NightStep → Type 0
Along P earlier [] = Unit
Along P earlier (s ∷ rest) = P earlier s × Along P (accepted_after earlier s.ticked s.given) rest

-- the time of the last of the accepted ticks
abbrev pub last_time : List Tick → Option Float
last_time [] = None
last_time (k ∷ []) = Some k.t
last_time (j ∷ k ∷ ks) = last_time (k ∷ ks)

-- an accepted tick and its own outputs
pub record Shown : Type 0 where
  pub ticked : Tick
  pub output : ControllerOutput

abbrev pub shown_before : Tick → ControllerOutput ⊎ ℕ → List Shown → List Shown
shown_before k (inl output) rest = record { ticked = k; output = output } ∷ rest
shown_before k (inr number) rest = rest

-- the accepted ticks of a night, each with its own outputs, in order
abbrev pub shown : List NightStep → List Shown
shown [] = []
shown (s ∷ rest) = shown_before s.ticked s.given (shown rest)

-- ---- what a tick carries

abbrev pub flow : Tick → Float
flow k = k.input.discharge_airflow

abbrev pub fan : Tick → Bool
fan k = k.input.supply_fan_status

abbrev pub mode : Tick → ℤ
mode k = k.input.operating_mode

-- ---- document 01, 'The flow-high rule', for any limit

-- the flow is above `limit` at each of the ticks
abbrev pub AllAbove : Float → List Tick → Type 0
AllAbove limit [] = Unit
AllAbove limit (k ∷ ks) = T (flow k >ᶠ limit) × AllAbove limit ks

-- Flow is high at the last of the accepted ticks ks: at it, or at some earlier one, the flow was above `limit`,
-- and at every one from that to the last it was above `limit` - 0.01.
pub record FlowHigh (limit : Float) (ks : List Tick) : Type 0 where
  pub before : List Tick
  pub rise : Tick
  pub since : List Tick
  pub parts : ks ≡ before ++ (rise ∷ since)
  pub above : T (flow rise >ᶠ limit)
  pub stays_above : AllAbove (limit ⊖ decimal 1 100) (rise ∷ since)

-- what `greater_hysteretic` does step by step along the ticks, from the memory `high`
abbrev pub flow_high_stepped : Float → Bool → List Tick → Bool
flow_high_stepped limit high [] = high
flow_high_stepped limit high (k ∷ ks) = flow_high_stepped limit (greater_hysteretic (flow k) limit (decimal 1 100) high) ks

-- At the accepted tick k, before which those of `earlier` were accepted: flow is high with the fan off.
abbrev pub HighFanOff : Float → List Tick → Tick → Type 0
HighFanOff limit earlier k = FlowHigh limit (earlier ++ (k ∷ [])) × T (not (fan k))

-- ---- a condition that has held for a time
-- `Holds earlier k` says that it holds at the accepted tick k, before which those of `earlier` were accepted.

-- it holds at each of the accepted ticks ks, which come after those of `earlier`
abbrev pub HoldsAlong : {A : Type 0} → (List A → A → Type 0) → List A → List A → Type 0
HoldsAlong Holds earlier [] = Unit
HoldsAlong Holds earlier (k ∷ ks) = Holds earlier k × HoldsAlong Holds (earlier ++ (k ∷ [])) ks

-- Of the accepted ticks, the last of which is k: it has held at every one from `begin` up to k,
-- and `begin` is at least `length` seconds back, or, unless `delay_on_init`, it is the very first.
-- Accepted times are whole numbers of seconds, so `seconds` of one is the time itself.
pub record HeldFor (Holds : List Tick → Tick → Type 0) (length : ℕ) (delay_on_init : Bool)
    (accepted : List Tick) (k : Tick) : Type 0 where
  pub earlier : List Tick
  pub begin : Tick
  pub since : List Tick
  pub parts : accepted ≡ earlier ++ (begin ∷ since)
  pub held : HoldsAlong Holds earlier (begin ∷ since)
  pub long : (seconds begin.t + length ≤ seconds k.t) ⊎ ((earlier ≡ []) × T (not delay_on_init))
