-- Of accepted ticks no time is before an older one, by question 3. The literals of times. Histories of accepted ticks, the newest first. Assumes nothing.
use mathlib.Core.List.{List, [], ◌∷◌}
use Prim.Native.Nat.{ℕ, ◌^◌, ◌≤◌}
use Rattle.f64_helpers.specs.F64.{decimal}
use Rattle.f64_helpers.specs.Seconds.{seconds, IsTime}
use Rattle.f64_helpers.proofs.WholeSeconds.{Reach}
use Rattle.f64_helpers.proofs.Times.{decimal_whole, at_most_whole}
use Rattle.cooling_only_controller_timing.proofs.TrueDelayLaw.{whole_reached}
use Rattle.air_box.specs.Demand1.{AllYes}
use Rattle.air_box.specs.declared.Tick.{Tick}
use Rattle.air_box.specs.declared.Refusal.TheVariants.{BeforeLast}
use Rattle.air_box.proofs.Demands.{accepted_time}
use Rattle.std.proofs.Common.{Some}
use Rattle.nights.proofs.Histories.{newest_time}

-- ---- literals
pub decimal_reached : (n : ℕ) → n ≤ 2 ^ 53 → Reach (decimal n 1) n
decimal_reached n l = whole_reached (decimal n 1) n (decimal_whole n l)

-- ---- accepted ticks
pub accepted_not_before : (j k : Tick) → IsTime j.t → AllYes (Some j.t) k → seconds j.t ≤ seconds k.t
accepted_not_before j k v all = at_most_whole j.t k.t (seconds j.t) (seconds k.t) v.0 (accepted_time (Some j.t) k all).0 (all BeforeLast)

-- each tick of the history was accepted after the older ones
abbrev pub AllAccepted : List Tick → Type 0
AllAccepted [] = Unit
AllAccepted (k ∷ h) = AllYes (newest_time h) k × AllAccepted h
