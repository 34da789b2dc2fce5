-- Demand 3 holds, for either reading and from either start; the demand itself speaks of a plain start and the first reading. Assumes nothing.
use mathlib.Core.Logic.Iff
use mathlib.Core.Logic.{◌↔◌, ◌⊎◌, inl, inr}
use mathlib.Core.List.{List, [], ◌∷◌}
use Prim.Native.Nat.{ℕ}
use mathlib.Core.Bool.{false}
use lib.Ieee.{Float}
use Rattle.cooling_only_controller.specs.declared.ControllerOutput.{ControllerOutput}
use Rattle.air_box.specs.declared.Tick.{Tick}
use Rattle.nights.specs.Nights.{NightStep, night_of, Along, accepted_after}
use Rattle.nights.specs.Demand3.{ExactGiven, plain, Demand3}
use Rattle.nights.specs.SecondReading.{ExactGivenBy, EitherReading}
use Rattle.nights.proofs.FlowHighRule.{flow_high_rule}
use Rattle.nights.proofs.EveryNight.{every_night_exactly}
use Rattle.nights.proofs.TwoNights.{two_nights}

pub either_reading : EitherReading
either_reading = record { flow_high_rule = flow_high_rule; every_night_exactly = every_night_exactly; two_nights = two_nights }

-- ---- what holds at each step of a night holds there in weaker words
module _ (P Q : List Tick → NightStep → Type 0) (weaker : (earlier : List Tick) (s : NightStep) → P earlier s → Q earlier s) where
  along_weaker : (earlier : List Tick) (night : List NightStep) → Along P earlier night → Along Q earlier night
  along_weaker earlier [] a = tt
  along_weaker earlier (s ∷ rest) a = (weaker earlier s a.0, along_weaker (accepted_after earlier s.ticked s.given) rest a.1)

-- of a plain start with the first reading the two say the same
pub demand_3_is_a_case : (minimum maximum : Float) (earlier : List Tick) (k : Tick) (given : ControllerOutput ⊎ ℕ) → ExactGivenBy (plain minimum maximum) earlier k given ↔ ExactGiven (plain minimum maximum) earlier k given
demand_3_is_a_case minimum maximum earlier k (inl output) = Iff.rfl
demand_3_is_a_case minimum maximum earlier k (inr number) = Iff.rfl

from_either_reading : EitherReading → Demand3
from_either_reading either = record {
  flow_high_rule = λ minimum maximum. either.flow_high_rule (plain minimum maximum);
  every_night_exactly = λ minimum maximum night.
      let choices = plain minimum maximum in
      along_weaker (λ earlier s. ExactGivenBy choices earlier s.ticked s.given) (λ earlier s. ExactGiven choices earlier s.ticked s.given)
      (λ earlier s. (demand_3_is_a_case minimum maximum earlier s.ticked s.given).0) [] (night_of choices night) (either.every_night_exactly choices night);
  two_nights = either.two_nights false false;
}

pub demand_3 : Demand3
demand_3 = from_either_reading either_reading
