-- What a box keeps of its last tick reaches nothing else: the box without it is the box of before, at every tick and along every night. Assumes nothing.
use mathlib.Core.Path.{◌≡◌, refl, sym, ap}
use mathlib.Core.Bool.{Bool, true, false}
use mathlib.Core.List.{List, [], ◌∷◌, map}
use Rattle.std.specs.Prelude.{Result, Ok, Err, ⊤, if◌then◌else◌}
use Rattle.box_choices.specs.declared.Choices.{Choices}
use Rattle.air_box.specs.AirBox.{questions, tick, accepted_tick, decided, unticked, build, design_flows_within, outputs_or_number}
use Rattle.air_box.specs.declared.Tick.{Tick}
use Rattle.air_box.specs.declared.Refusal.{Refusal}
use Rattle.air_box.specs.declared.BuildRefusal.TheVariants.{DesignFlowOutOfRange}
use Rattle.air_box.specs.declared.AirBox.{AirBox}
use Rattle.air_box.specs.declared.AirBoxStep.{AirBoxStep}
use Rattle.nights.specs.Nights.{steps}
use Rattle.nights.specs.BoxBefore.{BoxBeforeStep, tick_before, decided_before, build_before, given_before, unticked_before, before, built_then, NothingElseMoved}

abbrev step_before : AirBoxStep → BoxBeforeStep
step_before s = record { state = before s.state; answer = s.answer }

decided_is : (v : Result ⊤ Refusal) (box : AirBox) (k : Tick) → step_before (decided v box k) ≡ decided_before v (before box) k
unfolding accepted_tick
decided_is (Ok _) box k = refl
decided_is (Err reason) box k = refl

tick_is : (box : AirBox) (k : Tick) → step_before (tick box k) ≡ tick_before (before box) k
unfolding tick
tick_is box k = decided_is (questions box.last_time k) box k

answer_is : (box : AirBox) (k : Tick) → (tick box k).answer ≡ (tick_before (before box) k).answer
answer_is box k = ap (λ (s : BoxBeforeStep). s.answer) (tick_is box k)

next_is : (box : AirBox) (k : Tick) → before (tick box k).state ≡ (tick_before (before box) k).state
next_is box k = ap (λ (s : BoxBeforeStep). s.state) (tick_is box k)

given_is : (box : AirBox) (ks : List Tick) → map (λ s. s.given) (steps box ks) ≡ given_before (before box) ks
given_is box [] = refl
given_is box (k ∷ ks) =
    rw (answer_is box k, sym (next_is box k))
    (ap (λ (l : List _). outputs_or_number (tick_before (before box) k).answer ∷ l) (given_is (tick box k).state ks))

built_is : (choices : Choices) → built_then (build choices) ≡ build_before choices
unfolding build
built_is choices = by_range (design_flows_within choices)
  where
    by_range : (b : Bool) → built_then (if b then Ok (unticked choices) else Err DesignFlowOutOfRange) ≡ (if b then Ok (unticked_before choices) else Err DesignFlowOutOfRange)
    by_range true = refl
    by_range false = refl

pub nothing_else_moved : NothingElseMoved
nothing_else_moved = record {
  built = built_is;
  fresh = λ choices. refl;
  answer = answer_is;
  next = next_is;
  night = λ choices ticks. given_is (unticked choices) ticks;
}
