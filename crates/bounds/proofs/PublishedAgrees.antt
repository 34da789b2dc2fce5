-- The claim of PublishedAgrees.antt. Assumes nothing.
use Rattle.std.proofs.Common.{◌≡◌, refl, List, [], ◌∷◌, sym, ap, ◌∙◌, Result}
use Rattle.std.specs.Bool.{⊤}
use lib.Ieee.{Float}
use Rattle.f64_helpers.specs.F64.{decimal}
use Rattle.box_choices.specs.declared.Choices.{Choices}
use Rattle.air_box.specs.AirBox.{unticked, stepped, tick, accepted_tick, outputs_or_number}
use Rattle.air_box.specs.Demand1.{AllYes}
use Rattle.air_box.specs.Demand2.{controller_step_of}
use Rattle.air_box.specs.declared.Tick.{Tick}
use Rattle.air_box.specs.declared.Refusal.{Refusal}
use Rattle.air_box.specs.declared.AirBox.{AirBox}
use Rattle.air_box.proofs.Demands.{tick_accepted, tick_refused, by_verdict, questions_accept, questions_refuse}
use Rattle.nights.specs.Nights.{NightStep, box_after, steps, steps_by}
use Rattle.bounds.specs.Kept.{KeptSigns}
use Rattle.bounds.specs.Bounds.{grown, Built}
use Rattle.bounds.specs.PublishedHelpers.{Helpers, document_01, published, RustMax, RustMin}
use Rattle.bounds.specs.PublishedController.{controller_output_over}
use Rattle.bounds.specs.PublishedAgrees.{decided_over, tick_over, LoopReadingsAreF64, AllF64, PublishedAgrees}
use Rattle.bounds.proofs.Accepted.{readings_in}
use Rattle.bounds.proofs.Flows.{FlowsIn}
use Rattle.bounds.proofs.Damper.{any_size}
use Rattle.bounds.proofs.Bounds.{Keeps, flows_of, large_of, after_tick, grown_keeps, flows_of_built}
use Rattle.bounds.proofs.Signs.{signs_fresh, next_signs}
use Rattle.bounds.proofs.PublishedBlocks.{todays_max, todays_min}
use Rattle.bounds.proofs.PublishedSame.{same_text}
use Rattle.bounds.proofs.PublishedStages.{published_agrees}
use Rattle.bounds.proofs.PublishedKept.{handed}

-- ---- signs along any ticks

-- an accepted tick, given as the state of the controller
accepted_state : (box : AirBox) (k : Tick) → (accepted_tick box k).state.state ≡ (controller_step_of box k).state
unfolding accepted_tick
accepted_state box k = refl

after_tick_signs : (box : AirBox) (k : Tick) → LoopReadingsAreF64 k → KeptSigns box.state → KeptSigns (tick box k).state.state
after_tick_signs box k h s =
    by_verdict box.last_time k
    (λ all. rw (tick_accepted box k all, accepted_state) (next_signs box k (readings_in box.last_time k all) h s))
    (λ reason first. rw (tick_refused box k reason first) s)

after_ticks_signs : (box : AirBox) (ticks : List Tick) → AllF64 ticks → KeptSigns box.state → KeptSigns (box_after tick box ticks).state
after_ticks_signs box [] h s = s
after_ticks_signs box (k ∷ ks) h s = after_ticks_signs (tick box k).state ks h.1 (after_tick_signs box k h.0 s)

-- ---- a tick by what the questions decide

tick_of : (box : AirBox) (k : Tick) → AllYes box.last_time k → tick box k ≡ stepped box k (controller_step_of box k)
unfolding accepted_tick
tick_of box k all = tick_accepted box k all

tick_over_of : (h : Helpers) (box : AirBox) (k : Tick) → AllYes box.last_time k → tick_over h box k ≡ stepped box k (controller_output_over h box.state k.t k.input box.choices)
unfolding tick_over
tick_over_of h box k all = ap (λ (v : Result ⊤ Refusal). decided_over h v box k) ((questions_accept box.last_time k).1 all)

same_where : (h : Helpers) (box : AirBox) (k : Tick) → (AllYes box.last_time k → controller_output_over h box.state k.t k.input box.choices ≡ controller_step_of box k) → tick_over h box k ≡ tick box k
unfolding tick_over
same_where h box k same =
    by_verdict box.last_time k
    (λ all. tick_over_of h box k all ∙ ap (stepped box k) (same all) ∙ sym (tick_of box k all))
    (λ reason first. ap (λ (v : Result ⊤ Refusal). decided_over h v box k) ((questions_refuse box.last_time k reason).1 first) ∙ sym (tick_refused box k reason first))

-- ---- a box grown from a start
module _ (max min : Float → Float → Float) (rust_max : RustMax max) (rust_min : RustMin min) (choices : Choices) (b : Built choices) where
  f : FlowsIn choices
  f = flows_of_built choices b

  here : (box : AirBox) (k : Tick) → Keeps choices (decimal 512 1) box → KeptSigns box.state → tick_over (published max min) box k ≡ tick box k
  here box k h s =
      same_where (published max min) box k
      (λ all. published_agrees max min rust_max rust_min box k
      (handed box (flows_of choices f any_size f.maximum box h.choices_kept) any_size (large_of choices f any_size f.maximum box h.choices_kept) h.kept s k all))

  night : (box : AirBox) (ticks : List Tick) → AllF64 ticks → Keeps choices (decimal 512 1) box → KeptSigns box.state → steps_by (tick_over (published max min)) box ticks ≡ steps box ticks
  night box [] a h s = refl
  night box (k ∷ ks) a h s =
      let step = tick box k in
      let rest = night step.state ks a.1 (after_tick choices f any_size f.maximum box k h) (after_tick_signs box k a.0 s) in
      rw (here box k h s) (ap (λ (later : List NightStep). record { ticked = k; given = outputs_or_number step.answer; box = step.state } ∷ later) rest)

  fresh_keeps : Keeps choices (decimal 512 1) (unticked choices)
  fresh_keeps = grown_keeps choices f any_size f.maximum []

  at_every_tick : (ticks : List Tick) → AllF64 ticks → (k : Tick) → tick_over (published max min) (grown choices ticks) k ≡ tick (grown choices ticks) k
  at_every_tick ticks a k = here (grown choices ticks) k (grown_keeps choices f any_size f.maximum ticks) (after_ticks_signs (unticked choices) ticks a signs_fresh)

  along_every_night : (ticks : List Tick) → AllF64 ticks → steps_by (tick_over (published max min)) (unticked choices) ticks ≡ steps (unticked choices) ticks
  along_every_night ticks a = night (unticked choices) ticks a fresh_keeps signs_fresh

pub published_agree : PublishedAgrees
published_agree =
    record {
      same_text = same_text;
      same_box = λ box k. same_where document_01 box k (λ all. same_text box.state k.t k.input box.choices);
      among_them = (todays_max, todays_min);
      every_tick = at_every_tick;
      every_night = along_every_night;
    }
