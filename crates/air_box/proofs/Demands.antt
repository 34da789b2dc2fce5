-- Demands 1 and 2, from the order in which `questions` asks. The laws of the questions (`questions_accept`, `questions_refuse`, `accepted_time`) and of a tick by its verdict (`tick_accepted`, `tick_refused`) serve the claims about nights too. Assumes nothing.
use mathlib.Core.Path.{◌≡◌, refl, sym, ap, ◌∙◌, subst}
use mathlib.Core.Logic.{◌↔◌, inl, inr}
use Rattle.std.specs.Prelude.{Float, Option, Result, Ok, Err, ⊤}
use Prim.Native.Nat.{ℕ, ◌+◌, ◌<◌, ◌≤◌}
use native.Mathlib.Omega.{arith}
use mathlib.Core.Bool.{Bool, true, false, not, cond}
use lib.Dec.{T, T_not, ltb, eqb, ltb→lt, nltb→le, lit<}
use Rattle.f64_helpers.specs.Seconds.{IsTime}
use Rattle.f64_helpers.proofs.Times.{time_of_whole}
use Rattle.air_box.specs.AirBox.{yes, questions, accepted_tick, tick, given_for, refusal_number, outputs_or_number}
use Rattle.air_box.specs.Demand1.{AllYes, FirstNo, Demand1}
use Rattle.air_box.specs.Demand2.{controller_step_of, Demand2}
use Rattle.air_box.specs.declared.Tick.{Tick}
use Rattle.air_box.specs.declared.AirBox.{AirBox}
use Rattle.air_box.specs.declared.AirBoxStep.{AirBoxStep}
use Rattle.air_box.specs.declared.Refusal.{Refusal}
use Rattle.air_box.specs.declared.Refusal.TheVariants.{NotWholeSeconds, TimeOutOfRange, BeforeLast, TooLongAfterLast, TemperatureOutOfRange, Co2OutOfRange, AirflowOutOfRange}

-- ---- seven answers, asked in order
-- `Ok tt` if b is true of every reason, else the first of which it is false
abbrev verdict : (Refusal → Bool) → Result ⊤ Refusal
verdict b =
    cond (not (b NotWholeSeconds)) (Err NotWholeSeconds)
    (cond (not (b TimeOutOfRange)) (Err TimeOutOfRange)
    (cond (not (b BeforeLast)) (Err BeforeLast)
    (cond (not (b TooLongAfterLast)) (Err TooLongAfterLast)
    (cond (not (b TemperatureOutOfRange)) (Err TemperatureOutOfRange)
    (cond (not (b Co2OutOfRange)) (Err Co2OutOfRange)
    (cond (not (b AirflowOutOfRange)) (Err AirflowOutOfRange)
    (Ok tt)))))))

questions_are : (last : Option Float) (k : Tick) → questions last k ≡ verdict (λ (reason : Refusal). yes reason last k)
unfolding questions
questions_are last k = refl

-- b is true of every reason whose number is below n
abbrev Below : (Refusal → Bool) → ℕ → Type 0
Below b n = (other : Refusal) → refusal_number other < n → T (b other)

abbrev of_number : ℕ → Refusal
of_number n =
    cond (eqb n 1) NotWholeSeconds
    (cond (eqb n 2) TimeOutOfRange
    (cond (eqb n 3) BeforeLast
    (cond (eqb n 4) TooLongAfterLast
    (cond (eqb n 5) TemperatureOutOfRange
    (cond (eqb n 6) Co2OutOfRange
    AirflowOutOfRange)))))

by_number : (reason : Refusal) → of_number (refusal_number reason) ≡ reason
by_number NotWholeSeconds = refl
by_number TimeOutOfRange = refl
by_number BeforeLast = refl
by_number TooLongAfterLast = refl
by_number TemperatureOutOfRange = refl
by_number Co2OutOfRange = refl
by_number AirflowOutOfRange = refl

same_reason : (a c : Refusal) → refusal_number a ≡ refusal_number c → a ≡ c
same_reason a c e = sym (by_number a) ∙ ap of_number e ∙ by_number c

pub above_zero : (reason : Refusal) → 0 < refusal_number reason
above_zero NotWholeSeconds = lit< tt
above_zero TimeOutOfRange = lit< tt
above_zero BeforeLast = lit< tt
above_zero TooLongAfterLast = lit< tt
above_zero TemperatureOutOfRange = lit< tt
above_zero Co2OutOfRange = lit< tt
above_zero AirflowOutOfRange = lit< tt

module _ (b : Refusal → Bool) where
  none_below : Below b 1
  none_below other l = absurd (omega (arith, above_zero other))

  one_more : (n : ℕ) → Below b n → T (b (of_number n)) → Below b (n + 1)
  one_more n f y other l = go (ltb (refusal_number other) n) (ltb→lt (refusal_number other) n) (nltb→le (refusal_number other) n)
    where
      go : (q : Bool) → (T q → refusal_number other < n) → (T (not q) → n ≤ refusal_number other) → T (b other)
      go true p r = f other (p tt)
      go false p r =
          let same : n ≡ refusal_number other = omega (arith, r tt) in
          subst (λ (o : Refusal). T (b o)) (ap of_number same ∙ by_number other) y

  -- what is known of the first "no"
  abbrev First : Refusal → Type 0
  First reason = T (not (b reason)) × Below b (refusal_number reason)

  -- one question: it gets the first "no", or the rest decides
  asked : (x : Refusal) (found : Refusal) (rest : Result ⊤ Refusal) → Below b (refusal_number x) → (T (b x) → rest ≡ Err found → First found) → cond (not (b x)) (Err x) rest ≡ Err found → First found
  asked x found rest f next h = grind arith

  -- the verdict is a refusal exactly if its reason is the first "no"
  refused→first : (found : Refusal) → verdict b ≡ Err found → First found
  refused→first found h =
      asked NotWholeSeconds found _ none_below (λ y1 h1. let f1 : Below b 2 = one_more 1 none_below y1 in
      asked TimeOutOfRange found _ f1 (λ y2 h2. let f2 : Below b 3 = one_more 2 f1 y2 in
      asked BeforeLast found _ f2 (λ y3 h3. let f3 : Below b 4 = one_more 3 f2 y3 in
      asked TooLongAfterLast found _ f3 (λ y4 h4. let f4 : Below b 5 = one_more 4 f3 y4 in
      asked TemperatureOutOfRange found _ f4 (λ y5 h5. let f5 : Below b 6 = one_more 5 f4 y5 in
      asked Co2OutOfRange found _ f5 (λ y6 h6. let f6 : Below b 7 = one_more 6 f5 y6 in
      asked AirflowOutOfRange found _ f6 (λ y7 h7. cc) h6) h5) h4) h3) h2) h1) h

  -- a verdict that is no refusal has got a "yes" from every question
  accept→all : verdict b ≡ Ok tt → (reason : Refusal) → T (b reason)
  accept→all h NotWholeSeconds = grind arith
  accept→all h TimeOutOfRange = grind arith
  accept→all h BeforeLast = grind arith
  accept→all h TooLongAfterLast = grind arith
  accept→all h TemperatureOutOfRange = grind arith
  accept→all h Co2OutOfRange = grind arith
  accept→all h AirflowOutOfRange = grind arith

  all→accept : ((reason : Refusal) → T (b reason)) → verdict b ≡ Ok tt
  all→accept f =
      grind (arith, f NotWholeSeconds, f TimeOutOfRange, f BeforeLast, f TooLongAfterLast, f TemperatureOutOfRange, f Co2OutOfRange, f AirflowOutOfRange)

  -- and back: any other verdict would have a reason that is no first "no", or none
  first→refused : (found : Refusal) → First found → verdict b ≡ Err found
  first→refused found f = go (verdict b) refl
    where
      go : (v : Result ⊤ Refusal) → verdict b ≡ v → verdict b ≡ Err found
      go (Ok _) e = absurd (T_not (b found) f.0 (accept→all e found))
      go (Err x) e =
          let g : First x = refused→first x e in
          let not_less : ¬ (refusal_number x < refusal_number found) = λ l. T_not (b x) g.0 (f.1 x l) in
          let not_more : ¬ (refusal_number found < refusal_number x) = λ l. T_not (b found) f.0 (g.1 found l) in
          e ∙ ap Err (same_reason x found (omega arith))

-- ---- the questions, asked of a tick after the last accepted time `last`
pub questions_accept : (last : Option Float) (k : Tick) → (questions last k ≡ Ok tt) ↔ AllYes last k
questions_accept last k =
    let answers : Refusal → Bool = λ reason. yes reason last k in
    (λ e. accept→all answers (sym (questions_are last k) ∙ e), λ all. questions_are last k ∙ all→accept answers all)

-- questions 1 and 2
pub accepted_time : (last : Option Float) (k : Tick) → AllYes last k → IsTime k.t
accepted_time last k all = time_of_whole k.t (all NotWholeSeconds) (all TimeOutOfRange)

pub questions_refuse : (last : Option Float) (k : Tick) (reason : Refusal) → (questions last k ≡ Err reason) ↔ FirstNo reason last k
questions_refuse last k reason =
    let answers : Refusal → Bool = λ reason. yes reason last k in (
      λ e. let f = refused→first answers reason (sym (questions_are last k) ∙ e) in record { is_no = f.0; earlier_yes = f.1 },
      λ f. questions_are last k ∙ first→refused answers reason (f.is_no, f.earlier_yes),
    )

-- ---- a tick, by what the questions decide
pub tick_accepted : (box : AirBox) (k : Tick) → AllYes box.last_time k → tick box k ≡ accepted_tick box k
unfolding tick
tick_accepted box k all = rw ((questions_accept box.last_time k).1 all)

pub tick_refused : (box : AirBox) (k : Tick) (reason : Refusal) → FirstNo reason box.last_time k
    → tick box k ≡ record { state = box; answer = Err reason }
unfolding tick
tick_refused box k reason first = rw ((questions_refuse box.last_time k reason).1 first)

-- every tick is the one or the other
pub by_verdict : {P : Type 0} (last : Option Float) (k : Tick) → (AllYes last k → P) → ((reason : Refusal) → FirstNo reason last k → P) → P
by_verdict {P} last k yes_all no_first = go (questions last k) refl
  where
    go : (v : Result ⊤ Refusal) → questions last k ≡ v → P
    go (Ok _) e = yes_all ((questions_accept last k).0 e)
    go (Err reason) e = no_first reason ((questions_refuse last k reason).0 e)

-- ---- what a tick gives
gives_outputs : (box : AirBox) (k : Tick) → AllYes box.last_time k → given_for box k ≡ inl (controller_step_of box k).output
unfolding accepted_tick
gives_outputs box k all = ap (λ (s : AirBoxStep). outputs_or_number s.answer) (tick_accepted box k all)

pub gives_number : (box : AirBox) (k : Tick) (reason : Refusal) → FirstNo reason box.last_time k → given_for box k ≡ inr (refusal_number reason)
gives_number box k reason first = ap (λ (s : AirBoxStep). outputs_or_number s.answer) (tick_refused box k reason first)

-- a tick that gives a number is refused for the reason of that number
refused_for : (box : AirBox) (k : Tick) (number : ℕ) → given_for box k ≡ inr number
    → (reason : Refusal) × (number ≡ refusal_number reason) × FirstNo reason box.last_time k
refused_for box k number g =
    by_verdict box.last_time k (λ all. cc (gives_outputs box k all, g))
    (λ reason first. (reason, cc (g, gives_number box k reason first), first))

pub demand_1 : Demand1
demand_1 = record {
  number_of_the_first_no = λ box k reason. (
    λ g. let r = refused_for box k (refusal_number reason) g in
        subst (λ (x : Refusal). FirstNo x box.last_time k) (sym (same_reason reason r.0 r.1)) r.2,
    gives_number box k reason,
  );
  no_other_number = λ box k number g. let r = refused_for box k number g in (r.0, r.1);
  outputs_if_all_yes = λ box k. (
    λ g. by_verdict box.last_time k (λ all. all)
        (λ reason first. cc (g.1, gives_number box k reason first)),
    λ all. ((controller_step_of box k).output, gives_outputs box k all),
  );
  refused_changes_nothing = λ box k number g. let r = refused_for box k number g in ap (λ (s : AirBoxStep). s.state) (tick_refused box k r.0 r.2);
}

pub demand_2 : Demand2
unfolding accepted_tick
demand_2 box k all = record {
  outputs = gives_outputs box k all;
  next_state = ap (λ (s : AirBoxStep). s.state.state) (tick_accepted box k all);
  last_time = ap (λ (s : AirBoxStep). s.state.last_time) (tick_accepted box k all);
  choices_kept = ap (λ (s : AirBoxStep). s.state.choices) (tick_accepted box k all);
  last_tick = ap (λ (s : AirBoxStep). s.state.last_tick) (tick_accepted box k all);
}
