-- The law of the true delay over any history of samples, for any delay and both values of `delay_on_init`: its output is true exactly if the input has been true for the delay. Beside it the law of two histories. Assumes nothing.
use Rattle.std.proofs.Common.{◌≡◌, ℕ, ◌+◌, ◌-◌, ◌<◌, ◌≤◌, Bool, true, false, cond, not, ◌&&◌, T, leb, ◌⊎◌, ◌↔◌, List, [], ◌∷◌, ◌++◌, pos, sym, refl, ap, Option, Some, None, ◌∙◌, subst, inl, inr, ⊎_elim, zero-le, le_refl, arith, le→leb, leb→le}
use mathlib.Core.Logic.Iff
use native.Mathlib.Nat.{max-zero as maxℕ-zero}
use lib.Dec.{nleb→lt}
use lib.Ieee.{Float, fin, binary64, lt, eq, le, is_nan}
use Rattle.f64_helpers.specs.F64.{◌⊕◌, ◌⊖◌, zero}
use Rattle.f64_helpers.specs.Helpers.{max, negative}
use Rattle.f64_helpers.specs.Seconds.{Whole, seconds, IsTime, NotNegative, seconds_up}
use Rattle.f64_helpers.proofs.WholeSeconds.{zero_whole, add_whole, sub_whole, le_whole, max_whole, same_test, Reach, reach_any}
use Rattle.f64_helpers.proofs.Order.{le_trans, lt→le, eq→le, le_numbers, lt_is_not_le}
use Rattle.cdl_recurrences.specs.CdlRecurrences.{true_delay_output}
use Rattle.cdl_recurrences.specs.DeadBand.{Related}
use Rattle.cdl_recurrences.specs.declared.TrueDelayOutput.{TrueDelayOutput}
use Rattle.cooling_only_controller_timing.specs.declared.TrueDelayState.{TrueDelayState}
use Rattle.cooling_only_controller_timing.specs.Timing.{true_delay}
use Rattle.cooling_only_controller_timing.specs.History.{Sample, true_delay_after, Timed, AllTrue, TrueFor, TrueIfTrue}

pub held_is_output : (s : TrueDelayState) (t : Float) (u : Bool) (delay_time : Float) (delay_on_init : Bool) → (true_delay s t u delay_time delay_on_init).output ≡ (true_delay s t u delay_time delay_on_init).state.held
unfolding true_delay
held_is_output s t u delay_time delay_on_init = refl

-- with a false input it gives false, whatever it holds
pub false_gives_false : (s : TrueDelayState) (t delay_time : Float) (delay_on_init : Bool) → (true_delay s t false delay_time delay_on_init).output ≡ false
unfolding true_delay true_delay_output
false_gives_false s t delay_time delay_on_init = refl

-- after its first sample, delay_on_init is nothing to it
pub on_init_at_the_first_alone : (s : TrueDelayState) (t : Float) (u : Bool) (delay_time : Float) (delay_on_init : Bool) (p : Float) → s.previous_time ≡ Some p
    → true_delay s t u delay_time false ≡ true_delay s t u delay_time delay_on_init
unfolding true_delay true_delay_output
on_init_at_the_first_alone s t true delay_time delay_on_init p e = rw e
on_init_at_the_first_alone s t false delay_time delay_on_init p e = refl

-- ---- a delay, and the larger of it and 0, are reached by the same whole numbers
pub number_if_reached : (x : Float) (d : ℕ) → Reach x d → T (not (is_nan x))
number_if_reached x d reach =
    let y = fin false d (pos 0) in
    (le_numbers x y (subst T (sym (reach y d (refl, λ q. absurd q))) (le→leb d d (le_refl d)))).0

pub max_reached : (x : Float) (d : ℕ) → Reach x d → Reach (max x zero) d
unfolding max eq
max_reached x d reach y n w = go (is_nan x) (lt x zero) (eq x zero) (number_if_reached x d reach) (lt→le x zero) (eq→le x zero)
  where
    -- x is at most 0, and z is 0
    at_most_zero : (z : Float) → Whole z 0 → T (le x zero) → le z y ≡ leb d n
    at_most_zero z v h =
        let all : T (leb 0 n) = le→leb 0 n zero-le in
        le_whole z y 0 n v w
        ∙ same_test (leb 0 n) (leb d n) (λ q. subst T (reach y n w) (le_trans x zero y h (subst T (sym (le_whole zero y 0 n zero_whole w)) all))) (λ q. all)

    go : (i p q : Bool) → T (not i) → (T p → T (le x zero)) → (T q → T (le x zero))
        → le (cond i zero (cond p zero (cond (q && eq zero zero) (fin (negative x && negative zero) 0 (pos 0)) x))) y ≡ leb d n
    go true p q f g h = absurd f
    go false true q f g h = at_most_zero zero zero_whole (g tt)
    go false false true f g h = at_most_zero (fin (negative x && negative zero) 0 (pos 0)) (refl, λ q. refl) (h tt)
    go false false false f g h = reach y n w

pub whole_reached : (x : Float) (d : ℕ) → Whole x d → Reach x d
whole_reached x d w y n v = le_whole x y d n w v

-- ---- `TrueFor`, going back one sample at a time
abbrev pub TrueSince : ℕ → Bool → ℕ → List Sample → Type 0
TrueSince d delay_on_init now [] = T (not delay_on_init)
TrueSince d delay_on_init now (k ∷ h) = T k.input × ((seconds k.time + d ≤ now) ⊎ TrueSince d delay_on_init now h)

module _ (d : ℕ) (delay_on_init : Bool) (now : ℕ) where
  true_for : (k : Sample) (h : List Sample) → T k.input → (seconds k.time + d ≤ now) ⊎ TrueSince d delay_on_init now h → TrueFor d delay_on_init now (k ∷ h)
  true_for k [] u o = record { newer = []; start = k; older = []; parts = refl; newer_true = tt; start_true = u; long = ⊎_elim (λ e. inl e) (λ r. inr (refl, r)) o }
  true_for k (j ∷ h) u (inl e) = record { newer = []; start = k; older = j ∷ h; parts = refl; newer_true = tt; start_true = u; long = inl e }
  true_for k (j ∷ h) u (inr r) =
      let l = true_for j h r.0 r.1 in
      record { newer = k ∷ l.newer; start = l.start; older = l.older; parts = ap (λ (z : List Sample). k ∷ z) l.parts; newer_true = (u, l.newer_true); start_true = l.start_true; long = l.long }

  true_since : (newer : List Sample) (start : Sample) (older : List Sample) → AllTrue newer → T start.input → (seconds start.time + d ≤ now) ⊎ ((older ≡ []) × T (not delay_on_init))
      → TrueSince d delay_on_init now (newer ++ (start ∷ older))
  true_since [] start older a u e = (u, ⊎_elim (λ l. inl l) (λ f. inr (subst (TrueSince d delay_on_init now) (sym f.0) f.1)) e)
  true_since (k ∷ newer) start older a u e = (a.0, inr (true_since newer start older a.1 u e))

  pub true_since_iff_true_for : (k : Sample) (h : List Sample) → TrueSince d delay_on_init now (k ∷ h) ↔ TrueFor d delay_on_init now (k ∷ h)
  true_since_iff_true_for k h = (
    λ o. true_for k h o.0 o.1,
    λ l. subst (TrueSince d delay_on_init now) (sym l.parts) (true_since l.newer l.start l.older l.newer_true l.start_true l.long),
  )

  -- Both histories have equal length and the same times. The input of h is true wherever that of g is.
  pub true_since_kept : (g h : List Sample) → Related TrueIfTrue g h → TrueSince d delay_on_init now g → TrueSince d delay_on_init now h
  true_since_kept [] [] r o = o
  true_since_kept [] (k ∷ h) r o = absurd r
  true_since_kept (j ∷ g) [] r o = absurd r
  true_since_kept (j ∷ g) (k ∷ h) r o = (r.0.1 o.0, ⊎_elim (λ e. inl (omega (arith, r.0.0))) (λ p. inr (true_since_kept g h r.1 p)) o.1)

-- What is long enough is so at a later time too, and without delay_on_init.
pub true_since_later : (d : ℕ) (on_init later_on_init : Bool) → (T (not on_init) → T (not later_on_init)) → (a b : ℕ) → a ≤ b → (h : List Sample) → TrueSince d on_init a h → TrueSince d later_on_init b h
true_since_later d on_init later_on_init f a b l [] o = f o
true_since_later d on_init later_on_init f a b l (k ∷ h) o = (o.0, ⊎_elim (λ e. inl (omega arith)) (λ r. inr (true_since_later d on_init later_on_init f a b l h r)) o.1)

-- ---- what holds of the state after a history
abbrev pub sample : Float → Bool → Sample
sample t u = record { time = t; input = u }

-- The newest sample, at t, has a true input. The timer is the time since the oldest sample of its run of true inputs: at each later `now` the run is long enough exactly if the timer and the time since t reach d.
abbrev Counts : ℕ → Bool → List Sample → Float → Float → Type 0
Counts d delay_on_init h t timer =
    (n : ℕ) × Whole timer n × (n ≤ seconds t) × ((now : ℕ) → seconds t ≤ now → TrueSince d delay_on_init now (sample t true ∷ h) ↔ (d ≤ n + (now - seconds t)))

-- The delay's output and timer are right at the newest sample, whose time is t and whose input is u.
abbrev Right : ℕ → Bool → List Sample → Float → Bool → Bool → Float → Type 0
Right d delay_on_init h t u held timer =
    (T held ↔ TrueSince d delay_on_init (seconds t) (sample t u ∷ h)) × (T u → T (not held) → Counts d delay_on_init h t timer)

abbrev RightOutput : ℕ → Bool → List Sample → Float → Bool → TrueDelayOutput → Type 0
RightOutput d delay_on_init h t u o = Right d delay_on_init h t u o.output o.timer

abbrev Good : ℕ → Bool → List Sample → TrueDelayState → Type 0
Good d delay_on_init [] s = s.previous_time ≡ None
Good d delay_on_init (k ∷ h) s = (s.previous_time ≡ Some k.time) × (s.previous_input ≡ k.input) × Right d delay_on_init h k.time k.input s.held s.timer

-- a run of true inputs that begins with the newest sample
counts_from_zero : (d : ℕ) (delay_on_init : Bool) (h : List Sample) (t : Float) → ((now : ℕ) → TrueSince d delay_on_init now h → ⊥) → Counts d delay_on_init h t zero
counts_from_zero d delay_on_init h t none = (0, zero_whole, zero-le, λ now l. (λ o. ⊎_elim (λ e. omega arith) (λ z. absurd (none now z)) o.1, λ e. (tt, inl (omega arith))))

-- the timer's next value is exact
pub next_whole : (t p x : Float) (n : ℕ) → IsTime t → IsTime p → seconds p ≤ seconds t → Whole x n → n ≤ seconds p → Whole (x ⊕ max (t ⊖ p) zero) (n + (seconds t - seconds p))
next_whole t p x n it ip l w b =
    let gap : Whole (max (t ⊖ p) zero) (seconds t - seconds p) =
    subst (Whole (max (t ⊖ p) zero)) (maxℕ-zero (seconds t - seconds p))
    (max_whole (t ⊖ p) zero (seconds t - seconds p) 0 (sub_whole binary64 t p (seconds t) (seconds p) it.0 ip.0 l (omega arith)) zero_whole) in
    add_whole binary64 x (max (t ⊖ p) zero) n (seconds t - seconds p) w gap (omega arith)

module _ (delay_time : Float) (d : ℕ) (reach : Reach delay_time d) where
  reached : (x : Float) (n : ℕ) → Whole x n → T (le (max delay_time zero) x) ↔ (d ≤ n)
  reached x n w =
      let e = max_reached delay_time d reach x n w in
      (λ h. leb→le d n (subst T e h), λ h. subst T (sym e) (le→leb d n h))

  -- the input is false
  off : (delay_on_init : Bool) (h : List Sample) (t : Float) (p : Option Float) (i b : Bool) (x : Float) → RightOutput d delay_on_init h t false (true_delay_output t false delay_time delay_on_init p i b x)
  unfolding true_delay_output
  off delay_on_init h t p i b x = ((λ q. absurd q, λ o. o.0), λ q. absurd q)

  -- it is true at the very first sample
  first : (delay_on_init : Bool) (t : Float) (i b : Bool) (x : Float) → RightOutput d delay_on_init [] t true (true_delay_output t true delay_time delay_on_init None i b x)
  unfolding true_delay_output is_nan
  first false t i b x = ((λ q. (tt, inr tt), λ o. tt), λ q r. absurd r)
  first true t i b x =
      subst (λ (b : Bool). RightOutput d true [] t true (cond b (record { output = false; timer = zero }) (record { output = true; timer = max delay_time zero })))
      (sym (lt_is_not_le zero (max delay_time zero) tt (number_if_reached (max delay_time zero) d (max_reached delay_time d reach)) ∙ ap not (max_reached delay_time d reach zero 0 zero_whole)))
      (go (leb d 0) (leb→le d 0) (nleb→lt d 0))
    where
      go : (b : Bool) → (T b → d ≤ 0) → (T (not b) → 0 < d) → RightOutput d true [] t true (cond (not b) (record { output = false; timer = zero }) (record { output = true; timer = max delay_time zero }))
      go true f g = ((λ q. (tt, inl (omega (arith, f tt))), λ o. tt), λ q r. absurd r)
      go false f g = (
        (λ q. absurd q, λ o. ⊎_elim (λ e. omega (arith, g tt)) (λ z. z) o.1),
        λ q r. counts_from_zero d true [] t (λ now z. z),
      )

  -- it is true at a later sample, after one at p
  running : (delay_on_init : Bool) (h : List Sample) (t p : Float) (i b : Bool) (x : Float) → IsTime t → IsTime p → seconds p ≤ seconds t → Right d delay_on_init h p i b x
      → RightOutput d delay_on_init (sample p i ∷ h) t true (true_delay_output t true delay_time delay_on_init (Some p) i b x)
  unfolding true_delay_output
  running delay_on_init h t p i true x it ip l g =
      ((λ q. (tt, inr (true_since_later d delay_on_init delay_on_init (λ n. n) (seconds p) (seconds t) l (sample p i ∷ h) (g.0.0 tt))), λ o. tt), λ q r. absurd r)
  running delay_on_init h t p false false x it ip l g =
      let r = reached zero 0 zero_whole in (
        (λ q. (tt, inl (omega (arith, r.0 q))), λ o. r.1 (⊎_elim (λ e. omega arith) (λ z. absurd z.0) o.1)),
        λ q s. counts_from_zero d delay_on_init (sample p false ∷ h) t (λ now z. z.0),
      )
  running delay_on_init h t p true false x it ip l g =
      let c = g.1 tt tt in
      let n = c.0 in
      let next = x ⊕ max (t ⊖ p) zero in
      let w : Whole next (n + (seconds t - seconds p)) = next_whole t p x n it ip l c.1 c.2 in
      let r : T (le (max delay_time zero) next) ↔ (d ≤ n + (seconds t - seconds p)) = reached next (n + (seconds t - seconds p)) w in (
        (λ q. (tt, inr ((c.3 (seconds t) l).1 (r.0 q))), λ o. r.1 (⊎_elim (λ e. omega arith) (λ z. (c.3 (seconds t) l).0 z) o.1)),
        λ q s. (
          n + (seconds t - seconds p),
          w,
          omega (arith, c.2),
          λ now k. (
            λ o. ⊎_elim (λ e. omega arith) (λ z. omega (arith, (c.3 now (omega arith)).0 z)) o.1,
            λ e. (tt, inr ((c.3 now (omega arith)).1 (omega arith))),
          ),
        ),
      )

  step : (delay_on_init : Bool) (h : List Sample) (s : TrueDelayState) (t : Float) (u : Bool) → Timed (sample t u ∷ h) → Good d delay_on_init h s
      → Good d delay_on_init (sample t u ∷ h) (true_delay s t u delay_time delay_on_init).state
  unfolding true_delay
  step delay_on_init h s t false m g = (refl, refl, off delay_on_init h t s.previous_time s.previous_input s.held s.timer)
  step delay_on_init [] s t true m g = (
    refl,
    refl,
    subst (λ (p : Option Float). RightOutput d delay_on_init [] t true (true_delay_output t true delay_time delay_on_init p s.previous_input s.held s.timer)) (sym g)
        (first delay_on_init t s.previous_input s.held s.timer),
  )
  step delay_on_init (k ∷ h) s t true m g = (
    refl,
    refl,
    subst (λ (p : Option Float). RightOutput d delay_on_init (k ∷ h) t true (true_delay_output t true delay_time delay_on_init p s.previous_input s.held s.timer)) (sym g.0)
        (subst (λ (i : Bool). RightOutput d delay_on_init (k ∷ h) t true (true_delay_output t true delay_time delay_on_init (Some k.time) i s.held s.timer)) (sym g.1)
        (running delay_on_init h t k.time k.input s.held s.timer m.0 m.2.0 m.1 g.2)),
  )

  good : (delay_on_init : Bool) (h : List Sample) → Timed h → Good d delay_on_init h (true_delay_after delay_time delay_on_init h)
  good delay_on_init [] m = refl
  good delay_on_init (k ∷ h) m = step delay_on_init h (true_delay_after delay_time delay_on_init h) k.time k.input m (good delay_on_init h m.2)

  -- the law, where the delay is at most a whole number exactly if d is
  pub true_since_law : (delay_on_init : Bool) (k : Sample) (h : List Sample) → Timed (k ∷ h)
      → T (true_delay_after delay_time delay_on_init (k ∷ h)).held ↔ TrueSince d delay_on_init (seconds k.time) (k ∷ h)
  true_since_law delay_on_init k h m = (good delay_on_init (k ∷ h) m).2.0

  pub true_for_law : (delay_on_init : Bool) (k : Sample) (h : List Sample) → Timed (k ∷ h)
      → T (true_delay_after delay_time delay_on_init (k ∷ h)).held ↔ TrueFor d delay_on_init (seconds k.time) (k ∷ h)
  true_for_law delay_on_init k h m = Iff.trans (true_since_law delay_on_init k h m) (true_since_iff_true_for d delay_on_init (seconds k.time) k h)

  pub true_delay_two_histories : (delay_on_init : Bool) (g h : List Sample) → Timed g → Timed h → Related TrueIfTrue g h
      → T (true_delay_after delay_time delay_on_init g).held → T (true_delay_after delay_time delay_on_init h).held
  true_delay_two_histories delay_on_init [] [] m n r o = o
  true_delay_two_histories delay_on_init [] (k ∷ h) m n r o = absurd r
  true_delay_two_histories delay_on_init (j ∷ g) [] m n r o = absurd r
  true_delay_two_histories delay_on_init (j ∷ g) (k ∷ h) m n r o =
      (true_since_law delay_on_init k h n).1
      (true_since_kept d delay_on_init (seconds k.time) (j ∷ g) (k ∷ h) r
      (subst (λ (now : ℕ). TrueSince d delay_on_init now (j ∷ g)) r.0.0 ((true_since_law delay_on_init j g m).0 o)))

-- The output after a history is true exactly if the input has been true from a sample at least the delay before the newest, or, unless `delay_on_init`, from the very first, to the newest.
-- The delay is any finite number of 0 or more. `seconds_up` is the least whole number that is not below it: times are whole numbers, so what reaches the one reaches the other.
pub true_delay_law : (delay_time : Float) → NotNegative delay_time → (delay_on_init : Bool) (k : Sample) (h : List Sample) → Timed (k ∷ h)
    → T (true_delay_after delay_time delay_on_init (k ∷ h)).held ↔ TrueFor (seconds_up delay_time) delay_on_init (seconds k.time) (k ∷ h)
true_delay_law delay_time p = true_for_law delay_time (seconds_up delay_time) (reach_any delay_time p)
