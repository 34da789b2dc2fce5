-- The unit delay's law over any history of ticks at whole seconds, for a whole period of at most 2 ^ 20: at a sampled tick it gives the newest input that it took before, and 0.0 where it took none. Assumes nothing.
use Rattle.std.proofs.Common.{◌≡◌, ℕ, ◌-◌, ◌*◌, ◌/◌, ◌%◌, ◌^◌, ◌<◌, ◌≤◌, Bool, true, false, cond, not, T, eqb, ltb, ◌⊎◌, List, [], ◌∷◌, ℤ, pos, negsuc, sym, refl, ap, ◌∙◌, subst, ap₂, inl, inr, mod-lt, eq-zero-or-pos, zero-mul, mul-one, div-mul-le_self, arith, lit≤, eqb→eq, ltb→lt, nltb→le}
use native.Mathlib.Nat.{mod-eq-sub-div-mul, div-eq_of_lt}
use lib.Ieee.{Float, fin, binary64, up, down, round, sub, le, of_int}
use lib.Ieee.Fits.{down_pos}
use Rattle.f64_helpers.specs.F64.{◌⊖◌, ◌⊘◌, ◌≤ᶠ◌, decimal, zero as zeroᶠ}
use Rattle.f64_helpers.specs.Helpers.{abs, as_f64, negative}
use Rattle.f64_helpers.specs.Seconds.{Whole, seconds, IsTime}
use Rattle.f64_helpers.proofs.WholeSeconds.{same_test, sub_whole}
use Rattle.f64_helpers.proofs.Quotients.{sign_whole, div_is, round_zero, Within, rounded_within, fraction_held, whole_held, value_above}
use Rattle.cdl_recurrences.specs.CdlRecurrences.{initial_sample_time, sample_index, sample_due}
use Rattle.cdl_recurrences.proofs.SampleGrid.{initial_sample_time_whole, sample_index_whole, OnGrid, grid_first, grid_due, grid_sampled, grid_kept}
use Rattle.cooling_only_controller_timing.specs.declared.UnitDelayState.{UnitDelayState}
use Rattle.cooling_only_controller_timing.specs.declared.Step.{Step}
use Rattle.cooling_only_controller_timing.specs.Timing.{fresh_unit_delay, unit_delay_sample}
use Rattle.cooling_only_controller_timing.specs.SamplerHistory.{SamplerTick, unit_delay_after, TimesInOrder, staged_by_rule, delayed_by_rule}

-- ---- the first tick's test: within 1e-9 periods of the grid is on it
-- 1e-9, exactly
tiny : decimal 1 1000000000 ≡ fin false 4835703278458517 (negsuc 81)
unfolding round
tiny = refl

-- on the grid
near_zero : (s : Bool) → (abs (fin s 0 (pos 0) ⊖ zeroᶠ) ≤ᶠ decimal 1 1000000000) ≡ true
unfolding abs sub le round
near_zero true = refl
near_zero false = refl

-- a value less 0 is the value, rounded once more
less_none : (a b c : ℕ) → b ≡ 0 → cond (ltb a b) (round binary64 true (b - a) c) (round binary64 false (a - b) c) ≡ round binary64 false a c
less_none a b c h =
    let no : ltb a b ≡ false = same_test (ltb a b) false (λ q. omega (arith, ltb→lt a b q)) (λ q. absurd q) in
    let all : a - b ≡ a = omega arith in
    rw (no, all)

less_zero : (m : ℕ) (e : ℤ) → fin false m e ⊖ zeroᶠ ≡ round binary64 false (m * up e) (down e)
unfolding sub
less_zero m e =
    less_none (m * up e * 1) (0 * 1 * down e) (down e * 1) (zero-mul (down e)) ∙ ap₂ (round binary64 false) (mul-one (m * up e)) (mul-one (down e))

-- from 2 ^ -20 to 1 it stays there
within_less_zero : (y : Float) → Within y 1 (2 ^ 20) 1 1 → Within (y ⊖ zeroᶠ) 1 (2 ^ 20) 1 1
within_less_zero y k =
    rw (k.2, less_zero)
    (rounded_within (k.0 * up k.1) (down k.1) 1 (2 ^ 20) 1 1 (down_pos k.1) (lit≤ tt) (lit≤ tt) (fraction_held 1 20 (lit≤ tt) (lit≤ tt)) (whole_held 1 (lit≤ tt)) k.3 k.4)

-- off the grid by a second or more, which is 2 ^ -20 periods or more
far : (y : Float) → Within y 1 (2 ^ 20) 1 1 → (abs y ≤ᶠ decimal 1 1000000000) ≡ false
unfolding abs
far y k =
    rw (k.2, tiny)
    (same_test (le (fin false k.0 k.1) (fin false 4835703278458517 (negsuc 81))) false
    (λ h. apart (k.0 * up k.1) (down k.1) (down_pos k.1) k.3 (value_above (fin false 4835703278458517 (negsuc 81)) 4835703278458517 (2 ^ 82) k.0 k.1 (refl, refl) h))
    (λ q. absurd q))
  where
    apart : (x d : ℕ) → 0 < d → 1 * d ≤ x * 1048576 → x * 4835703278458516698824704 ≤ 4835703278458517 * d → ⊥
    apart x d D h k = omega arith

-- r of p seconds, with a sign that only 0 has
on_grid_test : (s : Bool) (r p : ℕ) → (T s → r ≡ 0) → r < p → p ≤ 2 ^ 20 → (abs (round binary64 s r p ⊖ zeroᶠ) ≤ᶠ decimal 1 1000000000) ≡ eqb r 0
on_grid_test s r p z R Q = go (eq-zero-or-pos r) s z
  where
    go : (r ≡ 0) ⊎ (0 < r) → (s : Bool) → (T s → r ≡ 0) → (abs (round binary64 s r p ⊖ zeroᶠ) ≤ᶠ decimal 1 1000000000) ≡ eqb r 0
    go (inl e) s z = rw (e, round_zero s p (omega arith)) (near_zero s)
    go (inr P) true z = absurd (omega (arith, z tt))
    go (inr P) false z =
        far (round binary64 false r p ⊖ zeroᶠ)
        (within_less_zero (round binary64 false r p) (rounded_within r p 1 (2 ^ 20) 1 1 (omega arith) (lit≤ tt) (lit≤ tt) (fraction_held 1 20 (lit≤ tt) (lit≤ tt)) (whole_held 1 (lit≤ tt)) (omega arith) (omega arith)))
        ∙ same_test false (eqb r 0) (λ q. absurd q) (λ q. omega (arith, eqb→eq r 0 q))

-- ---- from tick to tick
-- what the state s keeps after a tick at n seconds, at which the unit delay gave v, with g taken for later
record Kept (p : ℕ) (s : UnitDelayState) (n : ℕ) (v g : Float) : Type 0 where
  started : s.initialized ≡ true
  place : OnGrid p s.t0 s.last_index n
  output : s.held ≡ v
  taken : s.staged ≡ g

-- a tick after the first, by its test b
abbrev step_by : Bool → UnitDelayState → Float → Float → Float → Step UnitDelayState Float
step_by true s t u period =
    record {
      state = record { initialized = true; t0 = s.t0; last_index = (sample_due t s.t0 period s.last_index).index; held = s.staged; staged = u };
      output = s.staged;
    }
step_by false s t u period = record { state = s; output = s.held }

sample_later : (s : UnitDelayState) (t u period : Float) (b : Bool) → s.initialized ≡ true → (sample_due t s.t0 period s.last_index).due ≡ b
    → unit_delay_sample s t u period ≡ step_by b s t u period
unfolding unit_delay_sample
sample_later s t u period true e d = rw (e, d)
sample_later s t u period false e d = rw (e, d)

module _ (period : Float) (p : ℕ) (w : Whole period p) (P : 0 < p) (Q : p ≤ 2 ^ 20) where
  first_on_grid : (t : Float) → IsTime t
      → (abs ((t ⊖ initial_sample_time t period) ⊘ period ⊖ as_f64 (sample_index t (initial_sample_time t period) period)) ≤ᶠ decimal 1 1000000000) ≡ eqb (seconds t % p) 0
  unfolding of_int
  first_on_grid t i =
      let n = seconds t in
      let t0 = initial_sample_time t period in
      let r : n - n / p * p ≡ n % p = sym (mod-eq-sub-div-mul n p) in
      let R : n % p < p = mod-lt n P in
      let g : Whole t0 (n / p * p) = initial_sample_time_whole t period n p i.0 i.1 w P Q in
      let none : sample_index t t0 period ≡ pos 0 =
      sample_index_whole t t0 period n (n / p * p) p i.0 g (div-mul-le_self n p) i.1 w P Q ∙ ap (λ (z : ℕ). pos (z / p)) r ∙ ap pos (div-eq_of_lt R) in
      let d : Whole (t ⊖ t0) (n % p) = subst (Whole (t ⊖ t0)) r (sub_whole binary64 t t0 n (n / p * p) i.0 g (div-mul-le_self n p) (omega (arith, i.1))) in
      rw (none, round_zero false 1 (lit≤ tt), div_is (t ⊖ t0) period (n % p) p d w P) (on_grid_test (negative (t ⊖ t0)) (n % p) p (sign_whole (t ⊖ t0) (n % p) d) R Q)

  first_tick : (t u : Float) → IsTime t → Kept p (unit_delay_sample fresh_unit_delay t u period).state (seconds t) zeroᶠ (cond (eqb (seconds t % p) 0) u zeroᶠ)
  unfolding unit_delay_sample
  first_tick t u i =
      record {
        started = refl;
        place = grid_first period p w P Q t (seconds t) i.0 i.1;
        output = refl;
        taken = ap (λ (b : Bool). cond b u zeroᶠ) (first_on_grid t i);
      }

  module _ (s : UnitDelayState) (m : ℕ) (v g t u : Float) (c : Kept p s m v g) (i : IsTime t) (M : m ≤ seconds t) where
    later : unit_delay_sample s t u period ≡ step_by (ltb (m / p) (seconds t / p)) s t u period
    later = sample_later s t u period (ltb (m / p) (seconds t / p)) c.started (grid_due period p w P Q t (seconds t) i.0 i.1 s.t0 s.last_index m c.place M)

    later_tick : Kept p (unit_delay_sample s t u period).state (seconds t) (cond (ltb (m / p) (seconds t / p)) g v) (cond (ltb (m / p) (seconds t / p)) u g)
    later_tick = rw later (go (ltb (m / p) (seconds t / p)) (nltb→le (m / p) (seconds t / p)))
      where
        go : (b : Bool) → (T (not b) → seconds t / p ≤ m / p)
            → Kept p (step_by b s t u period).state (seconds t) (cond b g v) (cond b u g)
        go true h = record { started = refl; place = grid_sampled period p w P Q t (seconds t) i.0 i.1 s.t0 s.last_index m c.place M; output = c.taken; taken = refl }
        go false h = record { started = c.started; place = grid_kept period p w P Q t (seconds t) i.0 i.1 s.t0 s.last_index m c.place M (h tt); output = c.output; taken = c.taken }

    later_output : (unit_delay_sample s t u period).output ≡ cond (ltb (m / p) (seconds t / p)) g v
    later_output = rw later (go (ltb (m / p) (seconds t / p)))
      where
        go : (b : Bool) → (step_by b s t u period).output ≡ cond b g v
        go true = c.taken
        go false = c.output

  kept : (k : SamplerTick) (h : List SamplerTick) → TimesInOrder (k ∷ h) → Kept p (unit_delay_after period (k ∷ h)) (seconds k.time) (delayed_by_rule p (k ∷ h)) (staged_by_rule p (k ∷ h))
  kept k [] o = first_tick k.time k.input o.0
  kept k (j ∷ h) o =
      later_tick (unit_delay_after period (j ∷ h)) (seconds j.time) (delayed_by_rule p (j ∷ h)) (staged_by_rule p (j ∷ h)) k.time k.input (kept j h o.2) o.0 o.1

  -- at the newest tick the unit delay gives what the rule says
  pub unit_delay_law : (k : SamplerTick) (h : List SamplerTick) → TimesInOrder (k ∷ h)
      → (unit_delay_sample (unit_delay_after period h) k.time k.input period).output ≡ delayed_by_rule p (k ∷ h)
  unit_delay_law k [] o = unfold unit_delay_sample in refl
  unit_delay_law k (j ∷ h) o =
      later_output (unit_delay_after period (j ∷ h)) (seconds j.time) (delayed_by_rule p (j ∷ h)) (staged_by_rule p (j ∷ h)) k.time k.input (kept j h o.2) o.0 o.1
