-- Since when a condition over the accepted ticks has held, for any condition: a delay's timer counts from its last rise, and a condition has one last rise. Assumes nothing.
use mathlib.Core.Path.{◌≡◌, refl, sym, ap, ◌∙◌, subst}
use mathlib.Core.Logic.{◌↔◌, inl, inr}
use mathlib.Core.List.{List, [], ◌∷◌, ◌++◌, append_assoc, append-nil, head-eq_of_cons-eq, tail-eq_of_cons-eq, cons-ne-nil, append-ne-nil_of_right_ne-nil}
use Prim.Native.Nat.{ℕ, ◌+◌, ◌-◌, ◌*◌, ◌/◌, ◌<◌, ◌≤◌}
use native.Mathlib.Omega.{arith}
use mathlib.Core.Bool.{Bool, true, false, not}
use lib.Dec.{T, T_not}
use lib.Ieee.{Float, nan, inf, fin, binary64, up, down, to_unsigned}
use Rattle.std.proofs.lemmas.List.{same_from_push}
use Rattle.f64_helpers.specs.F64.{◌⊖◌, decimal}
use Rattle.f64_helpers.specs.Seconds.{Whole, seconds}
use Rattle.f64_helpers.proofs.WholeSeconds.{seconds_of, sub_whole}
use Rattle.f64_helpers.proofs.Times.{decimal_whole}
use Rattle.box_choices.specs.declared.Choices.{Choices}
use Rattle.cooling_only_controller_timing.specs.History.{true_delay_after}
use Rattle.cooling_only_controller_timing.specs.declared.TrueDelayState.{TrueDelayState}
use Rattle.cooling_only_controller_timing.proofs.TimerLaw.{Fell, RoseFor, timer_law}
use Rattle.air_box.specs.NoAlarm.{seconds_lacking}
use Rattle.air_box.specs.declared.Tick.{Tick}
use Rattle.nights.specs.Nights.{Shown, HoldsAlong}
use Rattle.nights.specs.WhyNoAlarm.{Rose, LastRise, Lacks}
use Rattle.nights.proofs.AcceptedTicks.{AllAccepted}
use Rattle.nights.proofs.Conditions.{samples, samples_timed, held_since_law}
use Rattle.nights.proofs.SensorAlarm.{delay_reached}
use Rattle.nights.proofs.AfterNights.{shown_at, accepted}

-- ---- the rise that the samples tell: `input` computes the condition `Holds`
module _ (choices : Choices) (input : List Tick → Bool) (Holds : List Shown → Shown → Type 0)
    (means : (h : List Tick) (k : Tick) → T (input (k ∷ h)) ↔ Holds (accepted choices h) (shown_at choices h k)) (quiet : Bool) where
  -- it rose n seconds before `now`
  pub record RoseAt (n now : ℕ) (ticks : List Shown) : Type 0 where
    pub rise : Shown
    pub last_rise : LastRise Holds quiet ticks rise
    pub seconds_told : n + seconds rise.ticked.t ≡ now

  fell_before : (h : List Tick) → Fell quiet (samples input h) → Rose Holds quiet (accepted choices h)
  fell_before [] f = inr (refl, f)
  fell_before (k ∷ h) f = inl (record { before = accepted choices h; last = shown_at choices h k; parts = refl; is_false = λ holds. T_not (input (k ∷ h)) f ((means h k).1 holds) })

  rise_found : (h : List Tick) (k : Tick) (since : List Shown) (n now : ℕ) → RoseFor quiet n now (samples input (k ∷ h))
      → HoldsAlong Holds (accepted choices (k ∷ h)) since → RoseAt n now (accepted choices h ++ (shown_at choices h k ∷ since))
  rise_found h k since n now (u, inl f) a =
      record {
        rise = shown_at choices h k;
        last_rise = record { earlier = accepted choices h; since = since; parts = refl; held = ((means h k).0 u, a); rose = fell_before h f.1 };
        seconds_told = f.0;
      }
  rise_found [] k since n now (u, inr o) a = absurd o
  rise_found (j ∷ h) k since n now (u, inr o) a =
      rw append_assoc (rise_found h j (shown_at choices (j ∷ h) k ∷ since) n now o ((means (j ∷ h) k).0 u, a))

  pub rose_at : (h : List Tick) (k : Tick) (n now : ℕ) → RoseFor quiet n now (samples input (k ∷ h)) → RoseAt n now (accepted choices (k ∷ h))
  rose_at h k n now o = rise_found h k [] n now o tt

-- ---- a condition has one last rise
module _ (Holds : List Shown → Shown → Type 0) (quiet : Bool) where
  -- it has held along x, xs and what follows, and `last` is the last of these two
  held_at_last : (before : List Shown) (x : Shown) (xs rest ends : List Shown) (last : Shown)
      → HoldsAlong Holds before (x ∷ (xs ++ rest)) → before ++ (x ∷ xs) ≡ ends ++ (last ∷ []) → Holds ends last
  held_at_last before x [] rest ends last a e = let same = same_from_push before ends x last e in subst (λ (l : List Shown). Holds l last) same.0 (subst (Holds before) same.1 a.0)
  held_at_last before x (y ∷ xs) rest ends last a e = held_at_last (before ++ (x ∷ [])) y xs rest ends last a.1 (append_assoc before (x ∷ []) (y ∷ xs) ∙ e)

  -- so it did not rise later, where it has held from x on
  no_later : (before : List Shown) (x : Shown) (xs rest : List Shown) → HoldsAlong Holds before (x ∷ (xs ++ rest)) → Rose Holds quiet (before ++ (x ∷ xs)) → ⊥
  no_later before x xs rest a (inl f) = f.is_false (held_at_last before x xs rest f.before f.last a f.parts)
  no_later before x xs rest a (inr e) = append-ne-nil_of_right_ne-nil before (cons-ne-nil x xs) e.0

  module _ (r s : Shown) (after_r after_s : List Shown) where
    -- `before` stands before both
    same_rise : (before a b : List Shown) → a ++ (r ∷ after_r) ≡ b ++ (s ∷ after_s)
        → HoldsAlong Holds (before ++ a) (r ∷ after_r) → Rose Holds quiet (before ++ a)
        → HoldsAlong Holds (before ++ b) (s ∷ after_s) → Rose Holds quiet (before ++ b) → r ≡ s
    same_rise before [] [] e h f i g = head-eq_of_cons-eq e
    same_rise before [] (y ∷ b) e h f i g =
        absurd (no_later before y b (s ∷ after_s) (subst (HoldsAlong Holds before) e (subst (λ (l : List Shown). HoldsAlong Holds l (r ∷ after_r)) (append-nil before) h)) g)
    same_rise before (x ∷ a) [] e h f i g =
        absurd (no_later before x a (r ∷ after_r) (subst (HoldsAlong Holds before) (sym e) (subst (λ (l : List Shown). HoldsAlong Holds l (s ∷ after_s)) (append-nil before) i)) f)
    same_rise before (x ∷ a) (y ∷ b) e h f i g =
        let head = head-eq_of_cons-eq e in
        let one : before ++ (x ∷ a) ≡ (before ++ (x ∷ [])) ++ a = sym (append_assoc before (x ∷ []) a) in
        let other : before ++ (y ∷ b) ≡ (before ++ (x ∷ [])) ++ b = rw head (sym (append_assoc before (y ∷ []) b)) in
        same_rise (before ++ (x ∷ [])) a b (tail-eq_of_cons-eq e)
        (subst (λ (l : List Shown). HoldsAlong Holds l (r ∷ after_r)) one h) (subst (Rose Holds quiet) one f)
        (subst (λ (l : List Shown). HoldsAlong Holds l (s ∷ after_s)) other i) (subst (Rose Holds quiet) other g)

  pub one_last_rise : (ticks : List Shown) (r s : Shown) → LastRise Holds quiet ticks r → LastRise Holds quiet ticks s → r ≡ s
  one_last_rise ticks r s a b = same_rise r s a.since b.since [] a.earlier b.earlier (sym a.parts ∙ b.parts) a.held a.rose b.held b.rose

-- ---- an alarm's delay of 600 seconds, whose input is the condition: what is lacking

-- a whole number as the cast gives it
whole_cast : (x : Float) (n : ℕ) → Whole x n → n ≤ 65535 → to_unsigned 16 x ≡ n
unfolding to_unsigned
whole_cast nan n w l = absurd w
whole_cast (inf s) n w l = absurd w
whole_cast (fin true m e) n w l = sym (w.1 tt)
whole_cast (fin false m e) n w l = let told : m * up e / down e ≡ n = seconds_of (fin false m e) n w in rw told (omega (arith, l))

lacking_by_timer : (delay : TrueDelayState) (n : ℕ) → Whole delay.timer n → n < 600 → seconds_lacking delay ≡ 600 - n
lacking_by_timer delay n w l =
    whole_cast (decimal 600 1 ⊖ delay.timer) (600 - n) (sub_whole binary64 (decimal 600 1) delay.timer 600 n (decimal_whole 600 (omega arith)) w (omega (arith, l)) (omega arith)) (omega arith)

abbrev pub alarm_delay : Choices → (List Tick → Bool) → List Tick → TrueDelayState
alarm_delay choices input h = true_delay_after (decimal 600 1) choices.quiet (samples input h)

module _ (choices : Choices) (input : List Tick → Bool) (Holds : List Shown → Shown → Type 0)
    (means : (h : List Tick) (k : Tick) → T (input (k ∷ h)) ↔ Holds (accepted choices h) (shown_at choices h k)) where
  -- it is 600 less the seconds since the last rise, and from 1 to 600
  pub lacking_is : (h : List Tick) (k : Tick) → AllAccepted (k ∷ h) → T (input (k ∷ h)) → T (not (alarm_delay choices input (k ∷ h)).held)
      → let lacking = seconds_lacking (alarm_delay choices input (k ∷ h)) in Lacks Holds choices.quiet (accepted choices h) (shown_at choices h k) lacking × (1 ≤ lacking) × (lacking ≤ 600)
  lacking_is h k a u off =
      let counted = timer_law (decimal 600 1) 600 delay_reached choices.quiet (record { time = k.t; input = input (k ∷ h) }) (samples input h) (samples_timed input (k ∷ h) a) u off in
      let n = counted.0 in
      let rose = rose_at choices input Holds means choices.quiet h k n (seconds k.t) counted.4 in
      let is : seconds_lacking (alarm_delay choices input (k ∷ h)) ≡ 600 - n = lacking_by_timer (alarm_delay choices input (k ∷ h)) n counted.1 counted.2 in
      (record { rise = rose.rise; last_rise = rose.last_rise; seconds_told = omega (arith, is, counted.2, rose.seconds_told) }, omega (arith, is, counted.2), omega (arith, is))

  -- where the delay gives true, the condition holds now
  pub holds_if_held : (h : List Tick) (k : Tick) → AllAccepted (k ∷ h) → T (alarm_delay choices input (k ∷ h)).held → T (input (k ∷ h))
  holds_if_held h k a t = ((held_since_law (decimal 600 1) 600 delay_reached choices.quiet input h k a).0 t).0

pub one_lacking : (Holds : List Shown → Shown → Type 0) (quiet : Bool) (earlier : List Shown) (now : Shown) (m n : ℕ)
    → Lacks Holds quiet earlier now m → Lacks Holds quiet earlier now n → m ≡ n
one_lacking Holds quiet earlier now m n a b =
    let same = one_last_rise Holds quiet (earlier ++ (now ∷ [])) a.rise b.rise a.last_rise b.last_rise in
    omega (arith, a.seconds_told, b.seconds_told, ap (λ (s : Shown). seconds s.ticked.t) same)
