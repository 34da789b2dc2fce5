-- Three questions asked in order, and then whether the alarm stands: which reason is given, and what it says. For any three reasons whose numbers rise in that order. Assumes nothing.
use mathlib.Core.Path.{◌≡◌, refl, ap, subst}
use mathlib.Core.Logic.{◌↔◌}
use Prim.Native.Nat.{ℕ, ◌<◌, ◌≤◌}
use native.Mathlib.Omega.{arith}
use mathlib.Core.Bool.{Bool, true, false, not}
use lib.Dec.{T}
use Rattle.std.specs.Prelude.{if◌then◌else◌}
use Rattle.air_box.specs.NoAlarm.{reason_number, reason_seconds}
use Rattle.air_box.specs.declared.NoAlarmReason.{NoAlarmReason}
use Rattle.air_box.specs.declared.NoAlarmReason.TheVariants.{AlarmStands, Held}

-- three reasons, in the order in which they are asked
pub record Asked : Type 0 where
  pub first : NoAlarmReason
  pub second : NoAlarmReason
  pub third : NoAlarmReason
  pub above_0 : 0 < reason_number first
  pub rises : reason_number first < reason_number second
  pub rises_on : reason_number second < reason_number third
  pub below_66 : reason_number third < 66

-- What the reason r says, where the alarm needs A, B and C, in this order, and then stands or lacks some seconds.
pub record Says (asked : Asked) (A B C Alarm : Type 0) (Lacks : ℕ → Type 0) (r : NoAlarmReason) : Type 0 where
  pub first : (r ≡ asked.first) ↔ (¬ A)
  pub second : (r ≡ asked.second) ↔ (A × ¬ B)
  pub third : (r ≡ asked.third) ↔ (A × B × ¬ C)
  pub held : (n : ℕ) → (r ≡ Held n) ↔ (A × B × C × ¬ Alarm × Lacks n)
  pub from_1_to_600 : (n : ℕ) → r ≡ Held n → (1 ≤ n) × (n ≤ 600)
  pub stands : (r ≡ AlarmStands) ↔ Alarm

module _ (asked : Asked) (lacking : ℕ) where
  abbrev first : NoAlarmReason
  first = asked.first

  abbrev second : NoAlarmReason
  second = asked.second

  abbrev third : NoAlarmReason
  third = asked.third

  abbrev a : 0 < reason_number first
  a = asked.above_0

  abbrev b : reason_number first < reason_number second
  b = asked.rises

  abbrev c : reason_number second < reason_number third
  c = asked.rises_on

  abbrev d : reason_number third < 66
  d = asked.below_66

  -- p, q and r say whether the alarm has what it needs
  abbrev pub first_true : Bool → Bool → Bool → Bool → NoAlarmReason
  first_true p q r held = if not p then first else (if not q then second else (if not r then third else (if held then AlarmStands else Held lacking)))

  module _ (A B C Alarm : Type 0) (Lacks : ℕ → Type 0) (one : (m n : ℕ) → Lacks m → Lacks n → m ≡ n) where
    pub says : (p q r held : Bool) → T p ↔ A → T q ↔ B → T r ↔ C → (T p × T q × T r × T held) ↔ Alarm
        → (T p → T q → T r → T (not held) → Lacks lacking × (1 ≤ lacking) × (lacking ≤ 600)) → Says asked A B C Alarm Lacks (first_true p q r held)
    says false q r held f g h s l =
        record {
          first = (λ e. f.1, λ n. refl);
          second = (λ e. absurd (omega (arith, ap reason_number e, a, b, c, d)), λ t. absurd (f.1 t.0));
          third = (λ e. absurd (omega (arith, ap reason_number e, a, b, c, d)), λ t. absurd (f.1 t.0));
          held = λ n. (λ e. absurd (omega (arith, ap reason_number e, a, b, c, d)), λ t. absurd (f.1 t.0));
          from_1_to_600 = λ n e. absurd (omega (arith, ap reason_number e, a, b, c, d));
          stands = (λ e. absurd (omega (arith, ap reason_number e, a, b, c, d)), λ t. absurd (s.1 t).0);
        }
    says true false r held f g h s l =
        record {
          first = (λ e. absurd (omega (arith, ap reason_number e, a, b, c, d)), λ n. absurd (n (f.0 tt)));
          second = (λ e. (f.0 tt, g.1), λ t. refl);
          third = (λ e. absurd (omega (arith, ap reason_number e, a, b, c, d)), λ t. absurd (g.1 t.1));
          held = λ n. (λ e. absurd (omega (arith, ap reason_number e, a, b, c, d)), λ t. absurd (g.1 t.1));
          from_1_to_600 = λ n e. absurd (omega (arith, ap reason_number e, a, b, c, d));
          stands = (λ e. absurd (omega (arith, ap reason_number e, a, b, c, d)), λ t. absurd (s.1 t).1);
        }
    says true true false held f g h s l =
        record {
          first = (λ e. absurd (omega (arith, ap reason_number e, a, b, c, d)), λ n. absurd (n (f.0 tt)));
          second = (λ e. absurd (omega (arith, ap reason_number e, a, b, c, d)), λ t. absurd (t.1 (g.0 tt)));
          third = (λ e. (f.0 tt, g.0 tt, h.1), λ t. refl);
          held = λ n. (λ e. absurd (omega (arith, ap reason_number e, a, b, c, d)), λ t. absurd (h.1 t.2));
          from_1_to_600 = λ n e. absurd (omega (arith, ap reason_number e, a, b, c, d));
          stands = (λ e. absurd (omega (arith, ap reason_number e, a, b, c, d)), λ t. absurd (s.1 t).2);
        }
    says true true true true f g h s l =
        record {
          first = (λ e. absurd (omega (arith, ap reason_number e, a, b, c, d)), λ n. absurd (n (f.0 tt)));
          second = (λ e. absurd (omega (arith, ap reason_number e, a, b, c, d)), λ t. absurd (t.1 (g.0 tt)));
          third = (λ e. absurd (omega (arith, ap reason_number e, a, b, c, d)), λ t. absurd (t.2 (h.0 tt)));
          held = λ n. (λ e. absurd (omega (arith, ap reason_number e, a, b, c, d)), λ t. absurd (t.3 (s.0 (tt, tt, tt, tt))));
          from_1_to_600 = λ n e. absurd (omega (arith, ap reason_number e, a, b, c, d));
          stands = (λ e. s.0 (tt, tt, tt, tt), λ t. refl);
        }
    says true true true false f g h s l =
        record {
          first = (λ e. absurd (omega (arith, ap reason_number e, a, b, c, d)), λ n. absurd (n (f.0 tt)));
          second = (λ e. absurd (omega (arith, ap reason_number e, a, b, c, d)), λ t. absurd (t.1 (g.0 tt)));
          third = (λ e. absurd (omega (arith, ap reason_number e, a, b, c, d)), λ t. absurd (t.2 (h.0 tt)));
          held = λ n. (λ e. (f.0 tt, g.0 tt, h.0 tt, λ t. (s.1 t).3, subst Lacks (ap reason_seconds e) (l tt tt tt tt).0), λ t. ap Held (one lacking n (l tt tt tt tt).0 t.4));
          from_1_to_600 = λ n e. (omega (arith, ap reason_seconds e, (l tt tt tt tt).1), omega (arith, ap reason_seconds e, (l tt tt tt tt).2));
          stands = (λ e. absurd (omega (arith, ap reason_number e, a, b, c, d)), λ t. absurd (s.1 t).3);
        }

  -- it is none but these
  pub is_none_other : (x : NoAlarmReason) → (x ≡ first → ⊥) → (x ≡ second → ⊥) → (x ≡ third → ⊥) → (x ≡ AlarmStands → ⊥) → (x ≡ Held lacking → ⊥)
      → (p q r held : Bool) → first_true p q r held ≡ x → ⊥
  is_none_other x f g h i j false q r held e = f (cc)
  is_none_other x f g h i j true false r held e = g (cc)
  is_none_other x f g h i j true true false held e = h (cc)
  is_none_other x f g h i j true true true true e = i (cc)
  is_none_other x f g h i j true true true false e = j (cc)
