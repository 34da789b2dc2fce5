-- Times, the whole numbers of seconds from 0 to 2,147,483,648: the literals, what the test `is_time` means, and that the code decides it by comparisons with both ends and by 2 ^ 52 added and taken off again. Assumes nothing.
use Rattle.std.proofs.Common.{◌≡◌, ℕ, ◌+◌, ◌-◌, ◌*◌, ◌/◌, ◌%◌, ◌^◌, ◌≤◌, Bool, true, false, ◌&&◌, T, eqb, ◌↔◌, ℤ, pos, negsuc, sym, refl, ap, ◌∙◌, subst, zero-lt-suc, mul-pos, div-add-mod', zero-mul, mul-one, mul_right_comm, arith, le→leb, eqb→eq, leb→le}
use native.Mathlib.Nat.{mul-mod_left, zero-div, eq_of_mul-eq-mul_right}
use lib.Dec.{eqb_refl}
use lib.Ieee.{Float, nan, inf, fin, binary64, up, down, round, add, sub, lt, eq, le, fits}
use lib.Ieee.Fits.{down_pos, eq→eqb, and_i, and_l, and_r, add-fits}
use Rattle.f64_helpers.specs.F64.{◌⊕◌, ◌⊖◌, ◌≤ᶠ◌, ◌≥ᶠ◌, decimal, zero}
use Rattle.f64_helpers.specs.Helpers.{is_whole}
use Rattle.f64_helpers.specs.Seconds.{Whole, seconds, IsTime, is_time}
use Rattle.f64_helpers.proofs.Floors.{no_fraction}
use Rattle.f64_helpers.proofs.WholeSeconds.{zero_whole, round_to, add_whole, sub_whole, same_test, eq_whole, le_whole}
use Rattle.f64_helpers.proofs.Quotients.{Within, whole_held, value_above, rounded_within}

-- ---- literals and comparisons
pub decimal_whole : (n : ℕ) → n ≤ 2 ^ 53 → Whole (decimal n 1) n
decimal_whole n l = round_to binary64 false n 1 n (zero-lt-suc 0) l (sym (mul-one n)) (λ q. absurd q)

pub at_most_whole : (x y : Float) (a b : ℕ) → Whole x a → Whole y b → T (x ≤ᶠ y) → a ≤ b
at_most_whole x y a b v w p = leb→le a b (subst T (le_whole x y a b v w) p)

pub at_most_by : (x y : Float) (a b : ℕ) → Whole x a → Whole y b → a ≤ b → T (x ≤ᶠ y)
at_most_by x y a b v w p = subst T (sym (le_whole x y a b v w)) (le→leb a b p)

-- ---- what is-time means
-- a negative number of 0 or more is 0
zero_if_negative : (m : ℕ) (e : ℤ) → T (zero ≤ᶠ fin true m e) → m * up e ≡ 0
unfolding le lt eq
zero_if_negative m e p = flat (down e) (m * up e) (eqb→eq (0 * 1 * down e) (m * up e * 1) (and_l (eqb (0 * 1 * down e) (m * up e * 1)) (eqb (0 * 1 * down e) 0) p))
  where
    flat : (a b : ℕ) → 0 * 1 * a ≡ b * 1 → b ≡ 0
    flat a b h = omega arith

whole_if_is_whole : (t : Float) → T (is_whole t) → T (zero ≤ᶠ t) → Whole t (seconds t)
whole_if_is_whole nan p q = absurd p
whole_if_is_whole (inf s) p q = absurd p
whole_if_is_whole (fin s m e) p q = (omega (arith, div-add-mod' (m * up e) (down e), eqb→eq (m * up e % down e) 0 p), none s q)
  where
    none : (s : Bool) → T (zero ≤ᶠ fin s m e) → T s → m * up e / down e ≡ 0
    none true q u = ap (λ (z : ℕ). z / down e) (zero_if_negative m e q) ∙ zero-div (down e)
    none false q u = absurd u

is_whole_if_whole : (t : Float) (n : ℕ) → Whole t n → T (is_whole t)
is_whole_if_whole nan n v = absurd v
is_whole_if_whole (inf s) n v = absurd v
is_whole_if_whole (fin s m e) n v = eq→eqb {a = m * up e % down e} {b = 0} (ap (λ (z : ℕ). z % down e) v.0 ∙ mul-mod_left n (down e))

-- from 0 to 2,147,483,648
abbrev in_range : Float → Bool
in_range t = (t ≥ᶠ zero) && (t ≤ᶠ decimal 2147483648 1)

last_whole : Whole (decimal 2147483648 1) 2147483648
last_whole = decimal_whole 2147483648 (omega arith)

pub time_of_whole : (t : Float) → T (is_whole t) → T (in_range t) → IsTime t
time_of_whole t p q =
    let w = whole_if_is_whole t p (and_l (zero ≤ᶠ t) (t ≤ᶠ decimal 2147483648 1) q) in
    (w, at_most_whole t (decimal 2147483648 1) (seconds t) 2147483648 w last_whole (and_r (zero ≤ᶠ t) (t ≤ᶠ decimal 2147483648 1) q))

pub is_time_of : (t : Float) (n : ℕ) → Whole t n → n ≤ 2147483648 → T (is_time t)
is_time_of t n v N =
    and_i (in_range t) (is_whole t)
    (and_i (t ≥ᶠ zero) (t ≤ᶠ decimal 2147483648 1) (at_most_by zero t 0 n zero_whole v (omega arith)) (at_most_by t (decimal 2147483648 1) n 2147483648 v last_whole N))
    (is_whole_if_whole t n v)

pub is_time_means : (t : Float) → T (is_time t) ↔ IsTime t
is_time_means t = (
  λ p. time_of_whole t (and_r (in_range t) (is_whole t) p) (and_l (in_range t) (is_whole t) p),
  λ h. is_time_of t (seconds t) h.0 h.1,
)

-- ---- 2 ^ 52 added and taken off
-- a number in range with this added has no room for a fraction
abbrev room : Float
room = fin false 1 (pos 52)

room_whole : Whole room (2 ^ 52)
room_whole = (refl, λ q. absurd q)

-- from 2 ^ 52 on every f64 is whole
large_whole : (y : Float) → T (fits binary64 y) → Within y (2 ^ 52) 1 (2 ^ 53) 1 → (n : ℕ) × Whole y n × (2 ^ 52 ≤ n) × (n ≤ 2 ^ 53)
large_whole y t (m, pos k, is, low, high) = (m * 2 ^ k, rw is (sym (mul-one (m * 2 ^ k)), λ q. absurd q), omega arith, omega arith)
large_whole y t (m, negsuc k, is, low, high) = absurd (no_fraction m k (subst (λ (z : Float). T (fits binary64 z)) is t) low)

-- a number from 0 to 2,147,483,648 and 2 ^ 52 lie from 2 ^ 52 to 2 ^ 53
with_room : (m : ℕ) (e : ℤ) → T (fin false m e ≤ᶠ decimal 2147483648 1) → Within (fin false m e ⊕ room) (2 ^ 52) 1 (2 ^ 53) 1
unfolding add
with_room m e h =
    let l : m * up e * 1 ≤ 2147483648 * down e = value_above (decimal 2147483648 1) 2147483648 1 m e (whole_held 2147483648 (omega arith)) h in
    rounded_within (m * up e * 1 + 1 * 2 ^ 52 * down e) (down e * 1) (2 ^ 52) 1 (2 ^ 53) 1 (mul-pos (down_pos e) (zero-lt-suc 0)) (zero-lt-suc 0) (zero-lt-suc 0)
    (whole_held (2 ^ 52) (omega arith)) (whole_held (2 ^ 53) (omega arith)) (omega arith) (omega arith)

-- what equals a whole number is whole
equal_whole : (z : Float) (n m : ℕ) (e : ℤ) → Whole z n → T (eq z (fin false m e)) → m * up e ≡ n * down e
unfolding eq
equal_whole nan n m e v h = absurd v
equal_whole (inf s) n m e v h = absurd v
equal_whole (fin s k d) n m e v h =
    let same = eqb→eq (k * up d * down e) (m * up e * down d) (and_l (eqb (k * up d * down e) (m * up e * down d)) _ h) in
    eq_of_mul-eq-mul_right (down d) (down_pos d) (m * up e) (n * down e) (sym same ∙ ap (λ (z : ℕ). z * down e) v.0 ∙ mul_right_comm n (down d) (down e))

-- a number in range that comes back is whole
whole_by_room : (t : Float) → T (in_range t) → T (eq (t ⊕ room ⊖ room) t) → T (is_whole t)
whole_by_room nan p h = absurd (unfold add eq sub in h)
whole_by_room (inf s) p h = absurd (not_infinite s p)
  where
    not_infinite : (s : Bool) → T (in_range (inf s)) → ⊥
    not_infinite true p = unfold le lt eq in p
    not_infinite false p = unfold round le lt eq in p
whole_by_room (fin true m e) p h = is_whole_if_whole (fin true m e) 0 (zero_if_negative m e (and_l (zero ≤ᶠ fin true m e) (fin true m e ≤ᶠ decimal 2147483648 1) p) ∙ sym (zero-mul (down e)), λ q. refl)
whole_by_room (fin false m e) p h =
    let x = fin false m e in
    let y = large_whole (x ⊕ room) (add-fits binary64 x room) (with_room m e (and_r (zero ≤ᶠ x) (x ≤ᶠ decimal 2147483648 1) p)) in
    let v : Whole (x ⊕ room ⊖ room) (y.0 - 2 ^ 52) = sub_whole binary64 (x ⊕ room) room y.0 (2 ^ 52) y.1 room_whole y.2 y.3 in
    is_whole_if_whole x (y.0 - 2 ^ 52) (equal_whole (x ⊕ room ⊖ room) (y.0 - 2 ^ 52) m e v h, λ q. absurd q)

-- and a time comes back
room_by_whole : (t : Float) → IsTime t → T (eq (t ⊕ room ⊖ room) t)
room_by_whole t (v, N) =
    let n = seconds t in
    let more : Whole (t ⊕ room) (n + 2 ^ 52) = add_whole binary64 t room n (2 ^ 52) v room_whole (omega arith) in
    let back : n + 2 ^ 52 - 2 ^ 52 ≡ n = omega arith in
    let less : Whole (t ⊕ room ⊖ room) (n + 2 ^ 52 - 2 ^ 52) = sub_whole binary64 (t ⊕ room) room (n + 2 ^ 52) (2 ^ 52) more room_whole (omega arith) (omega arith) in
    subst T (sym (eq_whole (t ⊕ room ⊖ room) t n n (subst (Whole (t ⊕ room ⊖ room)) back less) v)) (eqb_refl n)

-- the code's test
pub time_test : (t : Float) → (in_range t && eq (t ⊕ room ⊖ room) t) ≡ is_time t
time_test t =
    same_test (in_range t && eq (t ⊕ room ⊖ room) t) (is_time t)
    (λ h. let p = and_l (in_range t) (eq (t ⊕ room ⊖ room) t) h in and_i (in_range t) (is_whole t) p (whole_by_room t p (and_r (in_range t) (eq (t ⊕ room ⊖ room) t) h)))
    (λ h. and_i (in_range t) (eq (t ⊕ room ⊖ room) t) (and_l (in_range t) (is_whole t) h) (room_by_whole t ((is_time_means t).0 h)))
