-- No allowed decimal but a zero lies as far from another f64 as from its reading, and nothing else of its sign is nearest. Assumes nothing.
use Rattle.std.proofs.Common.{◌≡◌, refl, sym, ap, ◌∙◌, subst, ℕ, zero, suc, ◌+◌, ◌-◌, ◌*◌, ◌/◌, ◌%◌, ◌^◌, ◌≤◌, ◌<◌, Bool, true, false, Float, arith, ◌⊎◌, inl, inr, le_antisymm, lt_of_lt_of_le, mul-one, mul_comm, mul_assoc, mul_right_comm, mul-add, add-mul, mul-le-mul_right, mul-lt-mul_of_pos_right, le-mul_of_pos_right, pow-suc, pow_mono}
use Rattle.std.proofs.Math.Nat.{eq_of_mul-eq-mul_right, mul-mul-mul_comm, one-le-pow}
use lib.IntN.{pos, negsuc}
use lib.Dec.{lit<}
use lib.Pow.{pow-add, shl_lt}
use lib.Ieee.{nan, inf, fin, binary64, fits}
use lib.Ieee.Exact.{round_exact}
use lib.Ieee.Positive.{num, den, den_pos}
use Rattle.std.specs.Float.{is_sign_negative}
use Rattle.std.proofs.lemmas.Float.{T_from_true}
use Rattle.std.proofs.lemmas.Bool.{cases_order}
use Rattle.std.proofs.lemmas.Nat.{mul-pow}
use Rattle.decimals.specs.declared.Decimal.{Decimal}
use Rattle.decimals.specs.Decimals.{allowed, reading}
use Rattle.decimals.specs.NearestReading.{IsNumber, gap, same_sign, AsFar, IsNearest}
use Rattle.decimals.proofs.RoundedNearest.{gap_mul, size_gap, cross_of}
use Rattle.decimals.proofs.SignAndSize.{same_float}
use Rattle.decimals.proofs.OnlyDecimal.{ten_pos, allowed_parts, small_digits, near_digits}
use Rattle.decimals.proofs.ReadingIsNearest.{apart_is, own_sign, like_sign, number_finite, is_nearest, own_value, own_apart, own_fits, own_finite, sign}

-- ---- an odd m that divides z times a power of two divides z
abbrev Divides : ℕ → ℕ → Type 0
Divides m z = (w : ℕ) × (w * m ≡ z)

halve : (m z w : ℕ) → m % 2 ≡ 1 → w * m ≡ z * 2 → Divides m z
halve m z w o e =
    let u = m / 2 in
    let k = z - w * u in
    let twice : w * m ≡ w * u * 2 + w = ap (λ (n : ℕ). w * n) (split m o) ∙ mul-add w (u * 2) 1 ∙ rw (mul-one, sym (mul_assoc w u 2)) refl in
    let even : k * 2 ≡ w = omega arith in
    (k, eq_of_mul-eq-mul_right 2 (lit< tt) (k * m) z (mul_right_comm k m 2 ∙ ap (λ (n : ℕ). n * m) even ∙ e))
  where
    split : (m : ℕ) → m % 2 ≡ 1 → m ≡ m / 2 * 2 + 1
    split m o = omega arith

odd_divides : (m z j w : ℕ) → m % 2 ≡ 1 → w * m ≡ z * 2 ^ j → Divides m z
odd_divides m z zero w o e = (w, e ∙ mul-one z)
odd_divides m z (suc j) w o e =
    let h = halve m (z * 2 ^ j) w o (e ∙ ap (λ (n : ℕ). z * n) (pow-suc 2 j) ∙ sym (mul_assoc z (2 ^ j) 2)) in
    odd_divides m z j h.0 o h.1

five_odd : (k : ℕ) → 5 ^ k % 2 ≡ 1
five_odd zero = refl
five_odd (suc k) = omega (arith, pow-suc 5 k, five_odd k)

-- what stands below an f64's fraction is a power of two
abbrev Exponent : Float → Type 0
Exponent x = (j : ℕ) × (den x ≡ 2 ^ j)

exponent : (x : Float) → Exponent x
exponent nan = (0, refl)
exponent (inf s) = (0, refl)
exponent (fin s m (pos k)) = (0, refl)
exponent (fin s m (negsuc k)) = (suc k, refl)

-- ---- two that lie as far from p are one, or p lies halfway between them
halfway : (a b p : ℕ) → gap a p ≡ gap b p → (a ≡ b) ⊎ (a + b ≡ p * 2)
halfway a b p e = elim (cases_order a b) [ inl q ↦ inl q | inr (inl l) ↦ inr (omega arith) | inr (inr l) ↦ inr (omega arith) ]

module _ (d : Decimal) (h : allowed d ≡ true) where
  -- A decimal whose digits 5 ^ places divides is an f64 itself: what is left of them, below 2 ^ 53, over 2 ^ places.
  exact : Divides (5 ^ d.places) d.digits → num (reading d) * 10 ^ d.places ≡ d.digits * den (reading d)
  unfolding reading
  exact p =
      let k = d.places in
      let few = allowed_parts d h in
      let small : p.0 < 2 ^ 53 = omega (arith, subst (λ (n : ℕ). p.0 ≤ n) p.1 (le-mul_of_pos_right p.0 (five_pos k)), few.0) in
      let same : d.digits * 2 ^ 1074 ≡ p.0 * 2 ^ (1074 - k) * 10 ^ k =
      ap (λ (t : ℕ). t * 2 ^ 1074) (sym p.1) ∙ ap (λ (t : ℕ). p.0 * 5 ^ k * t) (ap (λ (t : ℕ). 2 ^ t) (split k few.1) ∙ pow-add 2 (1074 - k) k)
      ∙ mul-mul-mul_comm p.0 (5 ^ k) (2 ^ (1074 - k)) (2 ^ k) ∙ ap (λ (t : ℕ). p.0 * 2 ^ (1074 - k) * t) (sym (mul-pow 5 2 k)) in
      cross_of (reading d) d.minus d.digits (10 ^ k)
      (round_exact binary64 d.minus d.digits (10 ^ k) p.0 (1074 - k) (ten_pos k) small
      (lt_of_lt_of_le (shl_lt 53 (1074 - k) small) (pow_mono {j = 2098} (omega arith))) same)
    where
      five_pos : (k : ℕ) → 0 < 5 ^ k
      five_pos k = one-le-pow k 5 (lit< tt)

      split : (k : ℕ) → k < 7 → 1074 ≡ 1074 - k + k
      split k l = omega arith

  -- It divides them where the decimal is a fraction over a power of two. So it does halfway between two f64.
  dyadic : (j n : ℕ) → n * 10 ^ d.places ≡ d.digits * 2 ^ j → Divides (5 ^ d.places) d.digits
  dyadic j n e =
      let k = d.places in
      odd_divides (5 ^ k) d.digits j (n * 2 ^ k) (five_odd k) (mul_assoc n (2 ^ k) (5 ^ k) ∙ ap (λ (t : ℕ). n * t) (sym (mul-pow 2 5 k)) ∙ e)

  module _ (y : Float) (n : IsNumber y) where
    -- as far, and of like signs: of one size, since halfway between them would lie an f64, which the decimal's reading is then
    same_size : size_gap (reading d) d.digits (10 ^ d.places) * den y ≡ size_gap y d.digits (10 ^ d.places) * den (reading d)
        → num y * den (reading d) ≡ num (reading d) * den y
    same_size a =
        let x = reading d in
        let c = 10 ^ d.places in
        let p = d.digits * den x * den y in
        let level : gap (num x * c * den y) p ≡ gap (num y * c * den x) p =
        gap_mul (num x * c) (d.digits * den x) (den y) ∙ a ∙ sym (gap_mul (num y * c) (d.digits * den y) (den x))
        ∙ ap (λ (t : ℕ). gap (num y * c * den x) t) (mul_right_comm d.digits (den y) (den x)) in
        let go : num x * c * den y ≡ num y * c * den x → num y * den x ≡ num x * den y =
        λ e. eq_of_mul-eq-mul_right c (ten_pos d.places) (num y * den x) (num x * den y)
        (mul_right_comm (num y) (den x) c ∙ sym e ∙ mul_right_comm (num x) c (den y)) in
        elim (halfway (num x * c * den y) (num y * c * den x) p level) [
          | inl e ↦ go e
          | inr e ↦
              let i = exponent x in
              let j = exponent y in
              let power : p * 2 ≡ d.digits * 2 ^ (i.0 + j.0 + 1) =
              rw (i.1, j.1, pow-add 2 (i.0 + j.0) 1, pow-add 2 i.0 j.0) (simp (mul_assoc)) in
              let sum : (num x * den y + num y * den x) * c ≡ num x * c * den y + num y * c * den x =
              add-mul (num x * den y) (num y * den x) c ∙ rw (mul_right_comm (num x) (den y) c, mul_right_comm (num y) (den x) c) refl in
              let own : num x * c * den y ≡ p = ap (λ (t : ℕ). t * den y) (exact (dyadic (i.0 + j.0 + 1) (num x * den y + num y * den x) (sum ∙ e ∙ power))) in
              go (omega arith)
        ]

    -- of unlike signs y lies farther: on the other side of zero, so one of the digits away at least, where the reading is less than an eighth away
    unlike : 0 < d.digits → size_gap (reading d) d.digits (10 ^ d.places) * den y ≡ (num y * 10 ^ d.places + d.digits * den y) * den (reading d) → ⊥
    unlike some a =
        let x = reading d in
        let few = allowed_parts d h in
        let near = mul-lt-mul_of_pos_right (near_digits x d.digits d.places few.1 (small_digits d.digits few.0) (own_value d h)) (den_pos y) in
        let far : den y * den x ≤ (num y * 10 ^ d.places + d.digits * den y) * den x =
        mul-le-mul_right (den x) (omega (arith, le-mul_of_pos_right (den y) some, mul_comm (den y) d.digits)) in
        let g = size_gap x d.digits (10 ^ d.places) in
        omega (arith, mul_right_comm g 8 (den y), mul_comm (den y) (den x))

    pub like_tie : is_sign_negative y ≡ d.minus → AsFar d (reading d) y → y ≡ reading d
    like_tie e a =
        same_float binary64 y (reading d) (T_from_true (fits binary64 y) n.0) (own_fits d h) (number_finite y n.1) (own_finite d h) (e ∙ sym (sign d h))
        (same_size (rw (own_apart d h, apart_is d y true (ap (λ (s : Bool). same_sign s d.minus) e ∙ own_sign d.minus)) at a))

    no_tie_by : (like : Bool) → same_sign (is_sign_negative y) d.minus ≡ like → 0 < d.digits → AsFar d (reading d) y → y ≡ reading d
    no_tie_by true e some a = like_tie (like_sign (is_sign_negative y) d.minus e) a
    no_tie_by false e some a = absurd (unlike some (rw (own_apart d h, apart_is d y false e) at a))

pub no_tie : (d : Decimal) (y : Float) → allowed d ≡ true → 0 < d.digits → IsNumber y → AsFar d (reading d) y → y ≡ reading d
no_tie d y h some n a = no_tie_by d h y n (same_sign (is_sign_negative y) d.minus) refl some a

-- what is nearest lies as far as the reading
pub nothing_else : (d : Decimal) (x : Float) → allowed d ≡ true → IsNearest d x → is_sign_negative x ≡ d.minus → x ≡ reading d
nothing_else d x h n s =
    let own = is_nearest d h in
    like_tie d h x n.number s (le_antisymm (own.nearest x n.number) (n.nearest (reading d) own.number))
