-- What the sign bit and the other 63 bits say of the decimal that gives them. Assumes nothing.
use mathlib.Core.Path.{◌≡◌, refl, sym, ap, ◌∙◌, subst}
use mathlib.Core.Logic.{inl, inr}
use Prim.Native.Nat.{ℕ, ◌+◌, ◌*◌, ◌%◌, ◌^◌, ◌<◌}
use native.Mathlib.Nat.{zero-mul, mul-pos, not-le_of_lt}
use native.Mathlib.Omega.{arith}
use mathlib.Core.Bool.{Bool, true, false, not, ◌||◌, beq, cond}
use lib.IntN.{pos}
use lib.Dec.{T, leb, ltb, eqb, eqb→eq, lit≤}
use lib.Pow.{pow_pos}
use lib.Ieee.{Float, nan, inf, fin, binary64, size, round, eq, ne, is_nan, up, down, of_bits, to_bits}
use lib.Ieee.Fits.{and_l, round-fits}
use lib.Ieee.Bits.{of_bits-to_bits, of_bits-fits, to_bits-of_bits}
use lib.Ieee.Compare.{differs_from_itself}
use lib.Ieee.Exact.{HasValue}
use lib.Ieee.Order.{drop}
use lib.Ieee.Scale.{grid, finite}
use lib.Ieee.Positive.{num, den}
use Rattle.std.specs.Float.{is_sign_negative}
use Rattle.std.proofs.lemmas.Bool.{cases_Bool, and_from, and_left, and_right, ne_eqb, eq-eqb, lt-ltb, le-leb, lt-leb, leb-true, leb-false, true≢false}
use Rattle.std.proofs.lemmas.Float.{T_from_true, T_from_false}
use Rattle.decimals.specs.declared.Decimal.{Decimal}
use Rattle.decimals.specs.Decimals.{allowed, reading, zero_with_minus}
use Rattle.decimals.specs.NearestReading.{gap}
use Rattle.decimals.specs.ShortestDecimal.{Gives}
use Rattle.decimals.proofs.ClosestWhole.{closest_none}
use Rattle.decimals.proofs.RoundedNearest.{grid_under}
use Rattle.decimals.proofs.SignAndSize.{size_bits, value_bits, size_bits_under, top_bit, sign_of_value, finite_of_value, same_float}
use Rattle.decimals.proofs.OnlyDecimal.{ten_pos, allowed_parts, under_digits, small_digits, digits_value, near_digits}

-- the 63 bits below the sign
abbrev pub low_bits : ℕ → ℕ → ℕ
low_bits digits places = size_bits binary64 (grid binary64 digits (10 ^ places))

module _ (digits places : ℕ) (h : digits < 10 ^ 15) where
  own_value : (s : Bool) → HasValue (round binary64 s digits (10 ^ places)) s (grid binary64 digits (10 ^ places)) (2 ^ 1074)
  own_value s = digits_value s digits places (small_digits digits h)

  pub round_bits : (s : Bool) → to_bits binary64 (round binary64 s digits (10 ^ places)) ≡ cond s (2 ^ 63) 0 + low_bits digits places
  round_bits s = value_bits binary64 (round binary64 s digits (10 ^ places)) s (grid binary64 digits (10 ^ places)) (own_value s)

  pub low_bits_under : low_bits digits places < 0x7ff0_0000_0000_0000
  low_bits_under =
      size_bits_under binary64 (grid binary64 digits (10 ^ places))
      (grid_under binary64 digits (10 ^ places) 50 (ten_pos places) (under_digits digits places (small_digits digits h)) (lit≤ tt))

-- ---- the parts of bits
signed : (s : Bool) (low : ℕ) → low < 0x7ff0_0000_0000_0000 → (leb (2 ^ 63) (cond s (2 ^ 63) 0 + low) ≡ s) × ((cond s (2 ^ 63) 0 + low) % 2 ^ 63 ≡ low)
signed true low h = (le-leb (2 ^ 63) (2 ^ 63 + low) (omega arith), omega arith)
signed false low h = (lt-leb (2 ^ 63) (0 + low) (omega arith), omega arith)

parts : (bits : ℕ) → bits < 2 ^ 64 → cond (leb (2 ^ 63) bits) (2 ^ 63) 0 + bits % 2 ^ 63 ≡ bits
parts bits h = elim (cases_Bool (leb (2 ^ 63) bits)) [
  | inl e ↦ let l = leb-true (2 ^ 63) bits e in rw e (omega arith)
  | inr e ↦ let l = leb-false (2 ^ 63) bits e in rw e (omega arith)
]

-- ---- a decimal that gives the bits has their sign, and without it gives the rest
pub record Parts (bits : ℕ) (d : Decimal) : Type 0 where
  pub sign : leb (2 ^ 63) bits ≡ d.minus
  pub finite : bits % 2 ^ 63 < 0x7ff0_0000_0000_0000
  pub size : of_bits binary64 (bits % 2 ^ 63) ≡ round binary64 false d.digits (10 ^ d.places)

pub parts_given : (bits : ℕ) (d : Decimal) → Gives bits d → Parts bits d
unfolding reading
parts_given bits d g =
    let p = allowed_parts d g.allowed in
    let low = low_bits d.digits d.places in
    let e : bits ≡ cond d.minus (2 ^ 63) 0 + low = sym g.read ∙ round_bits d.digits d.places p.0 d.minus in
    let u = low_bits_under d.digits d.places p.0 in
    let s = signed d.minus low u in
    let l : bits % 2 ^ 63 ≡ low = ap (λ (n : ℕ). n % 2 ^ 63) e ∙ s.1 in
    record {
      sign = ap (leb (2 ^ 63)) e ∙ s.0;
      finite = subst (λ (n : ℕ). n < 0x7ff0_0000_0000_0000) (sym l) u;
      size =
          ap (of_bits binary64) (l ∙ ones low ∙ sym (round_bits d.digits d.places p.0 false))
          ∙ of_bits-to_bits binary64 (round binary64 false d.digits (10 ^ d.places)) (round-fits binary64 false d.digits (10 ^ d.places));
    }
  where
    ones : (low : ℕ) → low ≡ 0 + low
    ones low = omega arith

-- ---- none gives -0.0
zero_bits : of_bits binary64 0 ≡ fin false 0 (pos 0)
unfolding of_bits
zero_bits = refl

pub no_minus_zero : (bits : ℕ) (d : Decimal) → Gives bits d → bits ≡ 2 ^ 63 → ⊥
unfolding zero_with_minus
no_minus_zero bits d g e =
    let p = allowed_parts d g.allowed in
    let q = parts_given (2 ^ 63) d (subst (λ (bits : ℕ). Gives bits d) e g) in
    let X = grid binary64 d.digits (10 ^ d.places) in
    let v : HasValue (fin false 0 (pos 0)) false X (2 ^ 1074) =
    subst (λ (x : Float). HasValue x false X (2 ^ 1074)) (sym q.size ∙ zero_bits) (own_value d.digits d.places p.0 false) in
    let n : d.digits ≡ 0 = none d.digits (10 ^ d.places) (near_digits (fin false 0 (pos 0)) d.digits d.places p.1 (small_digits d.digits p.0) v.1) in
    true≢false (sym (and_from d.minus (eqb d.digits 0) (sym q.sign) (eq-eqb d.digits 0 n)) ∙ g.no_zero_with_minus)
  where
    none : (digits power : ℕ) → gap (0 * 1 * power) (digits * 1) * 8 < 1 → digits ≡ 0
    none digits power h = omega arith

-- ---- what equals an f64 with no sign bit is that f64
eq_finite : (x y : Float) → T (finite x) → T (eq x y) → T (finite y)
unfolding eq
eq_finite nan y h t = absurd h
eq_finite (inf s) y h t = absurd h
eq_finite (fin s m e) nan h t = absurd t
eq_finite (fin s m e) (inf u) h t = absurd t
eq_finite (fin s m e) (fin u n d) h t = tt

eq_cross : (x y : Float) → T (finite x) → T (eq x y) → num x * den y ≡ num y * den x
unfolding eq
eq_cross nan y h t = absurd h
eq_cross (inf s) y h t = absurd h
eq_cross (fin s m e) nan h t = absurd t
eq_cross (fin s m e) (inf u) h t = absurd t
eq_cross (fin s m e) (fin u n d) h t =
    eqb→eq (m * up e * down d) (n * up d * down e) (and_l (eqb (m * up e * down d) (n * up d * down e)) (beq s u || eqb (m * up e * down d) 0) t)

no_sign : (x : Float) → to_bits binary64 x < 2 ^ 63 → T (finite x) → is_sign_negative x ≡ false
unfolding is_sign_negative
no_sign nan h t = refl
no_sign (inf s) h t = absurd t
no_sign (fin false m e) h t = refl
no_sign (fin true m e) h t = absurd (not-le_of_lt h (top_bit m e))

no_nan_finite : (x : Float) → T (finite x) → T (not (is_nan x))
unfolding is_nan
no_nan_finite nan t = absurd t
no_nan_finite (inf s) t = absurd t
no_nan_finite (fin s m e) t = tt

pub equals_itself : (x : Float) (s : Bool) (a c : ℕ) → HasValue x s a c → eq x x ≡ false → ⊥
unfolding ne
equals_itself x s a c v e = subst (λ (x : Float). HasValue x s a c) (differs_from_itself x (T_from_false (eq x x) e)) v

-- no digits give no bits
no_size : size_bits binary64 0 ≡ 0
unfolding size
no_size = refl

no_digits : (digits places : ℕ) → digits ≡ 0 → low_bits digits places ≡ 0
no_digits digits places z =
    let n = digits * 2 ^ 1074 in
    let k = drop 53 n (10 ^ places) in
    ap (size_bits binary64)
    (ap (λ (q : ℕ). q * 2 ^ k) (closest_none n (10 ^ places * 2 ^ k) (mul-pos (ten_pos places) (pow_pos k)) (ap (λ (d : ℕ). d * 2 ^ 1074) z ∙ zero-mul (2 ^ 1074)))
    ∙ zero-mul (2 ^ k))
    ∙ no_size

-- ---- where the digits give the size, the decimal with the sign gives the bits
abbrev pub SizeGiven : ℕ → ℕ → ℕ → Type 0
SizeGiven bits digits places = eq (round binary64 false digits (10 ^ places)) (of_bits binary64 (bits % 2 ^ 63)) ≡ true

module _ (bits digits places : ℕ) (B : bits < 2 ^ 64) (h : digits < 10 ^ 15) (t : SizeGiven bits digits places) where
  sizes_equal : T (eq (round binary64 false digits (10 ^ places)) (of_bits binary64 (bits % 2 ^ 63)))
  sizes_equal = T_from_true (eq (round binary64 false digits (10 ^ places)) (of_bits binary64 (bits % 2 ^ 63))) t

  rounded_finite : T (finite (round binary64 false digits (10 ^ places)))
  rounded_finite = finite_of_value (round binary64 false digits (10 ^ places)) false (grid binary64 digits (10 ^ places)) (2 ^ 1074) (own_value digits places h false)

  size_finite : T (finite (of_bits binary64 (bits % 2 ^ 63)))
  size_finite = eq_finite (round binary64 false digits (10 ^ places)) (of_bits binary64 (bits % 2 ^ 63)) rounded_finite sizes_equal

  size_is : to_bits binary64 (of_bits binary64 (bits % 2 ^ 63)) ≡ bits % 2 ^ 63
  size_is = to_bits-of_bits binary64 (bits % 2 ^ 63) (omega arith) (no_nan_finite (of_bits binary64 (bits % 2 ^ 63)) size_finite)

  rounded_is : round binary64 false digits (10 ^ places) ≡ of_bits binary64 (bits % 2 ^ 63)
  rounded_is =
      let x = round binary64 false digits (10 ^ places) in
      let y = of_bits binary64 (bits % 2 ^ 63) in
      let low : to_bits binary64 y < 2 ^ 63 = subst (λ (n : ℕ). n < 2 ^ 63) (sym size_is) (omega arith) in
      same_float binary64 x y (round-fits binary64 false digits (10 ^ places)) (of_bits-fits binary64 (bits % 2 ^ 63)) rounded_finite size_finite
      (sign_of_value x false (grid binary64 digits (10 ^ places)) (2 ^ 1074) (own_value digits places h false) ∙ sym (no_sign y low size_finite))
      (eq_cross x y rounded_finite sizes_equal)

  low_is : low_bits digits places ≡ bits % 2 ^ 63
  low_is = ones (low_bits digits places) ∙ sym (round_bits digits places h false) ∙ ap (to_bits binary64) rounded_is ∙ size_is
    where
      ones : (low : ℕ) → low ≡ 0 + low
      ones low = omega arith

  pub given : places < 7 → (bits ≡ 2 ^ 63 → ⊥) → Gives bits (record { minus = leb (2 ^ 63) bits; digits = digits; places = places })
  unfolding allowed reading zero_with_minus
  given K n = record {
    allowed = and_from (ltb digits (10 ^ 15)) (ltb places 7) (lt-ltb digits (10 ^ 15) h) (lt-ltb places 7 K);
    no_zero_with_minus = elim (cases_Bool (leb (2 ^ 63) bits)) [
      | inl e ↦
          let minus = leb-true (2 ^ 63) bits e in
          and_right (leb (2 ^ 63) bits) (eqb digits 0) (ne_eqb digits 0 (λ z. n (let low : bits % 2 ^ 63 ≡ 0 = sym low_is ∙ no_digits digits places z in omega arith)))
      | inr e ↦ and_left (leb (2 ^ 63) bits) (eqb digits 0) e
    ];
    read =
        round_bits digits places h (leb (2 ^ 63) bits)
        ∙ ap (λ (low : ℕ). cond (leb (2 ^ 63) bits) (2 ^ 63) 0 + low) low_is
        ∙ parts bits B;
  }
