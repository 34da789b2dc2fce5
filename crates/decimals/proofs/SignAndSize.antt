-- A finite value of a format is settled by its sign and its size, and so are its bits. Assumes nothing.
use mathlib.Core.Path.{◌≡◌, refl, sym, ap, ◌∙◌}
use Prim.Native.Nat.{ℕ, ◌+◌, ◌-◌, ◌*◌, ◌/◌, ◌%◌, ◌^◌, ◌≤◌, ◌<◌}
use native.Mathlib.Nat.{mul_right_comm, add_assoc, mul-div_cancel}
use native.Mathlib.Omega.{arith}
use mathlib.Core.Bool.{Bool, true, false, not, cond}
use lib.IntN.{ℤ}
use lib.Dec.{T}
use lib.Ieee.{Float, nan, inf, fin, Format, binary32, binary64, prec, low, up, down, size, hid, ones, top, fits, is_nan, of_bits, to_bits}
use lib.Ieee.Digits.{size-le}
use lib.Ieee.Fits.{kept-lt, down_pos}
use lib.Ieee.Bits.{of_bits-to_bits}
use lib.Ieee.Exact.{HasValue}
use lib.Ieee.Nearest.{div_same}
use lib.Ieee.Scale.{overflow, finite}
use lib.Ieee.Positive.{num, den}
use Rattle.std.specs.Float.{is_sign_negative}
use Rattle.decimals.proofs.RoundedNearest.{units_of, significand}

-- the bits below the sign, of a value of X units of the format's smallest
abbrev pub size_bits : Format → ℕ → ℕ
size_bits f X = (size X - prec f) * hid f + X / 2 ^ (size X - prec f)

pub value_bits : (f : Format) (x : Float) (s : Bool) (X : ℕ) → HasValue x s X (2 ^ low f) → to_bits f x ≡ cond s (top f) 0 + size_bits f X
unfolding to_bits
value_bits f nan s X v = absurd v
value_bits f (inf t) s X v = absurd v
value_bits f (fin t m e) s X v =
    let n = m * up e * 2 ^ low f / down e in
    add_assoc (cond t (top f) 0) ((size n - prec f) * hid f) (n / 2 ^ (size n - prec f))
    ∙ ap (λ (t : Bool). cond t (top f) 0 + size_bits f n) v.0
    ∙ ap (λ (n : ℕ). cond s (top f) 0 + size_bits f n) (ap (λ (z : ℕ). z / down e) v.1 ∙ mul-div_cancel X (down_pos e))

-- a finite value's lie below those of infinity
pub size_bits_under : (f : Format) (X : ℕ) → X < overflow f → size_bits f X < ones f * hid f
size_bits_under binary32 X h = under (size X) (X / 2 ^ (size X - 24)) (size-le X 277 h) (kept-lt 24 X)
  where
    under : (z q : ℕ) → z ≤ 277 → q < 2 ^ 24 → (z - 24) * 2 ^ 23 + q < 255 * 2 ^ 23
    under z q h k = omega arith
size_bits_under binary64 X h = under (size X) (X / 2 ^ (size X - 53)) (size-le X 2098 h) (kept-lt 53 X)
  where
    under : (z q : ℕ) → z ≤ 2098 → q < 2 ^ 53 → (z - 53) * 2 ^ 52 + q < 2047 * 2 ^ 52
    under z q h k = omega arith

-- ---- what has a value
pub sign_of_value : (x : Float) (s : Bool) (a c : ℕ) → HasValue x s a c → is_sign_negative x ≡ s
unfolding is_sign_negative
sign_of_value nan s a c v = absurd v
sign_of_value (inf t) s a c v = absurd v
sign_of_value (fin t m e) s a c v = v.0

pub finite_of_value : (x : Float) (s : Bool) (a c : ℕ) → HasValue x s a c → T (finite x)
finite_of_value nan s a c v = absurd v
finite_of_value (inf t) s a c v = absurd v
finite_of_value (fin t m e) s a c v = tt

pub no_nan_of_value : (x : Float) (s : Bool) (a c : ℕ) → HasValue x s a c → T (not (is_nan x))
unfolding is_nan
no_nan_of_value nan s a c v = absurd v
no_nan_of_value (inf t) s a c v = absurd v
no_nan_of_value (fin t m e) s a c v = tt

-- ---- one sign and one size, one value
bits_of : (f : Format) (s : Bool) (m : ℕ) (e : ℤ)
    → to_bits f (fin s m e) ≡ cond s (top f) 0 + (size (units_of f (fin s m e)) - prec f) * hid f + significand f (fin s m e)
unfolding to_bits
bits_of f s m e = refl

pub same_float : (f : Format) (x y : Float) → T (fits f x) → T (fits f y) → T (finite x) → T (finite y) → is_sign_negative x ≡ is_sign_negative y
    → num x * den y ≡ num y * den x → x ≡ y
unfolding is_sign_negative
same_float f nan y p q h k s v = absurd h
same_float f (inf t) y p q h k s v = absurd h
same_float f (fin t m e) nan p q h k s v = absurd k
same_float f (fin t m e) (inf u) p q h k s v = absurd k
same_float f (fin t m e) (fin u n d) p q h k s v =
    let same_units : units_of f (fin t m e) ≡ units_of f (fin u n d) =
    div_same (m * up e * 2 ^ low f) (down e) (n * up d * 2 ^ low f) (down d) (down_pos e) (down_pos d)
    (mul_right_comm (m * up e) (2 ^ low f) (down d) ∙ ap (λ (z : ℕ). z * 2 ^ low f) v ∙ mul_right_comm (n * up d) (down e) (2 ^ low f)) in
    sym (of_bits-to_bits f (fin t m e) p)
    ∙ ap (of_bits f)
    (bits_of f t m e
    ∙ ap (λ (t : Bool). cond t (top f) 0 + (size (units_of f (fin t m e)) - prec f) * hid f + significand f (fin t m e)) s
    ∙ ap (λ (X : ℕ). cond u (top f) 0 + (size X - prec f) * hid f + X / 2 ^ (size X - prec f)) same_units
    ∙ sym (bits_of f u n d))
    ∙ of_bits-to_bits f (fin u n d) q

-- ---- the last bit is the significand's
pub last_bit : (f : Format) (x : Float) → T (finite x) → to_bits f x % 2 ≡ significand f x % 2
unfolding to_bits
last_bit f nan h = absurd h
last_bit f (inf s) h = absurd h
last_bit binary32 (fin false m e) h = omega arith
last_bit binary32 (fin true m e) h = omega arith
last_bit binary64 (fin false m e) h = omega arith
last_bit binary64 (fin true m e) h = omega arith

-- what has a sign has the top bit
pub top_bit : (m : ℕ) (e : ℤ) → 2 ^ 63 ≤ to_bits binary64 (fin true m e)
unfolding to_bits
top_bit m e = omega arith
