-- Differences of f64 that are exact. An f64 not below 0 is a whole number of the smallest value, 2 ^ -1074: these are its units.
-- That number has at most 53 binary digits, and then zeros. The difference of two such is held where it is at most the one taken away.
-- And for y from 0 to x, what x less the rounded x - y leaves is held. Assumes nothing.
use Rattle.std.proofs.Common.{◌≡◌, ℕ, zero, suc, ◌+◌, ◌-◌, ◌*◌, ◌^◌, ◌<◌, ◌≤◌, Bool, true, false, not, ◌||◌, T, leb, ◌⊎◌, ◌↔◌, ℤ, pos, sym, refl, ap, ◌∙◌, subst, inl, inr, le_of_lt, mul-le-mul_right, mul_assoc, mul_comm, mul_right_comm, add-mul, mul-pos, mul-one, zero-mul, arith, pow_pos, pow-add, le_of_mul-le-mul_right, leb→le, pow-suc}
use native.Mathlib.Nat.{sub-add_cancel, mul-sub}
use lib.Ieee.{Float, nan, inf, fin, binary64, emax, low, up, down, round, neg, sum, add, sub, mul, div, below, level, lt, eq, le, fits}
use lib.Ieee.Fits.{down_pos, sub-fits}
use lib.Dec.{nleb→lt}
use Rattle.std.proofs.lemmas.Float.{le_trans}
use lib.Ieee.Exact.{HasValue, round_exact}
use lib.Ieee.Scale.{round_same}
use Rattle.f64_helpers.specs.F64.{zero as zeroᶠ}
use Rattle.f64_helpers.specs.Ranges.{Finite}
use Rattle.f64_helpers.proofs.Order.{plus}
use Rattle.f64_helpers.proofs.Sums.{rounded, rounded_in_order, at_least_zero}
use Rattle.f64_helpers.proofs.Values.{in_places}
use Rattle.f64_helpers.proofs.Intervals.{finite_between}
use Rattle.f64_helpers.proofs.WholeSeconds.{none, sizes}
use Rattle.f64_helpers.proofs.Monotone.{mul_is, div_is}

-- ---- units
-- How many units 1 is, and how many no finite f64 reaches. Both are kept closed, so that a proof does not write out their digits.
unfoldable pub one : ℕ
one = 2 ^ low binary64

pub limit : ℕ
limit = 2 ^ (low binary64 + suc (emax binary64))

pub one_pos : 0 < one
unfolding one
one_pos = pow_pos (low binary64)

-- an f64 can be n units: at most 53 binary digits, and then zeros
pub record Held (n : ℕ) : Type 0 where
  pub digits : ℕ
  pub places : ℕ
  pub short : digits < 2 ^ 53
  pub under : n < limit
  pub is : n ≡ digits * 2 ^ places

-- x is finite, and n units. A zero may have either sign.
abbrev pub InUnits : Float → ℕ → Type 0
InUnits nan n = ⊥
InUnits (inf s) n = ⊥
InUnits (fin s m e) n = (m * up e * one ≡ n * down e) × (T s → n ≡ 0)

pub units_finite : (x : Float) (n : ℕ) → InUnits x n → Finite x
units_finite nan n u = u
units_finite (inf s) n u = u
units_finite (fin s m e) n u = tt

-- what is nothing once it is multiplied by a c above 0
pub no_units : (n c : ℕ) → 0 < c → n * c ≡ 0 → n ≡ 0
no_units zero c C h = refl
no_units (suc n) c C h = absurd (positive (suc n * c) (mul-pos (omega arith) C) h)
  where
    positive : (p : ℕ) → 0 < p → p ≡ 0 → ⊥
    positive p P h = omega arith

-- ---- an f64 not below 0, in units
pub record Units (x : Float) : Type 0 where
  pub units : ℕ
  pub is : InUnits x units
  pub held : Held units

-- with its sign bit set it is a zero
no_size : (s : Bool) (m : ℕ) (e : ℤ) → T (le zeroᶠ (fin s m e)) → T s → m * up e ≡ 0
no_size true m e h t = omega (arith, at_least_zero true m e h)
no_size false m e h t = absurd t

pub units_of : (x : Float) → T (fits binary64 x) → Finite x → T (le zeroᶠ x) → Units x
unfolding one limit
units_of nan t f h = absurd f
units_of (inf s) t f h = absurd f
units_of (fin s m e) t f h =
    let p = in_places binary64 s m e t in
    let n = p.digits * 2 ^ p.places in
    record {
      units = n;
      is = (p.in_units, λ q. no_units n (down e) (down_pos e) (sym p.in_units ∙ none (m * up e) one (no_size s m e h q)));
      held = record { digits = p.digits; places = p.places; short = p.short; under = p.under; is = refl };
    }

-- ---- what is rounded once
-- z is n units rounded, with the sign bit set only on a zero
pub record Once (z : Float) (n : ℕ) : Type 0 where
  pub sign : Bool
  pub once : z ≡ round binary64 sign n one
  pub level : T sign → n ≡ 0

-- a fraction a / c that is n units
round_units : (s : Bool) (a c n : ℕ) → 0 < c → a * one ≡ n * c → (T s → n ≡ 0) → Once (round binary64 s a c) n
round_units s a c n C e z = record { sign = s; once = round_same binary64 s a c n one C one_pos e; level = z }

exact_value : (s : Bool) (n : ℕ) → Held n → HasValue (round binary64 s n one) s n one
unfolding one limit
exact_value s n h =
    round_exact binary64 s n one h.digits h.places one_pos h.short (subst (λ (k : ℕ). k < limit) h.is h.under) (ap (λ (k : ℕ). k * one) h.is)

of_value : (x : Float) (s : Bool) (n : ℕ) → HasValue x s n one → (T s → n ≡ 0) → InUnits x n
of_value nan s n v z = absurd v
of_value (inf t) s n v z = absurd v
of_value (fin t m e) s n v z = (v.1, λ q. z (subst T v.0 q))

-- where n is held, rounding changes nothing
once_held : (z : Float) (n : ℕ) → Once z n → Held n → InUnits z n
once_held z n o h = subst (λ (x : Float). InUnits x n) (sym o.once) (of_value (round binary64 o.sign n one) o.sign n (exact_value o.sign n h) o.level)

-- rounding keeps the order
pub once_in_order : (y z : Float) (n k : ℕ) → Once y n → Once z k → n ≤ k → T (le y z)
once_in_order y z n k o p h =
    subst T (λ i. le (sym o.once i) (sym p.once i))
    (rounded_in_order o.sign p.sign n k one one one_pos one_pos (signs o.sign p.sign o.level p.level))
  where
    signs : (s t : Bool) → (T s → n ≡ 0) → (T t → k ≡ 0) → plus s n * one + plus (not t) k * one ≤ plus t k * one + plus (not s) n * one
    signs false false y z = omega (arith, mul-le-mul_right one h)
    signs false true y z = omega (arith, none n one (omega (arith, z tt)), none k one (z tt))
    signs true false y z = omega arith
    signs true true y z = omega (arith, none k one (z tt))

-- ---- two floats in units, at the denominator of both
pub at_left : (a c d n : ℕ) → a * one ≡ n * c → a * d * one ≡ n * (c * d)
at_left a c d n h = mul_right_comm a d one ∙ ap (λ (x : ℕ). x * d) h ∙ mul_assoc n c d

pub at_right : (a c d n : ℕ) → a * one ≡ n * d → a * c * one ≡ n * (c * d)
at_right a c d n h = at_left a d c n h ∙ ap (λ (x : ℕ). n * x) (mul_comm d c)

at_one_scale : (P : Float → Float → Type 0) (n k : ℕ)
    → ((s t : Bool) (m a : ℕ) (e d : ℤ) → 0 < down e * down d → m * up e * down d * one ≡ n * (down e * down d) → a * up d * down e * one ≡ k * (down e * down d)
    → (T s → n ≡ 0) → (T t → k ≡ 0) → P (fin s m e) (fin t a d))
    → (x y : Float) → InUnits x n → InUnits y k → P x y
at_one_scale P n k f nan y u v = absurd u
at_one_scale P n k f (inf s) y u v = absurd u
at_one_scale P n k f (fin s m e) nan u v = absurd v
at_one_scale P n k f (fin s m e) (inf t) u v = absurd v
at_one_scale P n k f (fin s m e) (fin t a d) u v =
    f s t m a e d (mul-pos (down_pos e) (down_pos d)) (at_left (m * up e) (down e) (down d) n u.0) (at_right (a * up d) (down e) (down d) k v.0) u.1 v.1

-- ---- sums and differences
-- of a float in units: what is added, and what is taken away, which is nothing
signed : (s : Bool) (a c n : ℕ) → a * one ≡ n * c → (T s → n ≡ 0) → (plus s a * one ≡ n * c) × (plus (not s) a * one ≡ 0)
signed true a c n e z = (zero-mul one ∙ sym (none n c (z tt)), e ∙ none n c (z tt))
signed false a c n e z = (e, zero-mul one)

-- a signed size that is n units: they are all its size
settled : (s : Bool) (k c n : ℕ) → 0 < c → plus s k * one ≡ plus (not s) k * one + n * c → (k * one ≡ n * c) × (T s → n ≡ 0)
settled true k c n C h =
    let z = both (k * one) (n * c) (sym (zero-mul one) ∙ h) in
    (z.0 ∙ sym z.1, λ q. no_units n c C z.1)
  where
    both : (x y : ℕ) → 0 ≡ x + y → (x ≡ 0) × (y ≡ 0)
    both x y h = (omega arith, omega arith)
settled false k c n C h = (omega (arith, h, zero-mul one), λ q. absurd q)

-- an equation of sums, multiplied out
spread : (x x' p p' q q' k : ℕ) → x + (p' + q') ≡ x' + (p + q) → x * k + (p' * k + q' * k) ≡ x' * k + (p * k + q * k)
spread x x' p p' q q' k h = simp add-mul at (ap (λ (z : ℕ). z * k) h)

-- ±a / c and ±b / c, of n and of k units
module _ (s t : Bool) (a b c n k : ℕ) (C : 0 < c) (e : a * one ≡ n * c) (e' : b * one ≡ k * c) (y : T s → n ≡ 0) (z : T t → k ≡ 0) where
  sum_once : Once (sum binary64 s a t b c) (n + k)
  sum_once =
      let r = rounded s a t b c in
      let p = signed s a c n e y in
      let q = signed t b c k e' z in
      let x = spread (plus r.sign r.size) (plus (not r.sign) r.size) (plus s a) (plus (not s) a) (plus t b) (plus (not t) b) one r.exact in
      let v = settled r.sign r.size c (n + k) C (omega (arith, x, p.0, p.1, q.0, q.1, add-mul n k c)) in
      subst (λ (w : Float). Once w (n + k)) (sym r.once) (round_units r.sign r.size c (n + k) C v.0 v.1)

  -- the second with its sign turned
  turned : (plus (not t) b * one ≡ 0) × (plus (not (not t)) b * one ≡ k * c)
  turned = go t (signed t b c k e' z)
    where
      go : (t : Bool) → (plus t b * one ≡ k * c) × (plus (not t) b * one ≡ 0) → (plus (not t) b * one ≡ 0) × (plus (not (not t)) b * one ≡ k * c)
      go true q = (q.1, q.0)
      go false q = (q.1, q.0)

  difference_once : k ≤ n → Once (sum binary64 s a (not t) b c) (n - k)
  difference_once h =
      let r = rounded s a (not t) b c in
      let p = signed s a c n e y in
      let q = turned in
      let x = spread (plus r.sign r.size) (plus (not r.sign) r.size) (plus s a) (plus (not s) a) (plus (not t) b) (plus (not (not t)) b) one r.exact in
      let l : (n - k) * c + k * c ≡ n * c = sym (add-mul (n - k) k c) ∙ ap (λ (z : ℕ). z * c) (sub-add_cancel h) in
      let v = settled r.sign r.size c (n - k) C (omega (arith, x, p.0, p.1, q.0, q.1, l)) in
      subst (λ (w : Float). Once w (n - k)) (sym r.once) (round_units r.sign r.size c (n - k) C v.0 v.1)

add_once : (x y : Float) (n k : ℕ) → InUnits x n → InUnits y k → Once (add binary64 x y) (n + k)
unfolding add
add_once x y n k u v =
    at_one_scale (λ (x y : Float). Once (add binary64 x y) (n + k)) n k (λ s t m a e d C p q y z. sum_once s t (m * up e * down d) (a * up d * down e) (down e * down d) n k C p q y z) x y u v

pub sub_once : (x y : Float) (n k : ℕ) → InUnits x n → InUnits y k → k ≤ n → Once (sub binary64 x y) (n - k)
unfolding sub neg add
sub_once x y n k u v h =
    at_one_scale (λ (x y : Float). Once (sub binary64 x y) (n - k)) n k (λ s t m a e d C p q y z. difference_once s t (m * up e * down d) (a * up d * down e) (down e * down d) n k C p q y z h) x y u v

-- where the result is held, it is exact
pub add_exact : (x y : Float) (n k : ℕ) → InUnits x n → InUnits y k → Held (n + k) → InUnits (add binary64 x y) (n + k)
add_exact x y n k u v h = once_held (add binary64 x y) (n + k) (add_once x y n k u v) h

pub sub_exact : (x y : Float) (n k : ℕ) → InUnits x n → InUnits y k → k ≤ n → Held (n - k) → InUnits (sub binary64 x y) (n - k)
sub_exact x y n k u v l h = once_held (sub binary64 x y) (n - k) (sub_once x y n k u v l) h

-- ---- times 1, and over 1
times_one : (x : Float) (n : ℕ) → InUnits x n → Once (mul binary64 x (fin false 1 (pos 0))) n
times_one nan n u = absurd u
times_one (inf s) n u = absurd u
times_one (fin s m e) n u =
    subst (λ (z : Float). Once z n) (sym (mul_is s m e 1 (pos 0))) (round_units s (m * up e * 1) (down e * 1) n (mul-pos (down_pos e) (omega arith)) (at_left (m * up e) (down e) 1 n u.0) u.1)

over_one : (x : Float) (n : ℕ) → InUnits x n → Once (div binary64 x (fin false 1 (pos 0))) n
over_one nan n u = absurd u
over_one (inf s) n u = absurd u
over_one (fin s m e) n u =
    subst (λ (z : Float). Once z n) (sym (div_is s m e 0 (pos 0))) (round_units s (m * up e * 1) (down e * 1) n (mul-pos (down_pos e) (omega arith)) (at_left (m * up e) (down e) 1 n u.0) u.1)

pub times_one_exact : (x : Float) (n : ℕ) → InUnits x n → Held n → InUnits (mul binary64 x (fin false 1 (pos 0))) n
times_one_exact x n u h = once_held (mul binary64 x (fin false 1 (pos 0))) n (times_one x n u) h

pub over_one_exact : (x : Float) (n : ℕ) → InUnits x n → Held n → InUnits (div binary64 x (fin false 1 (pos 0))) n
over_one_exact x n u h = once_held (div binary64 x (fin false 1 (pos 0))) n (over_one x n u) h

-- ---- the order is that of the units
size_order : (a b c n k : ℕ) → 0 < c → a * one ≡ n * c → b * one ≡ k * c → (a ≤ b) ↔ (n ≤ k)
size_order a b c n k C e e' = (
  λ h. le_of_mul-le-mul_right {k = c} (omega (arith, mul-le-mul_right one h, e, e')) C,
  λ h. le_of_mul-le-mul_right {k = one} (omega (arith, mul-le-mul_right c h, e, e')) one_pos,
)

order_of : (s t : Bool) (a b c n k : ℕ) → 0 < c → a * one ≡ n * c → b * one ≡ k * c → (T s → n ≡ 0) → (T t → k ≡ 0) → T (below s a t b || level s a t b) ↔ (n ≤ k)
order_of s t a b c n k C e e' y z =
    let w = sizes s t a b (λ q. no_units a one one_pos (e ∙ none n c (y q))) (λ q. no_units b one one_pos (e' ∙ none k c (z q))) in
    let o = size_order a b c n k C e e' in
    (λ h. o.0 (w.0 h), λ h. w.1 (o.1 h))

pub le_units : (x y : Float) (n k : ℕ) → InUnits x n → InUnits y k → T (le x y) ↔ (n ≤ k)
unfolding le lt eq
le_units x y n k u v =
    at_one_scale (λ (x y : Float). T (le x y) ↔ (n ≤ k)) n k (λ s t m a e d C p q y z. order_of s t (m * up e * down d) (a * up d * down e) (down e * down d) n k C p q y z) x y u v

pub zero_units : InUnits zeroᶠ 0
zero_units = (zero-mul one, λ q. refl)

pub units_not_negative : (x : Float) (n : ℕ) → InUnits x n → T (le zeroᶠ x)
units_not_negative x n u = (le_units zeroᶠ x 0 n zero_units u).1 (omega arith)

-- ---- which differences are held
few_digits : (n : ℕ) → n < 2 ^ 53 → n < limit → Held n
few_digits n h l = record { digits = n; places = 0; short = h; under = l; is = sym (mul-one n) }

-- q * 2 ^ i in steps of the smaller 2 ^ j
pub in_steps : (n q i j : ℕ) → n ≡ q * 2 ^ i → j ≤ i → n ≡ q * 2 ^ (i - j) * 2 ^ j
in_steps n q i j e h = e ∙ ap (λ (z : ℕ). q * 2 ^ z) (sym (sub-add_cancel h)) ∙ ap (λ (z : ℕ). q * z) (pow-add 2 (i - j) j) ∙ sym (mul_assoc q (2 ^ (i - j)) (2 ^ j))

-- a difference of two multiples of c
pub steps_less : (n k q r c : ℕ) → n ≡ q * c → k ≡ r * c → n - k ≡ (q - r) * c
steps_less n k q r c e e' = (λ i. (e ∙ mul_comm q c) i - (e' ∙ mul_comm r c) i) ∙ sym (mul-sub c q r) ∙ mul_comm c (q - r)

module _ (n k : ℕ) (h : Held n) (g : Held k) where
  -- n in the smaller steps: the difference has no more digits than n
  coarse : h.places ≤ g.places → Held (n - k)
  coarse o = record {
    digits = h.digits - g.digits * 2 ^ (g.places - h.places);
    places = h.places;
    short = omega (arith, h.short);
    under = omega (arith, h.under);
    is = steps_less n k h.digits (g.digits * 2 ^ (g.places - h.places)) (2 ^ h.places) h.is (in_steps k g.digits g.places h.places g.is o);
  }

  -- k in the smaller steps: it has no more digits than k, where it is at most k
  fine : g.places ≤ h.places → n - k ≤ k → Held (n - k)
  fine o l =
      let q = h.digits * 2 ^ (h.places - g.places) in
      let e : n - k ≡ (q - g.digits) * 2 ^ g.places = steps_less n k q g.digits (2 ^ g.places) (in_steps n h.digits h.places g.places h.is o) g.is in
      let d : q - g.digits ≤ g.digits = le_of_mul-le-mul_right {k = 2 ^ g.places} (omega (arith, e, g.is)) (pow_pos g.places) in
      record { digits = q - g.digits; places = g.places; short = omega (arith, g.short, d); under = omega (arith, h.under); is = e }

  -- a difference that is at most what is taken away
  pub held_difference : n - k ≤ k → Held (n - k)
  held_difference l = go (leb h.places g.places) (leb→le h.places g.places) (nleb→lt h.places g.places)
    where
      go : (b : Bool) → (T b → h.places ≤ g.places) → (T (not b) → g.places < h.places) → Held (n - k)
      go true p q = coarse (p tt)
      go false p q = fine (le_of_lt (q tt)) l

-- ---- half of it
pub record Half (n : ℕ) : Type 0 where
  pub half : ℕ
  pub twice : half + half ≡ n
  pub held : Held half

-- all of n is in its digits, or half of n is held
halved : (n : ℕ) → Held n → (n < 2 ^ 53) ⊎ Half n
halved n h = go h.places h.is
  where
    go : (p : ℕ) → n ≡ h.digits * 2 ^ p → (n < 2 ^ 53) ⊎ Half n
    go zero e = inl (omega (arith, h.short, e, mul-one h.digits))
    go (suc p) e =
        let b = h.digits * 2 ^ p in
        let t : b + b ≡ n = omega (arith, e, ap (λ (z : ℕ). h.digits * z) (pow-suc 2 p), mul_assoc h.digits (2 ^ p) 2) in
        inr (record { half = b; twice = t; held = record { digits = h.digits; places = p; short = h.short; under = omega (arith, h.under, t); is = refl } })

-- ---- the rounded difference of two
-- z is at most n units, and n units less z are held
pub record Difference (z : Float) (n : ℕ) : Type 0 where
  pub units : ℕ
  pub is : InUnits z units
  pub at_most : units ≤ n
  pub held : Held units
  pub rest : Held (n - units)

pub rounded_once : (n : ℕ) → Once (round binary64 false n one) n
rounded_once n = record { sign = false; once = refl; level = λ q. absurd q }

-- n units less k are held: z is that
exact_difference : (z : Float) (n k : ℕ) → Once z (n - k) → Held (n - k) → Held k → k ≤ n → Difference z n
exact_difference z n k o h g l = record {
  units = n - k;
  is = once_held z (n - k) o h;
  at_most = omega arith;
  held = h;
  rest = subst Held (less n k l) g;
}
  where
    less : (n k : ℕ) → k ≤ n → k ≡ n - (n - k)
    less n k h = omega arith

-- The exact difference lies from half of n to n. Then so does the rounded one, z, as rounding keeps the order. So n less z is at most z.
near_difference : (z : Float) (n m : ℕ) → T (fits binary64 z) → Once z m → Held n → (h : Half n) → h.half ≤ m → m ≤ n → Difference z n
near_difference z n m f o g h p q =
    let low = round binary64 false h.half one in
    let high = round binary64 false n one in
    let u = once_held low h.half (rounded_once h.half) h.held in
    let v = once_held high n (rounded_once n) g in
    let a : T (le low z) = once_in_order low z h.half m (rounded_once h.half) o p in
    let b : T (le z high) = once_in_order z high m n o (rounded_once n) q in
    let i : Finite z = finite_between {low = low} (units_finite low h.half u) (units_finite high n v) (record { from_low = a; to_high = b }) in
    let w = units_of z f i (le_trans zeroᶠ low z (units_not_negative low h.half u) a) in
    let x : h.half ≤ w.units = (le_units low z h.half w.units u w.is).0 a in
    let y : w.units ≤ n = (le_units z high w.units n w.is v).0 b in
    record { units = w.units; is = w.is; at_most = y; held = w.held; rest = held_difference n w.units g w.held (omega (arith, h.twice, x)) }

-- x less y, rounded once: y is near to x, or x has all its digits, or the difference is at least half of x
pub difference : (x y : Float) (n k : ℕ) → InUnits x n → Held n → InUnits y k → Held k → k ≤ n → Difference (sub binary64 x y) n
difference x y n k u h v g l = go (leb (n - k) k) (leb→le (n - k) k) (nleb→lt (n - k) k)
  where
    o : Once (sub binary64 x y) (n - k)
    o = sub_once x y n k u v l

    go : (b : Bool) → (T b → n - k ≤ k) → (T (not b) → k < n - k) → Difference (sub binary64 x y) n
    go true p q = exact_difference (sub binary64 x y) n k o (held_difference n k h g (p tt)) g l
    go false p q = elim (halved n h) [
      | inl s ↦ exact_difference (sub binary64 x y) n k o (few_digits (n - k) (omega (arith, s)) (omega (arith, h.under))) g l
      | inr s ↦ near_difference (sub binary64 x y) n (n - k) (sub-fits binary64 x y) o h s (omega (arith, s.twice, q tt)) (omega arith)
    ]
