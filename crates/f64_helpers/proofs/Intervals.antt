-- Ranges through the operations: what is rounded once from numbers in ranges lies in the range of the ends, rounded once. So the ranges of a longer formula are found by
-- computing with its ends. A test compares the computed ends with those that are wanted; of literals it computes to an answer. Assumes nothing.
use Rattle.std.proofs.Common.{◌≡◌, refl, ◌*◌, Bool, true, false, cond, not, if◌then◌else◌, ◌&&◌, T, ◌⊎◌, pos, sym, ap, ◌∙◌, subst, inl, inr, T_not}
use lib.Ieee.{Float, nan, inf, fin, binary64, unlike, up, down, round, neg, mul, lt, eq, le, is_nan}
use lib.Ieee.Fits.{and_l, and_r}
use Rattle.std.proofs.lemmas.Float.{le_trans, le_of_lt, lt_of_lt_of_le, le_of_not-lt}
use Rattle.f64_helpers.specs.F64.{◌⊕◌, ◌⊖◌, ◌⊗◌, ◌⊘◌, ◌<ᶠ◌, ◌≤ᶠ◌, ◌≥ᶠ◌, zero}
use Rattle.f64_helpers.specs.Helpers.{max, negative}
use Rattle.f64_helpers.specs.Ranges.{Between, is_finite, Finite}
use Rattle.f64_helpers.proofs.Order.{in_order, number_at_most}
use Rattle.f64_helpers.proofs.Sums.{le_turned, not_negative_turned, zeros_level}
use Rattle.f64_helpers.proofs.Signs.{neg_neg}
use Rattle.f64_helpers.proofs.Negation.{neg_round}
use Rattle.f64_helpers.proofs.Monotone.{add_mono, sub_mono, mul_mono, mul_turned, div_mono, div_shrinks, neg_finite}

-- ---- what is finite is no NaN, and what lies between two finite numbers is finite
pub finite_number : (x : Float) → Finite x → T (not (is_nan x))
unfolding is_nan
finite_number nan f = f
finite_number (inf s) f = absurd f
finite_number (fin s m e) f = tt

no_number : (x : Float) → T (is_nan x) → (low : Float) → T (low ≤ᶠ x) → ⊥
no_number x n low h = number_at_most low x (inr n) h

finite_from : (low x high : Float) → Finite low → Finite high → T (low ≤ᶠ x) → T (x ≤ᶠ high) → Finite x
unfolding is_nan le lt eq
finite_from low nan high f g h k = no_number nan tt low h
finite_from nan (inf s) high f g h k = f
finite_from (inf t) (inf s) high f g h k = absurd f
finite_from (fin t n d) (inf true) high f g h k = h
finite_from (fin t n d) (inf false) nan f g h k = g
finite_from (fin t n d) (inf false) (inf s) f g h k = g
finite_from (fin t n d) (inf false) (fin s m e) f g h k = k
finite_from low (fin s m e) high f g h k = tt

pub finite_between : {low x high : Float} → Finite low → Finite high → Between low x high → Finite x
finite_between {low} {x} {high} f g b = finite_from low x high f g b.from_low b.to_high

-- ---- tests of the ends, which compute to an answer where these are literals
-- both ends are finite, and the computed ones lie within those that are wanted
abbrev pub ends : Float → Float → Bool
ends a b = is_finite a && is_finite b

abbrev pub inside : Float → Float → Float → Float → Bool
inside low a b high = (low ≤ᶠ a) && (b ≤ᶠ high)

-- both tests of a range
pub between : {low x high : Float} → T ((low ≤ᶠ x) && (x ≤ᶠ high)) → Between low x high
between {low} {x} {high} t = record { from_low = and_l (low ≤ᶠ x) (x ≤ᶠ high) t; to_high = and_r (low ≤ᶠ x) (x ≤ᶠ high) t }

ends_are : (a b : Float) → T (ends a b) → Finite a × Finite b
ends_are a b h = (and_l (is_finite a) (is_finite b) h, and_r (is_finite a) (is_finite b) h)

inside_is : (low a b high : Float) → T (inside low a b high) → T (low ≤ᶠ a) × T (b ≤ᶠ high)
inside_is low a b high h = (and_l (low ≤ᶠ a) (b ≤ᶠ high) h, and_r (low ≤ᶠ a) (b ≤ᶠ high) h)

split : (a b : Bool) → T (a && b) → T a × T b
split a b h = (and_l a b h, and_r a b h)

pub wider : {low a x b high : Float} → Between a x b → T (inside low a b high) → Between low x high
wider {low} {a} {x} {b} {high} h t =
    let i = inside_is low a b high t in
    record { from_low = le_trans low a x i.0 h.from_low; to_high = le_trans x b high h.to_high i.1 }

-- ---- sums and differences
pub add_in : {a x b c y d low high : Float} → Between a x b → Between c y d → T (ends a b && ends c d && inside low (a ⊕ c) (b ⊕ d) high) → Between low (x ⊕ y) high
add_in {a} {x} {b} {c} {y} {d} {low} {high} p q t =
    let s = split (ends a b && ends c d) (inside low (a ⊕ c) (b ⊕ d) high) t in
    let e = split (ends a b) (ends c d) s.0 in
    let i = ends_are a b e.0 in
    let j = ends_are c d e.1 in
    let f = finite_between i.0 i.1 p in
    let g = finite_between j.0 j.1 q in
    wider (record { from_low = add_mono a x c y i.0 f j.0 g p.from_low q.from_low; to_high = add_mono x b y d f i.1 g j.1 p.to_high q.to_high }) s.1

pub sub_in : {a x b c y d low high : Float} → Between a x b → Between c y d → T (ends a b && ends c d && inside low (a ⊖ d) (b ⊖ c) high) → Between low (x ⊖ y) high
sub_in {a} {x} {b} {c} {y} {d} {low} {high} p q t =
    let s = split (ends a b && ends c d) (inside low (a ⊖ d) (b ⊖ c) high) t in
    let e = split (ends a b) (ends c d) s.0 in
    let i = ends_are a b e.0 in
    let j = ends_are c d e.1 in
    let f = finite_between i.0 i.1 p in
    let g = finite_between j.0 j.1 q in
    wider (record { from_low = sub_mono a x d y i.0 f j.1 g p.from_low q.to_high; to_high = sub_mono x b y c f i.1 g j.0 p.to_high q.from_low }) s.1

-- ---- the other sign
pub neg_in : {a x b low high : Float} → Between a x b → T (inside low (neg b) (neg a) high) → Between low (neg x) high
neg_in {a} {x} {b} {low} {high} p t = wider (record { from_low = le_turned x b p.to_high; to_high = le_turned a x p.from_low }) t

-- ---- products with what is not negative
-- around 0
abbrev pub around_zero : Float → Float → Bool
around_zero a b = (a ≤ᶠ zero) && (zero ≤ᶠ b)

turned_sign : (s t : Bool) → not (unlike s t) ≡ unlike (not s) t
turned_sign true true = refl
turned_sign true false = refl
turned_sign false true = refl
turned_sign false false = refl

neg_mul : (x y : Float) → Finite x → Finite y → neg (mul binary64 x y) ≡ mul binary64 (neg x) y
unfolding mul neg
neg_mul nan y f g = absurd f
neg_mul (inf s) y f g = absurd f
neg_mul (fin s m e) nan f g = absurd g
neg_mul (fin s m e) (inf t) f g = absurd g
neg_mul (fin s m e) (fin t n d) f g =
    neg_round binary64 (unlike s t) (m * up e * (n * up d)) (down e * down d) ∙ ap (λ (u : Bool). round binary64 u (m * up e * (n * up d)) (down e * down d)) (turned_sign s t)

-- a number that is not negative times a larger one, and one that is not positive
pub times_larger : (b y d : Float) → Finite b → Finite y → Finite d → T (zero ≤ᶠ b) → T (y ≤ᶠ d) → T (b ⊗ y ≤ᶠ b ⊗ d)
times_larger b y d f g g' p h = subst T (λ i. le (mul_turned y b g f i) (mul_turned d b g' f i)) (mul_mono y d b g g' f p h)

less_times : (a y d : Float) → Finite a → Finite y → Finite d → T (a ≤ᶠ zero) → T (y ≤ᶠ d) → T (a ⊗ d ≤ᶠ a ⊗ y)
less_times a y d f g g' p h =
    let l : T (neg a ⊗ y ≤ᶠ neg a ⊗ d) = times_larger (neg a) y d (neg_finite a f) g g' (not_negative_turned a p) h in
    let k : T (neg (a ⊗ y) ≤ᶠ neg (a ⊗ d)) = subst T (λ i. le (sym (neg_mul a y f g) i) (sym (neg_mul a d f g') i)) l in
    subst T (λ i. le (neg_neg (a ⊗ d) i) (neg_neg (a ⊗ y) i)) (le_turned (neg (a ⊗ y)) (neg (a ⊗ d)) k)

pub mul_in : {a x b y d low high : Float} → Between a x b → Between zero y d → T (ends a b && is_finite d && around_zero a b && inside low (a ⊗ d) (b ⊗ d) high) → Between low (x ⊗ y) high
mul_in {a} {x} {b} {y} {d} {low} {high} p q t =
    let s = split (ends a b && is_finite d && around_zero a b) (inside low (a ⊗ d) (b ⊗ d) high) t in
    let r = split (ends a b && is_finite d) (around_zero a b) s.0 in
    let e = split (ends a b) (is_finite d) r.0 in
    let i = ends_are a b e.0 in
    let z = split (a ≤ᶠ zero) (zero ≤ᶠ b) r.1 in
    let f = finite_between i.0 i.1 p in
    let g = finite_between {low = zero} tt e.1 q in
    wider (record {
      from_low = le_trans (a ⊗ d) (a ⊗ y) (x ⊗ y) (less_times a y d i.0 g e.1 z.0 q.to_high) (mul_mono a x y i.0 f g q.from_low p.from_low);
      to_high = le_trans (x ⊗ y) (b ⊗ y) (b ⊗ d) (mul_mono x b y f i.1 g q.from_low p.to_high) (times_larger b y d i.1 g e.1 z.1 q.to_high);
    }) s.1

-- the same with the factors turned round
pub mul_in_turned : {a x b y d low high : Float} → Between a x b → Between zero y d → T (ends a b && is_finite d && around_zero a b && inside low (a ⊗ d) (b ⊗ d) high) → Between low (y ⊗ x) high
mul_in_turned {a} {x} {b} {y} {d} {low} {high} p q t =
    let s = split (ends a b && is_finite d && around_zero a b) (inside low (a ⊗ d) (b ⊗ d) high) t in
    let r = split (ends a b && is_finite d) (around_zero a b) s.0 in
    let e = split (ends a b) (is_finite d) r.0 in
    let i = ends_are a b e.0 in
    subst (λ (z : Float). Between low z high) (mul_turned x y (finite_between i.0 i.1 p) (finite_between {low = zero} tt e.1 q)) (mul_in p q t)

-- ---- quotients by what is above 0
-- by one v
pub div_by_in : {a x b low high : Float} → Between a x b → (v : Float) → T (ends a b && (is_finite v && (zero <ᶠ v)) && inside low (a ⊘ v) (b ⊘ v) high) → Between low (x ⊘ v) high
div_by_in {a} {x} {b} {low} {high} p v t =
    let s = split (ends a b && (is_finite v && (zero <ᶠ v))) (inside low (a ⊘ v) (b ⊘ v) high) t in
    let e = split (ends a b) (is_finite v && (zero <ᶠ v)) s.0 in
    let i = ends_are a b e.0 in
    let v_is = split (is_finite v) (zero <ᶠ v) e.1 in
    let f = finite_between i.0 i.1 p in
    wider (record { from_low = div_mono a x v i.0 f v_is.0 v_is.1 p.from_low; to_high = div_mono x b v f i.1 v_is.0 v_is.1 p.to_high }) s.1

-- by a v in a range
pub div_in : {a x b c v d low high : Float} → Between a x b → Between c v d → T (ends a b && ends c d && (around_zero a b && (zero <ᶠ c)) && inside low (a ⊘ c) (b ⊘ c) high) → Between low (x ⊘ v) high
div_in {a} {x} {b} {c} {v} {d} {low} {high} p q t =
    let s = split (ends a b && ends c d && (around_zero a b && (zero <ᶠ c))) (inside low (a ⊘ c) (b ⊘ c) high) t in
    let r = split (ends a b && ends c d) (around_zero a b && (zero <ᶠ c)) s.0 in
    let e = split (ends a b) (ends c d) r.0 in
    let i = ends_are a b e.0 in
    let j = ends_are c d e.1 in
    let u = split (around_zero a b) (zero <ᶠ c) r.1 in
    let z = split (a ≤ᶠ zero) (zero ≤ᶠ b) u.0 in
    let f = finite_between i.0 i.1 p in
    let g = finite_between j.0 j.1 q in
    let V : T (zero <ᶠ v) = lt_of_lt_of_le zero c v u.1 q.from_low in
    wider (record {
      from_low = le_trans (a ⊘ c) (a ⊘ v) (x ⊘ v) ((div_shrinks a c v i.0 j.0 g u.1 q.from_low).1 z.0) (div_mono a x v i.0 f g V p.from_low);
      to_high = le_trans (x ⊘ v) (b ⊘ v) (b ⊘ c) (div_mono x b v f i.1 g V p.to_high) ((div_shrinks b c v i.1 j.0 g u.1 q.from_low).0 z.1);
    }) s.1

-- ---- what picks one of two
pub if_in : {low high : Float} (p : Bool) (x y : Float) → Between low x high → Between low y high → Between low (if p then x else y) high
if_in true x y h k = h
if_in false x y h k = k

-- x is at most k, or at least k
pub at_most_or_least : (x k : Float) → Finite x → Finite k → T (x ≤ᶠ k) ⊎ T (k ≤ᶠ x)
at_most_or_least x k f g = elim (in_order x k) [
  | inl h ↦ inl h
  | inr r ↦ elim r [
    | inl h ↦ inr (le_of_lt k x h)
    | inr n ↦ elim n [ inl a ↦ absurd (T_not (is_nan x) (finite_number x f) a) | inr b ↦ absurd (T_not (is_nan k) (finite_number k g) b) ]
  ]
]

-- either end of a range cut at k
pub cut : {low x high : Float} (k : Float) → Finite low → Finite high → Finite k → Between low x high → Between low x k ⊎ Between k x high
cut {low} {x} {high} k f g K b =
    elim (at_most_or_least x k (finite_between f g b) K) [
      | inl h ↦ inl (record { from_low = b.from_low; to_high = h })
      | inr h ↦ inr (record { from_low = h; to_high = b.to_high })
    ]

-- ---- the helpers
zero_in : (s : Bool) (high : Float) → T (zero ≤ᶠ high) → Between zero (fin s 0 (pos 0)) high
zero_in s high h = record { from_low = zeros_level false s; to_high = le_trans (fin s 0 (pos 0)) zero high (zeros_level s false) h }

-- the larger of x and 0
pub max_zero_in : {a x b high : Float} → Between a x b → T (ends a b && ((b ≤ᶠ high) && (zero ≤ᶠ high))) → Between zero (max x zero) high
unfolding max
max_zero_in {a} {x} {b} {high} p t =
    let s = split (ends a b) ((b ≤ᶠ high) && (zero ≤ᶠ high)) t in
    let e = ends_are a b s.0 in
    let h = split (b ≤ᶠ high) (zero ≤ᶠ high) s.1 in
    let f = finite_between e.0 e.1 p in
    go (is_nan x) (lt x zero) (eq x zero && eq zero zero) (le_trans x b high p.to_high h.0) (zero_in false high h.1) (zero_in (negative x && false) high h.1)
    (le_of_not-lt x zero (finite_number x f) (finite_number zero tt))
  where
    go : (n l z : Bool) → T (x ≤ᶠ high) → Between zero zero high → Between zero (fin (negative x && false) 0 (pos 0)) high → (T (not l) → T (zero ≤ᶠ x))
        → Between zero (cond n zero (cond l zero (cond z (fin (negative x && false) 0 (pos 0)) x))) high
    go true l z h o u k = o
    go false true z h o u k = o
    go false false true h o u k = u
    go false false false h o u k = record { from_low = k tt; to_high = h }

pub not_at_least : (x y : Float) → Finite x → Finite y → (x ≥ᶠ y) ≡ false → T (x ≤ᶠ y)
not_at_least x y f g h = elim (at_most_or_least x y f g) [ inl k ↦ k | inr k ↦ absurd (subst T h k) ]
