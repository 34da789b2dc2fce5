-- `closest a b` is the whole number nearest to a / b, a tie to the even one. Nothing here is about floats. Assumes nothing.
use mathlib.Core.Path.{◌≡◌, refl, sym, ap, ◌∙◌, subst}
use mathlib.Core.Logic.{◌⊎◌, inl, inr}
use Prim.Native.Nat.{ℕ, suc, ◌+◌, ◌*◌, ◌/◌, ◌%◌, ◌≤◌, ◌<◌, compare, Ordering}
use native.Mathlib.Nat.{suc-mul, add-mul, mul-le-mul_right, div-add-mod', mod-lt}
use native.Mathlib.Omega.{arith}
use mathlib.Core.Bool.{not}
use lib.Dec.{T, is_le, compare_is_eq, eqb, leb→le, nleb→lt, eqb→eq, eqb_refl}
use lib.Arith.{lt_of_le-ne}
use lib.Ieee.{nearest}
use lib.Ieee.Nearest.{closest}
use Rattle.std.proofs.lemmas.Bool.{cases_lt}
use Rattle.decimals.specs.NearestReading.{gap}

-- what `compare` says
abbrev Cmp : Ordering → ℕ → ℕ → Type 0
Cmp Ordering.lt a b = a < b
Cmp Ordering.eq a b = a ≡ b
Cmp Ordering.gt a b = b < a

cmp : (a b : ℕ) → Cmp (compare a b) a b
cmp a b = go (compare a b) (leb→le a b) (nleb→lt a b) (eqb→eq a b) (λ (e : a ≡ b). subst (λ (x : ℕ). T (eqb a x)) e (eqb_refl a))
  where
    go : (o : Ordering) → (T (is_le o) → a ≤ b) → (T (not (is_le o)) → b < a) → (T (compare_is_eq o) → a ≡ b) → (a ≡ b → T (compare_is_eq o)) → Cmp o a b
    go Ordering.lt h k e n = lt_of_le-ne (h tt) n
    go Ordering.eq h k e n = e tt
    go Ordering.gt h k e n = k tt

-- where Q stands beside w, and Q * b beside w * b
abbrev Place : ℕ → ℕ → ℕ → Type 0
Place Q w b = ((Q ≡ w) × (Q * b ≡ w * b)) ⊎ (((Q ≡ suc w) × (Q * b ≡ w * b + b)) ⊎ ((Q * b + b ≤ w * b) ⊎ (w * b + b + b ≤ Q * b)))

place : (Q w b : ℕ) → Place Q w b
place Q w b = elim (cases_lt Q w) [
  | inl l ↦ inr (inr (inl (subst (λ (z : ℕ). z ≤ w * b) (suc-mul Q b) (mul-le-mul_right b l))))
  | inr g ↦ elim (cases_lt w Q) [
    | inr h ↦ let e : Q ≡ w = omega arith in inl (e, ap (λ (z : ℕ). z * b) e)
    | inl h ↦ elim (cases_lt (suc w) Q) [
      | inr k ↦ let e : Q ≡ suc w = omega arith in inr (inl (e, ap (λ (z : ℕ). z * b) e ∙ suc-mul w b))
      | inl k ↦ inr (inr (inr (subst (λ (z : ℕ). z ≤ Q * b) (suc-mul (suc w) b ∙ ap (λ (z : ℕ). z + b) (suc-mul w b)) (mul-le-mul_right b k))))
    ]
  ]
]

-- With a = w * b + t: the distance that is left is the smaller of t and b - t.
left : (o : Ordering) (w b t a : ℕ) → Cmp o (t * 2) b → w * b + t ≡ a → t < b → (gap (nearest w o * b) a ≤ t) × (gap (nearest w o * b) a + t ≤ b)
left Ordering.lt w b t a c e h = (omega arith, omega arith)
left Ordering.eq w b t a c e h = elim (cases_lt 0 (w % 2)) [
  | inl o ↦ let x : (w + w % 2) * b ≡ w * b + b =
      ap (λ (z : ℕ). (w + z) * b) (one (w % 2) w refl o) ∙ add-mul w 1 b ∙ ap (λ (z : ℕ). w * b + z) (ones b) in (omega arith, omega arith)
  | inr z ↦ let x : (w + w % 2) * b ≡ w * b = ap (λ (n : ℕ). (w + n) * b) (none (w % 2) z) ∙ ap (λ (n : ℕ). n * b) (plain w) in (omega arith, omega arith)
]
  where
    one : (r w : ℕ) → r ≡ w % 2 → 0 < r → r ≡ 1
    one r w e h = omega arith

    none : (r : ℕ) → r ≤ 0 → r ≡ 0
    none r h = omega arith

    ones : (b : ℕ) → 1 * b ≡ b
    ones b = omega arith

    plain : (w : ℕ) → w + 0 ≡ w
    plain w = omega arith
left Ordering.gt w b t a c e h = let x : suc w * b ≡ w * b + b = suc-mul w b in (omega arith, omega arith)

near : (Q w b t a G : ℕ) → Place Q w b → w * b + t ≡ a → t < b → G ≤ t → G + t ≤ b → G ≤ gap (Q * b) a
near Q w b t a G p e h k l = elim p [
  | inl x ↦ omega arith
  | inr (inl x) ↦ omega arith
  | inr (inr (inl x)) ↦ omega arith
  | inr (inr (inr x)) ↦ omega arith
]

parity : (w : ℕ) → (w + w % 2) % 2 ≡ 0
parity w = omega arith

tie : (o : Ordering) (Q w b t a : ℕ) → Cmp o (t * 2) b → Place Q w b → w * b + t ≡ a → t < b → gap (nearest w o * b) a ≡ gap (Q * b) a
    → (Q ≡ nearest w o) ⊎ (nearest w o % 2 ≡ 0)
tie Ordering.eq Q w b t a c p e h g = inr (parity w)
tie Ordering.lt Q w b t a c p e h g = elim p [
  | inl x ↦ inl x.0
  | inr (inl x) ↦ absurd (omega (arith, x.1))
  | inr (inr (inl x)) ↦ absurd (omega arith)
  | inr (inr (inr x)) ↦ absurd (omega arith)
]
tie Ordering.gt Q w b t a c p e h g =
    let s : suc w * b ≡ w * b + b = suc-mul w b in
    elim p [
      | inl x ↦ absurd (omega (arith, x.1))
      | inr (inl x) ↦ inl x.0
      | inr (inr (inl x)) ↦ absurd (omega arith)
      | inr (inr (inr x)) ↦ absurd (omega arith)
    ]

only : (o : Ordering) (Q w b t a : ℕ) → Cmp o (t * 2) b → Place Q w b → w * b + t ≡ a → t < b → gap (Q * b) a * 2 < b → nearest w o ≡ Q
only o Q w b t a c (inr (inr (inl x))) e h g = absurd (omega arith)
only o Q w b t a c (inr (inr (inr x))) e h g = absurd (omega arith)
only Ordering.lt Q w b t a c (inl x) e h g = sym x.0
only Ordering.lt Q w b t a c (inr (inl x)) e h g = absurd (omega (arith, x.1))
only Ordering.eq Q w b t a c (inl x) e h g = absurd (omega (arith, x.1))
only Ordering.eq Q w b t a c (inr (inl x)) e h g = absurd (omega (arith, x.1))
only Ordering.gt Q w b t a c (inl x) e h g = absurd (omega (arith, x.1))
only Ordering.gt Q w b t a c (inr (inl x)) e h g = sym x.0

module _ (a b : ℕ) (B : 0 < b) where
  -- no whole number is nearer
  pub closest_near : (Q : ℕ) → gap (closest a b * b) a ≤ gap (Q * b) a
  closest_near Q =
      let k = left (compare (a % b * 2) b) (a / b) b (a % b) a (cmp (a % b * 2) b) (div-add-mod' a b) (mod-lt a B) in
      near Q (a / b) b (a % b) a (gap (closest a b * b) a) (place Q (a / b) b) (div-add-mod' a b) (mod-lt a B) k.0 k.1

  -- it is at most a half away
  pub closest_half : gap (closest a b * b) a * 2 ≤ b
  closest_half =
      let k = left (compare (a % b * 2) b) (a / b) b (a % b) a (cmp (a % b * 2) b) (div-add-mod' a b) (mod-lt a B) in
      double (gap (closest a b * b) a) (a % b) b k.0 k.1
    where
      double : (G t b : ℕ) → G ≤ t → G + t ≤ b → G * 2 ≤ b
      double G t b h k = omega arith

  -- where another is as near, it is even
  pub closest_tie : (Q : ℕ) → gap (closest a b * b) a ≡ gap (Q * b) a → (Q ≡ closest a b) ⊎ (closest a b % 2 ≡ 0)
  closest_tie Q g = tie (compare (a % b * 2) b) Q (a / b) b (a % b) a (cmp (a % b * 2) b) (place Q (a / b) b) (div-add-mod' a b) (mod-lt a B) g

  -- a whole number less than a half away is it
  pub closest_only : (Q : ℕ) → gap (Q * b) a * 2 < b → closest a b ≡ Q
  closest_only Q g = only (compare (a % b * 2) b) Q (a / b) b (a % b) a (cmp (a % b * 2) b) (place Q (a / b) b) (div-add-mod' a b) (mod-lt a B) g

pub closest_none : (n u : ℕ) → 0 < u → n ≡ 0 → closest n u ≡ 0
closest_none n u U e = closest_only n u U 0 (omega arith)
