-- The digits that std writes are those of the definition, 20 at most. Assumes nothing.
use mathlib.Core.Path.{◌≡◌, refl, sym, ap, ◌∙◌, subst}
use Prim.Native.Nat.{ℕ, zero, suc, ◌+◌, ◌/◌, ◌%◌, ◌^◌, ◌≤◌, ◌<◌}
use native.Mathlib.Nat.{pow-suc, div-lt_iff_lt-mul}
use native.Mathlib.Omega.{arith}
use mathlib.Core.Bool.{false}
use mathlib.Core.Logic.{inl, inr}
use mathlib.Core.List.{List, [], ◌∷◌, ◌++◌, append_assoc, append-nil}
use lib.Dec.{lit<, lit≤}
use borrow.Author.Tests.{lt-ltb, le-ltb, eq-eqb, ne_eqb}
use Rattle.std.specs.Fmt.{decimal, digits, digits_onto, digit_glyph}
use Rattle.std.proofs.lemmas.Bool.{cases_lt}
use Rattle.text_pieces.specs.TextPieces.{decimal_digits, decimal_text}

pub digits_one : (k n : ℕ) → n < 10 → decimal_digits k n ≡ (48 + n) ∷ []
unfolding decimal_digits
digits_one zero n h = refl
digits_one (suc k) n h = simp (lt-ltb n 10 h)

pub digits_more : (k n : ℕ) → 10 ≤ n → decimal_digits (suc k) n ≡ decimal_digits k (n / 10) ++ ((48 + n % 10) ∷ [])
unfolding decimal_digits
digits_more k n h = simp (le-ltb n 10 h)

-- ---- std writes the same digits

decimal_glyph : (n : ℕ) → digit_glyph false (n % 10) ≡ 48 + n % 10
decimal_glyph n = rw (lt-ltb (n % 10) 10 (omega arith)) refl

-- a digit alone
last_digit : (j n : ℕ) (rest : List ℕ) → n < 10 → digits_onto (suc j) 10 false n rest ≡ (48 + n) ∷ rest
last_digit j n rest h =
    let none : n / 10 ≡ 0 = omega arith in
    let same : n % 10 ≡ n = omega arith in
    rw (eq-eqb (n / 10) 0 none) (ap (λ (d : ℕ). d ∷ rest) (decimal_glyph n ∙ ap (λ (m : ℕ). 48 + m) same))

-- however much room there is
digits_onto_is : (k j n : ℕ) (rest : List ℕ) → k ≤ j → n < 10 ^ suc k → digits_onto (suc j) 10 false n rest ≡ decimal_digits k n ++ rest
digits_onto_is zero j n rest r h = last_digit j n rest h ∙ ap (λ (s : List ℕ). s ++ rest) (sym (digits_one zero n h))
digits_onto_is (suc k) zero n rest r h = absurd (omega arith)
digits_onto_is (suc k) (suc j) n rest r h = elim (cases_lt n 10) [
  | inl l ↦ last_digit (suc j) n rest l ∙ ap (λ (s : List ℕ). s ++ rest) (sym (digits_one (suc k) n l))
  | inr g ↦
      more g
      ∙ digits_onto_is k j (n / 10) ((48 + n % 10) ∷ rest) (omega arith) ((div-lt_iff_lt-mul (lit< tt)).1 (subst (λ (z : ℕ). n < z) (pow-suc 10 (suc k)) h))
      ∙ sym (append_assoc (decimal_digits k (n / 10)) ((48 + n % 10) ∷ []) rest)
      ∙ ap (λ (s : List ℕ). s ++ rest) (sym (digits_more k n g))
]
  where
    more : 10 ≤ n → digits_onto (suc (suc j)) 10 false n rest ≡ digits_onto (suc j) 10 false (n / 10) ((48 + n % 10) ∷ rest)
    more g = rw (ne_eqb (n / 10) 0 (λ e. omega arith)) (ap (λ (d : ℕ). digits_onto (suc j) 10 false (n / 10) (d ∷ rest)) (decimal_glyph n))

pub decimal_is : (n : ℕ) → n < 18446744073709551616 → decimal n ≡ decimal_text n
unfolding digits decimal_text
decimal_is n h = digits_onto_is 19 63 n [] (lit≤ tt) (omega arith) ∙ append-nil (decimal_digits 19 n)
