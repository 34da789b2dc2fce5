-- The decimal text says the number: digits that were written read back as it. Assumes nothing.
use mathlib.Core.Path.{◌≡◌, ap, ◌∙◌, subst}
use Prim.Native.Nat.{ℕ, zero, suc, ◌+◌, ◌-◌, ◌*◌, ◌/◌, ◌%◌, ◌^◌, ◌<◌}
use native.Mathlib.Nat.{pow-suc, div-lt_iff_lt-mul}
use native.Mathlib.Omega.{arith}
use mathlib.Core.Logic.{inl, inr}
use mathlib.Core.List.{List, [], ◌∷◌, foldl, foldl-append}
use lib.Dec.{lit<}
use Rattle.std.proofs.lemmas.Bool.{cases_lt}
use Rattle.text_pieces.specs.TextPieces.{decimal_digits, decimal_text}
use Rattle.text_pieces.proofs.Decimal.{digits_one, digits_more}

-- the number that decimal digits write
abbrev pub decimal_value : List ℕ → ℕ
decimal_value s = foldl (λ value c. 10 * value + (c - 48)) 0 s

decimal_digits_say : (k n : ℕ) → n < 10 ^ suc k → decimal_value (decimal_digits k n) ≡ n
decimal_digits_say zero n h = ap decimal_value (digits_one zero n h) ∙ one n
  where
    one : (n : ℕ) → 10 * 0 + (48 + n - 48) ≡ n
    one n = omega arith
decimal_digits_say (suc k) n h = elim (cases_lt n 10) [
  | inl l ↦ ap decimal_value (digits_one (suc k) n l) ∙ one n
  | inr g ↦
      ap decimal_value (digits_more k n g)
      ∙ foldl-append (λ (value c : ℕ). 10 * value + (c - 48)) 0 (decimal_digits k (n / 10)) ((48 + n % 10) ∷ [])
      ∙ ap (λ (value : ℕ). 10 * value + (48 + n % 10 - 48)) (decimal_digits_say k (n / 10) ((div-lt_iff_lt-mul (lit< tt)).1 (subst (λ (z : ℕ). n < z) (pow-suc 10 (suc k)) h)))
      ∙ whole n
]
  where
    one : (n : ℕ) → 10 * 0 + (48 + n - 48) ≡ n
    one n = omega arith

    whole : (n : ℕ) → 10 * (n / 10) + (48 + n % 10 - 48) ≡ n
    whole n = omega arith

pub decimal_says : (n : ℕ) → n < 10 ^ 20 → decimal_value (decimal_text n) ≡ n
unfolding decimal_text
decimal_says n h = decimal_digits_say 19 n h
