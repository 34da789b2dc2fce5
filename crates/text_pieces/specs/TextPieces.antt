-- The decimal text of a number.
use Rattle.std.specs.Prelude.{ℕ, zero, suc, ◌+◌, ◌/◌, ◌%◌, ltb, List, [], ◌∷◌, ◌++◌, if◌then◌else◌}

-- the decimal digits of n, the highest first and with no needless 0, for an n of at most k + 1 digits
unfoldable pub decimal_digits : ℕ → ℕ → List ℕ
decimal_digits zero n = (48 + n) ∷ []
decimal_digits (suc k) n =
    if ltb n 10 then (48 + n) ∷ []
    else decimal_digits k (n / 10) ++ ((48 + n % 10) ∷ [])

-- a number below 2 ^ 64 has at most 20
unfoldable pub decimal_text : ℕ → List ℕ
decimal_text n = decimal_digits 19 n
