-- Times as whole numbers of seconds: which f64 stands for which, and what a time is.
use Rattle.std.specs.Prelude.{◌≡◌, ℕ, ◌+◌, ◌-◌, ◌*◌, ◌/◌, ◌≤◌, Bool, ◌&&◌, T, Float}
use Rattle.std.specs.Float.{nan, inf, fin}
use Rattle.std.specs.Float.Ieee.{up, down}
use Rattle.f64_helpers.specs.F64.{◌≤ᶠ◌, ◌≥ᶠ◌, decimal, zero}
use Rattle.f64_helpers.specs.Helpers.{is_whole}

-- x is finite, and is the whole number n. A zero may have either sign.
abbrev pub Whole : Float → ℕ → Type 0
Whole nan n = ⊥
Whole (inf s) n = ⊥
Whole (fin s m e) n = (m * up e ≡ n * down e) × (T s → n ≡ 0)

-- the whole number that such an x is: its size, less any fraction
abbrev pub seconds : Float → ℕ
seconds nan = 0
seconds (inf s) = 0
seconds (fin s m e) = m * up e / down e

-- a whole number of seconds from 0 to 2,147,483,648
abbrev pub IsTime : Float → Type 0
IsTime t = Whole t (seconds t) × (seconds t ≤ 2147483648)

-- the same as a test, which has an answer for every f64
abbrev pub is_time : Float → Bool
is_time t = (t ≥ᶠ zero) && (t ≤ᶠ decimal 2147483648 1) && is_whole t

-- finite, and not below zero
abbrev pub NotNegative : Float → Type 0
NotNegative nan = ⊥
NotNegative (inf s) = ⊥
NotNegative (fin s m e) = T s → m ≡ 0

-- Of a finite x of 0 or more, as the laws ask: the least whole number that is not below x.
-- The sign is not looked at: of an x below 0 it is that of -x.
abbrev pub seconds_up : Float → ℕ
seconds_up nan = 0
seconds_up (inf s) = 0
seconds_up (fin s m e) = (m * up e + (down e - 1)) / down e
