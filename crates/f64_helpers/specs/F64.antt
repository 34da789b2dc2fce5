-- The notation in which every definition of this repository writes f64 arithmetic.
-- Each operation is that of IEEE 754's binary64, rounded once, to the nearest value, ties to even: what Rust's operators on f64 do.
-- A value is `nan`, `inf s`, or `fin s m e`: the number m * 2 ^ e, negative where s is true.
-- There is one `nan`: no definition speaks of a NaN's bits.
use Rattle.std.specs.Prelude.{ℕ, Bool, false, pos, Float}
use Rattle.std.specs.Float.{fin, binary64}
use Rattle.std.specs.Float.Ieee.{round, add, sub, mul, div, lt, le}

-- Among themselves they group as Rust's operators do: ⊗ and ⊘ before ⊕ and ⊖, each from the left, and then the comparisons.
-- A function takes its arguments before any operator: `floor x ⊘ y` is `(floor x) ⊘ y`. Of two Bools, && comes before ||.
-- Both bind tighter than what stands here, unlike Rust's, so a comparison beside them is in brackets.
infixl 6 ◌⊕◌ ◌⊖◌
infixl 7 ◌⊗◌ ◌⊘◌
infix 4 ◌<ᶠ◌ ◌>ᶠ◌ ◌≤ᶠ◌ ◌≥ᶠ◌
-- Rust's `x + y`, `x - y`, `x * y` and `x / y`
abbrev pub ◌⊕◌ : Float → Float → Float
x ⊕ y = add binary64 x y

abbrev pub ◌⊖◌ : Float → Float → Float
x ⊖ y = sub binary64 x y

abbrev pub ◌⊗◌ : Float → Float → Float
x ⊗ y = mul binary64 x y

abbrev pub ◌⊘◌ : Float → Float → Float
x ⊘ y = div binary64 x y

-- Rust's `x < y`, `x > y`, `x <= y` and `x >= y`: false where either is a NaN, and -0.0 equals 0.0
abbrev pub ◌<ᶠ◌ : Float → Float → Bool
x <ᶠ y = lt x y

abbrev pub ◌>ᶠ◌ : Float → Float → Bool
x >ᶠ y = lt y x

abbrev pub ◌≤ᶠ◌ : Float → Float → Bool
x ≤ᶠ y = le x y

abbrev pub ◌≥ᶠ◌ : Float → Float → Bool
x ≥ᶠ y = le y x

-- The literal n / d: the f64 nearest to that fraction. Rust's 0.25 is `decimal 25 100`.
abbrev pub decimal : ℕ → ℕ → Float
decimal n d = round binary64 false n d

-- Rust's 0.0
abbrev pub zero : Float
zero = fin false 0 (pos 0)
