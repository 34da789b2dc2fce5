-- Rust's `n == k`, of an i64 and a literal of 0 or more, in the notation of the definitions.
use Rattle.std.specs.Prelude.{ℕ, Bool, false, ℤ, pos, negsuc, ◌==◌}

infix 4 ◌==ᶻ◌
abbrev pub ◌==ᶻ◌ : ℤ → ℕ → Bool
pos n ==ᶻ k = n == k
negsuc n ==ᶻ k = false
