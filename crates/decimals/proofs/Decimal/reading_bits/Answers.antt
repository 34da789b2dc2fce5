-- Digits and power are f64 themselves, and the quotient is rounded once; the sign is put on after. Assumes nothing.
use mathlib.Core.Path.{◌≡◌, sym, ap, ◌∙◌}
use mathlib.Core.Logic.{inl, inr}
use Prim.Native.Nat.{ℕ, ◌^◌, ◌≤◌, ◌<◌}
use native.Mathlib.Omega.{arith}
use mathlib.Core.Bool.{true, false}
use lib.Dec.{ltb}
use lib.IntN.{pos}
use lib.Ieee.{binary64, of_int, div}
use lib.Ieee.Exact.{HasValue}
use lib.Ieee.Scale.{grid}
use Rattle.std.specs.Prelude.{Some}
use Rattle.std.proofs.lemmas.Bool.{lt-ltb, le-ltb, and_from, and_left, and_right}
use Rattle.decimals.specs.declared.Decimal.{Decimal}
use Rattle.decimals.specs.Decimals.{allowed, reading}
use Rattle.decimals.proofs.OnlyDecimal.{digits_value, reading_value}
use Rattle.decimals.proofs.SignAndSize.{value_bits, no_nan_of_value}
use Rattle.decimals.proofs.Steps.{neg_value, quotient}
use Rattle.decimals.proofs.Decimal.reading_bits.Goals as goal
use Rattle.decimals.proofs.Decimal.reading_bits.Goals.{then-self, else-self}

is_allowed : (d : Decimal) → d.digits < 10 ^ 15 → d.places < 7 → allowed d ≡ true
unfolding allowed
is_allowed d h k = and_from (ltb d.digits (10 ^ 15)) (ltb d.places 7) (lt-ltb d.digits (10 ^ 15) h) (lt-ltb d.places 7 k)

too_many_digits : (d : Decimal) → 10 ^ 15 ≤ d.digits → allowed d ≡ false
unfolding allowed
too_many_digits d h = and_left (ltb d.digits (10 ^ 15)) (ltb d.places 7) (le-ltb d.digits (10 ^ 15) h)

too_many_places : (d : Decimal) → 7 ≤ d.places → allowed d ≡ false
unfolding allowed
too_many_places d h = and_right (ltb d.digits (10 ^ 15)) (ltb d.places 7) (le-ltb d.places 7 h)

result_value : (c : goal.Joined-self) → HasValue c.if-self.result c.args.self.minus (grid binary64 c.args.self.digits (10 ^ c.args.self.places)) (2 ^ 1074)
result_value c =
    let d = c.args.self in
    let X = grid binary64 d.digits (10 ^ d.places) in
    let size : HasValue (div binary64 (of_int binary64 (pos d.digits)) c.power_of_ten.result) false X (2 ^ 1074) =
    rw (quotient d.digits d.places c.power_of_ten.result (omega arith) (omega arith) c.power_of_ten.ensures) (digits_value false d.digits d.places (omega arith)) in
    elim c.if-self.branch [
      | then-self w ↦ rw (w.result-is, w.if-self.true) (neg_value _ false X (2 ^ 1074) size)
      | else-self w ↦ rw (w.result-is, w.if-self.false) size
    ]

pub returns-then-self-gt-MOST_DIGITS : goal.returns-then-self-gt-MOST_DIGITS
returns-then-self-gt-MOST_DIGITS c =
    let no : allowed c.args.self ≡ false =
    elim c.then-self-gt-MOST_DIGITS.either [ inl h ↦ too_many_digits c.args.self (omega arith) | inr h ↦ too_many_places c.args.self (omega arith) ] in
    rw no

pub float_to_bits-result : goal.float_to_bits-result
float_to_bits-result c = no_nan_of_value c.if-self.result c.args.self.minus (grid binary64 c.args.self.digits (10 ^ c.args.self.places)) (2 ^ 1074) (result_value c)

pub returns : goal.returns
returns c =
    let d = c.args.self in
    let X = grid binary64 d.digits (10 ^ d.places) in
    let yes = is_allowed d (omega arith) (omega arith) in
    rw yes (ap (λ (n : ℕ). Some n) (value_bits binary64 c.if-self.result d.minus X (result_value c)
    ∙ sym (value_bits binary64 (reading d) d.minus X (reading_value d yes))))
