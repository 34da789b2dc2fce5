-- The loop tries the digits of each number of places, from 0 on. Assumes nothing.
use mathlib.Core.Path.{◌≡◌, refl, sym, ap, ◌∙◌, subst}
use mathlib.Core.Logic.{inl, inr}
use Prim.Native.Nat.{ℕ, ◌%◌, ◌^◌}
use native.Mathlib.Omega.{arith}
use mathlib.Core.Bool.{false}
use lib.Ieee.{Float, binary64, round, eq, of_bits}
use lib.Ieee.Exact.{HasValue}
use lib.Ieee.Scale.{grid}
use Rattle.std.proofs.lemmas.Float.{not_nan_f64_bits}
use Rattle.decimals.specs.declared.Decimal.{Decimal}
use Rattle.decimals.specs.Decimals.{shortest}
use Rattle.decimals.specs.ShortestDecimal.{Gives}
use Rattle.decimals.proofs.OnlyDecimal.{allowed_parts, small_digits, digits_value}
use Rattle.decimals.proofs.Steps.{quotient}
use Rattle.decimals.proofs.ShortestDecimal.{found_at, not_at, none_left, nothing}
use Rattle.decimals.proofs.BitsGiven.{parts_given, no_minus_zero, equals_itself, given}
use Rattle.decimals.proofs.shortest.Goals as goal
use Rattle.decimals.proofs.shortest.Goals.{else-digits-le-MOST_DIGITS-via-then-digits-le-MOST_DIGITS+else-digits-power_of_ten, else-digits-le-MOST_DIGITS-via-else-digits-le-MOST_DIGITS}

pub returns-then-size-ge-INFINITY : goal.returns-then-size-ge-INFINITY
returns-then-size-ge-INFINITY c =
    sym (nothing c.args.bits (λ d g.
    let finite = (parts_given c.args.bits d g).finite in
    let not_minus_zero = no_minus_zero c.args.bits d g in
    elim c.then-size-ge-INFINITY.either [ inl h ↦ omega arith | inr h ↦ omega (arith, h.1) ]))

pub float_from_bits-size : goal.float_from_bits-size
float_from_bits-size c = not_nan_f64_bits (c.args.bits % 2 ^ 63) (omega arith)

pub loop-places-init : goal.loop-places-init
unfolding shortest
loop-places-init c = refl

pub returns-then-digits-power_of_ten : goal.returns-then-digits-power_of_ten
returns-then-digits-power_of_ten c =
    let bits = c.args.bits in
    let digits = c.digits_near-digits.result in
    let places = c.loop-places.places in
    let same = quotient digits places c.power_of_ten.result (omega arith) (omega arith) c.power_of_ten.ensures in
    sym (found_at places bits _ (omega arith)
    (given bits digits places (omega arith) (omega arith)
    (ap (λ (x : Float). eq x (of_bits binary64 (bits % 2 ^ 63))) (sym same) ∙ c.if-digits-power_of_ten.true) (omega arith) (λ (e : bits ≡ 2 ^ 63). omega arith))
    refl)
    ∙ c.loop-places.invariant

-- where the code goes on, no decimal with so many places gives the f64
refused : (c : goal.Joined-else-digits-le-MOST_DIGITS) (d : Decimal) → Gives c.args.bits d → d.places ≡ c.loop-places.places → ⊥
refused c d g e =
    let bits = c.args.bits in
    let digits = c.digits_near-digits.result in
    let places = c.loop-places.places in
    let p = allowed_parts d g.allowed in
    let size : of_bits binary64 (bits % 2 ^ 63) ≡ round binary64 false d.digits (10 ^ places) =
    (parts_given bits d g).size ∙ ap (λ (n : ℕ). round binary64 false d.digits (10 ^ n)) e in
    let near : digits ≡ d.digits = c.digits_near-digits.ensures d.digits p.0 size in
    let x = of_bits binary64 (bits % 2 ^ 63) in
    elim c.else-digits-le-MOST_DIGITS.branch [
      | else-digits-le-MOST_DIGITS-via-then-digits-le-MOST_DIGITS+else-digits-power_of_ten w ↦
          let again =
          quotient digits places w.power_of_ten.result (omega arith) (omega arith) w.power_of_ten.ensures ∙ ap (λ (n : ℕ). round binary64 false n (10 ^ places)) near
          ∙ sym size in
          equals_itself x false (grid binary64 d.digits (10 ^ places)) (2 ^ 1074)
          (subst (λ (x : Float). HasValue x false (grid binary64 d.digits (10 ^ places)) (2 ^ 1074)) (sym size)
          (digits_value false d.digits places (small_digits d.digits p.0)))
          (ap (λ (y : Float). eq y x) (sym again) ∙ w.if-digits-power_of_ten.false)
      | else-digits-le-MOST_DIGITS-via-else-digits-le-MOST_DIGITS w ↦ omega (arith, p.0)
    ]

pub loop-places-preserved : goal.loop-places-preserved
loop-places-preserved c = sym (not_at c.loop-places.places c.args.bits (omega arith) (refused c)) ∙ c.loop-places.invariant

pub returns : goal.returns
returns c = sym (none_left c.loop-places.places c.args.bits (omega arith)) ∙ c.loop-places.invariant
