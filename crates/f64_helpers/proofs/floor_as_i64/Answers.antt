-- `f64_helpers::floor_as_i64` meets its contract. Below 2 ^ 52 the whole part is a float exactly, so it comes back from its float as it was. Assumes nothing.
use Rattle.std.proofs.Common.{◌≡◌, ℕ, ◌<◌, ◌≤◌, pos, sym, ap, ◌∙◌, subst, arith, le→leb, to_z-of_z, w64, SFits, to_z}
use lib.Ieee.{Float, binary64, of_bits, of_int, to_unsigned, to_signed, in_float}
use lib.Ieee.Back.{positive_back}
use Rattle.f64_helpers.specs.Helpers.{floor, as_i64}
use Rattle.f64_helpers.proofs.Tests.{yes}
use Rattle.f64_helpers.proofs.Floors.{floor_small}
use Rattle.f64_helpers.proofs.Casts.{count_small, above_minus_one, below_2_64}
use Rattle.f64_helpers.proofs.floor_as_i64.Goals as goal

in_range : (n : ℕ) → n < 4503599627370496 → SFits w64 (pos n)
in_range n h = record { sfits = omega arith }

is_float : (n : ℕ) → n < 4503599627370496 → n ≤ 9007199254740992
is_float n h = omega arith

whole_part : (x : Float) (n : ℕ) → n ≡ to_unsigned 64 x → n < 4503599627370496 → of_int binary64 (pos (to_unsigned 64 x)) ≡ floor x → to_z w64 n ≡ as_i64 (floor x)
unfolding in_float
whole_part x n e h f =
    to_z-of_z (in_range n h)
    ∙ sym (positive_back binary64 63 n (le→leb n 9007199254740992 (is_float n h)) (in_range n h).sfits).1
    ∙ ap (to_signed 63) (ap (λ (k : ℕ). of_int binary64 (pos k)) e ∙ f)

pub truncating_f64_to_u64-requires-clause-lower_bound : goal.truncating_f64_to_u64-requires-clause-lower_bound
unfolding of_bits
truncating_f64_to_u64-requires-clause-lower_bound c = above_minus_one c.args.x (yes c.if-x.true)

pub truncating_f64_to_u64-requires-clause-upper_bound : goal.truncating_f64_to_u64-requires-clause-upper_bound
unfolding of_bits
truncating_f64_to_u64-requires-clause-upper_bound c = below_2_64 c.args.x (yes c.if-x-2.true)

-- the whole part lies below 2 ^ 52
small : (w : goal.After-truncating_f64_to_u64) → w.truncating_f64_to_u64.result < 4503599627370496
unfolding of_bits
small w =
    subst (λ (n : ℕ). n < 4503599627370496) (sym w.truncating_f64_to_u64.ensures) (count_small w.args.x (yes w.if-x.true) (yes w.if-x-2.true))

pub overflow_cast-result : goal.overflow_cast-result
overflow_cast-result c = in_range c.truncating_f64_to_u64.result (small c)

pub returns-then-x-2 : goal.returns-then-x-2
unfolding of_bits
returns-then-x-2 c =
    let x = c.args.x in
    whole_part x c.truncating_f64_to_u64.result c.truncating_f64_to_u64.ensures (small c) (floor_small x (yes c.if-x.true) (yes c.if-x-2.true))
