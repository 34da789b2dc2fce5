-- Each literal is the f64 of its power of ten, by computation. Assumes nothing.
use mathlib.Core.Path.{◌≡◌, refl, sym, ap, ◌∙◌}
use Prim.Native.Nat.{ℕ, ◌^◌}
use native.Mathlib.Omega.{arith}
use lib.IntN.{pos}
use lib.Ieee.{binary64, of_bits, of_int, round}
use Rattle.decimals.proofs.power_of_ten.Goals as goal

-- the power at `places`, from a computed one
at : (bits n places : ℕ) → of_bits binary64 bits ≡ of_int binary64 (pos (10 ^ n)) → places ≡ n → of_bits binary64 bits ≡ of_int binary64 (pos (10 ^ places))
at bits n places e h = e ∙ ap (λ (z : ℕ). of_int binary64 (pos (10 ^ z))) (sym h)

pub returns-in-0 : goal.returns-in-0
unfolding of_bits of_int round
returns-in-0 c = at 4607182418800017408 0 c.args.places refl c.in-0.is

pub returns-in-1 : goal.returns-in-1
unfolding of_bits of_int round
returns-in-1 c = at 4621819117588971520 1 c.args.places refl c.in-1.is

pub returns-in-2 : goal.returns-in-2
unfolding of_bits of_int round
returns-in-2 c = at 4636737291354636288 2 c.args.places refl c.in-2.is

pub returns-in-3 : goal.returns-in-3
unfolding of_bits of_int round
returns-in-3 c = at 4652007308841189376 3 c.args.places refl c.in-3.is

pub returns-in-4 : goal.returns-in-4
unfolding of_bits of_int round
returns-in-4 c = at 4666723172467343360 4 c.args.places refl c.in-4.is

pub returns-in-5 : goal.returns-in-5
unfolding of_bits of_int round
returns-in-5 c = at 4681608360884174848 5 c.args.places refl c.in-5.is

pub returns-in_default : goal.returns-in_default
unfolding of_bits of_int round
returns-in_default c = at 4696837146684686336 6 c.args.places refl (omega arith)
