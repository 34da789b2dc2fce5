-- What a test of the code tells: its answer as a fact, a flag beside one that is false, and `x != x` as the test for a NaN. Assumes nothing.
use Rattle.std.proofs.Common.{◌≡◌, ◌*◌, Bool, true, false, not, ◌&&◌, T, eqb, sym, refl, ◌∙◌}
use mathlib.Core.Bool.{and-false}
use lib.Dec.{eqb_refl}
use Rattle.std.proofs.lemmas.Float.{T_from_true, T_from_false}
use lib.Ieee.{Float, nan, inf, fin, up, down, ne, is_nan}

pub yes : {b : Bool} → b ≡ true → T b
yes h = T_from_true _ h

pub no : {b : Bool} → b ≡ false → T (not b)
no h = T_from_false _ h

pub and_false : (b : Bool) → (b && false) ≡ false
and_false = and-false

-- what differs from itself is a NaN
pub nan_test : (x : Float) → ne x x ≡ is_nan x
nan_test nan = unfold ne is_nan in refl
nan_test (inf true) = unfold ne is_nan in refl
nan_test (inf false) = unfold ne is_nan in refl
nan_test (fin true m e) = unfold ne is_nan in same (eqb (m * up e * down e) (m * up e * down e)) (eqb_refl (m * up e * down e))
  where
    same : (b : Bool) → T b → not (b && true) ≡ false
    same true t = refl
    same false t = elim t [ ]
nan_test (fin false m e) = unfold ne is_nan in same (eqb (m * up e * down e) (m * up e * down e)) (eqb_refl (m * up e * down e))
  where
    same : (b : Bool) → T b → not (b && true) ≡ false
    same true t = refl
    same false t = elim t [ ]

pub is_nan_lem : (x : Float) (b : Bool) → ne x x ≡ b → is_nan x ≡ b
is_nan_lem x b h = sym (nan_test x) ∙ h
