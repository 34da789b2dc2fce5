-- What `==ᶻ` means, and that it is what the machine does when it compares the bits of an i64 with those of a literal; and an i64 through its bits. Assumes nothing.
use Rattle.std.proofs.Common.{◌≡◌, ℕ, suc, ◌-◌, ◌^◌, ◌<◌, Bool, true, false, T, eqb, ◌↔◌, ℤ, pos, negsuc, sym, refl, ap, ◌∙◌, subst, arith, eqb→eq, w64, SFits, to_z, of_z, to_z-of_z}
use lib.Signed.{mag}
use lib.Dec.{eqb_refl, not_T}
use lib.Ieee.Bits.{is_true, is_false}
use lib.Ieee.Fits.{eq→eqb}
use Rattle.f64_helpers.specs.Integers.{◌==ᶻ◌}

pub equals_means : (z : ℤ) (k : ℕ) → T (z ==ᶻ k) ↔ (z ≡ pos k)
equals_means (pos n) k = (λ t. ap pos (eqb→eq n k t), λ e. subst (λ (z : ℤ). T (z ==ᶻ k)) (sym e) (eqb_refl k))
equals_means (negsuc n) k = (λ t. absurd t, λ e. subst (λ (z : ℤ). T (z ==ᶻ k)) (sym e) (eqb_refl k))

far : (n k : ℕ) → n < 9223372036854775808 → k < 9223372036854775808 → 18446744073709551616 - suc n ≡ k → ⊥
far n k p q e = omega arith

shown : (b : Bool) → T b → b ≡ true
shown = is_true

pub equals_literal : (z : ℤ) (k : ℕ) → SFits w64 z → k < 2 ^ 63 → eqb (of_z w64 z) k ≡ (z ==ᶻ k)
equals_literal (pos n) k f l = refl
equals_literal (negsuc n) k f l = is_false (eqb (18446744073709551616 - suc n) k) (not_T (eqb (18446744073709551616 - suc n) k) (λ t. far n k f.sfits l (eqb→eq (18446744073709551616 - suc n) k t)))

-- the same, from what a branch on the test tells
pub is_literal : (z : ℤ) (k : ℕ) → SFits w64 z → k < 2 ^ 63 → of_z w64 z ≡ k → (z ==ᶻ k) ≡ true
is_literal z k f l e = sym (equals_literal z k f l) ∙ shown (eqb (of_z w64 z) k) (eq→eqb e)

pub is_not_literal : (z : ℤ) (k : ℕ) → SFits w64 z → k < 2 ^ 63 → (of_z w64 z ≡ k → ⊥) → (z ==ᶻ k) ≡ false
is_not_literal z k f l e = sym (equals_literal z k f l) ∙ is_false (eqb (of_z w64 z) k) (not_T (eqb (of_z w64 z) k) (λ t. e (eqb→eq (of_z w64 z) k t)))

-- an i64 comes back from its bits as it was
pub i64_kept : (z : ℤ) → mag z < 9223372036854775808 → to_z w64 (of_z w64 z) ≡ z
i64_kept z h = to_z-of_z {w = w64} {z = z} (record { sfits = h })
