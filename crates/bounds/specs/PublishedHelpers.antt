-- The five helpers of which document 01's rule and the published Rust's text are not the same words: `clamp`, `hysteresis` and
-- `sample_index` of cdl_recurrences.rs, and f64's `max` and `min`. docs/DIFFERENCES.md has the inputs that tell the two apart.
-- Here each stands in both forms, so that one controller text can be read over either (PublishedController.antt).
use Rattle.std.specs.Prelude.{◌≡◌, ◌⊎◌, Bool, true, false, ℤ, pos, Float, if◌then◌else◌}
use Rattle.std.specs.Float.{fin}
use Rattle.f64_helpers.specs.F64.{◌⊕◌, ◌⊖◌, ◌⊘◌, ◌<ᶠ◌, ◌>ᶠ◌, decimal}
use Rattle.f64_helpers.specs.Helpers as F64Helpers
use Rattle.f64_helpers.specs.Helpers.{floor, as_i64, negative, both_zero}
use Rattle.cdl_recurrences.specs.CdlRecurrences as CdlRecurrences

-- the five helpers in some form
pub record Helpers : Type 0 where
  pub clamp : Float → Float → Float → Float
  pub hysteresis : Float → Float → Float → Bool → Bool
  pub sample_index : Float → Float → Float → ℤ
  pub max : Float → Float → Float
  pub min : Float → Float → Float

-- document 01's: the delivered definitions
abbrev pub document_01 : Helpers
document_01 =
    record {
      clamp = CdlRecurrences.clamp;
      hysteresis = CdlRecurrences.hysteresis;
      sample_index = CdlRecurrences.sample_index;
      max = F64Helpers.max;
      min = F64Helpers.min;
    }

-- ---- the published cdl_recurrences.rs, over the `max` and `min` that the machine's f64 has

-- Rust `clamp`: `min.max(value.min(max))`
unfoldable pub published_clamp : (Float → Float → Float) → (Float → Float → Float) → Float → Float → Float → Float
published_clamp max min value low high = max low (min value high)

-- Rust `hysteresis`, of one value after `previous`
unfoldable pub published_hysteresis : Float → Float → Float → Bool → Bool
published_hysteresis u u_low u_high previous = if u >ᶠ u_high then true else (if u <ᶠ u_low then false else previous)

-- Rust `sample_index`: `((t_now - t0) / period + 1e-9).floor() as i64`
unfoldable pub published_sample_index : Float → Float → Float → ℤ
published_sample_index t_now t0 period = as_i64 (floor ((t_now ⊖ t0) ⊘ period ⊕ decimal 1 1000000000))

abbrev pub published : (Float → Float → Float) → (Float → Float → Float) → Helpers
published max min =
    record {
      clamp = published_clamp max min;
      hysteresis = published_hysteresis;
      sample_index = published_sample_index;
      max = max;
      min = min;
    }

-- ---- Rust leaves open which zero `f64::max` and `f64::min` give of two zeros of unlike sign.
-- A `max` is Rust's if it is document 01's wherever not both are zeros, and gives a zero with the sign of one of the two where both are.
-- It is one function for all calls: a machine that chose anew at each call is not spoken of.
pub record RustMax (max : Float → Float → Float) : Type 0 where
  pub off_zeros : (x y : Float) → both_zero x y ≡ false → max x y ≡ F64Helpers.max x y
  pub of_zeros : (x y : Float) → both_zero x y ≡ true → (max x y ≡ fin (negative x) 0 (pos 0)) ⊎ (max x y ≡ fin (negative y) 0 (pos 0))

-- and so for `min`
pub record RustMin (min : Float → Float → Float) : Type 0 where
  pub off_zeros : (x y : Float) → both_zero x y ≡ false → min x y ≡ F64Helpers.min x y
  pub of_zeros : (x y : Float) → both_zero x y ≡ true → (min x y ≡ fin (negative x) 0 (pos 0)) ⊎ (min x y ≡ fin (negative y) 0 (pos 0))
