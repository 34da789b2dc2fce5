-- Memory decides a dead-band comparison exactly where its two tests disagree; over the thresholds that is the claim of N2. Assumes nothing.
use mathlib.Core.Path.{◌≡◌, refl, sym}
use mathlib.Core.Logic.{◌↔◌, ◌⊎◌, inl, inr, ⊎_elim}
use mathlib.Core.Bool.{Bool, true, false, not, xor, ◌&&◌, true≢false}
use lib.Dec.{T}
use lib.Ieee.{Float, binary64, neg, add, sub, mul, lt, is_nan, fits, round}
use Rattle.f64_helpers.specs.F64.{◌⊕◌, ◌⊖◌, ◌<ᶠ◌, ◌>ᶠ◌, ◌≥ᶠ◌, zero}
use Rattle.std.proofs.lemmas.Float.{le_of_lt, lt_of_le_of_lt, lt_of_lt_of_le}
use Rattle.f64_helpers.proofs.Order.{in_order, number_at_most, number_below}
use Rattle.f64_helpers.proofs.Sums.{nan_sum, nan_difference, below_raised, above_raised, below_lowered, above_lowered}
use Rattle.cdl_recurrences.specs.CdlRecurrences.{hysteresis, less_hysteretic, greater_hysteretic, decided_by_memory, dead_band_output}
use Rattle.cdl_recurrences.specs.CdlPieces.{dead_band_by_tests}
use Rattle.cdl_recurrences.specs.DeadBand.{dead_band}
use Rattle.cdl_recurrences.specs.MemoryDecided.{Decided, no_whatever_it_was, HysteresisBand, LessBand, GreaterBand, MemoryDecided}

-- ---- two tests that are settled
-- the answer by the test that counts where the memory is off and the one that counts where it is on
abbrev pub by_tests : Bool → Bool → Bool → Bool
by_tests turns_on stays_on previous = dead_band {A = Unit} (λ x. turns_on) (λ x. stays_on) previous tt

tests_disagree : (turns_on stays_on previous : Bool) → decided_by_memory (by_tests turns_on stays_on) previous ≡ xor turns_on stays_on
unfolding decided_by_memory xor
tests_disagree true true true = refl
tests_disagree true true false = refl
tests_disagree true false true = refl
tests_disagree true false false = refl
tests_disagree false true true = refl
tests_disagree false true false = refl
tests_disagree false false true = refl
tests_disagree false false false = refl

pub output_by_tests : (turns_on stays_on previous : Bool) → dead_band_by_tests previous turns_on stays_on ≡ dead_band_output (by_tests turns_on stays_on) previous
unfolding dead_band_by_tests
output_by_tests turns_on stays_on previous = λ i. record { output = by_tests turns_on stays_on previous; decided_by_memory = sym (tests_disagree turns_on stays_on previous) i }

-- what turns it on keeps it on
kept : (turns_on stays_on previous : Bool) → (T turns_on → T stays_on) → Decided (by_tests turns_on stays_on) previous (not turns_on && stays_on) previous
unfolding decided_by_memory xor
kept true true true f = record { exactly = refl; answer_there = λ b. absurd b }
kept true true false f = record { exactly = refl; answer_there = λ b. absurd b }
kept true false previous f = absurd (f tt)
kept false true true f = record { exactly = refl; answer_there = λ b. refl }
kept false true false f = record { exactly = refl; answer_there = λ b. refl }
kept false false true f = record { exactly = refl; answer_there = λ b. absurd b }
kept false false false f = record { exactly = refl; answer_there = λ b. absurd b }

-- what keeps it on turns it on
turned : (turns_on stays_on previous : Bool) → (T stays_on → T turns_on) → Decided (by_tests turns_on stays_on) previous (turns_on && not stays_on) (not previous)
unfolding decided_by_memory xor
turned true true true f = record { exactly = refl; answer_there = λ b. absurd b }
turned true true false f = record { exactly = refl; answer_there = λ b. absurd b }
turned true false true f = record { exactly = refl; answer_there = λ b. refl }
turned true false false f = record { exactly = refl; answer_there = λ b. refl }
turned false true previous f = absurd (f tt)
turned false false true f = record { exactly = refl; answer_there = λ b. absurd b }
turned false false false f = record { exactly = refl; answer_there = λ b. absurd b }

neither : (turns_on stays_on previous : Bool) → (T turns_on → ⊥) → (T stays_on → ⊥) → dead_band_output (by_tests turns_on stays_on) previous ≡ no_whatever_it_was
unfolding decided_by_memory xor
neither true stays_on previous f g = absurd (f tt)
neither false true previous f g = absurd (g tt)
neither false false true f g = refl
neither false false false f g = refl

only_turning : (turns_on stays_on previous : Bool) → (T stays_on → ⊥) → Decided (by_tests turns_on stays_on) previous turns_on (not previous)
only_turning turns_on true previous f = absurd (f tt)
only_turning true false previous f = turned true false previous (λ s. absurd s)
only_turning false false previous f = turned false false previous (λ s. s)

only_staying : (turns_on stays_on previous : Bool) → (T turns_on → ⊥) → Decided (by_tests turns_on stays_on) previous stays_on previous
only_staying true stays_on previous f = absurd (f tt)
only_staying false stays_on previous f = kept false stays_on previous (λ o. absurd o)

-- ---- the three comparisons
hysteresis_band : (u u_low u_high : Float) (previous : Bool) → HysteresisBand u u_low u_high previous
unfolding hysteresis
hysteresis_band u u_low u_high previous =
    let on = u >ᶠ u_high in
    let stay = u ≥ᶠ u_low in
    record {
      upright = λ l. kept on stay previous (λ p. le_of_lt u_low u (lt_of_le_of_lt u_low u_high u l p));
      turned_round = λ l. turned on stay previous (λ p. lt_of_lt_of_le u_high u_low u l p);
      low_nan = λ n. only_turning on stay previous (number_at_most u_low u (inl n));
      high_nan = λ n. only_staying on stay previous (number_below u_high u (inl n));
      ends_nan = λ l h. neither on stay previous (number_below u_high u (inl h)) (number_at_most u_low u (inl l));
      reading_nan = λ n. neither on stay previous (number_below u_high u (inr n)) (number_at_most u_low u (inr n));
    }

less_band : (u1 u2 h : Float) (previous : Bool) → T (fits binary64 u2) → LessBand u1 u2 h previous
unfolding less_hysteretic
less_band u1 u2 h previous held =
    let on = u1 <ᶠ u2 in
    let stay = u1 <ᶠ u2 ⊕ h in
    record {
      upright = λ l. kept on stay previous (below_raised u1 u2 h held l);
      turned_round = λ l. turned on stay previous (below_lowered u1 u2 h held (le_of_lt h zero l));
      h_nan = λ n. only_turning on stay previous (number_below u1 (u2 ⊕ h) (inr (nan_sum u2 h (inr n))));
      nan_compared = λ n. neither on stay previous (number_below u1 u2 n) (number_below u1 (u2 ⊕ h) (⊎_elim inl (λ z. inr (nan_sum u2 h (inl z))) n));
    }

greater_band : (u1 u2 h : Float) (previous : Bool) → T (fits binary64 u2) → GreaterBand u1 u2 h previous
unfolding greater_hysteretic
greater_band u1 u2 h previous held =
    let on = u1 >ᶠ u2 in
    let stay = u1 >ᶠ u2 ⊖ h in
    record {
      upright = λ l. kept on stay previous (above_lowered u1 u2 h held l);
      turned_round = λ l. turned on stay previous (above_raised u1 u2 h held (le_of_lt h zero l));
      h_nan = λ n. only_turning on stay previous (number_below (u2 ⊖ h) u1 (inl (nan_difference u2 h (inr n))));
      nan_compared = λ n. neither on stay previous (number_below u2 u1 (swap n)) (number_below (u2 ⊖ h) u1 (⊎_elim inr (λ z. inl (nan_difference u2 h (inl z))) n));
    }
  where
    swap : T (is_nan u1) ⊎ T (is_nan u2) → T (is_nan u2) ⊎ T (is_nan u1)
    swap n = ⊎_elim inr inl n

-- ---- N2
other_answer : (a b : Bool) → T (xor a b) ↔ (b ≡ not a)
unfolding xor
other_answer true true = (λ x. absurd x, λ e. absurd (true≢false e))
other_answer true false = (λ x. refl, λ e. tt)
other_answer false true = (λ x. refl, λ e. tt)
other_answer false false = (λ x. absurd x, λ e. absurd (true≢false (sym e)))

pub memory_decided : MemoryDecided
unfolding decided_by_memory greater_hysteretic xor round mul sub add neg lt
memory_decided = record {
  answer_stays = λ answer previous. refl;
  other_memory = λ answer previous. other_answer (answer previous) (answer (not previous));
  hysteresis_band = hysteresis_band;
  less_band = less_band;
  greater_band = greater_band;
  nothing_left_out = in_order;
  after_0_16 = refl;
  as_first_flow = refl;
}
