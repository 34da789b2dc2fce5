-- A dead band over readings of any kind, what its output is after a history of readings, and the comparators of CdlRecurrences
-- over a history.
-- A history is a list with the newest reading first.
use Rattle.std.specs.Prelude.{◌≡◌, List, [], ◌∷◌, ◌++◌, Bool, false, not, ◌&&◌, ◌||◌, T, Float}
use Rattle.cdl_recurrences.specs.CdlRecurrences.{hysteresis, less_hysteretic, greater_hysteretic}

-- Off turns on if the reading passes the test `on`; on stays on if it passes the test `stay`.
abbrev pub dead_band : {A : Type 0} → (A → Bool) → (A → Bool) → Bool → A → Bool
dead_band on stay previous x = (not previous && on x) || (previous && stay x)

-- The output after a history, where `next` takes the previous output and the newest reading. Before the first reading it is off.
abbrev pub output_after : {A : Type 0} → (Bool → A → Bool) → List A → Bool
output_after next [] = false
output_after next (x ∷ h) = next (output_after next h) x

abbrev pub dead_band_after : {A : Type 0} → (A → Bool) → (A → Bool) → List A → Bool
dead_band_after on stay = output_after (dead_band on stay)

-- every reading passes the test
abbrev pub AllStay : {A : Type 0} → (A → Bool) → List A → Type 0
AllStay stay [] = Unit
AllStay stay (x ∷ h) = T (stay x) × AllStay stay h

-- The history h is `newer`, then `start`, then `older`.
-- The reading `start` passes the test `on`, and every newer one passes the test `stay`.
pub record Latched {A : Type 0} (on stay : A → Bool) (h : List A) : Type 0 where
  pub newer : List A
  pub start : A
  pub older : List A
  pub parts : h ≡ newer ++ (start ∷ older)
  pub turned_on : T (on start)
  pub stayed : AllStay stay newer

-- two histories of equal length, with R between the readings at each place
abbrev pub Related : {A : Type 0} → (A → A → Type 0) → List A → List A → Type 0
Related R [] [] = Unit
Related R [] (y ∷ h) = ⊥
Related R (x ∷ g) [] = ⊥
Related R (x ∷ g) (y ∷ h) = R x y × Related R g h

-- ---- the comparators over a history of readings, with fixed thresholds
abbrev pub hysteresis_after : Float → Float → List Float → Bool
hysteresis_after u_low u_high = output_after (λ previous u. hysteresis u u_low u_high previous)

abbrev pub less_hysteretic_after : Float → Float → List Float → Bool
less_hysteretic_after u2 h = output_after (λ previous u1. less_hysteretic u1 u2 h previous)

abbrev pub greater_hysteretic_after : Float → Float → List Float → Bool
greater_hysteretic_after u2 h = output_after (λ previous u1. greater_hysteretic u1 u2 h previous)
