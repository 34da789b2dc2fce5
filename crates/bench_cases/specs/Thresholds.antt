-- The thresholds that a loop's output or a damper command is held to, told to the last bit: the answer turns between two neighbouring
-- f64, written as their bits.
-- No night is sure to bring a reading so close, so these hold the definitions where the comparison with the Rust may not reach.
use Rattle.std.specs.Prelude.{None, ◌≡◌, List, [], ◌∷◌, Bool, true, false, ℕ, Float}
use Rattle.std.specs.Float.{binary64}
use Rattle.std.specs.Float.Ieee.{of_bits, eq}
use Rattle.f64_helpers.specs.F64.{decimal, zero}
use Rattle.box_choices.specs.BoxChoices.{usual}
use Rattle.cooling_only_controller_timing.specs.Timing.{fresh_sampler, fresh_true_delay}
use Rattle.cooling_only_controller_conditioning.specs.Conditioning.{control_loops, zone_states}
use Rattle.cooling_only_controller_conditioning.specs.declared.ControlLoopsState.{ControlLoopsState}
use Rattle.cooling_only_controller_timing.specs.declared.Step.{Step}
use Rattle.cooling_only_controller_conditioning.specs.declared.LoopPiState.{LoopPiState}
use Rattle.cooling_only_controller_airflow.specs.Airflow.{system_requests}
use Rattle.cooling_only_controller_airflow.specs.declared.SystemRequestInput.{SystemRequestInput}
use Rattle.cooling_only_controller_conditioning.specs.declared.ControlLoopOutput.{ControlLoopOutput}
use Rattle.cooling_only_controller_airflow.specs.declared.SystemRequestsState.{SystemRequestsState}

-- each test of x, by what it was before
abbrev heating_signal : Bool → Float → Bool
heating_signal was x =
    (zone_states (record { heating_signal = was; cooling_signal = false; heating_tiebreak = false }) x zero).state.heating_signal

abbrev cooling_signal : Bool → Float → Bool
cooling_signal was x =
    (zone_states (record { heating_signal = false; cooling_signal = was; heating_tiebreak = false }) zero x).state.cooling_signal

abbrev heating_tiebreak : Bool → Float → Bool
heating_tiebreak was x =
    (zone_states (record { heating_signal = false; cooling_signal = false; heating_tiebreak = was }) x zero).state.heating_tiebreak

-- a first tick of the two loops, not enabled, with no error and the integrator x, so that the raw output is x
abbrev loops_at : Bool → Float → Step ControlLoopsState ControlLoopOutput
loops_at was x =
    let pi : LoopPiState = record { integrator = x; previous_time = None; previous_trigger = false } in
    let loops : ControlLoopsState = record {
      cooling_enable = false;
      heating_enable = false;
      cooling_pi = pi;
      heating_pi = pi;
      cooling_near_zero = was;
      heating_near_zero = was;
      cooling_delay = fresh_true_delay;
      heating_delay = fresh_true_delay;
    } in
    control_loops loops zero (decimal 297 1) (decimal 297 1) (decimal 297 1)

-- system requests on a first tick, of the cooling loop x and the damper x
abbrev requests_at : Bool → Float → SystemRequestsState
requests_at was x =
    let memories : SystemRequestsState = record {
      hot_three = false;
      hot_two = false;
      hot_three_delay = fresh_true_delay;
      hot_two_delay = fresh_true_delay;
      cooling_sampler = fresh_sampler;
      setpoint_sampler = fresh_sampler;
      discharge_sampler = fresh_sampler;
      damper_sampler = fresh_sampler;
      cooling_high = was;
      setpoint_on = false;
      damper_high = was;
      damper_delay = fresh_true_delay;
      starved_half = false;
      starved_seventy = false;
    } in
    let wanted : SystemRequestInput = record {
      after_suppression = true;
      cooling_setpoint = decimal 297 1;
      zone_temperature = decimal 297 1;
      cooling_loop = x;
      airflow_setpoint = zero;
      discharge_airflow = zero;
      damper_position = x;
    } in
    (system_requests memories zero wanted (usual false)).state

-- a test, the bits of a number at which it says yes, and those of its neighbour, at which it says no
pub record Edge : Type 0 where
  pub test : Float → Bool
  pub yes : ℕ
  pub no : ℕ

abbrev pub edges : List Edge
edges =
    -- 0.05, above which a signal comes on, and 0.01, below which it goes off
    record { test = heating_signal false; yes = 4587366580439587227; no = 4587366580439587226 }
    ∷ record { test = heating_signal true; yes = 4576918229304087675; no = 4576918229304087674 }
    ∷ record { test = cooling_signal false; yes = 4587366580439587227; no = 4587366580439587226 }
    ∷ record { test = cooling_signal true; yes = 4576918229304087675; no = 4576918229304087674 }
    -- 0.01 and -0.01, between which the tie keeps its side
    ∷ record { test = heating_tiebreak false; yes = 4576918229304087676; no = 4576918229304087675 }
    ∷ record { test = heating_tiebreak true; yes = 13800290266158863483; no = 13800290266158863484 }
    -- 0.01, below which a loop is near zero, and 0.01 + 0.008, below which it stays so
    ∷ record { test = λ x. (loops_at false x).state.cooling_near_zero; yes = 4576918229304087674; no = 4576918229304087675 }
    ∷ record { test = λ x. (loops_at true x).state.cooling_near_zero; yes = 4580845368179154747; no = 4580845368179154748 }
    ∷ record { test = λ x. (loops_at false x).state.heating_near_zero; yes = 4576918229304087674; no = 4576918229304087675 }
    ∷ record { test = λ x. (loops_at true x).state.heating_near_zero; yes = 4580845368179154747; no = 4580845368179154748 }
    -- the same edge: a loop that stays near zero is cut to 0, and one that does not is not
    ∷ record { test = λ x. eq (loops_at true x).output.cooling zero; yes = 4580845368179154747; no = 4580845368179154748 }
    ∷ record { test = λ x. eq (loops_at true x).output.heating zero; yes = 4580845368179154747; no = 4580845368179154748 }
    -- 0.95, above which the loop and the damper are high, and 0.94, from which on they stay so
    ∷ record { test = λ x. (requests_at false x).cooling_high; yes = 4606732058837280359; no = 4606732058837280358 }
    ∷ record { test = λ x. (requests_at true x).cooling_high; yes = 4606641986844732948; no = 4606641986844732947 }
    ∷ record { test = λ x. (requests_at false x).damper_high; yes = 4606732058837280359; no = 4606732058837280358 }
    ∷ record { test = λ x. (requests_at true x).damper_high; yes = 4606641986844732948; no = 4606641986844732947 }
    ∷ []

-- at each edge of a list the test turns
abbrev pub Turns : List Edge → Type 0
Turns [] = Unit
Turns (e ∷ es) = (e.test (of_bits binary64 e.yes) ≡ true) × (e.test (of_bits binary64 e.no) ≡ false) × Turns es

-- the claim about the list
abbrev pub ThresholdsHold : Type 0
ThresholdsHold = Turns edges
