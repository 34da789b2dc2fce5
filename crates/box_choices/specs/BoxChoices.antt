-- What is chosen when a box is built, as one record that goes from the box to the stages:
--     quiet                          the start choice: whether eight true delays run with delay_on_init (document 02, N4)
--     design_minimum_flow            the design minimum, which stands where the Rust has its constant DESIGN_MINIMUM_FLOW (N13)
--     design_cooling_maximum_flow    the cooling maximum, which stands where it has DESIGN_COOLING_MAXIMUM_FLOW (N13)
--     second_reading                 the reading of the airflow sensor alarm: false the first, which is the Rust's, true the second (N12)
use Rattle.std.specs.Prelude.{Bool, false, Float}
use Rattle.f64_helpers.specs.F64.{decimal}
use Rattle.box_choices.specs.declared.Choices.{Choices}

-- the choices by their fields
abbrev pub chosen : Bool → Float → Float → Bool → Choices
chosen quiet minimum maximum second_reading =
    record {
      quiet = quiet;
      design_minimum_flow = minimum;
      design_cooling_maximum_flow = maximum;
      second_reading = second_reading;
    }

-- those with the Rust's two constants and its reading, which a box has that is built without naming design flows or a reading
abbrev pub usual : Bool → Choices
usual quiet = chosen quiet (decimal 5 10) (decimal 15 10) false
