-- A first tick in mode 1 with calm readings, for any flow, overrides and fan: claims that need a tick to point at take one of these.
use Rattle.std.specs.Prelude.{Bool, true, ℤ, pos, Float}
use Rattle.f64_helpers.specs.F64.{decimal, zero}
use Rattle.air_box.specs.declared.Tick.{Tick}

abbrev pub bench_tick : Float → ℤ → ℤ → Bool → Tick
bench_tick flow airflow_override damper_override fan =
    record {
      t = zero;
      input = record {
        zone_temperature = decimal 295 1;
        cooling_setpoint = decimal 297 1;
        heating_setpoint = decimal 293 1;
        window_status = true;
        occupancy_status = true;
        operating_mode = pos 1;
        co2_setpoint = decimal 894 1;
        co2_concentration = decimal 500 1;
        discharge_air_temperature = decimal 288 1;
        supply_air_temperature = decimal 287 1;
        discharge_airflow = flow;
        airflow_override_index = airflow_override;
        damper_override_index = damper_override;
        supply_fan_status = fan;
      };
    }
