-- `cdl_recurrences::buildings_round_six` meets its contract. Assumes nothing.
use mathlib.Core.Path.{◌≡◌, sym, ◌∙◌}
use Rattle.std.proofs.Common.{Bool, true, if◌then◌else◌}
use lib.Ieee.{Float, binary64, fits, of_bits, neg}
use Rattle.f64_helpers.specs.Seconds.{is_time}
use Rattle.f64_helpers.specs.F64.{◌>ᶠ◌, zero}
use Rattle.f64_helpers.proofs.Tests.{yes}
use Rattle.cdl_recurrences.specs.CdlRecurrences.{buildings_round_six}
use Rattle.cdl_recurrences.proofs.SampleGrid.{round_six_time}
use Rattle.cdl_recurrences.proofs.buildings_round_six.Goals as goal

-- after a yes of `is_time`
of_a_time : (x : Float) (yes_of_it : Bool) → fits binary64 x ≡ true → yes_of_it ≡ is_time x → yes_of_it ≡ true → buildings_round_six x ≡ (if x >ᶠ zero then x else neg zero)
of_a_time x b f e h = round_six_time x (yes f) (yes (sym e ∙ h))

pub returns-then-x : goal.returns-then-x
unfolding of_bits
returns-then-x c = rw (of_a_time c.args.x c.is_time.result c.well_formed.0.1 c.is_time.ensures c.if-is_time.true, c.if-x.true)

pub returns-else-x : goal.returns-else-x
unfolding of_bits neg
returns-else-x c = rw (of_a_time c.args.x c.is_time.result c.well_formed.0.1 c.is_time.ensures c.if-is_time.true, c.if-x.false)
