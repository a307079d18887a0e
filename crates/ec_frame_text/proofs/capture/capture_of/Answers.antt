use Rattle.std.proofs.Common.{List, [], refl, ap, ◌∙◌}
use Rattle.ec_hyper.specs.Lcm.{lcm_of}
use Rattle.ec_units.specs.declared.unit.Load.{Load}
use Rattle.ec_units.specs.Load.{periods_of}
use Rattle.ec_units.specs.Views.{units_view}
use Rattle.ec_units.proofs.Viewed.{loads_of-views}
use Rattle.ec_frame_text.proofs.LineLemmas.{whole_capture}
use Rattle.ec_frame_text.proofs.capture.capture_of.Goals as goal

pub returns : goal.returns
returns c =
    whole_capture c.args.mapping.now (units_view c.args.units.now) [] _ _ c.ticks-ticks.result refl
    (c.ticks-ticks.ensures.value ∙ c.hyper.ensures.value ∙ ap (λ (ls : List Load). lcm_of (periods_of ls)) (loads_of-views c.args.units.now.units)) c.in_ok-file.ensures c.in_ok-push_ticks.ensures
