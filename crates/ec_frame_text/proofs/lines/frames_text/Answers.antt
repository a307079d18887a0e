use Rattle.std.proofs.Common.{◌≡◌, List, length, map, ap, sym, ◌∙◌, arith}
use Rattle.std.proofs.lemmas.List.{length-map}
use Rattle.ec_hyper.specs.Lcm.{lcm_of}
use Rattle.ec_units.specs.declared.unit.Unit.{Unit as SyncUnit}
use Rattle.ec_units.specs.declared.unit.Load.{Load}
use Rattle.ec_units.specs.Load.{load_of, periods_of}
use Rattle.ec_units.specs.Views.{unit_view, units_view, view_loads}
use Rattle.ec_units.proofs.Viewed.{loads_of-views}
use Rattle.ec_fmmu.specs.Seats.{seats_of}
use Rattle.ec_fmmu.specs.Mappings.{records_of}
use Rattle.ec_frame_text.specs.Lines.{stations_in}
use Rattle.ec_frame_text.proofs.LineLemmas.{station_count, whole_text}
use Rattle.ec_frame_text.proofs.lines.frames_text.Goals as goal

pub push_fmmus-requires : goal.push_fmmus-requires
push_fmmus-requires c =
    let h = c.requires.1 in
    let us = c.args.units.now.units in
    let seats = seats_of (map unit_view us) c.requires.0 in
    let whole : length c.requires.0 ≡ length (map unit_view us) = h.legal.whole ∙ length-map us load_of ∙ sym (length-map us unit_view) in
    ap length (c.as_slice-3.ensures ∙ h.layout.fmmus)
    ∙ length-map seats (records_of seats)
    ∙ station_count 0 (map unit_view us) c.requires.0 whole
    ∙ ap length (sym (c.as_slice-2.ensures.value ∙ c.in_ok-stations.ensures ∙ ap (λ (xs : List SyncUnit). stations_in (map unit_view xs)) c.as_slice.ensures))

pub returns : goal.returns
returns c =
    let ticks : c.ticks-ticks.result ≡ lcm_of (periods_of (view_loads (units_view c.args.units.now).units)) =
    c.ticks-ticks.ensures.value ∙ c.hyper.ensures.value ∙ ap (λ (ls : List Load). lcm_of (periods_of ls)) (loads_of-views c.args.units.now.units) in
    whole_text c.args.mapping.now (units_view c.args.units.now) _ _ _ c.as_slice-2.result.now c.as_slice-3.result.now _ c.new-text.ensures.bytes
    (c.as_slice-2.ensures.value ∙ c.in_ok-stations.ensures ∙ ap (λ (xs : List SyncUnit). stations_in (map unit_view xs)) c.as_slice.ensures) c.as_slice-3.ensures
    c.in_ok-push_fmmus.ensures c.in_ok-push_ticks.ensures (omega (arith, ticks))
