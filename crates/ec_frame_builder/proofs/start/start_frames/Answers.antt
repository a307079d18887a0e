use Rattle.std.proofs.Common.{ℕ, length, map, sym, ap, ◌∙◌, arith}
use Rattle.arrayvec.specs.ArrayVec.{ArrayVec}
use Rattle.ec_units.specs.Together.{stations_of}
use Rattle.ec_frame_builder.specs.Start.{start_list, start_bytes}
use Rattle.ec_frame_builder.proofs.StartLemmas.{few-stations, frames-whole, length-frames, pairs-each}
use Rattle.ec_frame_builder.proofs.start.start_frames.Goals as goal

pub push_namings-requires : goal.push_namings-requires
push_namings-requires c =
    let list = c.as_slice-list.ensures.value ∙ c.in_ok-stations.ensures ∙ ap stations_of c.as_slice.ensures in
    omega (arith, ap length list, few-stations c.args.units.now.units, c.args.units.now.unit_count.1)

pub push_mappings-requires : goal.push_mappings-requires
push_mappings-requires c =
    let list = c.as_slice-list.ensures.value ∙ c.in_ok-stations.ensures ∙ ap stations_of c.as_slice.ensures in
    ap length c.as_slice-2.ensures ∙ pairs-each c.args.units.now c.requires.0 c.args.mapping.now c.requires.1 ∙ sym (ap length list)

pub returns-clause-frames : goal.returns-clause-frames
returns-clause-frames c =
    let list = c.as_slice-list.ensures.value ∙ c.in_ok-stations.ensures ∙ ap stations_of c.as_slice.ensures in
    frames-whole (λ (frame : ArrayVec ℕ). frame.items) _ _ _ c.as_slice-list.result.now c.as_slice-2.result.now
    c.in_ok-frames.ensures c.in_ok-push_namings.ensures c.in_ok-push_mappings.ensures
    ∙ (λ i. map start_bytes (start_list (list i) (c.as_slice-2.ensures i)))

pub returns-clause-count : goal.returns-clause-count
returns-clause-count c =
    let list = c.as_slice-list.ensures.value ∙ c.in_ok-stations.ensures ∙ ap stations_of c.as_slice.ensures in
    length-frames (λ (frame : ArrayVec ℕ). frame.items) _ (stations_of c.args.units.now.units) c.args.mapping.now.fmmus (pairs-each c.args.units.now c.requires.0 c.args.mapping.now c.requires.1)
    (frames-whole (λ (frame : ArrayVec ℕ). frame.items) _ _ _ c.as_slice-list.result.now c.as_slice-2.result.now
    c.in_ok-frames.ensures c.in_ok-push_namings.ensures c.in_ok-push_mappings.ensures
    ∙ (λ i. map start_bytes (start_list (list i) (c.as_slice-2.ensures i))))

pub returns-clause-few : goal.returns-clause-few
returns-clause-few c =
    let list = c.as_slice-list.ensures.value ∙ c.in_ok-stations.ensures ∙ ap stations_of c.as_slice.ensures in
    let count = length-frames (λ (frame : ArrayVec ℕ). frame.items) _ (stations_of c.args.units.now.units) c.args.mapping.now.fmmus (pairs-each c.args.units.now c.requires.0 c.args.mapping.now c.requires.1)
    (frames-whole (λ (frame : ArrayVec ℕ). frame.items) _ _ _ c.as_slice-list.result.now c.as_slice-2.result.now
    c.in_ok-frames.ensures c.in_ok-push_namings.ensures c.in_ok-push_mappings.ensures
    ∙ (λ i. map start_bytes (start_list (list i) (c.as_slice-2.ensures i)))) in
    omega (arith, count, few-stations c.args.units.now.units, c.args.units.now.unit_count.1)
