use Rattle.std.proofs.Common.{◌≡◌, ℕ, ◌%◌, length, map, ap, ◌∙◌, arith}
use Rattle.arrayvec.specs.ArrayVec.{ArrayVec}
use Rattle.ec_units.specs.Together.{stations_of}
use Rattle.ec_frame_builder.specs.Start.{starts_of}
use Rattle.ec_frame_builder.proofs.StartLemmas.{pairs-each, few-stations}
use Rattle.ec_player.specs.Trips.{sent_in, starts_from}
use Rattle.ec_player.proofs.TripLemmas.{starts-are, as-many}
use Rattle.ec_player.proofs.trips.start_trips.Goals as goal

pub returns-clause-sents : goal.returns-clause-sents
returns-clause-sents c =
    let stations = stations_of c.args.units.now.units in
    let each = ap length c.as_slice.ensures ∙ pairs-each c.args.units.now c.requires.0 c.args.mapping.now c.requires.1 in
    let few = few-stations c.args.units.now.units in
    let many : length c.as_slice.result.now % 65536 ≡ length stations = omega (arith, each, few, c.args.units.now.unit_count.1) in
    let frames = ap (map (λ (frame : ArrayVec ℕ). frame.items)) c.as_slice-2.ensures.value ∙ c.in_ok-frames.ensures.frames in
    c.in_ok-trips.ensures ∙ (λ i. starts_from 0 (many i) (frames i)) ∙ starts-are stations c.args.mapping.now.fmmus

pub returns-clause-few : goal.returns-clause-few
returns-clause-few c =
    let stations = stations_of c.args.units.now.units in
    let each = ap length c.as_slice.ensures ∙ pairs-each c.args.units.now c.requires.0 c.args.mapping.now c.requires.1 in
    let few = few-stations c.args.units.now.units in
    let many : length c.as_slice.result.now % 65536 ≡ length stations = omega (arith, each, few, c.args.units.now.unit_count.1) in
    let frames = ap (map (λ (frame : ArrayVec ℕ). frame.items)) c.as_slice-2.ensures.value ∙ c.in_ok-frames.ensures.frames in
    let same = as-many sent_in (λ (frame : ArrayVec ℕ). frame.items) c.in_ok-trips.trips.items c.in_ok-frames.frames.items (starts_of c.args.units.now c.args.mapping.now)
    (c.in_ok-trips.ensures ∙ (λ i. starts_from 0 (many i) (frames i)) ∙ starts-are stations c.args.mapping.now.fmmus) c.in_ok-frames.ensures.frames in
    omega (arith, same, c.in_ok-frames.ensures.few)
