use Rattle.std.proofs.Common.{◌≡◌, ◌+◌, [], ◌∷◌, sym, ap, ◌∙◌, arith}
use Rattle.ec_fmmu.specs.Layout.{outputs, inputs, process_byte, address_of}
use Rattle.ec_fmmu.specs.Mappings.{fmmu_for}
use Rattle.ec_fmmu.proofs.AddressLemmas.{address-output, address-input}
use Rattle.ec_fmmu.proofs.mapping.pair_of.Goals as goal

pub returns : goal.returns
returns c =
    let seats = c.args.seats.now in
    let x = c.args.seat.now in
    let h = c.requires.held in
    let a = address-output seats x h.0 0 h.1 (sym h.2) c.requires.kept.rising (omega arith) in
    let b = address-input seats x h.0 0 h.1 (sym h.2) c.requires.kept.rising (omega arith) in
    let out_start : c.seat_start-start.result ≡ address_of seats (process_byte x outputs 0) = omega (arith, a, c.seat_start-start.ensures.start) in
    let in_start : c.seat_start-start.result + c.from.result ≡ address_of seats (process_byte x inputs 0) = omega (arith, b, c.seat_start-start.ensures.start, c.from.ensures) in
    λ i.
    (c.record_of-outputs.ensures ∙ ap (λ w. fmmu_for 2 w x.out_bytes x.out_at) out_start) i
    ∷ (c.record_of-inputs.ensures ∙ ap (λ w. fmmu_for 1 w x.in_bytes x.in_at) in_start) i ∷ []
