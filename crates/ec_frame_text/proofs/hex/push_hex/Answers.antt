use Rattle.std.proofs.Common.{◌≡◌, ◌<◌, ◌++◌, ◌∷◌, [], ◌/◌, ◌%◌, get_or, take, string_bytes, ◌∙◌, ap, rules, arith, false}
use Rattle.std.specs.Fmt.{digit_glyph}
use Rattle.std.proofs.lemmas.Fmt.{hex_byte}
use Rattle.std.proofs.lemmas.List.{take_more, flat_map_more}
use Rattle.ec_frame_text.proofs.hex.push_hex.Goals as goal

pub loop-byte-preserved : goal.loop-byte-preserved
loop-byte-preserved c =
    let i = c.loop-byte.byte-index in
    let b = get_or c.args.bytes.now i 0 in
    let fits : b < 256 = omega (arith, c.type_inv.bytes i) in
    let digits = hex_byte false b fits in
    let wrote : string_bytes c.write.new.self ≡ string_bytes c.loop-byte.text ++ digit_glyph false (b / 16) ∷ digit_glyph false (b % 16) ∷ [] = rw (← digits) (search rules) in
    rw (take_more c.args.bytes.now i 0 c.loop-byte-test.true, ← flat_map_more (λ x. digit_glyph false (x / 16) ∷ digit_glyph false (x % 16) ∷ []) (string_bytes c.args.text.now) (take i c.args.bytes.now) b)
    (wrote ∙ ap (λ l. l ++ digit_glyph false (b / 16) ∷ digit_glyph false (b % 16) ∷ []) c.loop-byte.invariant)
