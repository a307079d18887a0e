-- Names are ASCII.
use Rattle.std.proofs.Common.{◌≡◌, ◌<◌, ℕ, true, List, [], ◌∷◌, arith}
use Rattle.std.specs.List.{list_all}
use Rattle.std.specs.Str.{IsUtf8}
use Rattle.std.proofs.lemmas.Str.{IsUtf8-from_ascii}
use Rattle.std.proofs.lemmas.Str.Ascii.{IsAscii-from_all}
use Rattle.std.proofs.lemmas.List.Elements.{All-cons, All-nil}
use Rattle.std.specs.List.{All}
use Rattle.std.proofs.lemmas.Bool.{and_parts}
use Rattle.std.proofs.lemmas.Bool.Decides.{nat_tests}
use Rattle.ec_units.specs.Names.{is_name, is_name_byte}

byte_below : (b : ℕ) → is_name_byte b ≡ true → b < 128
byte_below b h = grind (arith, nat_tests)

bytes_below : (bs : List ℕ) → list_all is_name_byte bs ≡ true → All (λ b. b < 128) bs
bytes_below [] h = All-nil (λ b. b < 128)
bytes_below (b ∷ bs) h =
    let parts = and_parts (is_name_byte b) (list_all is_name_byte bs) h in
    All-cons (λ c. c < 128) b bs (byte_below b parts.0) (bytes_below bs parts.1)

pub IsUtf8-from_is_name : (bs : List ℕ) → is_name bs ≡ true → IsUtf8 bs
IsUtf8-from_is_name bs h = IsUtf8-from_ascii bs (IsAscii-from_all bs (bytes_below bs (and_parts _ _ h).1))
