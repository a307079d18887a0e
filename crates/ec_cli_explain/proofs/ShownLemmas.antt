-- Lemmas on text that a terminal shows as it stands.
use Rattle.std.proofs.Common.{◌≡◌, ◌<◌, inl, inr, ℕ, true, List, [], ◌∷◌, ◌++◌, All, IsUtf8, chars, arith, refl, sym, ap, ◌∙◌, append-nil}
use Rattle.std.proofs.lemmas.List.Elements.{All-push, All-weaker, All-nil}
use Rattle.std.proofs.lemmas.Str.Ascii.{IsAscii-from_all}
use Rattle.std.proofs.lemmas.Str.{IsUtf8-encode, chars-append, chars-nil, chars_past_char, chars-IsAscii}
use Rattle.std.specs.Prelude.{encode_utf8}
use Rattle.std.specs.Char.{IsScalar}
use Rattle.ec_cli_explain.specs.IsPlain.{IsPlain}
use Rattle.ec_cli_explain.specs.IsShown.{IsShown, is_told}

-- a character alone
one_char : (letter : ℕ) → IsScalar letter → chars (encode_utf8 letter) ≡ letter ∷ []
one_char letter scalar = chars_past_char (encode_utf8 letter) [] letter (IsUtf8-encode letter scalar) (sym (append-nil (encode_utf8 letter))) ∙ ap (λ rest. letter ∷ rest) chars-nil

-- a text, and a character behind it
pub shown_push : (bytes : List ℕ) (letter : ℕ) → IsUtf8 bytes → IsScalar letter → IsShown bytes → is_told letter ≡ true → IsShown (bytes ++ encode_utf8 letter)
shown_push bytes letter utf8 scalar shown told =
    let whole : chars (bytes ++ encode_utf8 letter) ≡ chars bytes ++ letter ∷ [] = chars-append bytes (encode_utf8 letter) utf8 ∙ ap (λ rest. chars bytes ++ rest) (one_char letter scalar) in
    rw whole (All-push (λ c. is_told c ≡ true) (chars bytes) letter shown told)

-- a text of no bytes
pub shown_empty : IsShown []
shown_empty = rw chars-nil (All-nil (λ c. is_told c ≡ true))

-- printable ASCII and line feeds
told_plain : (byte : ℕ) → IsPlain byte → is_told byte ≡ true
told_plain byte (inl line_feed) = rw line_feed refl
told_plain byte (inr printable) = grind arith

below_128 : (byte : ℕ) → IsPlain byte → byte < 128
below_128 byte (inl line_feed) = rw line_feed (omega arith)
below_128 byte (inr printable) = omega (arith, printable.1)

pub shown_plain : (bytes : List ℕ) → All IsPlain bytes → IsShown bytes
shown_plain bytes plain =
    let ascii = IsAscii-from_all bytes (All-weaker IsPlain (λ byte. byte < 128) below_128 bytes plain) in
    rw (chars-IsAscii bytes ascii) (All-weaker IsPlain (λ letter. is_told letter ≡ true) told_plain bytes plain)
