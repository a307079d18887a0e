-- What stands where after a piece of a list was put in place of one of another.
use Rattle.std.proofs.Common.{◌≡◌, inl, inr, ℕ, ◌+◌, ◌-◌, ◌<◌, ◌≤◌, min, max, true, false, ◌&&◌, Bool, cond, List, ◌++◌, length, take, drop, get_or, unwrap_or, Some, None, refl, ap, sym, ◌∙◌, arith, length-take, length-drop}
use Rattle.std.specs.Prelude.{nat_lt, nat_le}
use Rattle.std.proofs.lemmas.Bool.{cases_lt}
use Rattle.std.proofs.lemmas.Bool.Decides.{nat_tests}
use Rattle.std.proofs.lemmas.List.{get_or-take, get_or-drop, get_or_past}
use Rattle.ec_slave.specs.Access.{put}
use Rattle.ec_slave.proofs.WriteLemmas.{put-before, put-inside, put-behind}

-- w bytes of `bytes`, from `of` on, are put from `at` on
pub put-piece : (list bytes : List ℕ) (at of w k : ℕ) → at + w ≤ length list → of + w ≤ length bytes →
    get_or (put at (take w (drop of bytes)) list) k 0 ≡ cond (nat_le at k && nat_lt k (at + w)) (get_or bytes (of + (k - at)) 0) (get_or list k 0)
put-piece list bytes at of w k room fits =
    let piece = take w (drop of bytes) in
    let len : length piece ≡ w = omega (arith, fits, length-take w (drop of bytes), length-drop of bytes) in
    let inside : at + length piece ≤ length list = omega (arith, room, len) in
    elim (cases_lt k at) [
      | inl early ↦ let t : (nat_le at k && nat_lt k (at + w)) ≡ false = grind (arith, nat_tests) in put-before at piece list k inside early ∙ rw t refl
      | inr low ↦ elim (cases_lt k (at + w)) [
        | inl high ↦
            let t : (nat_le at k && nat_lt k (at + w)) ≡ true = grind (arith, nat_tests) in
            put-inside at piece list k inside low (omega (arith, high, len))
            ∙ get_or-take w (drop of bytes) (k - at) 0 (omega (arith, low, high))
            ∙ get_or-drop of bytes (k - at) 0
            ∙ rw t refl
        | inr late ↦ let t : (nat_le at k && nat_lt k (at + w)) ≡ false = grind (arith, nat_tests) in put-behind at piece list k inside (omega (arith, late, len)) ∙ rw t refl
      ]
    ]

-- the bytes from `from` up to `to`, as far as there are some, in their own place
pub copied : (list bytes now : List ℕ) (from end to k : ℕ) → from < end → end ≡ min to (length list) → length bytes ≡ length list → now ≡ take (end - from) (drop from bytes) →
    get_or (take from list ++ (now ++ drop (end - from) (drop from list))) k 0 ≡ cond (nat_le from k && nat_lt k to) (get_or bytes k 0) (get_or list k 0)
copied list bytes now from end to k some is same now_is =
    let w = end - from in
    let inside : end ≤ length list = omega (arith, is) in
    let below : end ≤ to = omega (arith, is) in
    let room : from + w ≤ length list = omega (arith, some, inside) in
    let fits : from + w ≤ length bytes = omega (arith, room, same) in
    let len : length (take w (drop from bytes)) ≡ w = omega (arith, fits, length-take w (drop from bytes), length-drop from bytes) in
    let shape : get_or (take from list ++ (now ++ drop w (drop from list))) k 0 ≡ get_or (put from (take w (drop from bytes)) list) k 0 =
    ap (λ (x : List ℕ). get_or (take from list ++ (x ++ drop w (drop from list))) k 0) now_is
    ∙ ap (λ (n : ℕ). get_or (take from list ++ (take w (drop from bytes) ++ drop n (drop from list))) k 0) (sym len) in
    let piece = shape ∙ put-piece list bytes from from w k room fits in
    elim (cases_lt k from) [
      | inl early ↦
          let t : (nat_le from k && nat_lt k (from + w)) ≡ false = grind (arith, nat_tests) in
          let u : (nat_le from k && nat_lt k to) ≡ false = grind (arith, nat_tests) in
          piece ∙ rw (t, u) refl
      | inr low ↦ elim (cases_lt k end) [
        | inl high ↦
            let t : (nat_le from k && nat_lt k (from + w)) ≡ true = grind (arith, nat_tests) in
            let u : (nat_le from k && nat_lt k to) ≡ true = grind (arith, nat_tests) in
            let at : from + (k - from) ≡ k = omega (arith, low) in
            piece ∙ rw (t, u) (ap (λ (i : ℕ). get_or bytes i 0) at)
        | inr late ↦
            let t : (nat_le from k && nat_lt k (from + w)) ≡ false = grind (arith, nat_tests) in
            elim (cases_lt k to) [
              | inl before ↦
                  let u : (nat_le from k && nat_lt k to) ≡ true = grind (arith, nat_tests) in
                  let past : length list ≤ k = omega (arith, is, late, before) in
                  piece ∙ rw (t, u) (get_or_past list k 0 past ∙ sym (get_or_past bytes k 0 (omega (arith, past, same))))
              | inr behind ↦
                  let u : (nat_le from k && nat_lt k to) ≡ false = grind (arith, nat_tests) in
                  piece ∙ rw (t, u) refl
            ]
      ]
    ]

-- the bytes of a datagram from a logical address on, as far as they are those of an image from 65536 on
pub brought : (came bytes now : List ℕ) (address from to k : ℕ) → from ≡ max address 65536 → to ≡ min (address + length bytes) (65536 + length came) → from < to →
    now ≡ take (to - address - (from - address)) (drop (from - address) bytes) → k < length came →
    get_or (take (from - 65536) came ++ (now ++ drop (to - 65536 - (from - 65536)) (drop (from - 65536) came))) k 0
    ≡ cond (nat_le address (65536 + k) && nat_lt (65536 + k) (address + length bytes)) (get_or bytes (65536 + k - address) 0) (get_or came k 0)
brought came bytes now address from to k first last some now_is below =
    let at = from - 65536 in
    let w = to - 65536 - (from - 65536) in
    let of = from - address in
    let wide : to - address - (from - address) ≡ w = omega (arith, first, last, some) in
    let room : at + w ≤ length came = omega (arith, first, last, some) in
    let fits : of + w ≤ length bytes = omega (arith, first, last, some) in
    let len : length (take w (drop of bytes)) ≡ w = omega (arith, fits, length-take w (drop of bytes), length-drop of bytes) in
    let shape : get_or (take at came ++ (now ++ drop w (drop at came))) k 0 ≡ get_or (put at (take w (drop of bytes)) came) k 0 =
    ap (λ (x : List ℕ). get_or (take at came ++ (x ++ drop w (drop at came))) k 0) (now_is ∙ ap (λ (n : ℕ). take n (drop of bytes)) wide)
    ∙ ap (λ (n : ℕ). get_or (take at came ++ (take w (drop of bytes) ++ drop n (drop at came))) k 0) (sym len) in
    let piece = shape ∙ put-piece came bytes at of w k room fits in
    elim (cases_lt k at) [
      | inl early ↦
          let t : (nat_le at k && nat_lt k (at + w)) ≡ false = grind (arith, nat_tests) in
          let low : 65536 + k < address = omega (arith, first, early) in
          let u : (nat_le address (65536 + k) && nat_lt (65536 + k) (address + length bytes)) ≡ false = grind (arith, nat_tests) in
          piece ∙ rw (t, u) refl
      | inr low ↦ elim (cases_lt k (at + w)) [
        | inl high ↦
            let t : (nat_le at k && nat_lt k (at + w)) ≡ true = grind (arith, nat_tests) in
            let from_low : address ≤ 65536 + k = omega (arith, first, low) in
            let to_high : 65536 + k < address + length bytes = omega (arith, first, last, some, high) in
            let u : (nat_le address (65536 + k) && nat_lt (65536 + k) (address + length bytes)) ≡ true = grind (arith, nat_tests) in
            let same : of + (k - at) ≡ 65536 + k - address = omega (arith, first, low) in
            piece ∙ rw (t, u) (ap (λ (i : ℕ). get_or bytes i 0) same)
        | inr late ↦
            let t : (nat_le at k && nat_lt k (at + w)) ≡ false = grind (arith, nat_tests) in
            let past : address + length bytes ≤ 65536 + k = omega (arith, first, last, some, late, below) in
            let u : (nat_le address (65536 + k) && nat_lt (65536 + k) (address + length bytes)) ≡ false = grind (arith, nat_tests) in
            piece ∙ rw (t, u) refl
      ]
    ]

-- a byte that is there just where b says so, else another
pub byte-if : (b : Bool) (x y : ℕ) → cond b x y ≡ unwrap_or (cond b (Some x) None) y
byte-if true x y = refl
byte-if false x y = refl
