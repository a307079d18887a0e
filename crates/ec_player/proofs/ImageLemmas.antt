-- The bytes that came, frame by frame, and the image.
use Rattle.std.proofs.Common.{◌≡◌, ℕ, ◌+◌, ◌<◌, ◌≤◌, cond, List, [], ◌∷◌, ◌++◌, length, map, take, get_or, unwrap_or, sym, ap, ◌∙◌, append-nil, take_all}
use Rattle.std.specs.List.{range_with_len}
use Rattle.std.proofs.lemmas.List.{map-append, take_more}
use Rattle.std.proofs.lemmas.List.FromFn.{fill_by_all}
use Rattle.ec_frames.specs.Reading.{Entry}
use Rattle.ec_fmmu.specs.declared.fmmu.Fmmu.{Fmmu}
use Rattle.ec_frame_builder.specs.Frames.{is_input}
use Rattle.ec_player.specs.Faults.{entries_of}
use Rattle.ec_player.specs.Images.{last_byte, all_entries, byte_after}
use Rattle.ec_player.proofs.TickLemmas.{bytes-append}

pub bring-step : {F : Type 0} (f : F → List ℕ) (fs : List F) (i : ℕ) (x : F) → i < length fs → x ≡ get_or fs i x → (a d : ℕ) →
    unwrap_or (last_byte a (all_entries (map f (take (i + 1) fs)))) d ≡ unwrap_or (last_byte a (entries_of (f x))) (unwrap_or (last_byte a (all_entries (map f (take i fs)))) d)
bring-step f fs i x l e a d =
    ap (λ w. unwrap_or (last_byte a (all_entries (map f w))) d) (take_more fs i x l ∙ ap (λ w. take i fs ++ w ∷ []) (sym e))
    ∙ ap (λ w. unwrap_or (last_byte a (all_entries w)) d) (map-append f (take i fs) (x ∷ []))
    ∙ bytes-append a d (map f (take i fs)) (f x ∷ [])
    ∙ ap (λ w. unwrap_or (last_byte a w) (unwrap_or (last_byte a (all_entries (map f (take i fs)))) d)) (append-nil (entries_of (f x)))

pub image-all : (fmmus : List (List Fmmu)) (image came bytes : List ℕ) (i : ℕ) (ds : List Entry) → length fmmus ≤ i → length bytes ≡ length image →
    ((k : ℕ) → get_or bytes k 0 ≡ cond (is_input (take i fmmus) (65536 + k)) (get_or came k 0) (get_or image k 0)) →
    ((k : ℕ) → k < length image → get_or came k 0 ≡ unwrap_or (last_byte (65536 + k) ds) 0) → bytes ≡ map (byte_after fmmus image ds) (range_with_len 0 (length image))
image-all fmmus image came bytes i ds l len each h =
    fill_by_all (byte_after fmmus image ds) bytes (length image) 0 len (λ k m. each k ∙ (λ j. cond (is_input (take_all i fmmus l j) (65536 + k)) (h k m j) (get_or image k 0)))
