-- The datagram at the front, as the code reads it.
use Rattle.std.proofs.Common.{◌≡◌, ℕ, ◌+◌, ◌-◌, ◌/◌, ◌%◌, ◌<◌, ◌≤◌, ◌==◌, List, length, take, drop, slice_index, Some, Err, refl, ap, subst, arith, length-drop, take_all}
use Rattle.byteorder.specs.Endian.{little_number}
use Rattle.std.proofs.lemmas.Bool.{lt-ltb, le-ltb}
use Rattle.ec_frames.specs.Reading.{Entry, word_at, size_at}
use Rattle.ec_frames.specs.Parsing.{entry_at, ended, known_at}
use Rattle.ec_frames.specs.declared.command.Command.{Command}
use Rattle.ec_frames.specs.declared.reading.FrameFault.TheVariants as fault

rest : (s : List ℕ) (n : ℕ) → take (length s - n) (drop n s) ≡ drop n s
rest s n = take_all (length s - n) (drop n s) (omega (arith, length-drop n s))

-- its fields, one by one
pub entry_same : (c : Command) (s : List ℕ) (size word address event counter : ℕ) → size ≡ size_at s → word ≡ word_at s
    → address ≡ little_number 4 (take (length s - 2) (drop 2 s)) → event ≡ little_number 2 (take (length s - 8) (drop 8 s)) → counter ≡ little_number 2 (take (length s - (10 + size)) (drop (10 + size) s))
    → let e : Entry = record { command = c; index = slice_index s 1; address = address; circulating = word / 16384 % 2 == 1; event = event; counter = counter; bytes = take ((10 + size) - 10) (drop 10 s) } in e ≡ entry_at c s
entry_same c s size word address event counter is w a e k =
    let n : (10 + size) - 10 ≡ size = omega arith in
    rw (n, a, w, e, k, rest s 2, rest s 8, rest s (10 + size), is) refl

-- it goes beyond the end
pub known_past : (c : Command) (s : List ℕ) (size : ℕ) → size ≡ size_at s → length s < size + 12 → Err fault.DataPastEnd ≡ known_at (Some c) s
known_past c s size is less = rw (lt-ltb (length s) (size_at s + 12) (subst (λ n. length s < n + 12) is less)) refl

-- it is there, and its more bit says whether something follows
pub known_ended : (c : Command) (s : List ℕ) (e : Entry) (size word : ℕ) → size ≡ size_at s → word ≡ word_at s → e ≡ entry_at c s → size + 12 ≤ length s
    → ended (word / 32768 % 2 == 1) e (take (length s - (size + 12)) (drop (size + 12) s)) ≡ known_at (Some c) s
known_ended c s e size word is w same room =
    rw (w, same, rest s (size + 12), is, le-ltb (length s) (size_at s + 12) (subst (λ n. n + 12 ≤ length s) is room)) refl

pub rest_shorter : (s r : List ℕ) (size : ℕ) → size + 12 ≤ length s → r ≡ take (length s - (size + 12)) (drop (size + 12) s) → length r + 12 ≤ length s
rest_shorter s r size room is = omega (arith, ap length is, ap length (rest s (size + 12)), length-drop (size + 12) s)
