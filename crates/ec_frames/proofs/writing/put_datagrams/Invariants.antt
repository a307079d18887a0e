use Rattle.std.proofs.Common.{◌≡◌, ◌+◌, ◌*◌, ◌++◌, ◌≤◌, false, length, drop, sum_by}
use Rattle.std.specs.List.{list_any}
use Rattle.std.specs.Prelude.{nat_lt}
use Rattle.ec_frames.specs.Written.{datagrams_bytes, total_of}
use Rattle.ec_frames.proofs.writing.put_datagrams.Given as goal

abbrev pub invariant-loop-index : goal.invariant-loop-index
invariant-loop-index l = record {
  written : l.frame.items ++ datagrams_bytes l.index (drop l.index l.list) (drop l.at l.bytes) ≡ l.initial.frame.items ++ datagrams_bytes 0 l.list l.bytes;
  given : l.at + sum_by (λ d. d.len) (drop l.index l.list) ≡ length l.bytes;
  room : length l.frame.items + total_of (drop l.index l.list) ≤ 1514;
  many : 12 * l.index ≤ length l.frame.items;
  short : list_any (λ d. nat_lt 1486 d.len) (drop l.index l.list) ≡ false;
}
