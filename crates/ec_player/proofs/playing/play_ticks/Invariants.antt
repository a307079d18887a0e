use Rattle.std.proofs.Common.{◌≡◌, ℕ, ◌+◌, ◌*◌, ◌<◌, ◌≤◌, [], length, get_or, unwrap_or}
use Rattle.ec_player.specs.Sent.{ticks_sents}
use Rattle.ec_player.specs.Images.{last_byte, all_entries}
use Rattle.ec_player.specs.Lines.{came_back, slaves_after, AreRight}
use Rattle.ec_player.specs.Rows.{rows_of}
use Rattle.ec_player.proofs.playing.play_ticks.Given as goal

abbrev pub invariant-loop-tick : goal.invariant-loop-tick
invariant-loop-tick g l =
    let out = g.X.Pass.out in
    let next = g.X.Pass.next in
    let sents = ticks_sents l.units l.mapping l.image l.tick in
    record {
      right : AreRight out next l.fn.slaves l.from sents;
      number : l.number ≡ l.from + length sents;
      most : l.number ≤ 769 + 8 * l.tick;
      rows : l.rows.items ≡ rows_of out next l.units l.mapping l.image l.fn.slaves [] l.tick;
      slaves : l.slaves ≡ slaves_after out next l.fn.slaves sents;
      len : length l.came.items ≡ length l.image;
      came : (k : ℕ) → k < length l.image → get_or l.came.items k 0 ≡ unwrap_or (last_byte (65536 + k) (all_entries (came_back out next l.fn.slaves sents))) 0;
    }
