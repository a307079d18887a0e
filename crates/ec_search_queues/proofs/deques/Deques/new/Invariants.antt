use Rattle.std.proofs.Common.{◌≡◌, vec_len, All}
use Rattle.ec_search_queues.specs.Hands.{IsAlone, IsNew}
use Rattle.ec_search_queues.proofs.Firsts.{AreFirst}
use Rattle.ec_search_queues.proofs.deques.Deques.new.Given as goal

abbrev pub invariant-loop-i : goal.invariant-loop-i
invariant-loop-i l = (vec_len l.all ≡ l.workers) × All IsAlone l.all.items × AreFirst (IsNew l.workers) l.i l.all.items
