use Rattle.std.proofs.Common.{◌≡◌, ◌+◌, ◌<◌, ℕ, List, length, map, sym, ap, ◌∙◌, arith}
use Rattle.arrayvec.specs.ArrayVec.{ArrayVec}
use Rattle.ec_player.specs.Faults.{first_fault, fault_of}
use Rattle.ec_player.specs.Trips.{sent_in}
use Rattle.ec_player.specs.Boxes.{Boxed, bytes_in}
use Rattle.ec_player_threads.proofs.FrontLemmas.{fault-next}
use Rattle.ec_player_threads.proofs.rounds.take_next.Goals as goal

pub returns-clause-fault : goal.returns-clause-fault
returns-clause-fault c =
    let items : Boxed → List ℕ = λ f. f.value.items in
    let backs = c.args.backs.now.items in
    let came : c.len-came.result ≡ length backs = omega (arith, c.len-came.ensures, c.args.backs.now.ok.0) in
    let within : c.len-came.result < length c.args.due.now = omega (arith, came, c.requires.few, c.if-came-due.false) in
    c.judge_trip-fault.ensures
    ∙ ap (λ (f : ArrayVec ℕ). fault_of (c.args.from + c.len-came.result) (sent_in c.index-due-came.result) f.items) c.deref.ensures
    ∙ sym (fault-next sent_in items c.args.from c.args.due.now backs c.index-due-came.result c.in-Ok.back c.len-came.result came within c.index-due-came.is c.requires.right)
    ∙ ap (λ w. first_fault c.args.from (map sent_in c.args.due.now) (bytes_in w)) (sym c.push_reserved.ensures.items)
