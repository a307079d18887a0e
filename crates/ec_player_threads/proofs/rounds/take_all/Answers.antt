use Rattle.std.proofs.lemmas.Grind.{common_steps}
use Rattle.std.proofs.Common.{rules, ◌++◌, length, map, refl, sym, ap, ◌∙◌, arith, append-nil}
use Rattle.rtrb.specs.Ring.{received}
use Rattle.ec_player.specs.Faults.{first_fault}
use Rattle.ec_player.specs.Trips.{sent_in}
use Rattle.ec_player.specs.Boxes.{bytes_in}
use Rattle.ec_player_threads.proofs.FrontLemmas.{none_yet}
use Rattle.ec_player_threads.proofs.rounds.take_all.Goals as goal

pub loop-init : goal.loop-init
loop-init g c =
    let none = c.in-Ok.ensures.items in
    record {
      last = ((refl, refl, refl, refl), refl);
      came = sym (append-nil (received c.args.last.now)) ∙ ap (λ w. received c.args.last.now ++ w) (sym none);
      few = omega (arith, ap length none);
      room = c.in-Ok.ensures.exact;
      right = ap (λ w. first_fault c.args.from (map sent_in c.args.due.now) (bytes_in w)) none ∙ none_yet sent_in c.args.from c.args.due.now;
    }

pub returns-then-len-due-clause-many : goal.returns-then-len-due-clause-many
returns-then-len-due-clause-many g c = search rules

pub returns-in-Some-take_next-clause-fault : goal.returns-in-Some-take_next-clause-fault
returns-in-Some-take_next-clause-fault g c = grind (arith, common_steps)
