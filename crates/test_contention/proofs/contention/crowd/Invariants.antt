use Rattle.ec_units.specs.Load.{loads_of}
use Rattle.test_contention.proofs.contention.crowd.Given as goal

abbrev pub ghosts-crowd_on-S-Ledger : goal.ghosts-crowd_on-S-Ledger
ghosts-crowd_on-S-Ledger g a = record { name = a.blank.name; parts = a.blank.parts }

abbrev pub ghosts-crowd_on-S-Search : goal.ghosts-crowd_on-S-Search
ghosts-crowd_on-S-Search g a = record { loads = loads_of a.units.now.units; slots = a.units.now.slots; order = a.order.now; rules = a.book.rules; given = a.book.given; given_value = a.book.given_value; nodes = a.book.nodes; part = a.book.part }
