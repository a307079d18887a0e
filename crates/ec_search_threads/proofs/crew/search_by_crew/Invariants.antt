use Rattle.ec_units.specs.Load.{loads_of}
use Rattle.ec_search_threads.proofs.crew.search_by_crew.Given as goal

abbrev pub ghosts-search_on-S-Ledger : goal.ghosts-search_on-S-Ledger
ghosts-search_on-S-Ledger g a = record { name = a.blank.name; parts = a.blank.parts }

abbrev pub ghosts-search_on-S-Search : goal.ghosts-search_on-S-Search
ghosts-search_on-S-Search g a = record { loads = loads_of a.units.now.units; slots = a.units.now.slots; order = a.order.now; rules = a.book.rules; given = a.book.given; given_value = a.book.given_value; nodes = a.book.nodes; part = a.book.part }
