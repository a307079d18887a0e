use Rattle.ec_search_threads.proofs.alone.work_alone.Given as goal

abbrev pub ghosts-work_on-S-Search : goal.ghosts-work_on-S-Search
ghosts-work_on-S-Search g a = record { loads = a.book.loads; slots = a.book.slots; order = a.book.order; rules = a.book.rules; given = a.book.given; given_value = a.book.given_value; nodes = a.book.nodes; part = a.book.part }
