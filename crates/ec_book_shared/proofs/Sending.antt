-- The shared book may be reached from several threads.
-- That a closure may go to a thread is searched for through all fields of what it reaches, and that search gives up
-- where these are many. Each lemma here is one step (`report_send`, `book_send`, `locked_send`, `shared_sync`), by
-- `search (sendable, crosses, ..)` with the `TheSendSync` of the structs inside and a depth; the answer of the spawn in
-- `ec_search_threads` then names few rules. A new field that owns memory wants its rule here.
use denote.RattleType.{RattleType}
use denote.Param.Send.{IsSend, IsSync, sendable}
use Rattle.std.proofs.Crossing.{crosses}
use Rattle.std.specs.declared.sync.ledger.Ledger
use Rattle.std.proofs.sync.ledger.Share.TheSendSync as share
use Rattle.std.proofs.sync.ledger.Book.TheSendSync as ledger
use Rattle.std.specs.contracts.sync.Mutex as Mutex
use Rattle.ec_units.specs.contracts.slave.Place as Place
use Rattle.ec_units.proofs.slave.Place.TheSendSync as place
use Rattle.ec_lists.specs.contracts.items.Items as Items
use Rattle.ec_lists.proofs.items.Items.TheSendSync as items
use Rattle.ec_lists.proofs.behind.Behind.TheSendSync as behind
use Rattle.ec_loads.proofs.loads.Loads.TheSendSync as loads
use Rattle.ec_cert.proofs.cert.Best.TheSendSync as best
use Rattle.ec_cert.proofs.tree.Tree.TheLaws.TheKnot as tree
use Rattle.ec_book.proofs.piece.Piece.TheSendSync as piece
use Rattle.ec_book.proofs.step.Step.TheSendSync as step
use Rattle.ec_book.specs.contracts.report.Report as Report
use Rattle.ec_book.specs.contracts.book.Book as Book
use Rattle.ec_book_shared.specs.declared.search.Search
use Rattle.ec_book_shared.specs.contracts.locked.Locked as Locked
use Rattle.ec_book_shared.specs.contracts.shared.Shared as Shared

places_send : IsSend (Items.the_row Place.the_row)
places_send = search (sendable, crosses, items.the_send, place.the_send) depth 20

report_send : IsSend Report.the_row
report_send = search (sendable, crosses, tree.crosses, behind.the_send) depth 20

book_send : IsSend Book.the_row
book_send = search (sendable, crosses, tree.crosses, report_send, behind.the_send, loads.the_send, places_send, best.the_send, piece.the_send, step.the_send) depth 60 fits 20000

locked_send : (T : RattleType) (s : Search.Ghosts T.Denot) (l : Ledger.Ghosts T.Denot) → IsSend T → IsSync T → IsSend (Locked.the_row T s l)
locked_send T s l send sync = search (sendable, crosses, book_send, share.the_send, ledger.the_send) depth 20

lock_sync : (T : RattleType) (s : Search.Ghosts T.Denot) (l : Ledger.Ghosts T.Denot) → IsSend T → IsSync T → IsSync (Mutex.the_row (Locked.the_row T s l))
lock_sync T s l send sync = search (crosses, locked_send) depth 20

pub shared_sync : (T : RattleType) (s : Search.Ghosts T.Denot) (l : Ledger.Ghosts T.Denot) → IsSend T → IsSync T → IsSync (Shared.the_row T s l)
shared_sync T s l send sync = search (sendable, crosses, lock_sync, loads.the_sync) depth 20
