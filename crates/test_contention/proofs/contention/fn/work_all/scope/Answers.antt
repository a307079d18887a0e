use denote.Param.Send.{param_send, arg_send, recorded_send, struct_send, shr_send}
use Rattle.std.proofs.alloc.Global.TheSendSync as heap
use Rattle.std.proofs.sync.Mutex.TheSendSync as mutex
use Rattle.ec_book_shared.proofs.Sending.{shared_sync}
use Rattle.ec_book_shared.proofs.seat.Seat.TheSendSync as seat
use Rattle.test_contention.proofs.contention.fn.work_all.scope.Goals as goal

pub spawn-requires-send-F : goal.spawn-requires-send-F
spawn-requires-send-F g c κs within = search (param_send, arg_send, recorded_send, struct_send, shr_send, heap.the_send, mutex.the_sync, shared_sync, seat.the_send) depth 20
