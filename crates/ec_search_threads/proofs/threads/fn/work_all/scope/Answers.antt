use denote.Param.Send.{param_send, arg_send, recorded_send, struct_send, shr_send}
use Rattle.std.proofs.alloc.Global.TheSendSync as heap
use Rattle.std.proofs.sync.Mutex.TheSendSync as mutex
use Rattle.ec_book_shared.proofs.Sending.{shared_sync}
use Rattle.ec_search_threads.proofs.post.Post.TheSendSync as post
use Rattle.ec_search_threads.proofs.threads.fn.work_all.scope.Goals as goal

pub spawn-started-requires-send-F : goal.spawn-started-requires-send-F
spawn-started-requires-send-F g c κs within = search (param_send, arg_send, recorded_send, struct_send, shr_send, heap.the_send, mutex.the_sync, shared_sync, post.the_send) depth 20
