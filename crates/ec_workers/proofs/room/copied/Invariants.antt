use Rattle.std.proofs.Common.{◌≡◌, take, vec_capacity}
use Rattle.ec_workers.proofs.room.copied.Given as goal

abbrev pub invariant-loop-place : goal.invariant-loop-place
invariant-loop-place l = (l.places.items ≡ take l.place-index l.plan.places) × (vec_capacity l.places ≡ vec_capacity l.initial.places)
