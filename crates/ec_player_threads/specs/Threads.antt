-- Slaves in a line, each in a thread of its own, with a ring from each to the next.
use Rattle.std.specs.Prelude.{◌≡◌, ℕ, List, [], ◌∷◌, IfSome}
use Rattle.rtrb.specs.Ends.{SameRing}
use Rattle.rtrb.specs.Ring.{received, all_sent, SameConsumer}
use Rattle.ec_slave.specs.Journey.{outs, final}
use Rattle.ec_player.specs.Boxes.{bytes_in}
use Rattle.ec_player_threads.specs.Frames.{Link}
use Rattle.ec_player_threads.specs.declared.carrying.Back.{Back}
use Rattle.ec_player_threads.specs.declared.carrying.Carried.{Carried}

module _ {X : Type 0} where
  -- from the ring of e on, each thread takes where the one before it puts, and the last puts to the ring of c
  abbrev pub Linked : Link → List (Carried X) → Link → Type 0
  Linked e [] c = SameRing e c
  Linked e (p ∷ ps) c = SameRing e p.taken.value.end × Linked p.put.value.end ps c

module _ {X : Type 0} (out : X → List ℕ → List ℕ) (next : X → List ℕ → X) where
  -- what a thread put is what its slave makes of what it took, and it hands back that slave and these ends
  abbrev pub Carries : Carried X → Back X → Type 0
  Carries p r =
      SameConsumer p.taken.value r.taken × (r.slave ≡ final out next p.slave.value (bytes_in (received r.taken)))
      × IfSome r.put (λ f. SameRing p.put.value.end f.end × (bytes_in (all_sent f) ≡ outs out next p.slave.value (bytes_in (received r.taken))))
