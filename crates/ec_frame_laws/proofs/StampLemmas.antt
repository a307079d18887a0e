-- The stamps of a capture file, one after the other.
use Rattle.std.proofs.Common.{inl, inr, ℕ, zero, suc, ◌+◌, ◌*◌, ◌<◌, ◌≤◌, List, [], ◌∷◌, length, take, get_or, sum_by, subst, arith}
use Rattle.std.proofs.Math.Nat.{mul-le-mul_right}
use Rattle.std.proofs.lemmas.List.Sums.{sum_by-cons, sum_by_more_le}
use Rattle.ec_units.specs.declared.slave.Place.{Place}
use Rattle.ec_units.specs.declared.units.Units.{Units}
use Rattle.ec_units.specs.Load.{loads_of}
use Rattle.ec_units.specs.Views.{units_view}
use Rattle.ec_wire.specs.Wire.{ns_of}
use Rattle.ec_loads.specs.Cost.{plan_items, IsBusiest}
use Rattle.ec_fmmu.specs.declared.mapping.Mapping.{Mapping}
use Rattle.ec_frame_builder.specs.Frames.{IsLayoutFor}
use Rattle.ec_frame_text.specs.Lines.{wire_bytes}
use Rattle.ec_frame_text.specs.Captures.{stamp}
use Rattle.ec_frame_laws.specs.Stamps.{frames_at, passed_at, StampsRise}
use Rattle.ec_frame_laws.proofs.WireLemmas.{file-cost}

-- what stands before one place, and what stands there, stands before each later place
part-sum : (f : List ℕ → ℕ) (xs : List (List ℕ)) (i j : ℕ) → i < length xs → i < j → sum_by f (take i xs) + f (get_or xs i []) ≤ sum_by f (take j xs)
part-sum f [] i j l h = absurd (omega (arith, l))
part-sum f (x ∷ xs) zero zero l h = absurd (omega (arith, h))
part-sum f (x ∷ xs) zero (suc j) l h = omega (arith, sum_by-cons f x (take j xs))
part-sum f (x ∷ xs) (suc i) zero l h = absurd (omega (arith, h))
part-sum f (x ∷ xs) (suc i) (suc j) l h = omega (arith, sum_by-cons f x (take i xs), sum_by-cons f x (take j xs), part-sum f xs i j (omega (arith, l)) (omega (arith, h)))

same-tick : (start : ℕ) (frames : List (List ℕ)) (i j : ℕ) → i < length frames → i < j → passed_at start frames i ≤ stamp start frames j
same-tick start frames i j l h = omega (arith, part-sum wire_bytes frames i j l h)

next-tick : (t u length_ns ends b : ℕ) → t < u → ends ≤ t * length_ns + length_ns → u * length_ns ≤ b → ends ≤ b
next-tick t u length_ns ends b l h g =
    let more : t * length_ns + length_ns ≤ u * length_ns = omega (arith, mul-le-mul_right {m = t + 1} {n = u} length_ns (omega (arith, l))) in
    omega (arith, more, h, g)

pub stamps-rise : (us : Units) (ps : List Place) (m : Mapping) (top : ℕ) → IsLayoutFor us ps m → IsBusiest (plan_items (loads_of us.units) ps) us.slots top → ns_of top ≤ us.tick_ns → StampsRise (units_view us) m
stamps-rise us ps m top laid most fits t i u j l (inl h) =
    let frames = frames_at (units_view us) m t in
    let part = sum_by_more_le wire_bytes frames i [] l in
    let cost = file-cost us ps m t laid in
    let low = most.most t in
    next-tick t u us.tick_ns (passed_at (t * us.tick_ns) frames i) (stamp (u * us.tick_ns) (frames_at (units_view us) m u) j) h (omega (arith, part, cost, low, fits)) (omega arith)
stamps-rise us ps m top laid most fits t i u j l (inr h) =
    subst (λ w. passed_at (t * us.tick_ns) (frames_at (units_view us) m t) i ≤ stamp (w * us.tick_ns) (frames_at (units_view us) m w) j) h.0
    (same-tick (t * us.tick_ns) (frames_at (units_view us) m t) i j l h.1)
