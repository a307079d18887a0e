-- The value in use follows what the guide knows.
use Rattle.std.proofs.Common.{◌≡◌, ℕ, ◌≤◌, inl, Bool, false, Option, Some, None, refl, sym, ap, subst, arith}
use Rattle.ec_loads.specs.Cost.{IsFirstBusiest}
use Rattle.ec_loads.specs.Held.{Held, items_of}
use Rattle.ec_loads.specs.Search.{IsAtMost, TickHolds}
use Rattle.ec_branch.specs.Walks.{FollowsGuide}
use Rattle.ec_branch.proofs.WalkLemmas.{IsAtMost-trans, below_value}

pub IsAtMost-same : (a : Option ℕ) → IsAtMost a a
IsAtMost-same None = tt
IsAtMost-same (Some a) = omega arith

pub IsAtMost-one : (a b : Option ℕ) → IsAtMost a b → IsAtMost b a → a ≡ b
IsAtMost-one None None h k = refl
IsAtMost-one None (Some b) h k = absurd h
IsAtMost-one (Some a) None h k = absurd k
IsAtMost-one (Some a) (Some b) h k = let same : a ≡ b = omega (arith, h, k) in ap Some same

IsAtMost-none : (a : Option ℕ) → IsAtMost a None
IsAtMost-none None = tt
IsAtMost-none (Some a) = tt

-- it was told a whole plan that is better
pub follows_found : (h : Held) (had : ℕ) (halted : Bool) (was knew first asked knows : Option ℕ) (c b t : ℕ) → IsAtMost asked knew → IsAtMost first asked → IsFirstBusiest (items_of h) h.slots c t
    → ((i : ℕ) → ¬ (TickHolds h.loads h.slots first h.places i)) → b ≤ c → knows ≡ Some b → FollowsGuide had halted was knew (Some b) knows
follows_found h had halted was knew first asked knows c b t falls low busiest unreached less is =
    let under : IsAtMost (Some c) first = below_value h.loads h.slots first h.places c t busiest.reached unreached in
    let lower : IsAtMost (Some b) (Some c) = less in
    record {
      falls = subst (λ w. IsAtMost w knew) (sym is) (IsAtMost-trans (Some b) (Some c) knew lower (IsAtMost-trans (Some c) first knew under (IsAtMost-trans first asked knew low falls)));
      least = λ _. subst (λ w. IsAtMost w (Some b)) (sym is) (IsAtMost-same (Some b));
      most = λ _. subst (λ w. IsAtMost (Some b) w) (sym is) (IsAtMost-same (Some b));
    }

-- a search that begins without a value ends with what the guide knows, which is at most what it knew
pub follows_known : (had : ℕ) (halted : Bool) (knew now knows : Option ℕ) → 1 ≤ had → halted ≡ false → FollowsGuide had halted None knew now knows → now ≡ knows
follows_known had halted knew now knows some runs follows = IsAtMost-one now knows (follows.most (inl (omega (arith, some), runs))) (follows.least (IsAtMost-none knew))

pub follows_upper : (had : ℕ) (halted : Bool) (knew now knows : Option ℕ) → 1 ≤ had → halted ≡ false → FollowsGuide had halted None knew now knows → IsAtMost now knew
follows_upper had halted knew now knows some runs follows = IsAtMost-trans now knows knew (follows.most (inl (omega (arith, some), runs))) follows.falls
