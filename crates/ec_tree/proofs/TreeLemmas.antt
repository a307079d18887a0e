-- A tree that holds at a prefix bounds every legal plan that the children reach from it.
-- One mutual induction over `Shape` and `Shapes`; each leaf is one line, by the law of the leaves. Before it, `stand-in` takes a plan that the children reach:
-- by the strong rules, at a value of at most 1579, first the plan with all units in slot 0, and then what is reached of that in slot 0; for there a merge
-- closes a prefix because such a plan stands for the others.
use Rattle.std.proofs.Common.{◌≡◌, ℕ, ◌-◌, ◌<◌, ◌≤◌, ◌⊎◌, arith, length, None, List, [], ◌∷◌, map, set, get_or, Option, Some, refl, sym, subst, le_trans, inl, inr}
use Rattle.std.proofs.lemmas.Bool.{cases_lt}
use Rattle.std.proofs.lemmas.List.Elements.{All-cons, All-nil}
use Rattle.ec_hyper.specs.Lcm.{lcm_of}
use Rattle.ec_hyper.proofs.LcmLemmas.{lcm_of-is, lcm_of-pos}
use Rattle.ec_units.specs.declared.slave.Place.{Place}
use Rattle.ec_units.specs.declared.unit.Load.{Load}
use Rattle.ec_units.specs.Load.{periods_of}
use Rattle.ec_loads.specs.Cost.{plan_items, tick_cost}
use Rattle.ec_loads.specs.Held.{AreLoads, no_places}
use Rattle.ec_loads.specs.Laws.{RepeatsSuffice}
use Rattle.ec_loads.specs.Legal.{IsLegal}
use Rattle.ec_loads.specs.Line.{Rules, slots_alone, turned_time, strong, IsStrong, Line, line_by}
use Rattle.ec_loads.specs.Rooms.{IsInFirstSlot}
use Rattle.ec_loads.specs.Shape.{Leaf, tick, full, average, weighted, merging, counted, grouped, Shape, Shapes, split, leaf, open_leaf, no_shapes, more}
use Rattle.ec_loads.specs.Search.{Prefix, Extends, nowhere, children, LeafHolds, TreeWith, TreesWith, LevelHolds, HasTick, BoundsAll, IsAtMost}
use Rattle.ec_loads.proofs.ItemLemmas.{positive_loads}
use Rattle.ec_symmetry.specs.Orders.{IsOrder, EveryPlanIsReachedBy}
use Rattle.ec_symmetry.specs.Reached.{In, IsCanonical, CostsWithin, IsReached}
use Rattle.ec_symmetry.specs.StrongReach.{merged, StrongChildrenReach, SlotsMerge}
use Rattle.ec_symmetry.proofs.InLemmas.{In-cases}
use Rattle.ec_symmetry.proofs.CanonLemmas.{Extends-set, Extends-none}
use Rattle.ec_bounds.specs.Laws.{SpeaksOf}
use Rattle.ec_bounds.proofs.AverageLemmas.{above_or_all}
use Rattle.ec_bounds.proofs.LeafLemmas.{leaf-bounds, leaf-falls}
use Rattle.ec_tree.specs.Trees.{TreesBound, LevelsBound}

-- values that are one
some-same : (a b : ℕ) → Some a ≡ Some b → a ≡ b
some-same a b e = cc

-- a value is at most itself
at_most-same : (v : Option ℕ) → IsAtMost v v
at_most-same None = tt
at_most-same (Some b) = omega arith

-- where a merge can hold: by the strong rules, at a value of at most 1579
abbrev MayMerge : Line → Option ℕ → Type 0
MayMerge line w = IsStrong line.rules × ((b : ℕ) × (w ≡ Some b) × (b ≤ 1579))

-- a leaf that holds speaks of a plan that is in slot 0 where a merge can hold
leaf-speaks : (line : Line) (w : Option ℕ) (ps : Prefix) (l : Leaf) (plan : List Place) → (MayMerge line w → IsInFirstSlot plan) → LeafHolds line w ps l → SpeaksOf l plan
leaf-speaks line w ps (tick t) plan first h = tt
leaf-speaks line w ps (full t s) plan first h = tt
leaf-speaks line w ps average plan first h = tt
leaf-speaks line w ps (weighted weights) plan first h = tt
leaf-speaks line w ps merging plan first h = first (h.0, (h.1.0, h.1.1, h.1.2))
leaf-speaks line w ps (counted p c) plan first h = tt
leaf-speaks line w ps (grouped pairs) plan first h = tt

-- what an open leaf has to be bounds the plans that extend its prefix
abbrev OpensBound : (Prefix → List ℕ → Type 0) → Line → Option ℕ → Type 0
OpensBound is line w =
    (ps : Prefix) (order : List ℕ) (plan : List Place) → AreLoads line.loads → is ps order → Extends ps (map Some plan) → IsLegal line.loads line.slots plan → HasTick line.loads line.slots w plan

mutual
  pub tree-bounds : (is : Prefix → List ℕ → Type 0) (line : Line) (v w : Option ℕ) (tree : Shape) (ps : Prefix) (order : List ℕ) (plan : List Place) → OpensBound is line w → IsAtMost w v → (MayMerge line w → IsInFirstSlot plan) → AreLoads line.loads → TreeWith is line v tree ps order → Extends ps (map Some plan) → IsLegal line.loads line.slots plan → IsCanonical line ps order plan → HasTick line.loads line.slots w plan
  tree-bounds is line v w (split ts) ps [] plan opens low first within h e legal reached = absurd h
  tree-bounds is line v w (split ts) ps (u ∷ order) plan opens low first within h e legal reached =
      trees-bound is line v w ts ps u order plan (children line ps u) opens low first within h e legal reached.0 reached.1
  tree-bounds is line v w (leaf l) ps order plan opens low first within h e legal reached =
      let holds = leaf-falls line v w ps l low h in
      leaf-bounds line w ps l plan within e legal (leaf-speaks line w ps l plan first holds) holds
  tree-bounds is line v w open_leaf ps order plan opens low first within h e legal reached = opens ps order plan within h e legal

  pub trees-bound : (is : Prefix → List ℕ → Type 0) (line : Line) (v w : Option ℕ) (ts : Shapes) (ps : Prefix) (u : ℕ) (order : List ℕ) (plan : List Place) (places : List Place) → OpensBound is line w → IsAtMost w v → (MayMerge line w → IsInFirstSlot plan) → AreLoads line.loads → TreesWith is line v ts ps u order places → Extends ps (map Some plan) → IsLegal line.loads line.slots plan → In (get_or plan u nowhere) places → IsCanonical line (set ps u (Some (get_or plan u nowhere))) order plan → HasTick line.loads line.slots w plan
  trees-bound is line v w no_shapes ps u order plan [] opens low first within h e legal member reached = elim member [ ]
  trees-bound is line v w no_shapes ps u order plan (p ∷ rest) opens low first within h e legal member reached = absurd h
  trees-bound is line v w (more t ts) ps u order plan [] opens low first within h e legal member reached = absurd h
  trees-bound is line v w (more t ts) ps u order plan (p ∷ rest) opens low first within h e legal member reached =
      elim (In-cases member) [
        | inl same ↦
            tree-bounds is line v w t (set ps u (Some (get_or plan u nowhere))) order plan opens low first within
            (subst (λ (q : Place). TreeWith is line v t (set ps u (Some q)) order) (sym same) h.0)
            (Extends-set ps plan u e) legal reached
        | inr later ↦ trees-bound is line v w ts ps u order plan rest opens low first within h.1 e legal later reached
      ]

-- a tick of the one plan is some tick of the other
HasTick-within : (loads : List Load) (n : ℕ) (v : Option ℕ) (a b : List Place) → CostsWithin loads n a b → HasTick loads n v a → HasTick loads n v b
HasTick-within loads n v a b costs h = let i = costs h.2 in (h.0, h.1, i.0, subst (λ w. h.0 ≤ w) i.1 h.3)

-- a plan with no tick that costs more
HasTick-below : (loads : List Load) (n : ℕ) (v : Option ℕ) (a b : List Place) → ((t : ℕ) → tick_cost (plan_items loads a) n t ≤ tick_cost (plan_items loads b) n t) → HasTick loads n v a → HasTick loads n v b
HasTick-below loads n v a b less h = (h.0, h.1, h.2, le_trans h.3 (less h.2))

-- a plan that the children reach stands in for another one: a tick of it that costs at least the value is there in the other one, too
record StandsIn (line : Line) (w : Option ℕ) (order : List ℕ) (plan other : List Place) : Type 0 where
  legal : IsLegal line.loads line.slots other
  ticks : HasTick line.loads line.slots w other → HasTick line.loads line.slots w plan
  reached : IsReached line order other
  first : MayMerge line w → IsInFirstSlot other

-- where no merge can hold, what is reached stands in
stands-in : (line : Line) (w : Option ℕ) (order : List ℕ) (plan : List Place) → EveryPlanIsReachedBy → AreLoads line.loads → IsOrder (length line.loads) order → IsLegal line.loads line.slots plan → (MayMerge line w → ⊥) → (other : List Place) × StandsIn line w order plan other
stands-in line w order plan every within order_is legal none =
    let r = every line order plan within order_is legal in
    (r.0, record { legal = r.1; ticks = HasTick-within line.loads line.slots w r.0 plan r.2; reached = r.3; first = λ may. absurd (none may) })

-- the plan with all units in slot 0
merged-first : (plan : List Place) → IsInFirstSlot (merged plan)
merged-first [] = All-nil _
merged-first (p ∷ plan) = All-cons (λ (q : Place). q.slot ≡ 0) (record { phase = p.phase; slot = 0 }) (merged plan) refl (merged-first plan)

-- by the strong rules, where no tick of the plan costs more than 1578 bytes, what is reached of the merged plan stands in
merged-in : (loads : List Load) (n : ℕ) (w : Option ℕ) (order : List ℕ) (plan : List Place) → StrongChildrenReach → SlotsMerge → AreLoads loads → IsOrder (length loads) order → IsLegal loads n plan →
    ((t : ℕ) → tick_cost (plan_items loads plan) n t ≤ 1578) → (other : List Place) × StandsIn (line_by strong loads n) w order plan other
merged-in loads n w order plan reach merge within order_is legal low =
    let m = merge loads n plan legal low in
    let r = reach loads n order (merged plan) within order_is m.0 in (
      r.0,
      record {
        legal = r.1;
        ticks = λ h. HasTick-below loads n w (merged plan) plan m.1 (HasTick-within loads n w r.0 (merged plan) r.2 h);
        reached = r.4;
        first = λ _. r.3 (merged-first plan);
      },
    )

-- the ticks below the hyperperiod suffice
all-low : (loads : List Load) (n b : ℕ) (plan : List Place) → RepeatsSuffice → AreLoads loads → ((t : ℕ) → t < lcm_of (periods_of loads) → tick_cost (plan_items loads plan) n t ≤ b) → (t : ℕ) → tick_cost (plan_items loads plan) n t ≤ b
all-low loads n b plan suffice within low =
    let positive = positive_loads loads within in
    suffice loads (map Some plan) (lcm_of (periods_of loads)) n b (lcm_of-is (periods_of loads) positive) (lcm_of-pos (periods_of loads) positive) low

-- the laws on which the law of trees rests
pub record Laws : Type 0 where
  pub every : EveryPlanIsReachedBy
  pub reach : StrongChildrenReach
  pub merge : SlotsMerge
  pub suffice : RepeatsSuffice

strong-in : (loads : List Load) (n b : ℕ) (order : List ℕ) (plan : List Place) → Laws → AreLoads loads → IsOrder (length loads) order → IsLegal loads n plan →
    HasTick loads n (Some b) plan ⊎ ((other : List Place) × StandsIn (line_by strong loads n) (Some b) order plan other)
strong-in loads n b order plan laws within order_is legal =
    elim (cases_lt 1579 b) [
      | inl above ↦ inr (stands-in (line_by strong loads n) (Some b) order plan laws.every within order_is legal (λ may. let most = may.1.2 in let same : b ≡ may.1.0 = some-same b may.1.0 may.1.1 in (omega (arith, above, most, same))))
      | inr below ↦ elim (above_or_all (tick_cost (plan_items loads plan) n) (lcm_of (periods_of loads)) (b - 1)) [
        | inl found ↦ inl (b, refl, found.0, omega (arith, found.1))
        | inr all ↦
            let low = all-low loads n (b - 1) plan laws.suffice within all in
            inr (merged-in loads n (Some b) order plan laws.reach laws.merge within order_is legal (λ t. let l = low t in omega (arith, l, below)))
      ]
    ]

-- a legal plan has a tick that costs at least the value, or one that is reached stands in for it
stand-in : (rules : Rules) (loads : List Load) (n : ℕ) (w : Option ℕ) (order : List ℕ) (plan : List Place) → Laws → AreLoads loads → IsOrder (length loads) order → IsLegal loads n plan →
    HasTick loads n w plan ⊎ ((other : List Place) × StandsIn (line_by rules loads n) w order plan other)
stand-in slots_alone loads n w order plan laws within order_is legal = inr (stands-in (line_by slots_alone loads n) w order plan laws.every within order_is legal (λ may. may.0))
stand-in turned_time loads n w order plan laws within order_is legal = inr (stands-in (line_by turned_time loads n) w order plan laws.every within order_is legal (λ may. may.0))
stand-in strong loads n None order plan laws within order_is legal = inr (stands-in (line_by strong loads n) None order plan laws.every within order_is legal (λ may. let e : None ≡ Some may.1.0 = may.1.1 in cc))
stand-in strong loads n (Some b) order plan laws within order_is legal = strong-in loads n b order plan laws within order_is legal

-- a tree at the empty prefix bounds every legal plan
tree-bounds-with : (is : Prefix → List ℕ → Type 0) (line : Line) (v w : Option ℕ) (tree : Shape) (order : List ℕ) → Laws → OpensBound is line w → IsAtMost w v → AreLoads line.loads → IsOrder (length line.loads) order
    → TreeWith is line v tree (no_places line.loads) order → BoundsAll line.loads line.slots w
tree-bounds-with is line v w tree order laws opens low within order_is h plan legal =
    elim (stand-in line.rules line.loads line.slots w order plan laws within order_is legal) [
      | inl found ↦ found
      | inr stands ↦
          let s = stands.1 in
          s.ticks (tree-bounds is line v w tree (no_places line.loads) order stands.0 opens low s.first within h (Extends-none line.loads stands.0 s.legal.whole) s.legal s.reached)
    ]

-- these laws together
pub laws_of : EveryPlanIsReachedBy → StrongChildrenReach → SlotsMerge → RepeatsSuffice → Laws
laws_of every reach merge suffice = record { every = every; reach = reach; merge = merge; suffice = suffice }

pub tree-bounds-all : Laws → TreesBound
tree-bounds-all laws line v tree order within is h = tree-bounds-with (λ _ _. ⊥) line v v tree order laws (λ ps o plan k none e legal. absurd none) (at_most-same v) within is h

-- where the level holds at an open leaf, it bounds the plans that extend the prefix
level-opens : (line : Line) (level : Option ℕ) → OpensBound (λ ps _. LevelHolds line level ps) line level
level-opens line level ps order plan within (inl (t, h)) e legal = leaf-bounds line level ps (tick t) plan within e legal tt h
level-opens line level ps order plan within (inr h) e legal = leaf-bounds line level ps average plan within e legal tt h

pub levels-bound : Laws → LevelsBound
levels-bound laws line v level tree order within is h =
    tree-bounds-with (λ ps _. LevelHolds line (Some level) ps) line v (Some level) tree order laws (level-opens line (Some level)) h.0 within is h.1
