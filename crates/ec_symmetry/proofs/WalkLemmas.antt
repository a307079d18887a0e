-- Rules that each next unit keeps. A rule that improves what breaks it is kept by some plan, which stands for any other.
-- A rule `Improves` where a unit that breaks it leaves a legal plan that is less, by the places of the units up to it and by none behind it. `some-keeps`
-- then walks from plan to plan. Several rules go together by `both-improve`.
use Rattle.std.proofs.Common.{◌≡◌, ℕ, ◌+◌, ◌<◌, ◌==◌, ◌⊎◌, true, false, List, [], ◌∷◌, length, set, get_or, Some, All, refl, sym, ap, ◌∙◌, subst, arith, inl, inr}
use Rattle.std.proofs.lemmas.Bool.{eq-eqb, or_left, or_right, true≢false, false_from_ne_true}
use Rattle.std.proofs.lemmas.List.Elements.{All-head, All-tail, All-cons, All-nil}
use Rattle.ec_units.specs.declared.slave.Place.{Place}
use Rattle.ec_units.specs.declared.unit.Load.{Load}
use Rattle.ec_loads.specs.Held.{no_places}
use Rattle.ec_loads.specs.Legal.{IsLegal}
use Rattle.ec_loads.specs.Rooms.{IsInFirstSlot}
use Rattle.ec_loads.specs.Search.{Prefix, nowhere}
use Rattle.ec_symmetry.specs.Orders.{has_repeat, IsOrder}
use Rattle.ec_symmetry.specs.Reached.{In, here, there, CostsWithin}
use Rattle.ec_symmetry.proofs.DescentLemmas.{IsBefore, descend}
use Rattle.ec_symmetry.proofs.InLemmas.{In-cases}
use Rattle.ec_symmetry.proofs.UsedLemmas.{member}

-- the prefix where these units, the last one first, have the plan's places
abbrev pub prefix_at : List Load → List ℕ → List Place → Prefix
prefix_at loads [] plan = no_places loads
prefix_at loads (u ∷ before) plan = set (prefix_at loads before plan) u (Some (get_or plan u nowhere))

-- what the next unit keeps, by the units before it, the last one first
abbrev pub Rule : Type 1
Rule = List ℕ → ℕ → List Place → Type 0

-- each of these units, the last one first, keeps the rule
abbrev pub Kept : Rule → List ℕ → List Place → Type 0
Kept rule [] plan = Unit {0}
Kept rule (u ∷ before) plan = rule before u plan × Kept rule before plan

-- each later unit does, too
abbrev pub Keeps : Rule → List ℕ → List ℕ → List Place → Type 0
Keeps rule before [] plan = Unit {0}
Keeps rule before (u ∷ order) plan = rule before u plan × Keeps rule (u ∷ before) order plan

-- both rules
abbrev pub Both : Rule → Rule → Rule
Both a b before u plan = a before u plan × b before u plan

-- both plans give these units the same places
abbrev pub Agree : List ℕ → List Place → List Place → Type 0
Agree before a b = (w : ℕ) → In w before → get_or a w nowhere ≡ get_or b w nowhere

-- the places of the units of an order, each by phase and then slot
abbrev key : List ℕ → List Place → List ℕ
key [] plan = []
key (u ∷ order) plan = (get_or plan u nowhere).phase ∷ (get_or plan u nowhere).slot ∷ key order plan

-- a place that is before the other, by phase and then slot
abbrev pub IsPlaceBefore : Place → Place → Type 0
IsPlaceBefore p q = IsBefore (p.phase ∷ p.slot ∷ []) (q.phase ∷ q.slot ∷ [])

-- the places of these units, the last one first, in their order, and then the rest
abbrev key_onto : List ℕ → List Place → List ℕ → List ℕ
key_onto [] plan rest = rest
key_onto (u ∷ before) plan rest = key_onto before plan ((get_or plan u nowhere).phase ∷ (get_or plan u nowhere).slot ∷ rest)

-- of these units, the last one first, one has an earlier place than in the other plan, and those before it have the same
abbrev pub IsLess : List ℕ → List Place → List Place → Type 0
IsLess [] a b = ⊥
IsLess (u ∷ before) a b = IsLess before a b ⊎ (Agree before a b × IsPlaceBefore (get_or a u nowhere) (get_or b u nowhere))

-- a legal plan no tick of which costs otherwise, and that uses slot 0 alone where the plan does
pub record StandsFor (loads : List Load) (n : ℕ) (other plan : List Place) : Type 0 where
  pub legal : IsLegal loads n other
  pub costs : CostsWithin loads n other plan
  pub slot : IsInFirstSlot plan → IsInFirstSlot other

-- such a plan that is less, by these units
pub record Better (loads : List Load) (n : ℕ) (units : List ℕ) (plan : List Place) : Type 0 where
  pub other : List Place
  pub stands : StandsFor loads n other plan
  pub less : IsLess units other plan

-- none of these numbers is u
abbrev pub IsNew : ℕ → List ℕ → Type 0
IsNew u before = In u before → ⊥

-- no number comes twice
abbrev pub AreOnce : List ℕ → Type 0
AreOnce [] = Unit {0}
AreOnce (u ∷ before) = IsNew u before × AreOnce before

-- no number of the order comes twice, or stands before it
abbrev pub AreNew : List ℕ → List ℕ → Type 0
AreNew before [] = Unit {0}
AreNew before (u ∷ order) = IsNew u before × AreNew (u ∷ before) order

-- units that have a place, each once, the last one first
pub record HavePlaces (loads : List Load) (before : List ℕ) : Type 0 where
  pub below : All (λ w. w < length loads) before
  pub once : AreOnce before

-- where a legal plan keeps the rule up to the unit, the unit keeps it, or there is a better plan
abbrev pub Improves : List Load → ℕ → Rule → Type 0
Improves loads n rule =
    (before : List ℕ) (u : ℕ) (plan : List Place) → IsLegal loads n plan → HavePlaces loads (u ∷ before) → Kept rule before plan → rule before u plan ⊎ Better loads n (u ∷ before) plan

StandsFor-self : (loads : List Load) (n : ℕ) (a : List Place) → IsLegal loads n a → StandsFor loads n a a
StandsFor-self loads n a legal = record { legal = legal; costs = λ t. (t, refl); slot = λ h. h }

StandsFor-then : (loads : List Load) (n : ℕ) (a b c : List Place) → StandsFor loads n a b → StandsFor loads n b c → StandsFor loads n a c
StandsFor-then loads n a b c f g =
    record {
      legal = f.legal;
      costs = λ t. let h = f.costs t in let k = g.costs h.0 in (k.0, h.1 ∙ k.1);
      slot = λ h. f.slot (g.slot h);
    }

key-length : (order : List ℕ) (plan : List Place) → length (key order plan) ≡ length order + length order
key-length [] plan = refl
key-length (u ∷ order) plan = let e = key-length order plan in omega arith

onto-agree : (before : List ℕ) (a b : List Place) (xs ys : List ℕ) → Agree before a b → IsBefore xs ys → IsBefore (key_onto before a xs) (key_onto before b ys)
onto-agree [] a b xs ys agree h = h
onto-agree (u ∷ before) a b xs ys agree h =
    let same = agree u here in
    onto-agree before a b _ _ (λ w m. agree w (there m)) (inr (ap (λ (p : Place). p.phase) same, inr (ap (λ (p : Place). p.slot) same, h)))

onto-less : (units : List ℕ) (a b : List Place) (xs ys : List ℕ) → IsLess units a b → length xs ≡ length ys → IsBefore (key_onto units a xs) (key_onto units b ys)
onto-less [] a b xs ys h e = absurd h
onto-less (u ∷ before) a b xs ys h e =
    elim h [
      | inl earlier ↦ onto-less before a b _ _ earlier (omega (arith, e))
      | inr now ↦ onto-agree before a b _ _ now.0 (elim now.1 [
        | inl phase ↦ inl (phase.0, omega (arith, e))
        | inr later ↦ inr (
          later.0,
          elim later.1 [
            | inl slot ↦ inl (slot.0, e)
            | inr none ↦ absurd none.1
          ],
        )
      ])
    ]

-- a better plan, by the whole order
record Less (loads : List Load) (n : ℕ) (before order : List ℕ) (plan : List Place) : Type 0 where
  other : List Place
  stands : StandsFor loads n other plan
  less : IsBefore (key_onto before other (key order other)) (key_onto before plan (key order plan))

walk : (loads : List Load) (n : ℕ) (rule : Rule) → Improves loads n rule → (before order : List ℕ) (plan : List Place) → IsLegal loads n plan → HavePlaces loads before → All (λ w. w < length loads) order → AreNew before order → Kept rule before plan → Keeps rule before order plan ⊎ Less loads n before order plan
walk loads n rule improves before [] plan legal units all fresh kept = inl tt
walk loads n rule improves before (u ∷ order) plan legal units all fresh kept =
    let within = All-head (λ w. w < length loads) u order all in
    let more : HavePlaces loads (u ∷ before) = record { below = All-cons (λ w. w < length loads) u before within units.below; once = (fresh.0, units.once) } in
    elim (improves before u plan legal more kept) [
      | inl keeps ↦ elim (walk loads n rule improves (u ∷ before) order plan legal more (All-tail (λ w. w < length loads) u order all) fresh.1 (keeps, kept)) [
        | inl rest ↦ inl (keeps, rest)
        | inr less ↦ inr (record { other = less.other; stands = less.stands; less = less.less })
      ]
      | inr better ↦
          inr (record {
            other = better.other;
            stands = better.stands;
            less = onto-less (u ∷ before) better.other plan (key order better.other) (key order plan) better.less (key-length order better.other ∙ sym (key-length order plan));
          })
    ]

-- each legal plan has one that keeps the rule and stands for it
pub some-keeps : (loads : List Load) (n : ℕ) (rule : Rule) → Improves loads n rule → (order : List ℕ) (plan : List Place) → All (λ w. w < length loads) order → AreNew [] order → IsLegal loads n plan → (other : List Place) × StandsFor loads n other plan × Keeps rule [] order other
some-keeps loads n rule improves order plan all fresh legal =
    let none : HavePlaces loads [] = record { below = All-nil _; once = tt } in
    descend (key order) (length order + length order) (λ a. StandsFor loads n a plan) (Keeps rule [] order) (key-length order) (λ a good.
    elim (walk loads n rule improves [] order a good.legal none all fresh tt) [
      | inl keeps ↦ inl keeps
      | inr less ↦ inr (less.other, StandsFor-then loads n less.other a plan less.stands good, less.less)
    ]) plan (StandsFor-self loads n plan legal)

kept-left : (a b : Rule) (before : List ℕ) (plan : List Place) → Kept (Both a b) before plan → Kept a before plan
kept-left a b [] plan h = tt
kept-left a b (u ∷ before) plan h = (h.0.0, kept-left a b before plan h.1)

kept-right : (a b : Rule) (before : List ℕ) (plan : List Place) → Kept (Both a b) before plan → Kept b before plan
kept-right a b [] plan h = tt
kept-right a b (u ∷ before) plan h = (h.0.1, kept-right a b before plan h.1)

-- rules that improve one by one do together
pub both-improve : (loads : List Load) (n : ℕ) (a b : Rule) → Improves loads n a → Improves loads n b → Improves loads n (Both a b)
both-improve loads n a b f g before u plan legal units kept =
    elim (f before u plan legal units (kept-left a b before plan kept)) [
      | inr better ↦ inr better
      | inl left ↦ elim (g before u plan legal units (kept-right a b before plan kept)) [
        | inr better ↦ inr better
        | inl right ↦ inl (left, right)
      ]
    ]

-- a number of the list is below what bounds them all
pub In-below : (k : ℕ) (before : List ℕ) (w : ℕ) → All (λ v. v < k) before → In w before → w < k
In-below k [] w low m = elim m [ ]
In-below k (u ∷ before) w low m =
    elim (In-cases m) [
      | inl is ↦ let h = All-head (λ v. v < k) u before low in omega arith
      | inr later ↦ In-below k before w (All-tail (λ v. v < k) u before low) later
    ]

In-member : (u : ℕ) (order : List ℕ) → In u order → member u order ≡ true
In-member u [] m = elim m [ ]
In-member u (w ∷ order) m =
    elim (In-cases m) [
      | inl is ↦ or_left (u == w) (member u order) (eq-eqb u w is)
      | inr later ↦ or_right (u == w) (member u order) (In-member u order later)
    ]

fresh : (before order : List ℕ) → has_repeat order ≡ false → ((w : ℕ) → In w before → In w order → ⊥) → AreNew before order
fresh before [] once apart = tt
fresh before (u ∷ order) once apart =
    let first : member u order ≡ false = false_from_ne_true (member u order) (λ t. true≢false (sym (or_left (member u order) (has_repeat order) t) ∙ once)) in
    let rest : has_repeat order ≡ false = false_from_ne_true (has_repeat order) (λ t. true≢false (sym (or_right (member u order) (has_repeat order) t) ∙ once)) in (
      (λ m. apart u m here),
      fresh (u ∷ before) order rest (λ w m k.
          elim (In-cases m) [
            | inl is ↦ true≢false (sym (In-member u order (subst (λ x. In x order) is k)) ∙ first)
            | inr later ↦ apart w later (there k)
          ]),
    )

-- an order names each unit once
pub order-fresh : (units : ℕ) (order : List ℕ) → IsOrder units order → AreNew [] order
order-fresh units order is = fresh [] order is.once (λ w m k. elim m [ ])
