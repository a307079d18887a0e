-- A plan where an equal unit before the next one has a later place has a better one: the two exchange their places.
-- It differs from the plan first at the unit before, and not where the rule breaks, so it is less by the units before.
use Rattle.std.proofs.Common.{◌≡◌, ℕ, ◌<◌, ◌≤◌, ◌⊎◌, List, [], ◌∷◌, length, get_or, All, refl, sym, ap, ◌∙◌, subst, arith, inl, inr}
use Rattle.std.proofs.lemmas.Bool.{cases_eq, cases_lt}
use Rattle.std.proofs.lemmas.List.Elements.{All-head, All-tail}
use Rattle.ec_units.specs.declared.slave.Place.{Place}
use Rattle.ec_units.specs.declared.unit.Load.{Load}
use Rattle.ec_loads.specs.Cost.{plan_items}
use Rattle.ec_loads.specs.Legal.{IsLegal}
use Rattle.ec_loads.specs.Search.{nobody, nowhere}
use Rattle.ec_symmetry.specs.Reached.{In, there}
use Rattle.ec_symmetry.proofs.InLemmas.{In-cases}
use Rattle.ec_symmetry.proofs.EqualLemmas.{exchange, exchange-length, exchange-first, exchange-other, exchange-slot, exchange-alike, tick_cost-same}
use Rattle.ec_symmetry.proofs.WalkLemmas.{Rule, IsPlaceBefore, Better, IsNew, AreOnce, Improves}

-- no equal unit before it has a later place
abbrev pub KeepsEqual : List Load → Rule
KeepsEqual loads before u plan =
    (w : ℕ) → In w before → get_or loads w nobody ≡ get_or loads u nobody → IsPlaceBefore (get_or plan u nowhere) (get_or plan w nowhere) → ⊥

-- which of two places is before the other
cases_place : (p q : Place) → IsPlaceBefore p q ⊎ (IsPlaceBefore p q → ⊥)
cases_place p q =
    elim (cases_lt p.phase q.phase) [
      | inl less ↦ inl (inl (less, refl))
      | inr more ↦ elim (cases_eq p.phase q.phase) [
        | inl is ↦ elim (cases_lt p.slot q.slot) [
          | inl less ↦ inl (inr (is, inl (less, refl)))
          | inr least ↦ inr (λ h. elim h [
            | inl phase ↦ let low = phase.0 in omega arith
            | inr later ↦ elim later.1 [
              | inl slot ↦ let low = slot.0 in omega arith
              | inr none ↦ none.1
            ]
          ])
        ]
        | inr apart ↦ inr (λ h. elim h [
          | inl phase ↦ let low = phase.0 in omega arith
          | inr later ↦ apart later.0
        ])
      ]
    ]

-- two loads are one, or not
cases_load : (l m : Load) → (l ≡ m) ⊎ (l ≡ m → ⊥)
cases_load l m =
    elim (cases_eq l.bytes m.bytes) [
      | inl bytes ↦ elim (cases_eq l.period m.period) [
        | inl period ↦ inl (λ i. let x : Load = record { bytes = bytes i; period = period i } in x)
        | inr apart ↦ inr (λ e. apart (ap (λ (x : Load). x.period) e))
      ]
      | inr apart ↦ inr (λ e. apart (ap (λ (x : Load). x.bytes) e))
    ]

exchange-legal : (loads : List Load) (n : ℕ) (plan : List Place) (i j : ℕ) → i < length loads → j < length loads → get_or loads i nobody ≡ get_or loads j nobody → IsLegal loads n plan → IsLegal loads n (exchange i j plan)
exchange-legal loads n plan i j h k e legal =
    let alike = exchange-alike loads plan i j h k legal.whole e in
    record {
      whole = exchange-length i j plan ∙ legal.whole;
      phases = alike.phases legal.phases;
      slots = alike.slots n legal.slots;
      fits = λ t s low. subst (λ w. w ≤ 1498) (alike.payloads t s) (legal.fits t s low);
    }

equal_from : (loads : List Load) (n : ℕ) (u : ℕ) (plan : List Place) → IsLegal loads n plan → u < length loads → (before : List ℕ) → All (λ w. w < length loads) before → AreOnce before → IsNew u before → KeepsEqual loads before u plan ⊎ Better loads n before plan
equal_from loads n u plan legal within [] low once fresh = inl (λ w m e less. elim m [ ])
equal_from loads n u plan legal within (v ∷ before) low once fresh =
    let bound = All-head (λ w. w < length loads) v before low in
    elim (equal_from loads n u plan legal within before (All-tail (λ w. w < length loads) v before low) once.1 (λ m. fresh (there m))) [
      | inr better ↦ inr (record { other = better.other; stands = better.stands; less = inl better.less })
      | inl keeps ↦
          let more : ((get_or loads v nobody ≡ get_or loads u nobody) → IsPlaceBefore (get_or plan u nowhere) (get_or plan v nowhere) → ⊥) → KeepsEqual loads (v ∷ before) u plan =
          λ none w m e less. elim (In-cases m) [
            | inl is ↦ none (subst (λ x. get_or loads x nobody ≡ get_or loads u nobody) is e) (subst (λ x. IsPlaceBefore (get_or plan u nowhere) (get_or plan x nowhere)) is less)
            | inr later ↦ keeps w later e less
          ] in
          elim (cases_load (get_or loads v nobody) (get_or loads u nobody)) [
            | inr apart ↦ inl (more (λ e less. apart e))
            | inl same ↦ elim (cases_place (get_or plan u nowhere) (get_or plan v nowhere)) [
              | inr none ↦ inl (more (λ e less. none less))
              | inl less ↦
                  let len = legal.whole in
                  let first = exchange-first v u plan (omega arith) (omega arith) in
                  let alike = exchange-alike loads plan v u bound within len same in
                  inr (record {
                    other = exchange v u plan;
                    stands = record {
                      legal = exchange-legal loads n plan v u bound within same legal;
                      costs = λ t. (t, sym (tick_cost-same (plan_items loads plan) (plan_items loads (exchange v u plan)) n t alike));
                      slot = exchange-slot v u plan (omega arith) (omega arith);
                    };
                    less = inr (
                      (λ w m. exchange-other v u w plan (λ e. once.0 (subst (λ x. In x before) e m)) (λ e. fresh (there (subst (λ x. In x before) e m)))),
                      subst (λ q. IsPlaceBefore q (get_or plan v nowhere)) (sym first) less,
                    );
                  })
            ]
          ]
    ]

pub equal-improves : (loads : List Load) (n : ℕ) → Improves loads n (KeepsEqual loads)
equal-improves loads n before u plan legal units kept =
    elim (equal_from loads n u plan legal (All-head (λ w. w < length loads) u before units.below) before (All-tail (λ w. w < length loads) u before units.below) units.once.1 units.once.0) [
      | inl keeps ↦ inl keeps
      | inr better ↦ inr (record { other = better.other; stands = better.stands; less = inl better.less })
    ]
