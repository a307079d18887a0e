-- The loop that sends units earlier.
use Rattle.std.proofs.Common.{◌≡◌, ℕ, zero, suc, ◌+◌, ◌<◌, ◌≤◌, List, [], ◌∷◌, length, set, take, drop, get_or, sym, ap, ◌∙◌, subst, arith, add-one, take_all, not-suc-le-zero, le_of_suc-le-suc}
use Rattle.ec_units.specs.declared.slave.Place.{Place}
use Rattle.ec_units.specs.declared.unit.Unit.{Unit as SyncUnit}
use Rattle.ec_units.specs.Load.{load_of, loads_of}
use Rattle.ec_symmetry.specs.Turned.{earlier_place, earlier_plan}

-- the first i places are sent earlier, and the others are as they were
pub record Sent (d : ℕ) (us : List SyncUnit) (before now : List Place) (i : ℕ) : Type 0 where
  pub done : take i now ≡ earlier_plan d (loads_of (take i us)) (take i before)
  pub left : drop i now ≡ drop i before

sent_suc : (d : ℕ) (us : List SyncUnit) (before now : List Place) (i : ℕ) (e : SyncUnit) (q x : Place) → i < length us → i < length before → i < length now → x ≡ earlier_place d (load_of (get_or us i e)) (get_or now i q) → Sent d us before now i → Sent d us before (set now i x) (suc i)
sent_suc d [] before now i e q x g h k is s = absurd (not-suc-le-zero g)
sent_suc d (u ∷ us) [] now i e q x g h k is s = absurd (not-suc-le-zero h)
sent_suc d (u ∷ us) (p ∷ ps) [] i e q x g h k is s = absurd (not-suc-le-zero k)
sent_suc d (u ∷ us) (p ∷ ps) (r ∷ rs) zero e q x g h k is s =
    let whole : r ∷ rs ≡ p ∷ ps = s.left in
    let first : r ≡ p = cc in
    let rest : rs ≡ ps = cc in
    record { done = ap (λ w. w ∷ []) (is ∙ ap (earlier_place d (load_of u)) first); left = rest }
sent_suc d (u ∷ us) (p ∷ ps) (r ∷ rs) (suc i) e q x g h k is s =
    let whole : r ∷ take i rs ≡ earlier_place d (load_of u) p ∷ earlier_plan d (loads_of (take i us)) (take i ps) = s.done in
    let first : r ≡ earlier_place d (load_of u) p = cc in
    let rest : take i rs ≡ earlier_plan d (loads_of (take i us)) (take i ps) = cc in
    let step = sent_suc d us ps rs i e q x (le_of_suc-le-suc g) (le_of_suc-le-suc h) (le_of_suc-le-suc k) is (record { done = rest; left = s.left }) in
    record { done = λ j. first j ∷ step.done j; left = step.left }

pub sent_step : (d : ℕ) (us : List SyncUnit) (before now : List Place) (i : ℕ) (u : SyncUnit) (q x : Place) → i < length us → i < length before → i < length now → u ≡ get_or us i u → x ≡ earlier_place d (load_of u) (get_or now i q) → Sent d us before now i → Sent d us before (set now i x) (i + 1)
sent_step d us before now i u q x g h k at is s =
    subst (λ m. Sent d us before (set now i x) m) (sym (add-one i)) (sent_suc d us before now i u q x g h k (is ∙ ap (λ w. earlier_place d (load_of w) (get_or now i q)) at) s)

pub sent_done : (d : ℕ) (us : List SyncUnit) (before now : List Place) (i : ℕ) → length before ≤ i → length before ≡ length us → length now ≡ length before → Sent d us before now i → now ≡ earlier_plan d (loads_of us) before
sent_done d us before now i h e f s =
    sym (take_all i now (omega arith)) ∙ s.done ∙ (λ j. earlier_plan d (loads_of (take_all i us (let low : length us ≤ i = omega arith in low) j)) (take_all i before h j))
