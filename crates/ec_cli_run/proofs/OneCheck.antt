-- Each certificate has one answer for units that are seen alike.
-- Units with the same data are `Alike` (count, lines, loads), and each fact of the checker moves along it. A fault
-- becomes `Staged` (units, order, plan, level, node), so two faults are 25 short cases and not 81. A new fault of the checker
-- is a case of `staged` and, if it is judged at a place of its own, a stage.
use Rattle.std.proofs.Common.{◌≡◌, ◌≢◌, ℕ, ◌<◌, List, [], ◌∷◌, length, map, Option, Some, None, Result, Err, refl, sym, ap, subst, ◌∙◌, inl, inr, arith}
use Rattle.std.specs.Prelude.{◌⊎◌}
use Rattle.std.proofs.lemmas.List.{length-map}
use Rattle.ec_units.specs.declared.unit.Load.{Load}
use Rattle.ec_units.specs.declared.unit.Unit.{Unit as SyncUnit}
use Rattle.ec_units.specs.declared.units.Units.{Units}
use Rattle.ec_units.specs.Load.{loads_of}
use Rattle.ec_units.specs.Views.{UnitView, UnitsView, unit_view, units_view, view_bytes, view_loads}
use Rattle.ec_units.proofs.Viewed.{loads_of-views, view_bytes-slaves}
use Rattle.ec_loads.specs.declared.plan.Illegal.{Illegal}
use Rattle.ec_loads.specs.Cost.{plan_items, IsBusiest}
use Rattle.ec_loads.specs.Legal.{IsLegal, IsIllegalBy}
use Rattle.ec_loads.specs.Line.{line_by}
use Rattle.ec_symmetry.specs.Orders.{IsOrder}
use Rattle.ec_cert.specs.declared.cert.Best.{Best}
use Rattle.ec_cert.specs.declared.lists.UnitLine.{UnitLine}
use Rattle.ec_cert.specs.Shapes.{CertView}
use Rattle.ec_cert.specs.Versions.{rules_of}
use Rattle.ec_checker.specs.declared.fault.CheckFault.{CheckFault}
use Rattle.ec_checker.specs.declared.fault.CheckFault.TheVariants as fault
use Rattle.ec_cert.specs.IsBestPlan.{value_of, IsBestPlan}
use Rattle.ec_checker.specs.Certified.{line_of, lines_of, IsFor, HasHead, IsLevelIn, IsShown, IsCertified, IsFaultOf, IsPlanFault, tree_found}
use Rattle.ec_loads.proofs.CostLemmas.{one_busiest}
use Rattle.ec_checker.proofs.CheckLemmas.{plan_refutes, refutes}
use Rattle.ec_cli_refusals.specs.declared.refusal.Refusal.TheVariants as refusal
use Rattle.ec_cli_text.specs.Output.{Written, IsCheckedOutput, refused}
use Rattle.ec_cli_run.proofs.OneIllegal.{illegal_once}

-- ---- units that are seen alike

-- what the checker sees of units: how many there are, their lines and their loads
record Alike (us vs : List SyncUnit) : Type 0 where
  count : length us ≡ length vs
  lines : lines_of us ≡ lines_of vs
  loads : loads_of us ≡ loads_of vs

line_of_view : UnitView → UnitLine
line_of_view u = record { name = u.name; bytes = view_bytes u.slaves; period = u.period }

lines_of-views : (us : List SyncUnit) → lines_of us ≡ map line_of_view (map unit_view us)
unfolding line_of_view
lines_of-views [] = refl
lines_of-views (u ∷ us) =
    let bytes = view_bytes-slaves u.slaves in
    let here : line_of u ≡ line_of_view (unit_view u) = (λ i. record { name = u.name; bytes = bytes i; period = u.period }) in
    (λ i. here i ∷ lines_of-views us i)

alike : (us vs : List SyncUnit) → map unit_view us ≡ map unit_view vs → Alike us vs
alike us vs e = record {
  count = sym (length-map us unit_view) ∙ ap length e ∙ length-map vs unit_view;
  lines = lines_of-views us ∙ ap (λ ws. map line_of_view ws) e ∙ sym (lines_of-views vs);
  loads = loads_of-views us ∙ ap view_loads e ∙ sym (loads_of-views vs);
}

for_alike : (us vs : List SyncUnit) (n : ℕ) (c : CertView) → Alike us vs → IsFor us n c → IsFor vs n c
for_alike us vs n c same h = record { slots = h.slots; lines = h.lines ∙ same.lines }

back : (us vs : List SyncUnit) → Alike us vs → Alike vs us
back us vs same = record { count = sym same.count; lines = sym same.lines; loads = sym same.loads }

order_alike : (us vs : List SyncUnit) (c : CertView) → Alike us vs → IsOrder (length us) c.order → IsOrder (length vs) c.order
order_alike us vs c same h = subst (λ k. IsOrder k c.order) same.count h

head_alike : (us vs : List SyncUnit) (n : ℕ) (c : CertView) → Alike us vs → HasHead us n c → HasHead vs n c
head_alike us vs n c same h = record {
  same = for_alike us vs n c same h.same;
  order = order_alike us vs c same h.order;
  best = subst (λ ls. IsBestPlan ls n c.best) same.loads h.best;
  level = h.level;
}

certified_alike : (us vs : List SyncUnit) (n : ℕ) (c : CertView) → Alike us vs → IsCertified us n c → IsCertified vs n c
certified_alike us vs n c same h = record {
  head = head_alike us vs n c same h.head;
  shown = subst (λ ls. IsShown (line_by (rules_of c.version) ls n) (value_of c.best) c.level c.tree c.order) same.loads h.shown;
}

plan_alike : (us vs : List SyncUnit) (n : ℕ) (c : CertView) (f : CheckFault) → Alike us vs → IsPlanFault (loads_of us) n c.best f → IsPlanFault (loads_of vs) n c.best f
plan_alike us vs n c f same h = subst (λ ls. IsPlanFault ls n c.best f) same.loads h

found_alike : (us vs : List SyncUnit) (n : ℕ) (c : CertView) (f : CheckFault) → Alike us vs → tree_found (loads_of us) n c ≡ Err f → tree_found (loads_of vs) n c ≡ Err f
found_alike us vs n c f same h = subst (λ ls. tree_found ls n c ≡ Err f) same.loads h

-- ---- one fault

-- the level is above the value
abbrev IsAbove : CertView → CheckFault → Type 0
IsAbove c f = (l : ℕ) × (v : ℕ) × (f ≡ fault.Level l v) × (c.level ≡ Some l) × (value_of c.best ≡ Some v) × (v < l)

-- when a fault is judged, and what is right by then
abbrev Staged : List SyncUnit → ℕ → CertView → CheckFault → Type 0
Staged us n c f =
    ((f ≡ fault.OtherUnits) × (¬ (IsFor us n c)))
    ⊎ (((f ≡ fault.Order) × IsFor us n c × (¬ (IsOrder (length us) c.order)))
    ⊎ ((IsFor us n c × IsOrder (length us) c.order × IsPlanFault (loads_of us) n c.best f)
    ⊎ ((IsFor us n c × IsOrder (length us) c.order × IsBestPlan (loads_of us) n c.best × IsAbove c f)
    ⊎ (HasHead us n c × (tree_found (loads_of us) n c ≡ Err f)))))

staged : (us : List SyncUnit) (n : ℕ) (c : CertView) (f : CheckFault) → f ≢ fault.OutOfMemory → IsFaultOf us n c f → Staged us n c f
staged us n c fault.OutOfMemory other h = absurd (other refl)
staged us n c fault.OtherUnits other h = inl (refl, h)
staged us n c fault.Order other h = inr (inl (refl, h.0, h.1))
staged us n c (fault.Plan e) other h = inr (inr (inl (h.0, h.1, h.2)))
staged us n c (fault.Value s f) other h = inr (inr (inl (h.0, h.1, h.2)))
staged us n c (fault.Children k w g) other h = inr (inr (inr (inr (h.0, h.1))))
staged us n c (fault.Leaf k) other h = inr (inr (inr (inr (h.0, h.1))))
staged us n c (fault.Depth k) other h = inr (inr (inr (inr (h.0, h.1))))
staged us n c (fault.Level l v) other h = inr (inr (inr (inl (h.0, h.1, h.2, (l, v, refl, h.3, h.4, h.5)))))

staged_alike : (us vs : List SyncUnit) (n : ℕ) (c : CertView) (f : CheckFault) → Alike us vs → Staged us n c f → Staged vs n c f
staged_alike us vs n c f same (inl h) = inl (h.0, λ is. h.1 (for_alike vs us n c (back us vs same) is))
staged_alike us vs n c f same (inr (inl h)) = inr (inl (h.0, for_alike us vs n c same h.1, λ is. h.2 (order_alike vs us c (back us vs same) is)))
staged_alike us vs n c f same (inr (inr (inl h))) = inr (inr (inl (for_alike us vs n c same h.0, order_alike us vs c same h.1, plan_alike us vs n c f same h.2)))
staged_alike us vs n c f same (inr (inr (inr (inl h)))) =
    inr (inr (inr (inl (for_alike us vs n c same h.0, order_alike us vs c same h.1, subst (λ ls. IsBestPlan ls n c.best) same.loads h.2, h.3))))
staged_alike us vs n c f same (inr (inr (inr (inr h)))) = inr (inr (inr (inr (head_alike us vs n c same h.0, found_alike us vs n c f same h.1))))

-- a level above the value is in no head
above_refutes : (level v : Option ℕ) (l w : ℕ) → level ≡ Some l → v ≡ Some w → w < l → ¬ (IsLevelIn level v)
above_refutes None v l w is at above low = absurd cc
above_refutes (Some k) None l w is at above low = absurd cc
above_refutes (Some k) (Some x) l w is at above low =
    let one : k ≡ l = cc in
    let two : x ≡ w = cc in
    omega (arith, one, two, above, low)

not_above : (us : List SyncUnit) (n : ℕ) (c : CertView) (f : CheckFault) → IsAbove c f → HasHead us n c → ⊥
not_above us n c f h head = above_refutes c.level (value_of c.best) h.0 h.1 h.3 h.4 h.5 head.level

number_same : (o : Option ℕ) (a b : ℕ) → o ≡ Some a → o ≡ Some b → a ≡ b
number_same o a b e f = cc

one_above : (c : CertView) (f g : CheckFault) → IsAbove c f → IsAbove c g → f ≡ g
one_above c f g h k =
    let level = number_same c.level h.0 k.0 h.3 k.3 in
    let value = number_same (value_of c.best) h.1 k.1 h.4 k.4 in
    h.2 ∙ (λ i. fault.Level (level i) (value i)) ∙ sym k.2

best_same : (best : Option Best) (a b : Best) → best ≡ Some a → best ≡ Some b → a ≡ b
best_same best a b e f = cc

fault_same : (r : Result ℕ CheckFault) (f g : CheckFault) → r ≡ Err f → r ≡ Err g → f ≡ g
fault_same r f g d e = cc

-- a best plan has one fault
one_plan : (loads : List Load) (n : ℕ) (best : Option Best) (f g : CheckFault) → IsPlanFault loads n best f → IsPlanFault loads n best g → f ≡ g
one_plan loads n best (fault.Plan e) (fault.Plan g) h k =
    let is = best_same best h.0 k.0 h.1 k.1 in
    let right : IsIllegalBy loads n h.0.plan.places g = subst (λ (b : Best). IsIllegalBy loads n b.plan.places g) (sym is) k.2 in
    ap (λ (w : Illegal). fault.Plan w) (illegal_once loads n h.0.plan.places e g h.2 right)
one_plan loads n best (fault.Plan e) (fault.Value s f) h k =
    let is = best_same best h.0 k.0 h.1 k.1 in
    absurd (h.3 (subst (λ (b : Best). IsLegal loads n b.plan.places) (sym is) k.2))
one_plan loads n best (fault.Plan e) g h k = absurd k
one_plan loads n best (fault.Value s f) (fault.Plan e) h k =
    let is = best_same best h.0 k.0 h.1 k.1 in
    absurd (k.3 (subst (λ (b : Best). IsLegal loads n b.plan.places) is h.2))
one_plan loads n best (fault.Value s f) (fault.Value t g) h k =
    let is = best_same best h.0 k.0 h.1 k.1 in
    let stated : s ≡ t = h.3 ∙ ap (λ (b : Best). b.busiest) is ∙ sym k.3 in
    let right : IsBusiest (plan_items loads h.0.plan.places) n g = subst (λ (b : Best). IsBusiest (plan_items loads b.plan.places) n g) (sym is) k.4 in
    let found : f ≡ g = one_busiest (plan_items loads h.0.plan.places) n f g h.4 right in
    (λ i. fault.Value (stated i) (found i))
one_plan loads n best (fault.Value s f) g h k = absurd k
one_plan loads n best f g h k = absurd h

one_fault : (us : List SyncUnit) (n : ℕ) (c : CertView) (f g : CheckFault) → Staged us n c f → Staged us n c g → f ≡ g
one_fault us n c f g (inl h) (inl k) = h.0 ∙ sym k.0
one_fault us n c f g (inl h) (inr (inl k)) = absurd (h.1 k.1)
one_fault us n c f g (inl h) (inr (inr (inl k))) = absurd (h.1 k.0)
one_fault us n c f g (inl h) (inr (inr (inr (inl k)))) = absurd (h.1 k.0)
one_fault us n c f g (inl h) (inr (inr (inr (inr k)))) = absurd (h.1 k.0.same)
one_fault us n c f g (inr (inl h)) (inl k) = absurd (k.1 h.1)
one_fault us n c f g (inr (inl h)) (inr (inl k)) = h.0 ∙ sym k.0
one_fault us n c f g (inr (inl h)) (inr (inr (inl k))) = absurd (h.2 k.1)
one_fault us n c f g (inr (inl h)) (inr (inr (inr (inl k)))) = absurd (h.2 k.1)
one_fault us n c f g (inr (inl h)) (inr (inr (inr (inr k)))) = absurd (h.2 k.0.order)
one_fault us n c f g (inr (inr (inl h))) (inl k) = absurd (k.1 h.0)
one_fault us n c f g (inr (inr (inl h))) (inr (inl k)) = absurd (k.2 h.1)
one_fault us n c f g (inr (inr (inl h))) (inr (inr (inl k))) = one_plan (loads_of us) n c.best f g h.2 k.2
one_fault us n c f g (inr (inr (inl h))) (inr (inr (inr (inl k)))) = absurd (plan_refutes (loads_of us) n c.best f h.2 k.2)
one_fault us n c f g (inr (inr (inl h))) (inr (inr (inr (inr k)))) = absurd (plan_refutes (loads_of us) n c.best f h.2 k.0.best)
one_fault us n c f g (inr (inr (inr (inl h)))) (inl k) = absurd (k.1 h.0)
one_fault us n c f g (inr (inr (inr (inl h)))) (inr (inl k)) = absurd (k.2 h.1)
one_fault us n c f g (inr (inr (inr (inl h)))) (inr (inr (inl k))) = absurd (plan_refutes (loads_of us) n c.best g k.2 h.2)
one_fault us n c f g (inr (inr (inr (inl h)))) (inr (inr (inr (inl k)))) = one_above c f g h.3 k.3
one_fault us n c f g (inr (inr (inr (inl h)))) (inr (inr (inr (inr k)))) = absurd (not_above us n c f h.3 k.0)
one_fault us n c f g (inr (inr (inr (inr h)))) (inl k) = absurd (k.1 h.0.same)
one_fault us n c f g (inr (inr (inr (inr h)))) (inr (inl k)) = absurd (k.2 h.0.order)
one_fault us n c f g (inr (inr (inr (inr h)))) (inr (inr (inl k))) = absurd (plan_refutes (loads_of us) n c.best g k.2 h.0.best)
one_fault us n c f g (inr (inr (inr (inr h)))) (inr (inr (inr (inl k)))) = absurd (not_above us n c g k.3 h.0)
one_fault us n c f g (inr (inr (inr (inr h)))) (inr (inr (inr (inr k)))) = fault_same (tree_found (loads_of us) n c) f g h.1 k.1

-- ---- one output

-- of units that are seen alike, a certificate isn't certified and faulty
pub not_both : (us vs : Units) (c : CertView) (f : CheckFault) → units_view us ≡ units_view vs → IsCertified us.units us.slots c → f ≢ fault.OutOfMemory → IsFaultOf vs.units vs.slots c f → ⊥
not_both us vs c f views right other wrong =
    let same : Alike us.units vs.units = alike us.units vs.units (ap (λ (w : UnitsView). w.units) views) in
    let slots : us.slots ≡ vs.slots = ap (λ (w : UnitsView). w.slots) views in
    refutes vs.units vs.slots c f other wrong (subst (λ (n : ℕ). IsCertified vs.units n c) slots (certified_alike us.units vs.units us.slots c same right))

-- and it has one fault
pub fault_once : (us vs : Units) (c : CertView) (f g : CheckFault) → units_view us ≡ units_view vs → f ≢ fault.OutOfMemory → IsFaultOf us.units us.slots c f → g ≢ fault.OutOfMemory → IsFaultOf vs.units vs.slots c g → f ≡ g
fault_once us vs c f g views other h also k =
    let same : Alike us.units vs.units = alike us.units vs.units (ap (λ (w : UnitsView). w.units) views) in
    let slots : us.slots ≡ vs.slots = ap (λ (w : UnitsView). w.slots) views in
    let left : Staged vs.units vs.slots c f = subst (λ (n : ℕ). Staged vs.units n c f) slots (staged_alike us.units vs.units us.slots c f same (staged us.units us.slots c f other h)) in
    one_fault vs.units vs.slots c f g left (staged vs.units vs.slots c g also k)

pub checked_once : (v : UnitsView) (c : CertView) (a b : Written) → IsCheckedOutput v c a → IsCheckedOutput v c b → a ≡ b
checked_once v c a b (us, p, inl h) (vs, q, inl k) = h.1 ∙ sym k.1
checked_once v c a b (us, p, inl h) (vs, q, inr k) = absurd (not_both us vs c k.0 (p ∙ sym q) h.0 k.1 k.2)
checked_once v c a b (us, p, inr h) (vs, q, inl k) = absurd (not_both vs us c h.0 (q ∙ sym p) k.0 h.1 h.2)
checked_once v c a b (us, p, inr h) (vs, q, inr k) = h.3 ∙ ap (λ (f : CheckFault). refused (refusal.Check f)) (fault_once us vs c h.0 k.0 (p ∙ sym q) h.1 h.2 k.1 k.2) ∙ sym k.3
