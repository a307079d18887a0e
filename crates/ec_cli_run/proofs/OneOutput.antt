-- The bytes that are read have one output.
-- A new text of a plan has its line of `units_once` here.
use Rattle.std.proofs.Common.{◌≡◌, ℕ, ◌≤◌, List, length, Option, Some, None, Result, Ok, Err, sym, ap, ◌∙◌, subst, inl, inr, arith}
use Rattle.std.specs.Prelude.{MatchResult}
use Rattle.ec_units.specs.declared.slave.Place.{Place}
use Rattle.ec_unit_text.specs.declared.fault.UnitFault.{UnitFault}
use Rattle.ec_unit_text.specs.Reading.{reading}
use Rattle.ec_units.specs.declared.units.Units.{Units}
use Rattle.ec_units.specs.Views.{UnitsView, units_view, view_loads}
use Rattle.ec_loads.specs.declared.item.Item.{Item}
use Rattle.ec_loads.specs.declared.plan.Illegal.{Illegal}
use Rattle.ec_loads.specs.Cost.{tick_cost, IsFirstBusiest}
use Rattle.ec_loads.specs.Legal.{IsLegal}
use Rattle.ec_cert_text.specs.declared.fault.CertFault.{CertFault}
use Rattle.ec_cert_text.specs.Reading.{reading as cert_reading}
use Rattle.ec_cert.specs.declared.cert.Best.{Best}
use Rattle.ec_cert.specs.Shapes.{CertView}
use Rattle.ec_checker.specs.Certified.{IsCertified}
use Rattle.ec_checker.specs.declared.fault.CheckFault.{CheckFault}
use Rattle.ec_frame_text.specs.Lines.{IsFramesText}
use Rattle.ec_frame_text.proofs.OnceLemmas.{frames_once}
use Rattle.ec_play_text.specs.Plays.{IsPlayText}
use Rattle.ec_play_text.proofs.PlayLemmas.{play_once}
use Rattle.ec_cli_refusals.specs.declared.refusal.Refusal.{Refusal}
use Rattle.ec_cli_refusals.specs.declared.refusal.Refusal.TheVariants as refusal
use Rattle.ec_cli_refusals.specs.Refusals.{IsUnitsFault}
use Rattle.ec_cli_command.specs.declared.job.Job.{Job}
use Rattle.ec_cli_command.specs.declared.job.Job.TheVariants as job
use Rattle.ec_cli_text.specs.Lines.{cost_lines}
use Rattle.ec_cli_text.specs.Plans.{IsBestless, IsFramedPlan, IsPlacedPlan, IsPlanless, IsUnplaced, first_unplaced, places_of}
use Rattle.ec_cli_text.specs.Output.{Written, IsOutput, IsUnitsOutput, IsCheckedOutput, IsTextFor, IsCostText, IsCostsText, refused}
use Rattle.ec_cli_run.proofs.OneCheck.{checked_once, fault_once, not_both}
use Rattle.ec_cli_run.proofs.OneIllegal.{neither_less, illegal_once, legal_none}

-- there is one first busiest tick
top_once : (xs : List Item) (n b c t u : ℕ) → IsFirstBusiest xs n b t → IsFirstBusiest xs n c u → (b ≡ c) × (t ≡ u)
top_once xs n b c t u p q =
    let low : b ≤ c = omega (arith, p.reached, q.busiest.most t) in
    let high : c ≤ b = omega (arith, q.reached, p.busiest.most u) in (
      omega arith,
      neither_less t u (λ less. omega (arith, q.first t less, p.reached)) (λ less. omega (arith, p.first u less, q.reached)),
    )

text_once : (xs : List Item) (n h ns : ℕ) (a b : List ℕ) → IsCostText xs n h ns a → IsCostText xs n h ns b → a ≡ b
text_once xs n h ns a b p q =
    let same = top_once xs n p.top q.top p.at q.at p.busiest q.busiest in
    p.lines ∙ (λ i. cost_lines (tick_cost xs n) h (same.0 i) (same.1 i) ns) ∙ sym q.lines

costs_once : (v : UnitsView) (ps : List Place) (a b : List ℕ) → IsCostsText v ps a → IsCostsText v ps b → a ≡ b
costs_once v ps a b p q = text_once _ _ _ _ a b p q

cert_once : (v : UnitsView) (r : Result CertView CertFault) (a b : Written) → MatchResult r (λ c. IsCheckedOutput v c a) (λ f. a ≡ refused (refusal.Cert f)) → MatchResult r (λ c. IsCheckedOutput v c b) (λ f. b ≡ refused (refusal.Cert f)) → a ≡ b
cert_once v (Ok c) a b p q = checked_once v c a b p q
cert_once v (Err f) a b p q = p ∙ sym q

pub ok_once : {A E : Type 0} (r : Result A E) (a b : A) → r ≡ Ok a → r ≡ Ok b → a ≡ b
ok_once r a b h k = cc

ok_err : {A E : Type 0} (r : Result A E) (a : A) (e : E) → r ≡ Ok a → r ≡ Err e → ⊥
ok_err r a e h k = cc

err_once : {A E : Type 0} (r : Result A E) (a b : E) → r ≡ Err a → r ≡ Err b → a ≡ b
err_once r a b h k = cc

some_once : {A : Type 0} (o : Option A) (a b : A) → o ≡ Some a → o ≡ Some b → a ≡ b
some_once o a b h k = cc

none_some : {A : Type 0} (o : Option A) (a : A) → o ≡ None → o ≡ Some a → ⊥
none_some o a h k = cc

-- ---- the plan of which is told

pub plan_once : (cert : Option (List ℕ)) (v : UnitsView) (p q : List Place) → IsFramedPlan cert v p → IsFramedPlan cert v q → p ≡ q
plan_once None v p q h k = h.given ∙ sym k.given
plan_once (Some text) v p q h k =
    let certs : h.cert ≡ k.cert = ok_once (cert_reading text) h.cert k.cert h.said k.said in
    let best : h.best ≡ k.best = some_once k.cert.best h.best k.best (ap (λ (c : CertView). c.best) (sym certs) ∙ h.held) k.held in
    h.plan ∙ ap (λ (b : Best). b.plan.places) best ∙ sym k.plan

-- where there is one, there is no reason for none
placed_or_none : (v : UnitsView) (p : List Place) (r : Refusal) → IsPlacedPlan v p → IsUnplaced v r → ⊥
placed_or_none v p r h (inl (n, at, is)) = none_some (first_unplaced v.units) n h.all at
placed_or_none v p r h (inr (all, f, wrong, is)) = legal_none (view_loads v.units) v.slots (places_of v.units) f (subst (λ (ps : List Place). IsLegal (view_loads v.units) v.slots ps) h.given h.legal) wrong

best_or_none : (us vs : Units) (c : CertView) (b : Best) (r : Refusal) → units_view us ≡ units_view vs → IsCertified us.units us.slots c → c.best ≡ Some b → IsBestless vs c r → ⊥
best_or_none us vs c b r views right held (inl h) = none_some c.best b h.1 held
best_or_none us vs c b r views right held (inr h) = not_both us vs c h.0 views right h.1 h.2

plan_or_none : (cert : Option (List ℕ)) (v : UnitsView) (p : List Place) (r : Refusal) → IsFramedPlan cert v p → IsPlanless cert v r → ⊥
plan_or_none None v p r h k = placed_or_none v p r h k
plan_or_none (Some text) v p r h (inl (f, said, is)) = ok_err (cert_reading text) h.cert f h.said said
plan_or_none (Some text) v p r h (inr (c, said, us, seen, k)) =
    let same : c ≡ h.cert = ok_once (cert_reading text) c h.cert said h.said in
    best_or_none h.units us h.cert h.best r (h.seen ∙ sym seen) h.right h.held (subst (λ (d : CertView). IsBestless us d r) same k)

-- there is one reason
unplaced_once : (v : UnitsView) (r s : Refusal) → IsUnplaced v r → IsUnplaced v s → r ≡ s
unplaced_once v r s (inl h) (inl k) = h.2 ∙ ap (λ (n : ℕ). refusal.NoPlace n) (some_once (first_unplaced v.units) h.0 k.0 h.1 k.1) ∙ sym k.2
unplaced_once v r s (inl h) (inr k) = absurd (none_some (first_unplaced v.units) h.0 k.0 h.1)
unplaced_once v r s (inr h) (inl k) = absurd (none_some (first_unplaced v.units) k.0 h.0 k.1)
unplaced_once v r s (inr (all, f, wrong, is)) (inr (too, g, worse, so)) = is ∙ ap (λ (e : Illegal). refusal.Illegal e) (illegal_once (view_loads v.units) v.slots (places_of v.units) f g wrong worse) ∙ sym so

bestless_once : (us vs : Units) (c : CertView) (r s : Refusal) → units_view us ≡ units_view vs → IsBestless us c r → IsBestless vs c s → r ≡ s
bestless_once us vs c r s views (inl h) (inl k) = h.2 ∙ sym k.2
bestless_once us vs c r s views (inl h) (inr k) = absurd (not_both us vs c k.0 views h.0 k.1 k.2)
bestless_once us vs c r s views (inr h) (inl k) = absurd (not_both vs us c h.0 (sym views) k.0 h.1 h.2)
bestless_once us vs c r s views (inr h) (inr k) = h.3 ∙ ap (λ (f : CheckFault). refusal.Check f) (fault_once us vs c h.0 k.0 views h.1 h.2 k.1 k.2) ∙ sym k.3

planless_once : (cert : Option (List ℕ)) (v : UnitsView) (r s : Refusal) → IsPlanless cert v r → IsPlanless cert v s → r ≡ s
planless_once None v r s h k = unplaced_once v r s h k
planless_once (Some text) v r s (inl (f, said, is)) (inl (g, also, so)) = is ∙ ap (λ (e : CertFault). refusal.Cert e) (err_once (cert_reading text) f g said also) ∙ sym so
planless_once (Some text) v r s (inl (f, said, is)) (inr k) = absurd (ok_err (cert_reading text) k.0 f k.1 said)
planless_once (Some text) v r s (inr h) (inl (g, also, so)) = absurd (ok_err (cert_reading text) h.0 g h.1 also)
planless_once (Some text) v r s (inr (c, said, us, seen, h)) (inr (d, also, vs, so, k)) =
    let same : c ≡ d = ok_once (cert_reading text) c d said also in
    bestless_once us vs d r s (seen ∙ sym so) (subst (λ (x : CertView). IsBestless us x r) same h) k

-- ---- the text of a plan

-- one that units at places have once
abbrev Texts : Type 1
Texts = UnitsView → List Place → List ℕ → Type 0

abbrev Once : Texts → Type 0
Once T = (v : UnitsView) (ps : List Place) (a b : List ℕ) → T v ps a → T v ps b → a ≡ b

text_once_for : (T : Texts) → Once T → (cert : Option (List ℕ)) (v : UnitsView) (a b : Written) → IsTextFor T cert v a → IsTextFor T cert v b → a ≡ b
text_once_for T once cert v a b (inl h) (inl k) =
    let places : h.0 ≡ k.0 = plan_once cert v h.0 k.0 h.1 k.1 in
    let text : a.text ≡ b.text = once v k.0 a.text b.text (subst (λ (ps : List Place). T v ps a.text) places h.2) k.2 in
    let code : a.code ≡ b.code = h.3 ∙ sym k.3 in
    (λ i. record { text = text i; code = code i })
text_once_for T once cert v a b (inl h) (inr k) = absurd (plan_or_none cert v h.0 k.0 h.1 k.1)
text_once_for T once cert v a b (inr h) (inl k) = absurd (plan_or_none cert v k.0 h.0 k.1 h.1)
text_once_for T once cert v a b (inr h) (inr k) = h.2 ∙ ap refused (planless_once cert v h.0 k.0 h.1 k.1) ∙ sym k.2

-- ---- for the bytes that are read

units_once : (j : Job) (cert : Option (List ℕ)) (v : UnitsView) (a b : Written) → IsUnitsOutput j cert v a → IsUnitsOutput j cert v b → a ≡ b
units_once job.Cost cert v a b p q = text_once_for IsCostsText costs_once None v a b p q
units_once job.Check (Some text) v a b p q = cert_once v (cert_reading text) a b p q
units_once job.Frames cert v a b p q = text_once_for IsFramesText frames_once cert v a b p q
units_once job.Capture cert v a b p q = text_once_for IsFramesText frames_once cert v a b p q
units_once job.Play cert v a b p q = text_once_for IsPlayText play_once cert v a b p q
units_once job.PlanCost cert v a b p q = text_once_for IsCostsText costs_once cert v a b p q
units_once j cert v a b p q = absurd p

units_or_fault : (bytes : List ℕ) (v : UnitsView) (r : Refusal) → length bytes ≤ 1048576 → reading bytes ≡ Ok v → IsUnitsFault bytes r → ⊥
units_or_fault bytes v r short said (inl h) = ok_err (reading bytes) v h.1.0 said h.1.1
units_or_fault bytes v r short said (inr h) = omega (arith, short, h.0)

unit_fault_once : (bytes : List ℕ) (r s : Refusal) → IsUnitsFault bytes r → IsUnitsFault bytes s → r ≡ s
unit_fault_once bytes r s (inl h) (inl k) = h.1.2 ∙ ap (λ (f : UnitFault). refusal.Unit f) (err_once (reading bytes) h.1.0 k.1.0 h.1.1 k.1.1) ∙ sym k.1.2
unit_fault_once bytes r s (inl h) (inr k) = absurd (omega (arith, h.0, k.0))
unit_fault_once bytes r s (inr h) (inl k) = absurd (omega (arith, h.0, k.0))
unit_fault_once bytes r s (inr h) (inr k) = h.1 ∙ sym k.1

pub output_once : (j : Job) (bytes : List ℕ) (cert : Option (List ℕ)) (a b : Written) → IsOutput j bytes cert a → IsOutput j bytes cert b → a ≡ b
output_once j bytes cert a b (inl (v, short, said, h)) (inl (w, also, so, k)) =
    let same : v ≡ w = ok_once (reading bytes) v w said so in
    units_once j cert w a b (subst (λ (u : UnitsView). IsUnitsOutput j cert u a) same h) k
output_once j bytes cert a b (inl (v, short, said, h)) (inr (r, fault, is)) = absurd (units_or_fault bytes v r short said fault)
output_once j bytes cert a b (inr (r, fault, is)) (inl (v, short, said, h)) = absurd (units_or_fault bytes v r short said fault)
output_once j bytes cert a b (inr (r, fault, is)) (inr (s, other, so)) = is ∙ ap refused (unit_fault_once bytes r s fault other) ∙ sym so
