-- Only pieces of the part are taken and reported, so each other one stays an open leaf.
use Rattle.std.proofs.Common.{◌≡◌, ◌≢◌, ℕ, zero, suc, eqb, Bool, true, false, if◌then◌else◌, All, List, [], ◌∷◌, ◌++◌, set, slice_get, replicate, Some, refl, ap, ◌∙◌, arith}
use Rattle.std.proofs.lemmas.List.Elements.{All-push, All-tail}
use Rattle.ec_cert.specs.Shapes.{shape_of}
use Rattle.ec_book.specs.declared.piece.Piece.{Piece}
use Rattle.ec_book.specs.declared.piece.Piece.TheVariants.{Free, Taken, Ended}
use Rattle.ec_book.specs.declared.report.Report.{Report}
use Rattle.ec_book.specs.Numbered.{gap, numbered}
use Rattle.ec_book.specs.Grown.{grown}
use Rattle.ec_book.specs.Parts.{IsReportOf, IsParted}

taken_in-set : (ours : ℕ → Bool) (ps : List Piece) (i : ℕ) (new : Piece) → ((w g : ℕ) → new ≡ Taken w g → ours i ≡ true) → ((m w g : ℕ) → slice_get ps m ≡ Some (Taken w g) → ours m ≡ true)
    → (m w g : ℕ) → slice_get (set ps i new) m ≡ Some (Taken w g) → ours m ≡ true
taken_in-set ours [] i new own all m w g is = all m w g is
taken_in-set ours (p ∷ ps) zero new own all zero w g is = own w g cc
taken_in-set ours (p ∷ ps) zero new own all (suc m) w g is = all (suc m) w g is
taken_in-set ours (p ∷ ps) (suc i) new own all zero w g is = all zero w g is
taken_in-set ours (p ∷ ps) (suc i) new own all (suc m) w g is = taken_in-set (λ n. ours (suc n)) ps i new own (λ n. all (suc n)) m w g is

not_taken : (count m w g : ℕ) → slice_get (replicate count Free) m ≡ Some (Taken w g) → ⊥
not_taken zero m w g is = cc
not_taken (suc count) zero w g is = cc
not_taken (suc count) (suc m) w g is = not_taken count m w g is

taken_in-more : (ours : ℕ → Bool) (ps : List Piece) (count : ℕ) → ((m w g : ℕ) → slice_get ps m ≡ Some (Taken w g) → ours m ≡ true)
    → (m w g : ℕ) → slice_get (ps ++ replicate count Free) m ≡ Some (Taken w g) → ours m ≡ true
taken_in-more ours [] count all m w g is = absurd (not_taken count m w g is)
taken_in-more ours (p ∷ ps) count all zero w g is = all zero w g is
taken_in-more ours (p ∷ ps) count all (suc m) w g is = taken_in-more (λ n. ours (suc n)) ps count (λ n. all (suc n)) m w g is

module _ (ours : ℕ → Bool) (ps : List Piece) (reports : List Report) (h : IsParted ours ps reports) where
  -- a piece of the part is taken
  pub parted-took : (p w g : ℕ) → ours p ≡ true → IsParted ours (set ps p (Taken w g)) reports
  parted-took p w g own = record { taken = taken_in-set ours ps p (Taken w g) (λ v f is. own) h.taken; reported = h.reported }

  -- a piece is given back
  pub parted-back : (p : ℕ) → IsParted ours (set ps p Free) reports
  parted-back p = record { taken = taken_in-set ours ps p Free (λ v f is. absurd cc) h.taken; reported = h.reported }

  -- a piece that was taken is reported
  pub parted-report : (p w g count : ℕ) (new_ps : List Piece) (new_reports : List Report) (r : Report) → slice_get ps p ≡ Some (Taken w g) → r.piece ≡ p
      → new_ps ≡ set ps p Ended ++ replicate count Free → new_reports ≡ reports ++ r ∷ [] → IsParted ours new_ps new_reports
  parted-report p w g count new_ps new_reports r at piece_is ps_are reports_are = rw (ps_are, reports_are) (record {
    taken = taken_in-more ours (set ps p Ended) count (taken_in-set ours ps p Ended (λ v f is. absurd cc) h.taken);
    reported = All-push (IsReportOf ours) reports r h.reported (ap ours piece_is ∙ h.taken p w g at);
  })

-- nothing is taken or reported yet
pub parted-given : (ours : ℕ → Bool) (count : ℕ) → IsParted ours (replicate count Free) []
parted-given ours count = record { taken = λ m w g is. absurd (not_taken count m w g is); reported = λ k d low. absurd (omega (arith, low)) }

-- a piece that isn't of the part stays what it was
pub unreported : (ours : ℕ → Bool) (rs : List Report) (m : ℕ) → All (IsReportOf ours) rs → ours m ≡ false → grown (gap m) rs ≡ gap m
unreported ours [] m all other = refl
unreported ours (r ∷ rs) m all other =
    let own : ours r.piece ≡ true = all 0 r (omega arith) in
    let apart : eqb m r.piece ≡ false = eqb-other m r.piece (λ same. let clash : ours m ≡ true = ap ours same ∙ own in absurd cc) in
    ap (λ b. grown (if b then numbered r.first (shape_of r.tree) else gap m) rs) apart ∙ unreported ours rs m (All-tail (IsReportOf ours) r rs all) other
  where
    eqb-other : (m p : ℕ) → m ≢ p → eqb m p ≡ false
    eqb-other m p apart = elim (eqb m p) as (λ b. eqb m p ≡ b → b ≡ false) [
      | true ↦ λ is. let same : m ≡ p = grind arith in absurd (apart same)
      | false ↦ λ is. refl
    ] refl
