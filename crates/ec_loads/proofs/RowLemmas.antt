-- What the rows of a table say of every tick.
use Rattle.std.proofs.Common.{◌≡◌, ℕ, ◌+◌, ◌*◌, ◌<◌, ◌≤◌, List, get_or, refl, sym, subst, ◌∙◌, arith}
use Rattle.ec_loads.specs.declared.item.Item.{Item}
use Rattle.ec_loads.specs.Cost.{payload, DivideAll, IsFirstBusiest}
use Rattle.ec_loads.specs.Legal.{Fits, IsFirstFull}
use Rattle.ec_loads.specs.Table.{HoldsItems}
use Rattle.ec_loads.proofs.CostLemmas.{busiest-below, Fits-below}

-- the greatest of the costs is that of the busiest tick
pub greatest-busiest : (xs : List Item) (n h b t : ℕ) (counts cells costs raws : List ℕ) (total q c : ℕ) → HoldsItems xs n h counts cells costs raws total q c → 0 < h → DivideAll h xs →
    t < h → get_or costs t 0 ≡ b → ((i : ℕ) → i < h → get_or costs i 0 ≤ b) → ((i : ℕ) → i < t → get_or costs i 0 < b) → IsFirstBusiest xs n b t
greatest-busiest xs n h b t counts cells costs raws total q c k pos d within reached most first =
    busiest-below xs n h b t pos d (sym (k.cost t within) ∙ reached)
    (λ i l. subst (λ w. w ≤ b) (k.cost i l) (most i l))
    (λ i l. subst (λ w. w < b) (k.cost i (omega (arith, l, within))) (first i l))

-- where no cell is too large, every tick fits
pub cells-fit : (xs : List Item) (n h : ℕ) (counts cells costs raws : List ℕ) (total q c : ℕ) → HoldsItems xs n h counts cells costs raws total q c → 0 < h → DivideAll h xs →
    ((t s : ℕ) → t < h → s < n → get_or cells (t * 8 + s) 0 ≤ 1498) → Fits xs n
cells-fit xs n h counts cells costs raws total q c k pos d low = Fits-below xs n h pos d (λ t s a b. subst (λ w. w ≤ 1498) (k.carried t s a b) (low t s a b))

-- the first cell that is too large is the first slot that is too full
pub cell-full : (xs : List Item) (n h t s : ℕ) (counts cells costs raws : List ℕ) (total q c : ℕ) → HoldsItems xs n h counts cells costs raws total q c →
    t < h → s < n → 1498 < get_or cells (t * 8 + s) 0 → ((i j : ℕ) → i < t → j < n → get_or cells (i * 8 + j) 0 ≤ 1498) → ((j : ℕ) → j < s → get_or cells (t * 8 + j) 0 ≤ 1498) →
    (b : ℕ) × IsFirstFull xs n t s b
cell-full xs n h t s counts cells costs raws total q c k within inside above ticks slots = (
  payload xs t s,
  record {
    slot = inside;
    bytes = refl;
    above = subst (λ w. 1498 < w) (k.carried t s within inside) above;
    ticks = λ i j a b. subst (λ w. w ≤ 1498) (k.carried i j (omega (arith, a, within)) b) (ticks i j a b);
    slots = λ j l. subst (λ w. w ≤ 1498) (k.carried t j within (omega (arith, l, inside))) (slots j l);
  },
)
