-- Laws of filling.
-- `numbered k shape` numbers the open leaves of a reported subtree from k on, `plug p s t` puts it in its place,
-- `grown` does so for all reports. All speak of `Shape`s, so each law is a short mutual induction. "The open leaves are
-- the free and taken pieces" is said by `times`, by `gaps`, and by place (`StandsAt`), each with its own law under
-- `plug`.
use Rattle.std.proofs.Common.{◌≡◌, ◌≢◌, ℕ, ◌+◌, ◌*◌, ◌<◌, ◌==◌, if◌then◌else◌, refl, ap, arith}
use Rattle.std.proofs.lemmas.Grind.{common_steps}
use Rattle.ec_book.specs.Numbered.{Numbered, Numbereds, branch, closed, gap, last, next, fill, fills, plug, size, sizes, gaps, all_gaps, times, all_times}

module _ (p : ℕ) (s : Numbered) where
  abbrev at : ℕ → Numbered
  at m = if m == p then s else gap m

  gap-size : (n : ℕ) → size (at n) ≡ 0 + times p (gap n) * size s
  gap-size n = grind (arith, common_steps)

  mutual
    pub size-plug : (t : Numbered) → size (plug p s t) ≡ size t + times p t * size s
    size-plug (branch ts) = let rest = sizes-plug ts in omega (arith, rest)
    size-plug (closed l) = omega arith
    size-plug (gap n) = gap-size n

    sizes-plug : (ts : Numbereds) → sizes (fills at ts) ≡ sizes ts + all_times p ts * size s
    sizes-plug last = omega arith
    sizes-plug (next t ts) = let one = size-plug t in let rest = sizes-plug ts in grind (arith, one, rest)

  gap-gaps : (n : ℕ) → gaps (at n) + times p (gap n) ≡ 1 + times p (gap n) * gaps s
  gap-gaps n = grind (arith, common_steps)

  mutual
    pub gaps-plug : (t : Numbered) → gaps (plug p s t) + times p t ≡ gaps t + times p t * gaps s
    gaps-plug (branch ts) = all_gaps-plug ts
    gaps-plug (closed l) = omega arith
    gaps-plug (gap n) = gap-gaps n

    all_gaps-plug : (ts : Numbereds) → all_gaps (fills at ts) + all_times p ts ≡ all_gaps ts + all_times p ts * gaps s
    all_gaps-plug last = omega arith
    all_gaps-plug (next t ts) = let one = gaps-plug t in let rest = all_gaps-plug ts in grind (arith, one, rest)

  gap-other : (m n : ℕ) → m ≢ p → times m (at n) ≡ times m (gap n) + times p (gap n) * times m s
  gap-other m n h = grind (arith, common_steps)

  mutual
    pub times-plug-other : (m : ℕ) (t : Numbered) → m ≢ p → times m (plug p s t) ≡ times m t + times p t * times m s
    times-plug-other m (branch ts) h = all_times-plug-other m ts h
    times-plug-other m (closed l) h = omega arith
    times-plug-other m (gap n) h = gap-other m n h

    all_times-plug-other : (m : ℕ) (ts : Numbereds) → m ≢ p → all_times m (fills at ts) ≡ all_times m ts + all_times p ts * times m s
    all_times-plug-other m last h = omega arith
    all_times-plug-other m (next t ts) h = let one = times-plug-other m t h in let rest = all_times-plug-other m ts h in grind (arith, one, rest)

  gap-same : (n : ℕ) → times p (at n) ≡ times p (gap n) * times p s
  gap-same n = grind (arith, common_steps)

  mutual
    pub times-plug-same : (t : Numbered) → times p (plug p s t) ≡ times p t * times p s
    times-plug-same (branch ts) = all_times-plug-same ts
    times-plug-same (closed l) = omega arith
    times-plug-same (gap n) = gap-same n

    all_times-plug-same : (ts : Numbereds) → all_times p (fills at ts) ≡ all_times p ts * times p s
    all_times-plug-same last = omega arith
    all_times-plug-same (next t ts) = let one = times-plug-same t in let rest = all_times-plug-same ts in grind (arith, one, rest)

-- each number of an open leaf is below c
abbrev mutual
  pub Below : ℕ → Numbered → Type 0
  Below c (branch ts) = AllBelow c ts
  Below c (closed l) = Unit {0}
  Below c (gap n) = n < c

  pub AllBelow : ℕ → Numbereds → Type 0
  AllBelow c last = Unit {0}
  AllBelow c (next t ts) = Below c t × AllBelow c ts

-- filling a filled shape
module _ (f g h : ℕ → Numbered) (each : (m : ℕ) → f m ≡ fill g (h m)) where
  mutual
    pub fill-fill : (t : Numbered) → fill f t ≡ fill g (fill h t)
    fill-fill (branch ts) = ap branch (fills-fills ts)
    fill-fill (closed l) = refl
    fill-fill (gap n) = each n

    fills-fills : (ts : Numbereds) → fills f ts ≡ fills g (fills h ts)
    fills-fills last = refl
    fills-fills (next t ts) = (λ j. next (fill-fill t j) (fills-fills ts j))

-- the same numbers at the open leaves
mutual
  pub fill-gap : (t : Numbered) → fill (λ m. gap m) t ≡ t
  fill-gap (branch ts) = ap branch (fills-gap ts)
  fill-gap (closed l) = refl
  fill-gap (gap n) = refl

  fills-gap : (ts : Numbereds) → fills (λ m. gap m) ts ≡ ts
  fills-gap last = refl
  fills-gap (next t ts) = (λ j. next (fill-gap t j) (fills-gap ts j))

module _ (h : ℕ → Numbered) (c d : ℕ) (each : (m : ℕ) → m < c → Below d (h m)) where
  mutual
    pub Below-fill : (t : Numbered) → Below c t → Below d (fill h t)
    Below-fill (branch ts) b = AllBelow-fills ts b
    Below-fill (closed l) b = tt
    Below-fill (gap n) b = each n b

    AllBelow-fills : (ts : Numbereds) → AllBelow c ts → AllBelow d (fills h ts)
    AllBelow-fills last b = tt
    AllBelow-fills (next t ts) b = (Below-fill t b.0, AllBelow-fills ts b.1)
