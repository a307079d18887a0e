-- The byte to which a record maps a logical byte, and the logical byte that it maps to a byte, are those of its mapped bytes.
-- A write through an FMMU is coded by source and said by target: `place_found`, `place_again`, `source_found`,
-- `source_again` join the two.
use Rattle.std.proofs.Common.{◌≡◌, ℕ, ◌+◌, ◌-◌, ◌<◌, ◌≤◌, Bool, true, false, ◌&&◌, cond, Some, None, refl, ap, arith}
use Rattle.std.specs.Prelude.{nat_lt, nat_le}
use Rattle.std.proofs.lemmas.Bool.Decides.{nat_tests}
use Rattle.ec_slave.specs.declared.fmmu.Fmmu.{Fmmu}
use Rattle.ec_slave.specs.declared.fmmu.Direction.{Direction}
use Rattle.ec_slave.specs.Fmmus.{IsMapped, place_of, source_of}

both : (a b : Bool) → (a && b) ≡ true → (a ≡ true) × (b ≡ true)
both true b h = (refl, h)
both false b h = absurd (cc (h))

given : (b : Bool) (x y : ℕ) → cond b (Some x) None ≡ Some y → (b ≡ true) × (x ≡ y)
given true x y h = (refl, cc (h))
given false x y h = absurd (cc (h))

and_five : (a b c d e : Bool) → a ≡ true → b ≡ true → c ≡ true → d ≡ true → e ≡ true → (a && (b && (c && (d && e)))) ≡ true
and_five a b c d e p q r s t = rw (p, q, r, s) t

and_parts : (a b c d e : Bool) → (a && (b && (c && (d && e)))) ≡ true → (a ≡ true) × (b ≡ true) × (c ≡ true) × (d ≡ true) × (e ≡ true)
and_parts a b c d e h =
    let p = both a (b && (c && (d && e))) h in
    let q = both b (c && (d && e)) p.1 in
    let r = both c (d && e) q.1 in
    let s = both d e r.1 in
    (p.0, q.0, r.0, s.0, s.1)

chosen_some : (b : Bool) (x y : ℕ) → b ≡ true → x ≡ y → cond b (Some x) None ≡ Some y
chosen_some b x y t e = rw t (ap (λ (n : ℕ). Some n) e)

le_true : (a b : ℕ) → a ≤ b → nat_le a b ≡ true
le_true a b h = grind (arith, nat_tests)

lt_true : (a b : ℕ) → a < b → nat_lt a b ≡ true
lt_true a b h = grind (arith, nat_tests)

is_le : (a b : ℕ) → nat_le a b ≡ true → a ≤ b
is_le a b h = grind (arith, nat_tests)

is_lt : (a b : ℕ) → nat_lt a b ≡ true → a < b
is_lt a b h = grind (arith, nat_tests)

pub place_found : (f : Fmmu) (size : ℕ) (d : Direction) (a m : ℕ) → place_of f size d a ≡ Some m → IsMapped f size d a m
place_found f size d a m h =
    let t = given _ _ m h in
    let p = and_parts _ _ _ _ _ t.0 in
    let low = is_le f.logical a p.1 in
    let high = is_lt a (f.logical + f.len) p.2 in
    let top = is_le a 0xFFFFFFFF p.3 in
    let room = is_lt (f.physical + (a - f.logical)) size p.4 in
    let is = t.1 in
    record {
      direction = p.0;
      at = a - f.logical;
      within = omega arith;
      logical_is = omega arith;
      memory_is = omega arith;
      logical_end = top;
      memory_end = omega arith;
    }

pub place_again : (f : Fmmu) (size : ℕ) (d : Direction) (a m : ℕ) → IsMapped f size d a m → place_of f size d a ≡ Some m
place_again f size d a m h =
    let within = h.within in
    let logical = h.logical_is in
    let memory = h.memory_is in
    let room = h.memory_end in
    chosen_some _ (f.physical + (a - f.logical)) m
    (and_five _ _ _ _ _ h.direction (le_true f.logical a (omega arith)) (lt_true a (f.logical + f.len) (omega arith)) (le_true a 0xFFFFFFFF h.logical_end)
    (lt_true (f.physical + (a - f.logical)) size (omega arith)))
    (omega arith)

pub source_found : (f : Fmmu) (size : ℕ) (d : Direction) (a m : ℕ) → source_of f size d m ≡ Some a → IsMapped f size d a m
source_found f size d a m h =
    let t = given _ _ a h in
    let p = and_parts _ _ _ _ _ t.0 in
    let low = is_le f.physical m p.1 in
    let high = is_lt m (f.physical + f.len) p.2 in
    let top = is_le (f.logical + (m - f.physical)) 0xFFFFFFFF p.3 in
    let room = is_lt m size p.4 in
    let is = t.1 in
    record {
      direction = p.0;
      at = m - f.physical;
      within = omega arith;
      logical_is = omega arith;
      memory_is = omega arith;
      logical_end = omega arith;
      memory_end = room;
    }

pub source_again : (f : Fmmu) (size : ℕ) (d : Direction) (a m : ℕ) → IsMapped f size d a m → source_of f size d m ≡ Some a
source_again f size d a m h =
    let within = h.within in
    let logical = h.logical_is in
    let memory = h.memory_is in
    let top = h.logical_end in
    let room = h.memory_end in
    chosen_some _ (f.logical + (m - f.physical)) a
    (and_five _ _ _ _ _ h.direction (le_true f.physical m (omega arith)) (lt_true m (f.physical + f.len) (omega arith)) (le_true (f.logical + (m - f.physical)) 0xFFFFFFFF (omega arith))
    (lt_true m size (omega arith)))
    (omega arith)

pub place_bound : (f : Fmmu) (size : ℕ) (d : Direction) (a m : ℕ) → place_of f size d a ≡ Some m → m < size
place_bound f size d a m h = (place_found f size d a m h).memory_end
