-- The bytes of a datagram that a record maps, by the borders of the record, the datagram and the memory.
use Rattle.std.proofs.Common.{◌≡◌, ℕ, ◌+◌, ◌-◌, ◌<◌, ◌≤◌, Bool, true, false, ◌||◌, List, [], ◌∷◌, Option, Some, None, refl, ap, sym, ◌∙◌, arith}
use Prim.Native.Nat.{min, max, zero, suc}
use mathlib.Core.Bool.{not}
use Rattle.std.specs.Prelude.{is_some, nat_eq}
use Rattle.std.specs.List.{range_with_len, list_any}
use Rattle.std.proofs.lemmas.Bool.Decides.{nat_tests}
use Rattle.ec_slave.specs.declared.fmmu.Fmmu.{Fmmu}
use Rattle.ec_slave.specs.declared.fmmu.Fmmus.{Fmmus}
use Rattle.ec_slave.specs.declared.fmmu.Direction.{Direction}
use Rattle.ec_slave.specs.declared.fmmu.Direction.TheVariants as direction
use Rattle.ec_slave.specs.declared.stretch.Stretch.{Stretch}
use Rattle.ec_slave.specs.Fmmus.{IsMapped, has, place_of}
use Rattle.ec_slave.specs.IsStretch.{IsStretch, maps}
use Rattle.ec_slave.specs.Logical.{first_of, met, meets}
use Rattle.ec_slave.proofs.MapLemmas.{place_found, place_again}
use Rattle.ec_slave.proofs.RangeLemmas.{any_at, any_none}

abbrev pub nothing : Stretch
nothing = record { from = 0; len = 0; place = 0 }

-- the first byte behind what a record maps of a datagram and a memory
abbrev pub end_of : Fmmu → ℕ → ℕ → ℕ → ℕ
end_of f size address n = min (min (f.logical + min f.len (size - f.physical)) (address + n)) 4294967296

pub none_directed : (f : Fmmu) (size : ℕ) (d : Direction) (address n : ℕ) → has f d ≡ false → IsStretch f size d address n nothing
none_directed f size d address n off = record {
  bound = omega arith;
  room = omega arith;
  mapped = λ j h. absurd (omega (arith, h));
  whole = λ k m _ h. let bad : true ≡ false = sym h.direction ∙ off in absurd (cc (bad));
}

pub none_between : (f : Fmmu) (size : ℕ) (d : Direction) (address n : ℕ) → end_of f size address n ≤ max f.logical address → IsStretch f size d address n nothing
none_between f size d address n e = record {
  bound = omega arith;
  room = omega arith;
  mapped = λ j h. absurd (omega (arith, h));
  whole = λ k m l h.
      let within = h.within in
      let logical = h.logical_is in
      let memory = h.memory_is in
      let top = h.logical_end in
      let room = h.memory_end in
      absurd (omega (arith, e, l, within, logical, memory, top, room));
}

pub some_between : (f : Fmmu) (size : ℕ) (d : Direction) (address n : ℕ) (s : Stretch) → has f d ≡ true → max f.logical address < end_of f size address n →
    s.from ≡ max f.logical address - address → s.len ≡ end_of f size address n - max f.logical address → s.place ≡ f.physical + (max f.logical address - f.logical) →
    IsStretch f size d address n s
some_between f size d address n s on some from len place = record {
  bound = omega (arith, some, from, len);
  room = omega (arith, some, len, place);
  mapped = λ j h. record {
    direction = on;
    at = max f.logical address - f.logical + j;
    within = omega (arith, some, len, h);
    logical_is = omega (arith, some, from, len, h);
    memory_is = omega (arith, place);
    logical_end = omega (arith, some, from, len, h);
    memory_end = omega (arith, some, len, place, h);
  };
  whole = λ k m l h.
      let within = h.within in
      let logical = h.logical_is in
      let memory = h.memory_is in
      let top = h.logical_end in
      let room = h.memory_end in
      (omega (arith, some, from, len, l, within, logical, memory, top, room), omega (arith, some, from, len, l, within, logical, memory, top, room));
}

-- the place of a byte in the stretch
pub place_inside : (f : Fmmu) (size : ℕ) (d : Direction) (address n : ℕ) (s : Stretch) (k : ℕ) → IsStretch f size d address n s → s.from ≤ k → k < s.from + s.len →
    place_of f size d (address + k) ≡ Some (s.place + (k - s.from))
place_inside f size d address n s k h low high =
    let j : ℕ = k - s.from in
    let e : s.from + (k - s.from) ≡ k = omega (arith, low) in
    let small : k - s.from < s.len = omega (arith, low, high) in
    ap (λ i. place_of f size d (address + i)) (sym e)
    ∙ place_again f size d (address + (s.from + (k - s.from))) (s.place + (k - s.from)) (h.mapped (k - s.from) small)

found_none : (f : Fmmu) (size : ℕ) (d : Direction) (a : ℕ) (o : Option ℕ) → place_of f size d a ≡ o → ((m : ℕ) → IsMapped f size d a m → ⊥) → place_of f size d a ≡ None
found_none f size d a None e h = e
found_none f size d a (Some m) e h = absurd (h m (place_found f size d a m e))

-- none out of it
pub place_outside : (f : Fmmu) (size : ℕ) (d : Direction) (address n : ℕ) (s : Stretch) (k : ℕ) → IsStretch f size d address n s → k < n → (s.from ≤ k → k < s.from + s.len → ⊥) →
    place_of f size d (address + k) ≡ None
place_outside f size d address n s k h l out =
    found_none f size d (address + k) (place_of f size d (address + k)) refl (λ m i. let w = h.whole k m l i in out w.0 w.1)

-- a record maps a byte where its stretch has one
pub maps_some : (f : Fmmu) (size : ℕ) (d : Direction) (address n : ℕ) (s : Stretch) → IsStretch f size d address n s → 0 < s.len → maps f size d address n ≡ true
maps_some f size d address n s h l =
    let bound = h.bound in
    any_at (λ k. is_some (place_of f size d (address + k))) n s.from (omega (arith, bound, l))
    (ap (λ (o : Option ℕ). is_some o) (place_inside f size d address n s s.from h (omega arith) (omega (arith, l))))

pub maps_none : (f : Fmmu) (size : ℕ) (d : Direction) (address n : ℕ) (s : Stretch) → IsStretch f size d address n s → s.len ≡ 0 → maps f size d address n ≡ false
maps_none f size d address n s h l =
    any_none (λ k. is_some (place_of f size d (address + k))) n
    (λ k b. ap (λ (o : Option ℕ). is_some o) (place_outside f size d address n s k h b (λ low high. absurd (omega (arith, l, low, high)))))

maps_by : (f : Fmmu) (size : ℕ) (d : Direction) (address n : ℕ) (s : Stretch) (l : ℕ) → s.len ≡ l → IsStretch f size d address n s → not (nat_eq l 0) ≡ maps f size d address n
maps_by f size d address n s zero e h = sym (maps_none f size d address n s h e)
maps_by f size d address n s (suc l) e h = let more : nat_eq (suc l) 0 ≡ false = grind (arith, nat_tests) in ap not more ∙ sym (maps_some f size d address n s h (omega (arith, e)))

pub maps_is : (f : Fmmu) (size : ℕ) (d : Direction) (address n : ℕ) (s : Stretch) → IsStretch f size d address n s → not (nat_eq s.len 0) ≡ maps f size d address n
maps_is f size d address n s h = maps_by f size d address n s s.len refl h

shuffled : (a b c d : Bool) → ((a || b) || (c || d)) ≡ ((a || c) || (b || d))
shuffled true b c d = refl
shuffled false true true d = refl
shuffled false true false d = refl
shuffled false false c d = refl

any_both : (p q r : ℕ → Bool) → ((k : ℕ) → r k ≡ (p k || q k)) → (xs : List ℕ) → (list_any p xs || list_any q xs) ≡ list_any r xs
any_both p q r h [] = refl
any_both p q r h (x ∷ xs) = shuffled (p x) (list_any p xs) (q x) (list_any q xs) ∙ (λ i. sym (h x) i || any_both p q r h xs i)

some_first : (o p : Option ℕ) → is_some (first_of o p) ≡ (is_some p || is_some o)
some_first None None = refl
some_first None (Some k) = refl
some_first (Some k) None = refl
some_first (Some k) (Some j) = refl

-- the map is met where one of the two records maps a byte
pub meets_is : (fs : Fmmus) (size : ℕ) (d : Direction) (address n : ℕ) → (maps fs.first size d address n || maps fs.second size d address n) ≡ meets fs size d address n
unfolding meets
meets_is fs size d address n =
    any_both (λ k. is_some (place_of fs.first size d (address + k))) (λ k. is_some (place_of fs.second size d (address + k))) (λ k. is_some (met fs size d (address + k)))
    (λ k. some_first (place_of fs.second size d (address + k)) (place_of fs.first size d (address + k))) (range_with_len 0 n)

-- two results, of which the second was read at sizes that are those of the first
pub met_is : (fs : Fmmus) (size size2 : ℕ) (d : Direction) (address n n2 : ℕ) (a b : Bool) → size2 ≡ size → n2 ≡ n → a ≡ maps fs.first size d address n → b ≡ maps fs.second size2 d address n2 →
    (a || b) ≡ meets fs size d address n
met_is fs size size2 d address n n2 a b es en ea eb = (λ i. ea i || eb i) ∙ (λ i. maps fs.first size d address n || maps fs.second (es i) d address (en i)) ∙ meets_is fs size d address n

pub read_met : (fs : Fmmus) (size address n n1 n2 : ℕ) (a b : Bool) → n1 ≡ n → n2 ≡ n → a ≡ maps fs.first size direction.Reads address n1 → b ≡ maps fs.second size direction.Reads address n2 →
    (a || b) ≡ meets fs size direction.Reads address n
read_met fs size address n n1 n2 a b e1 e2 ea eb = met_is fs size size direction.Reads address n n2 a b refl e2 (ea ∙ ap (maps fs.first size direction.Reads address) e1) eb
