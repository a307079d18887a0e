-- Prefixes in a tree of their places.
use Rattle.std.proofs.Common.{inl, inr, ◌≡◌, ℕ, zero, suc, ◌+◌, ◌-◌, ◌<◌, ◌≤◌, All, List, [], ◌∷◌, ◌++◌, length, get_or, slice_get, map, reverse, Some, refl, sym, ap, ◌∙◌, subst, arith}
use Rattle.std.proofs.lemmas.List.{append_assoc, append-nil, length-append, length-map, get_or_append_left, get_or-append_right, get_or_push, length_push, get_or-map, map-append, reverse-append, same_from_push}
use Rattle.std.proofs.lemmas.Option.{slice_get-get_or}
use Rattle.std.proofs.lemmas.List.Elements.{All-append, All-map, All-weaker}
use Rattle.ec_units.specs.declared.slave.Place.{Place}
use Rattle.ec_loads.proofs.StepLemmas.{lt_or_le}
use Rattle.ec_book.specs.declared.prefixes.Node.{Node}
use Rattle.ec_book.specs.Prefixes.{prefixes_behind, prefix_at, prefixes_at, IsPrefixTree, moved, moved_node}

length-behind : (known : List (List Place)) (ns : List Node) → length (prefixes_behind known ns) ≡ length known + length ns
length-behind known [] = omega arith
length-behind known (n ∷ ns) =
    let x = get_or known n.parent [] ++ n.place ∷ [] in
    let rest = length-behind (known ++ x ∷ []) ns in
    let one = length-append known (x ∷ []) in
    omega (arith, rest, one)

behind-append : (known : List (List Place)) (a b : List Node) → prefixes_behind known (a ++ b) ≡ prefixes_behind (prefixes_behind known a) b
behind-append known [] b = refl
behind-append known (n ∷ a) b = behind-append (known ++ (get_or known n.parent [] ++ n.place ∷ []) ∷ []) a b

-- what was known stays
stays : (known : List (List Place)) (ns : List Node) (k : ℕ) → k < length known → get_or (prefixes_behind known ns) k [] ≡ get_or known k []
stays known [] k h = refl
stays known (n ∷ ns) k h =
    let x = get_or known n.parent [] ++ n.place ∷ [] in
    let one = length-append known (x ∷ []) in
    stays (known ++ x ∷ []) ns k (omega (arith, one)) ∙ get_or_append_left known (x ∷ []) [] k h

-- the prefix of a node behind known ones
at-node : (known : List (List Place)) (ns : List Node) (i : ℕ) (n : Node) → i < length ns → n ≡ get_or ns i n → n.parent < length known + i
    → get_or (prefixes_behind known ns) (length known + i) [] ≡ get_or (prefixes_behind known ns) n.parent [] ++ n.place ∷ []
at-node known [] i n inside is below = absurd (omega (arith, inside))
at-node known (m ∷ ns) zero n inside is below =
    let x = get_or known m.parent [] ++ m.place ∷ [] in
    let one = length-append known (x ∷ []) in
    let here = stays (known ++ x ∷ []) ns (length known + zero) (omega (arith, one)) ∙ get_or_push known x [] (length known + zero) (omega arith) in
    let parent = stays known (m ∷ ns) n.parent (omega (arith, below)) in
    here ∙ (λ j. get_or known (sym is j).parent [] ++ (sym is j).place ∷ []) ∙ ap (λ w. w ++ n.place ∷ []) (sym parent)
at-node known (m ∷ ns) (suc i) n inside is below =
    let x = get_or known m.parent [] ++ m.place ∷ [] in
    let one = length-append known (x ∷ []) in
    let long : length known + suc i ≡ length (known ++ x ∷ []) + i = omega (arith, one) in
    ap (λ k. get_or (prefixes_behind (known ++ x ∷ []) ns) k []) long ∙ at-node (known ++ x ∷ []) ns i n (omega (arith, inside)) is (omega (arith, one, below))

pub root : (ns : List Node) → prefix_at ns zero ≡ []
root ns = stays ([] ∷ []) ns zero (omega arith)

pub parent-below : (ns : List Node) (ends : List ℕ) (k : ℕ) (n : Node) → IsPrefixTree ns ends → 0 < k → k ≤ length ns → n ≡ get_or ns (k - 1) n → n.parent < k
parent-below ns ends k n tree some inside is =
    let below = tree.parents (k - 1) n (omega (arith, some, inside)) in
    let parent : n.parent ≤ k - 1 = subst (λ (m : Node). m.parent ≤ k - 1) (sym is) below in
    omega (arith, parent, some)

pub node-at : (ns : List Node) (ends : List ℕ) (k : ℕ) (n : Node) → IsPrefixTree ns ends → 0 < k → k ≤ length ns → n ≡ get_or ns (k - 1) n → prefix_at ns k ≡ prefix_at ns n.parent ++ n.place ∷ []
node-at ns ends k n tree some inside is =
    let parent = parent-below ns ends k n tree some inside is in
    let next : k ≡ 1 + (k - 1) = omega (arith, some) in
    ap (λ w. get_or (prefixes_behind ([] ∷ []) ns) w []) next ∙ at-node ([] ∷ []) ns (k - 1) n (omega (arith, some, inside)) is (omega (arith, parent))

-- more nodes change no prefix
grown : (ns ms : List Node) (k : ℕ) → k ≤ length ns → prefix_at (ns ++ ms) k ≡ prefix_at ns k
grown ns ms k h =
    let long = length-behind ([] ∷ []) ns in
    (λ j. get_or (behind-append ([] ∷ []) ns ms j) k []) ∙ stays (prefixes_behind ([] ∷ []) ns) ms k (omega (arith, long, h))

ends-grown : (ns ms : List Node) (ends : List ℕ) → All (λ k. k ≤ length ns) ends → prefixes_at (ns ++ ms) ends ≡ prefixes_at ns ends
ends-grown ns ms [] all = refl
ends-grown ns ms (k ∷ ends) all = λ j. grown ns ms k (all zero k (omega arith)) j ∷ ends-grown ns ms ends (λ i d h. all (suc i) d (omega (arith, h))) j

-- the prefixes of nodes, but for the root's
abbrev rest : List (List Place) → List Node → List (List Place)
rest made [] = made
rest made (n ∷ ns) = rest (made ++ (get_or ([] ∷ made) n.parent [] ++ n.place ∷ []) ∷ []) ns

behind-rest : (made : List (List Place)) (ns : List Node) → prefixes_behind ([] ∷ made) ns ≡ [] ∷ rest made ns
behind-rest made [] = refl
behind-rest made (n ∷ ns) = behind-rest (made ++ (get_or ([] ∷ made) n.parent [] ++ n.place ∷ []) ∷ []) ns

moved-read : (front made : List (List Place)) (base k : ℕ) → length front ≡ base + 1 → get_or front zero [] ≡ [] → k ≤ length made → get_or (front ++ made) (moved base k) [] ≡ get_or ([] ∷ made) k []
moved-read front made base zero long empty h = get_or_append_left front made [] zero (omega (arith, long)) ∙ empty
moved-read front made base (suc k) long empty h =
    let at : suc (k + base) ≡ length front + k = omega (arith, long) in
    ap (λ w. get_or (front ++ made) w []) at ∙ get_or-append_right front made (length front) (length front + k) [] refl (omega arith) ∙ ap (λ w. get_or made w []) (omega arith)

behind-moved : (front made : List (List Place)) (base : ℕ) (ms : List Node) → length front ≡ base + 1 → get_or front zero [] ≡ [] → ((i : ℕ) (n : Node) → i < length ms → (get_or ms i n).parent ≤ length made + i)
    → prefixes_behind (front ++ made) (map (moved_node base) ms) ≡ front ++ rest made ms
behind-moved front made base [] long empty parents = refl
behind-moved front made base (n ∷ ms) long empty parents =
    let x = get_or ([] ∷ made) n.parent [] ++ n.place ∷ [] in
    let one = length-append made (x ∷ []) in
    let parent = parents zero n (omega arith) in
    let same : get_or (front ++ made) (moved base n.parent) [] ++ n.place ∷ [] ≡ x = ap (λ w. w ++ n.place ∷ []) (moved-read front made base n.parent long empty (omega (arith, parent))) in
    (λ j. prefixes_behind ((front ++ made) ++ same j ∷ []) (map (moved_node base) ms))
    ∙ ap (λ w. prefixes_behind w (map (moved_node base) ms)) (append_assoc front made (x ∷ []))
    ∙ behind-moved front (made ++ x ∷ []) base ms long empty (λ i m h. let here = parents (suc i) m (omega (arith, h)) in omega (arith, here, one))

-- behind other nodes each prefix is what it was
node-moved : (ns ms : List Node) (vs : List ℕ) (base k : ℕ) → base ≡ length ns → IsPrefixTree ms vs → k ≤ length ms → prefix_at (ns ++ map (moved_node base) ms) (moved base k) ≡ prefix_at ms k
node-moved ns ms vs base k base_is tree h =
    let front = prefixes_behind ([] ∷ []) ns in
    let long = length-behind ([] ∷ []) ns in
    let made : prefixes_behind ([] ∷ []) (ns ++ map (moved_node base) ms) ≡ front ++ rest [] ms =
    behind-append ([] ∷ []) ns (map (moved_node base) ms) ∙ ap (λ w. prefixes_behind w (map (moved_node base) ms)) (sym (append-nil front))
    ∙ behind-moved front [] base ms (omega (arith, long, base_is)) (root ns) (λ i n inside. let below = tree.parents i n inside in omega (arith, below)) in
    let short = ap length (behind-rest [] ms) in
    let count = length-behind ([] ∷ []) ms in
    (λ j. get_or (made j) (moved base k) []) ∙ moved-read front (rest [] ms) base k (omega (arith, long, base_is)) (root ns) (omega (arith, short, count, h)) ∙ (λ j. get_or (sym (behind-rest [] ms) j) k [])

ends-moved : (ns ms : List Node) (all vs : List ℕ) (base : ℕ) → base ≡ length ns → IsPrefixTree ms all → All (λ k. k ≤ length ms) vs → prefixes_at (ns ++ map (moved_node base) ms) (map (moved base) vs) ≡ prefixes_at ms vs
ends-moved ns ms all [] base base_is tree within = refl
ends-moved ns ms all (k ∷ vs) base base_is tree within =
    λ j. node-moved ns ms all base k base_is tree (within zero k (omega arith)) j ∷ ends-moved ns ms all vs base base_is tree (λ i d h. within (suc i) d (omega (arith, h))) j

pub appended : (ns ms new : List Node) (es vs ends : List ℕ) (base : ℕ) → base ≡ length ns → IsPrefixTree ns es → IsPrefixTree ms vs → new ≡ ns ++ map (moved_node base) ms → ends ≡ es ++ map (moved base) vs → prefixes_at new ends ≡ prefixes_at ns es ++ prefixes_at ms vs
appended ns ms new es vs ends base base_is tree others new_is ends_are =
    (λ j. prefixes_at (new_is j) (ends_are j)) ∙ map-append (prefix_at (ns ++ map (moved_node base) ms)) es (map (moved base) vs)
    ∙ (λ j. ends-grown ns (map (moved_node base) ms) es tree.within j ++ ends-moved ns ms vs vs base base_is others others.within j)

moved-most : (base k : ℕ) → moved base k ≤ base + k
moved-most base zero = omega arith
moved-most base (suc k) = omega arith

moved-parents : (ns ms : List Node) (es vs : List ℕ) (base i : ℕ) (n : Node) → base ≡ length ns → IsPrefixTree ns es → IsPrefixTree ms vs → i < length (ns ++ map (moved_node base) ms) → (get_or (ns ++ map (moved_node base) ms) i n).parent ≤ i
moved-parents ns ms es vs base i n base_is tree others h =
    let more = map (moved_node base) ms in
    let both = length-append ns more in
    let few = length-map ms (moved_node base) in
    elim (lt_or_le i (length ns)) [
      | inl lt ↦ subst (λ (m : Node). m.parent ≤ i) (sym (get_or_append_left ns more n i lt)) (tree.parents i n lt)
      | inr le ↦
          let k = i - length ns in
          let inside : k < length ms = omega (arith, h, both, few, le) in
          let below = others.parents k n inside in
          let most = moved-most base (get_or ms k n).parent in
          let is = get_or-append_right ns more (length ns) i n refl le ∙ get_or-map (moved_node base) ms k n n inside in
          subst (λ (m : Node). m.parent ≤ i) (sym is) (omega (arith, below, most, base_is, le))
    ]

pub appended-tree : (ns ms new : List Node) (es vs ends : List ℕ) (base : ℕ) → base ≡ length ns → IsPrefixTree ns es → IsPrefixTree ms vs → new ≡ ns ++ map (moved_node base) ms → ends ≡ es ++ map (moved base) vs → IsPrefixTree new ends
appended-tree ns ms new es vs ends base base_is tree others new_is ends_are =
    let more = map (moved_node base) ms in
    let both = length-append ns more in
    let few = length-map ms (moved_node base) in
    rw (new_is, ends_are) (record {
      parents = λ i n h. moved-parents ns ms es vs base i n base_is tree others h;
      within =
          All-append (λ k. k ≤ length (ns ++ more)) es (map (moved base) vs) (All-weaker (λ k. k ≤ length ns) (λ k. k ≤ length (ns ++ more)) (λ k h. omega (arith, h, both)) es tree.within)
          (All-map (λ k. k ≤ length (ns ++ more)) (moved base) vs (All-weaker (λ k. k ≤ length ms) (λ k. moved base k ≤ length (ns ++ more)) (λ k h. let most = moved-most base k in omega (arith, h, most, both, few, base_is)) vs others.within));
    })

-- one node more
pub pushed : (ns new : List Node) (es : List ℕ) (n : Node) → IsPrefixTree ns es → new ≡ ns ++ n ∷ [] → prefixes_at new es ≡ prefixes_at ns es
pushed ns new es n tree is = ap (λ w. prefixes_at w es) is ∙ ends-grown ns (n ∷ []) es tree.within

pushed-prefix : (ns new : List Node) (n : Node) (k : ℕ) → k ≤ length ns → new ≡ ns ++ n ∷ [] → prefix_at new k ≡ prefix_at ns k
pushed-prefix ns new n k h is = ap (λ w. prefix_at w k) is ∙ grown ns (n ∷ []) k h

pub pushed-tree : (ns new : List Node) (es : List ℕ) (n : Node) → IsPrefixTree ns es → n.parent ≤ length ns → new ≡ ns ++ n ∷ [] → IsPrefixTree new es
pushed-tree ns new es n tree below is =
    let long = length_push ns n in
    rw is (record {
      parents = λ i m h. pushed-parent ns es n i m tree below h;
      within = All-weaker (λ k. k ≤ length ns) (λ k. k ≤ length (ns ++ n ∷ [])) (λ k h. omega (arith, h, long)) es tree.within;
    })
  where
    pushed-parent : (ns : List Node) (es : List ℕ) (n : Node) (i : ℕ) (m : Node) → IsPrefixTree ns es → n.parent ≤ length ns → i < length (ns ++ n ∷ []) → (get_or (ns ++ n ∷ []) i m).parent ≤ i
    pushed-parent ns es n i m tree below h =
        let long = length_push ns n in
        elim (lt_or_le i (length ns)) [
          | inl lt ↦ subst (λ (x : Node). x.parent ≤ i) (sym (get_or_append_left ns (n ∷ []) m i lt)) (tree.parents i m lt)
          | inr le ↦ subst (λ (x : Node). x.parent ≤ i) (sym (get_or_push ns n m i (omega (arith, h, long, le)))) (omega (arith, below, le))
        ]

-- the prefix of the node that was pushed
pub pushed-here : (ns new : List Node) (es : List ℕ) (n : Node) (k : ℕ) → IsPrefixTree ns es → n.parent ≤ length ns → new ≡ ns ++ n ∷ [] → k ≡ length new → prefix_at new k ≡ prefix_at ns n.parent ++ n.place ∷ []
pushed-here ns new es n k tree below is at =
    let long = ap length is ∙ length_push ns n in
    let read : n ≡ get_or new (k - 1) n = sym (ap (λ w. get_or w (k - 1) n) is ∙ get_or_push ns n n (k - 1) (omega (arith, at, long))) in
    node-at new es k n (pushed-tree ns new es n tree below is) (omega (arith, at, long)) (omega (arith, at)) read ∙ ap (λ w. w ++ n.place ∷ []) (pushed-prefix ns new n n.parent below is)

-- the prefix of this number
pub end-at : (ns : List Node) (ends : List ℕ) (i k : ℕ) → i < length (prefixes_at ns ends) → k ≡ get_or ends i k → slice_get (prefixes_at ns ends) i ≡ Some (prefix_at ns k)
end-at ns ends i k h is =
    let inside : i < length ends = let long = length-map ends (prefix_at ns) in omega (arith, h, long) in
    slice_get-get_or (prefixes_at ns ends) i [] h ∙ ap Some (get_or-map (prefix_at ns) ends i k [] inside ∙ ap (prefix_at ns) (sym is))

-- places from the last one to the first, and one more
pub step-back : (front done new whole : List Place) (p : Place) → new ≡ done ++ p ∷ [] → (front ++ p ∷ []) ++ reverse done ≡ whole → front ++ reverse new ≡ whole
step-back front done new whole p is e = ap (λ w. front ++ reverse w) is ∙ ap (λ w. front ++ w) (reverse-append done (p ∷ [])) ∙ sym (append_assoc front (p ∷ []) (reverse done)) ∙ e

-- lists with the same last place
pub same-but-last : (a b left whole : List Place) (p q : Place) → left ≡ a ++ p ∷ [] → whole ≡ b ++ q ∷ [] → left ≡ whole → (a ≡ b) × (p ≡ q)
same-but-last a b left whole p q left_is whole_is e = same_from_push a b p q (sym left_is ∙ e ∙ whole_is)

pub one-prefix : (xs : List (List Place)) (i : ℕ) (a b : List Place) → slice_get xs i ≡ Some a → slice_get xs i ≡ Some b → a ≡ b
one-prefix xs i a b e f = cc
