-- What is written, and what still waits, after what was written and waited.
-- `Gathers` (whole) and `GathersFront` (a front) tell what the writer holds and what waits. They are records, so that
-- lemmas leave the states implicit. Writes by `?`: `more_as`, `then_as`, `all_then` take a text that is known by an
-- equation, each exit one nested term. Loops keep `IsWritten line old waited new waits items i`, generic in the items.
use Rattle.std.proofs.Common.{◌≡◌, ℕ, ◌+◌, ◌<◌, ◌≤◌, List, [], ◌++◌, length, take, drop, get_or, Option, Vec, Global, Result, Ok, Err, OnOk, refl, sym, ap, subst, ◌∙◌, arith, append_assoc, append-nil, length-append}
use Rattle.std.proofs.lemmas.List.{take-append-le, take_all, drop_more, drop_all}
use Rattle.std.proofs.Math.Seq.{take-append-add}
use Rattle.std.specs.List.{flat_map}
use Rattle.std.specs.Io.KnownBytes.{Appends}
use Rattle.std.proofs.KnownBytes.{Appends-trans, Appends-nil}
use Rattle.ec_wire.specs.Stream.{WritesFront}
use Rattle.ec_loads.specs.Shape.{split}
use Rattle.ec_cert.specs.Shapes.{shape_of, shapes_of}
use Rattle.ec_cert_text.specs.Text.{node_lines, row_lines, split_line}
use Rattle.ec_cert_text.specs.Gathers.{Gathers, GathersFront}
use Rattle.ec_cert.specs.declared.tree.Tree.{Tree}
use Rattle.ec_cert.proofs.TreeLemmas.{shape_count-shapes_of, shapes_of-drop}

-- a, b and c are what the writer holds, p, q and r what waits, x, y and z texts

longer_front : (a b : Option (List ℕ)) (x y : List ℕ) → WritesFront a b x → WritesFront a b (x ++ y)
longer_front a b x y f = (f.0, omega (arith, length-append x y, f.1), subst (Appends a b) (sym (take-append-le f.0 x y f.1)) f.2)

later_front : (a b c : Option (List ℕ)) (x y : List ℕ) → Appends a b x → WritesFront b c y → WritesFront a c (x ++ y)
later_front a b c x y p f =
    (length x + f.0, omega (arith, length-append x y, f.1), subst (Appends a c) (sym (take-append-add x y f.0)) (Appends-trans a b c x (take f.0 y) p f.2))

pub gathers_none : {a : Option (List ℕ)} {p : List ℕ} → Gathers a p a p []
gathers_none {a} {p} = record { sent = []; written = Appends-nil a; rest = sym (append-nil p) }

pub gathers_then : {a b c : Option (List ℕ)} {p q r x y : List ℕ} → Gathers a p b q x → Gathers b q c r y → Gathers a p c r (x ++ y)
gathers_then {a} {b} {c} {p} {q} {r} {x} {y} f g =
    let all : (f.sent ++ g.sent) ++ r ≡ p ++ (x ++ y) = append_assoc f.sent g.sent r ∙ ap (λ t. f.sent ++ t) g.rest ∙ sym (append_assoc f.sent q y) ∙ ap (λ t. t ++ y) f.rest ∙ append_assoc p x y in
    record { sent = f.sent ++ g.sent; written = Appends-trans a b c f.sent g.sent f.written g.written; rest = all }

pub front_more : {a b : Option (List ℕ)} {p x : List ℕ} (y : List ℕ) → GathersFront a p b x → GathersFront a p b (x ++ y)
front_more {a} {b} {p} {x} y f = record { written = subst (WritesFront a b) (append_assoc p x y) (longer_front a b (p ++ x) y f.written) }

pub front_then : {a b c : Option (List ℕ)} {p q x y : List ℕ} → Gathers a p b q x → GathersFront b q c y → GathersFront a p c (x ++ y)
front_then {a} {b} {c} {p} {q} {x} {y} f g =
    let all : f.sent ++ (q ++ y) ≡ p ++ (x ++ y) = sym (append_assoc f.sent q y) ∙ ap (λ t. t ++ y) f.rest ∙ append_assoc p x y in
    record { written = subst (WritesFront a c) all (later_front a b c f.sent (q ++ y) f.written g.written) }

pub front_all : {a b : Option (List ℕ)} {p q x : List ℕ} → Gathers a p b q x → GathersFront a p b x
front_all {a} {b} {p} {q} {x} f =
    let whole : WritesFront a b f.sent = (length f.sent, omega arith, subst (Appends a b) (sym (take_all (length f.sent) f.sent (omega arith))) f.written) in
    record { written = subst (WritesFront a b) f.rest (longer_front a b f.sent q whole) }

-- ---- a text of items, one after the other

-- the text of the items before i came
abbrev pub IsWritten : {X : Type 0} → (X → List ℕ) → Option (List ℕ) → List ℕ → Option (List ℕ) → List ℕ → List X → ℕ → Type 0
IsWritten line a p b q xs i = (done : List ℕ) × (done ++ flat_map line (drop i xs) ≡ flat_map line xs) × Gathers a p b q done

pub written_none : {X : Type 0} (line : X → List ℕ) {a : Option (List ℕ)} {p : List ℕ} (xs : List X) → IsWritten line a p a p xs 0
written_none line xs = ([], refl, gathers_none)

pub written_more : {X : Type 0} (line : X → List ℕ) {a b c : Option (List ℕ)} {p q r : List ℕ} (xs : List X) (i : ℕ) (d : X) (text : List ℕ) → i < length xs → text ≡ line (get_or xs i d)
    → IsWritten line a p b q xs i → Gathers b q c r text → IsWritten line a p c r xs (i + 1)
written_more line xs i d text h is w g =
    let whole : (w.0 ++ text) ++ flat_map line (drop (i + 1) xs) ≡ flat_map line xs =
    append_assoc w.0 text (flat_map line (drop (i + 1) xs)) ∙ ap (λ t. w.0 ++ (t ++ flat_map line (drop (i + 1) xs))) is ∙ ap (λ l. w.0 ++ flat_map line l) (sym (drop_more xs i d h)) ∙ w.1 in
    (w.0 ++ text, whole, gathers_then w.2 g)

pub written_front : {X : Type 0} (line : X → List ℕ) {a b c : Option (List ℕ)} {p q : List ℕ} (xs : List X) (i : ℕ) (d : X) (text : List ℕ) → i < length xs → text ≡ line (get_or xs i d)
    → IsWritten line a p b q xs i → GathersFront b q c text → GathersFront a p c (flat_map line xs)
written_front line {a} {b} {c} {p} {q} xs i d text h is w f =
    let whole : w.0 ++ (text ++ flat_map line (drop (i + 1) xs)) ≡ flat_map line xs =
    ap (λ t. w.0 ++ (t ++ flat_map line (drop (i + 1) xs))) is ∙ ap (λ l. w.0 ++ flat_map line l) (sym (drop_more xs i d h)) ∙ w.1 in
    subst (λ t. GathersFront a p c t) whole (front_then w.2 (front_more (flat_map line (drop (i + 1) xs)) f))

pub written_all : {X : Type 0} (line : X → List ℕ) {a b : Option (List ℕ)} {p q : List ℕ} (xs : List X) (i : ℕ) → length xs ≤ i → IsWritten line a p b q xs i → Gathers a p b q (flat_map line xs)
written_all line {a} {b} {p} {q} xs i le w =
    let e : w.0 ≡ flat_map line xs = sym (append-nil w.0) ∙ ap (λ l. w.0 ++ flat_map line l) (sym (drop_all i xs le)) ∙ w.1 in
    subst (Gathers a p b q) e w.2

pub on_ok : {X E : Type 0} (r : Result X E) (P Q : Type 0) → (P → Q) → OnOk r P → OnOk r Q
on_ok (Ok x) P Q f p = f p
on_ok (Err e) P Q f p = tt

-- ---- a split: its line, and then its children

pub node_lines-split : (t : Tree) (v : Vec Tree Global) → shape_of t ≡ split (shapes_of v.items) → node_lines (shape_of t) ≡ split_line (length v.items) ++ row_lines (shapes_of v.items)
node_lines-split t v e = ap node_lines e ∙ ap (λ n. split_line n ++ row_lines (shapes_of v.items)) (shape_count-shapes_of v.items)

pub split_front : {a b : Option (List ℕ)} {p : List ℕ} (t : Tree) (v : Vec Tree Global) (line : List ℕ) → shape_of t ≡ split (shapes_of v.items) → line ≡ split_line (length v.items) → GathersFront a p b line → GathersFront a p b (node_lines (shape_of t))
split_front {a} {b} {p} t v line e l f = subst (λ x. GathersFront a p b x) (sym (node_lines-split t v e)) (front_more _ (subst (λ x. GathersFront a p b x) l f))

pub split_then : {a b c : Option (List ℕ)} {p q : List ℕ} (t : Tree) (v : Vec Tree Global) (line : List ℕ) → shape_of t ≡ split (shapes_of v.items) → line ≡ split_line (length v.items) → Gathers a p b q line → GathersFront b q c (row_lines (shapes_of v.items)) → GathersFront a p c (node_lines (shape_of t))
split_then {a} {b} {c} {p} {q} t v line e l g f = subst (λ x. GathersFront a p c x) (sym (node_lines-split t v e)) (front_then (subst (Gathers a p b q) l g) f)

pub split_all : {a b c : Option (List ℕ)} {p q r : List ℕ} (t : Tree) (v : Vec Tree Global) (line : List ℕ) → shape_of t ≡ split (shapes_of v.items) → line ≡ split_line (length v.items) → Gathers a p b q line → Gathers b q c r (row_lines (shapes_of v.items)) → Gathers a p c r (node_lines (shape_of t))
split_all {a} {b} {c} {p} {q} {r} t v line e l g h = subst (Gathers a p c r) (sym (node_lines-split t v e)) (gathers_then (subst (Gathers a p b q) l g) h)

-- ---- children, one after the other

abbrev pub AreWritten : Option (List ℕ) → List ℕ → Option (List ℕ) → List ℕ → List Tree → ℕ → Type 0
AreWritten a p b q ts i = (done : List ℕ) × (done ++ row_lines (shapes_of (drop i ts)) ≡ row_lines (shapes_of ts)) × Gathers a p b q done

pub children_none : {a : Option (List ℕ)} {p : List ℕ} (ts : List Tree) → AreWritten a p a p ts 0
children_none ts = ([], refl, gathers_none)

pub children_more : {a b c : Option (List ℕ)} {p q r : List ℕ} (ts : List Tree) (i : ℕ) (t : Tree) → i < length ts → t ≡ get_or ts i t → AreWritten a p b q ts i → Gathers b q c r (node_lines (shape_of t)) → AreWritten a p c r ts (i + 1)
children_more ts i t h is w g =
    let text = node_lines (shape_of t) in
    let rest = row_lines (shapes_of (drop (i + 1) ts)) in
    let here : node_lines (shape_of (get_or ts i t)) ≡ text = ap (λ s. node_lines (shape_of s)) (sym is) in
    let whole : (w.0 ++ text) ++ rest ≡ row_lines (shapes_of ts) = append_assoc w.0 text rest ∙ ap (λ x. w.0 ++ (x ++ rest)) (sym here) ∙ ap (λ l. w.0 ++ row_lines l) (sym (shapes_of-drop ts i t h)) ∙ w.1 in
    (w.0 ++ text, whole, gathers_then w.2 g)

pub children_front : {a b c : Option (List ℕ)} {p q : List ℕ} (ts us : List Tree) (i : ℕ) (t : Tree) → ts ≡ us → i < length ts → t ≡ get_or ts i t → AreWritten a p b q ts i → GathersFront b q c (node_lines (shape_of t)) → GathersFront a p c (row_lines (shapes_of us))
children_front {a} {b} {c} {p} {q} ts us i t same h is w f =
    let text = node_lines (shape_of t) in
    let rest = row_lines (shapes_of (drop (i + 1) ts)) in
    let here : node_lines (shape_of (get_or ts i t)) ≡ text = ap (λ s. node_lines (shape_of s)) (sym is) in
    let whole : w.0 ++ (text ++ rest) ≡ row_lines (shapes_of us) = ap (λ x. w.0 ++ (x ++ rest)) (sym here) ∙ ap (λ l. w.0 ++ row_lines l) (sym (shapes_of-drop ts i t h)) ∙ w.1 ∙ ap (λ l. row_lines (shapes_of l)) same in
    subst (λ x. GathersFront a p c x) whole (front_then w.2 (front_more rest f))

pub children_all : {a b : Option (List ℕ)} {p q : List ℕ} (ts us : List Tree) (i : ℕ) → ts ≡ us → length ts ≤ i → AreWritten a p b q ts i → Gathers a p b q (row_lines (shapes_of us))
children_all {a} {b} {p} {q} ts us i same le w =
    let e : w.0 ≡ row_lines (shapes_of us) = sym (append-nil w.0) ∙ ap (λ l. w.0 ++ row_lines (shapes_of l)) (sym (drop_all i ts le)) ∙ w.1 ∙ ap (λ l. row_lines (shapes_of l)) same in
    subst (Gathers a p b q) e w.2

-- ---- the same with texts that are known by an equation

pub front_as : {a b : Option (List ℕ)} {p x y : List ℕ} → x ≡ y → GathersFront a p b x → GathersFront a p b y
front_as {a} {b} {p} e f = subst (λ t. GathersFront a p b t) e f

pub all_as : {a b : Option (List ℕ)} {p q x y : List ℕ} → x ≡ y → Gathers a p b q x → Gathers a p b q y
all_as {a} {b} {p} {q} e g = subst (Gathers a p b q) e g

pub more_as : {a b : Option (List ℕ)} {p x y : List ℕ} (z : List ℕ) → x ≡ y → GathersFront a p b x → GathersFront a p b (y ++ z)
more_as z e f = front_more z (front_as e f)

pub then_as : {a b c : Option (List ℕ)} {p q x y z : List ℕ} → x ≡ y → Gathers a p b q x → GathersFront b q c z → GathersFront a p c (y ++ z)
then_as e g f = front_then (all_as e g) f

pub all_then : {a b c : Option (List ℕ)} {p q r x y z : List ℕ} → x ≡ y → Gathers a p b q x → Gathers b q c r z → Gathers a p c r (y ++ z)
all_then e g h = gathers_then (all_as e g) h

-- ---- a whole text, of which nothing waits before, and what waits in the end is written

pub whole_all : {a b : Option (List ℕ)} {p q x : List ℕ} (c : Option (List ℕ)) → p ≡ [] → Gathers a p b q x → Appends b c q → Appends a c x
whole_all {a} {b} {p} {q} {x} c none g s = subst (Appends a c) (g.rest ∙ ap (λ t. t ++ x) none) (Appends-trans a b c g.sent q g.written s)

pub whole_front : {a b : Option (List ℕ)} {p q x : List ℕ} (c : Option (List ℕ)) → p ≡ [] → Gathers a p b q x → WritesFront b c q → WritesFront a c x
whole_front {a} {b} {p} {q} {x} c none g f = subst (WritesFront a c) (g.rest ∙ ap (λ t. t ++ x) none) (later_front a b c g.sent q g.written f)

pub early_front : {a b : Option (List ℕ)} {p x : List ℕ} → p ≡ [] → GathersFront a p b x → WritesFront a b x
early_front {a} {b} {p} {x} none f = subst (WritesFront a b) (ap (λ t. t ++ x) none) f.written

-- ---- what waited is written, and then a text that doesn't wait

pub direct_all : {q : List ℕ} (a b c : Option (List ℕ)) (p x : List ℕ) → q ≡ [] → Appends a b p → Appends b c x → Gathers a p c q x
direct_all {q} a b c p x none f g = record { sent = p ++ x; written = Appends-trans a b c p x f g; rest = ap (λ t. (p ++ x) ++ t) none ∙ append-nil (p ++ x) }

pub direct_front : (a b c : Option (List ℕ)) (p x : List ℕ) → Appends a b p → WritesFront b c x → GathersFront a p c x
direct_front a b c p x f g = record { written = later_front a b c p x f g }

-- ---- a text that waits, behind what waited or alone

pub waits_behind : {q : List ℕ} (a : Option (List ℕ)) (p x : List ℕ) → q ≡ p ++ x → Gathers a p a q x
waits_behind a p x is = record { sent = []; written = Appends-nil a; rest = is }

pub waits_alone : {q : List ℕ} (a b : Option (List ℕ)) (p x : List ℕ) → q ≡ x → Appends a b p → Gathers a p b q x
waits_alone a b p x is f = record { sent = p; written = f; rest = ap (λ t. p ++ t) is }

pub waited_front : (a b : Option (List ℕ)) (p x : List ℕ) → WritesFront a b p → GathersFront a p b x
waited_front a b p x f = record { written = longer_front a b p x f }
