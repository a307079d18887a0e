-- A walk with a stack of its own: what each of its steps keeps.
-- `IsStack` recurses over `reverse levels.items`, so push and pop are one `∷`; a level (`IsTop`) has its prefix, the
-- state in which it was entered, readiness and `IsUnderWay`. A step's clause is "for every `Task`, `IsOn` before gives
-- `IsOn` after", so the loop's invariant, start and step need no answer. `IsPaused` is `IsAmong` and what the stack
-- adds. The measure is `left * 2^65`, `2 * children left + 1` for each level, and 1 for `Enter`. At an early exit a
-- lemma by `subst` of the turn takes the later facts from the substituted record.
use Rattle.std.proofs.Common.{rules, ◌≡◌, ℕ, zero, suc, ◌+◌, ◌-◌, ◌*◌, ◌<◌, ◌≤◌, ◌++◌, Box, Vec, Global, vec_capacity, ◌⊎◌, inl, inr, Bool, true, false, List, [], ◌∷◌, length, set, get_or, take, drop, reverse, replicate, Option, Some, None, refl, sym, ap, ◌∙◌, subst, arith, take_all, length-drop}
use Rattle.std.proofs.lemmas.List.{append_assoc, append-nil, reverse-append, length-reverse, reverse-reverse, length-set, length-append}
use Rattle.std.proofs.lemmas.Option.{slice_get_within}
use Rattle.ec_units.specs.declared.slave.Place.{Place}
use Rattle.ec_loads.specs.Held.{Held}
use Rattle.ec_loads.specs.Line.{Rules, Line, line_of}
use Rattle.ec_loads.specs.Search.{Prefix, children, nobody, IsAtMost}
use Rattle.ec_loads.specs.Shape.{Shape, open_leaf}
use Rattle.ec_bounds.specs.Left.{Left, IsRestOf}
use Rattle.ec_bounds.proofs.HeldLemmas.{with_place, with_flag, restored, rest_follows}
use Rattle.ec_cert.proofs.TreeLemmas.{shape_of-Split}
use Rattle.ec_cert.specs.declared.tree.Tree.{Tree, Split, OpenLeaf, the_lemmas}
use Rattle.ec_cert.specs.Shapes.{shape_of}
use Rattle.ec_symmetry.specs.Latest.{IsLastChild}
use Rattle.ec_symmetry.specs.Reached.{In}
use Rattle.ec_symmetry.proofs.InLemmas.{children-In}
use Rattle.ec_branch.specs.declared.level.Level.{Level}
use Rattle.ec_branch.specs.declared.level.Turn.{Turn}
use Rattle.ec_branch.specs.declared.level.Turn.TheVariants.{Enter, Up}
use Rattle.ec_branch.specs.Frames.{Frame}
use Rattle.ec_branch.specs.Stacks.{State, IsAsked, IsSpent, IsExplored, IsUnderWay, IsAmong, IsOpened, Task, IsTop, IsStack, IsOn, IsPaused, IsWithin, IsBack, IsEnd, IsFor, efforts}
use Rattle.ec_branch.specs.Walks.{IsClosing, IsReadyFor}
use Rattle.ec_branch.proofs.WalkLemmas.{IsAtMost-trans, In-mid, fair_lesser, walking_more, closed_walked}
use Rattle.ec_branch.proofs.KnownLemmas.{IsAtMost-same}

pub shape_of-OpenLeaf : shape_of OpenLeaf ≡ open_leaf
shape_of-OpenLeaf = search (rules, the_lemmas)

-- a node that stays open
pub open_explored : (line : Line) (floor : ℕ) (ps : Prefix) (order : List ℕ) (s : State) → (s.left ≡ 0) ⊎ (s.halted ≡ true) → IsExplored line floor ps order s s open_leaf
open_explored line floor ps order s why = record {
  walked = record {
    holds = λ w low. tt;
    short = tt;
    lower = IsAtMost-same s.value;
    fair = λ f. f;
    count = omega arith;
    cause = inr why;
  };
  follows = record {
    falls = IsAtMost-same s.known;
    least = λ h. h;
    most = λ asked. elim asked [
      | inl runs ↦ elim why [
        | inl none ↦ absurd (omega (arith, runs.0, none))
        | inr stopped ↦ absurd (let no : true ≡ false = sym stopped ∙ runs.1 in cc)
      ]
      | inr low ↦ low
    ];
  };
  stays = λ k. k;
}

-- what a guide knows is at most the value in use, where it was before
asked_least : (floor : ℕ) (from now : State) → IsAsked floor from now → IsAtMost from.known from.value → IsAtMost now.known now.value
asked_least floor from now asked h =
    elim asked.one [
      | inl was ↦ subst (IsAtMost now.known) (sym was) (IsAtMost-trans now.known from.known from.value asked.falls h)
      | inr same ↦ subst (IsAtMost now.known) (sym same) (IsAtMost-same now.known)
    ]

-- a split whose children have no trees yet
pub under_first :
    (line : Line) (floor : ℕ) (ps : Prefix) (u : ℕ) (order : List ℕ) (from now : State) (left : ℕ) (ts : List Tree) → IsAsked floor from now → left + 1 ≡ now.left → ts ≡ [] →
    IsUnderWay line floor ps u order [] from (record { value = now.value; left = left; halted = now.halted; known = now.known }) ts
under_first line floor ps u order from now left ts asked spent none =
    subst (IsUnderWay line floor ps u order [] from (record { value = now.value; left = left; halted = now.halted; known = now.known })) (sym none)
    (record {
      first = now.value;
      had = left;
      spent = spent ∙ asked.left;
      low = asked.low;
      keeps = fair_lesser floor line.loads line.slots from.value now.value now.known asked.one asked.high;
      walking = record {
        holds = λ w k. tt;
        short = tt;
        lower = IsAtMost-same now.value;
        fair = λ f. f;
        count = omega arith;
        cause = inl refl;
      };
      falls = asked.falls;
      least = asked_least floor from now asked;
      most = asked.under;
      stays = λ k. asked.halted ∙ k;
    })

-- a node that is closed
pub closed_explored :
    (line : Line) (floor : ℕ) (ps : Prefix) (order : List ℕ) (from now : State) (left : ℕ) (tree : Shape) → IsAsked floor from now → left + 1 ≡ now.left → IsClosing line now.value ps tree →
    IsExplored line floor ps order from (record { value = now.value; left = left; halted = now.halted; known = now.known }) tree
closed_explored line floor ps order from now left tree asked spent closing = record {
  walked =
      closed_walked line floor ps order from.value now.value from.left left now.halted tree closing (spent ∙ asked.left) asked.low
      (fair_lesser floor line.loads line.slots from.value now.value now.known asked.one asked.high);
  follows = record { falls = asked.falls; least = asked_least floor from now asked; most = λ _. asked.under };
  stays = λ k. asked.halted ∙ k;
}

-- a node that stays open, since the guide stopped at the plan that it makes
pub stopped_explored :
    (line : Line) (floor : ℕ) (ps : Prefix) (order : List ℕ) (from now : State) (halted : Bool) (known : Option ℕ) → IsAsked floor from now → halted ≡ true → known ≡ now.known →
    IsExplored line floor ps order from (record { value = now.value; left = now.left; halted = halted; known = known }) open_leaf
stopped_explored line floor ps order from now halted known asked stops same = record {
  walked = record {
    holds = λ w low. tt;
    short = tt;
    lower = asked.low;
    fair = fair_lesser floor line.loads line.slots from.value now.value now.known asked.one asked.high;
    count = let left = asked.left in omega (arith, left);
    cause = inr (inr stops);
  };
  follows = record {
    falls = subst (λ k. IsAtMost k from.known) (sym same) asked.falls;
    least = λ h. subst (λ k. IsAtMost k now.value) (sym same) (asked_least floor from now asked h);
    most = λ _. subst (IsAtMost now.value) (sym same) asked.under;
  };
  stays = λ _. stops;
}

-- one child more has its tree
pub under_more :
    (line : Line) (floor : ℕ) (ps : Prefix) (u : ℕ) (order : List ℕ) (done : List Place) (p : Place) (from now to : State) (ts : List Tree) (t : Tree) →
    IsUnderWay line floor ps u order done from now ts → IsExplored line floor (set ps u (Some p)) order now to (shape_of t) →
    IsUnderWay line floor ps u order (done ++ p ∷ []) from to (ts ++ t ∷ [])
under_more line floor ps u order done p from now to ts t under step = record {
  first = under.first;
  had = under.had;
  spent = under.spent;
  low = under.low;
  keeps = under.keeps;
  walking = walking_more line floor ps u order done p under.first now.value to.value under.had now.left to.left now.halted to.halted ts t under.walking step.walked step.stays;
  falls = IsAtMost-trans to.known now.known from.known step.follows.falls under.falls;
  least = λ h. step.follows.least (under.least h);
  most = step.follows.most (inr under.most);
  stays = λ k. step.stays (under.stays k);
}

-- where no node is left or the guide stops, the other children stay open
pub under_open :
    (line : Line) (floor : ℕ) (ps : Prefix) (u : ℕ) (order : List ℕ) (done rest : List Place) (from now : State) (ts : List Tree) → (length rest ≡ 0) ⊎ IsSpent now →
    IsUnderWay line floor ps u order done from now ts →
    IsUnderWay line floor ps u order (done ++ rest) from now (ts ++ replicate (length rest) OpenLeaf)
under_open line floor ps u order done [] from now ts why under =
    subst (λ k. IsUnderWay line floor ps u order k from now (ts ++ [])) (sym (append-nil done))
    (subst (λ k. IsUnderWay line floor ps u order done from now k) (sym (append-nil ts)) under)
under_open line floor ps u order done (p ∷ rest) from now ts (inl none) under = absurd (omega arith)
under_open line floor ps u order done (p ∷ rest) from now ts (inr spent) under =
    let open_one = subst (IsExplored line floor (set ps u (Some p)) order now now) (sym shape_of-OpenLeaf) (open_explored line floor (set ps u (Some p)) order now spent) in
    let one = under_more line floor ps u order done p from now now ts OpenLeaf under open_one in
    let all = under_open line floor ps u order (done ++ p ∷ []) rest from now (ts ++ OpenLeaf ∷ []) (inr spent) one in
    subst (λ k. IsUnderWay line floor ps u order k from now (ts ++ OpenLeaf ∷ replicate (length rest) OpenLeaf)) (append_assoc done (p ∷ []) rest)
    (subst (λ k. IsUnderWay line floor ps u order ((done ++ p ∷ []) ++ rest) from now k) (append_assoc ts (OpenLeaf ∷ []) (replicate (length rest) OpenLeaf)) all)

-- one child more of a split has its tree, without having had its place
pub among_more :
    (line : Line) (floor : ℕ) (ps : Prefix) (later : List ℕ) (done : List Place) (from before now : State) (level : Level) (p : Place) (places : List Place) (t : Tree) (v : Vec Tree Global) →
    IsAmong line floor ps later done from before level → level.places ≡ p ∷ places → IsExplored line floor (set ps level.unit (Some p)) later before now (shape_of t) →
    v.items ≡ level.trees.items ++ t ∷ [] → vec_capacity v ≡ vec_capacity level.trees →
    IsAmong line floor ps later (done ++ p ∷ []) from now (record { unit = level.unit; places = places; trees = v; room = level.room; above = level.above })
among_more line floor ps later done from before now level p places t v among steps explored pushed room =
    let under = under_more line floor ps level.unit later done p from before now level.trees.items t among.under explored in
    let longer = ap length pushed ∙ length-append level.trees.items (t ∷ []) in
    let fewer = ap length steps in
    let trees = among.trees in
    record {
      free = among.free;
      kids = append_assoc done (p ∷ []) places ∙ ap (λ w. done ++ w) (sym steps) ∙ among.kids;
      under = subst (IsUnderWay line floor ps level.unit later (done ++ p ∷ []) from now) (sym pushed) under;
      trees = omega (arith, longer, fewer, trees, room);
    }

-- the next child's place is within its ranges
pub among_place :
    (line : Line) (floor : ℕ) (ps : Prefix) (later : List ℕ) (done : List Place) (from now : State) (level : Level) (p : Place) (places : List Place) →
    IsAmong line floor ps later done from now level → level.places ≡ p ∷ places → (p.phase < (get_or line.loads level.unit nobody).period) × (p.slot < line.slots)
among_place line floor ps later done from now level p places among steps =
    let kids : done ++ p ∷ places ≡ children line ps level.unit = ap (λ w. done ++ w) (sym steps) ∙ among.kids in
    let range = children-In line ps level.unit p (subst (In p) kids (In-mid done p places)) in
    (range.0, range.2)

-- all children have their trees
pub under_all :
    (line : Line) (floor : ℕ) (ps : Prefix) (u : ℕ) (order : List ℕ) (from now : State) (b : Box (Vec Tree Global) Global) →
    IsUnderWay line floor ps u order (children line ps u) from now b.value.items → IsExplored line floor ps (u ∷ order) from now (shape_of (Split b))
under_all line floor ps u order from now b under =
    let all = under.walking in
    subst (IsExplored line floor ps (u ∷ order) from now) (sym (shape_of-Split b))
    (record {
      walked = record {
        holds = λ w low. all.holds w low;
        short = all.short;
        lower = IsAtMost-trans now.value under.first from.value all.lower under.low;
        fair = λ f. all.fair (under.keeps f);
        count = (let count = all.count in let spent = under.spent in omega arith);
        cause = all.cause;
      };
      follows = record {
        falls = under.falls;
        least = under.least;
        most = λ _. under.most;
      };
      stays = under.stays;
    })

-- a level more is the innermost
pub reverse-push : (ls : List Level) (l : Level) → reverse (ls ++ l ∷ []) ≡ l ∷ reverse ls
reverse-push ls l = reverse-append ls (l ∷ [])

pub efforts-push : (ls : List Level) (l : Level) → efforts (ls ++ l ∷ []) ≡ efforts ls + (2 * length l.places + 1)
efforts-push [] l = omega arith
efforts-push (x ∷ ls) l = let rest = efforts-push ls l in omega arith

drop-suc : (xs : List ℕ) (k u : ℕ) (later : List ℕ) → drop k xs ≡ u ∷ later → drop (suc k) xs ≡ later
drop-suc [] zero u later h = absurd (cc)
drop-suc [] (suc k) u later h = absurd (cc)
drop-suc (x ∷ xs) zero u later h = cc
drop-suc (x ∷ xs) (suc k) u later h = drop-suc xs k u later h

-- as many units have a place as there are levels
pub stack_later : (task : Task) (ls : List Level) (ps : Prefix) (later : List ℕ) (now : State) → IsStack task ls ps later now → (length ls + length later ≡ length task.order) × (drop (length ls) task.order ≡ later)
stack_later task [] ps later now (at, is, same) = (let e = ap length is in omega (arith, e), sym is)
stack_later task (l ∷ ls) ps later now (before, from, top, stack) =
    let deep = stack_later task ls before (l.unit ∷ later) from stack in
    let count = deep.0 in
    (omega (arith, count), drop-suc task.order (length ls) l.unit later deep.1)

-- the units that a walk goes on with
pub on_later : (rules : Rules) (task : Task) (ls : Vec Level Global) (held : Held) (left : Left) (now : State) (turn : Turn) (order : List ℕ) (k : ℕ) → (on : IsOn rules task ls held left now turn) → order ≡ task.order → k ≡ length ls.items
    → (k ≤ length order) × (take (length order - k) (drop k order) ≡ on.later)
on_later rules task ls held left now turn order k on same is =
    let at = stack_later task (reverse ls.items) held.places on.later on.from on.stack in
    let long = length-reverse ls.items in
    let count = at.0 in
    let all = ap length same in
    (omega (arith, count, long, all, is), take_all (length order - k) (drop k order) (omega (arith, length-drop k order)) ∙ (λ j. drop ((is ∙ sym long) j) (same j)) ∙ at.1)

line_loads : (rules : Rules) (held : Held) (line : Line) → line_of rules held ≡ line → held.loads ≡ line.loads
line_loads rules held line e = ap (λ (l : Line). l.loads) e

line_slots : (rules : Rules) (held : Held) (line : Line) → line_of rules held ≡ line → held.slots ≡ line.slots
line_slots rules held line e = ap (λ (l : Line). l.slots) e

-- one unit more or less has a place
pub line_after : (rules : Rules) (held placed : Held) (u : ℕ) (o : Option Place) (line : Line) → line_of rules held ≡ line → placed ≡ with_place held u o → line_of rules placed ≡ line
line_after rules held placed u o line e made = ap (λ (h : Held). line_of rules h) made ∙ e

-- the unit of the innermost level got a child
stack_last : (task : Task) (rs ls : List Level) (ps : Prefix) (later : List ℕ) (now : State) (last : Option ℕ) → reverse ls ≡ rs → IsStack task rs ps later now →
    (length ls ≡ 0 → last ≡ None) → ((before : List Level) (l : Level) → ls ≡ before ++ l ∷ [] → last ≡ Some l.unit) → IsLastChild task.line ps last
stack_last task [] ls ps later now last e stack none some = subst (IsLastChild task.line ps) (sym (none (sym (length-reverse ls) ∙ ap length e))) tt
stack_last task (l ∷ rs) ls ps later now last e (before, from, top, stack) none some =
    let at : ls ≡ reverse rs ++ l ∷ [] = sym (reverse-reverse ls) ∙ ap reverse e ∙ reverse-append (l ∷ []) rs in
    subst (IsLastChild task.line ps) (sym (some (reverse rs) l at))
    (before, top.place, top.ready.0, subst (In top.place) top.kids (In-mid top.done top.place l.places), top.made)

pub on_last : (rules : Rules) (task : Task) (ls : Vec Level Global) (held : Held) (left : Left) (now : State) (turn : Turn) (last : Option ℕ) → IsOn rules task ls held left now turn →
    (length ls.items ≡ 0 → last ≡ None) → ((before : List Level) (l : Level) → ls.items ≡ before ++ l ∷ [] → last ≡ Some l.unit) → IsLastChild (line_of rules held) held.places last
on_last rules task ls held left now turn last on none some =
    subst (λ line. IsLastChild line held.places last) (sym on.line) (stack_last task (reverse ls.items) ls.items held.places on.later on.from last refl on.stack none some)

-- a walk that is ready at a node
pub on_ready : (rules : Rules) (task : Task) (ls : Vec Level Global) (held : Held) (left : Left) (now : State) (turn : Turn) (order : List ℕ) → (on : IsOn rules task ls held left now turn) → order ≡ on.later → IsReadyFor held.loads held.slots held.places order
on_ready rules task ls held left now turn order on same =
    subst (λ o. IsReadyFor held.loads held.slots held.places o) (sym same)
    (subst (λ n. IsReadyFor held.loads n held.places on.later) (sym (line_slots rules held task.line on.line))
    (subst (λ l. IsReadyFor l task.line.slots held.places on.later) (sym (line_loads rules held task.line on.line)) on.ready))

pub for_loads : (rules : Rules) (task : Task) (ls : Vec Level Global) (held : Held) (left : Left) (now : State) (turn : Turn) (order : List ℕ) (frame : Frame) → IsOn rules task ls held left now turn → IsFor task order frame → frame.loads ≡ held.loads
for_loads rules task ls held left now turn order frame on is = is.loads ∙ sym (line_loads rules held task.line on.line)

pub for_slots : (rules : Rules) (task : Task) (ls : Vec Level Global) (held : Held) (left : Left) (now : State) (turn : Turn) (order : List ℕ) (frame : Frame) → IsOn rules task ls held left now turn → IsFor task order frame → frame.slots ≡ held.slots
for_slots rules task ls held left now turn order frame on is = is.slots ∙ sym (line_slots rules held task.line on.line)

-- a node is closed, or stays open
pub on_leaf :
    (rules : Rules) (task : Task) (ls : Vec Level Global) (held : Held) (left : Left) (old now : State) (order : List ℕ) (floor : ℕ) (tree : Tree) →
    (on : IsOn rules task ls held left old Enter) → order ≡ on.later → floor ≡ task.floor →
    IsExplored (line_of rules held) floor held.places order on.from now (shape_of tree) → IsOn rules task ls held left now (Up tree)
on_leaf rules task ls held left old now order floor tree on same floor_is explored = record {
  line = on.line;
  rest = on.rest;
  later = on.later;
  ready = on.ready;
  room = on.room;
  from = on.from;
  stack = on.stack;
  entered =
      subst (λ o. IsExplored task.line task.floor held.places o on.from now (shape_of tree)) same
      (subst (λ f. IsExplored task.line f held.places order on.from now (shape_of tree)) floor_is
      (subst (λ l. IsExplored l floor held.places order on.from now (shape_of tree)) on.line explored));
}

-- the guide was asked for it
pub on_asked : (rules : Rules) (task : Task) (ls : Vec Level Global) (held : Held) (left : Left) (old : State) (floor : ℕ) → (on : IsOn rules task ls held left old Enter) → floor ≡ task.floor → IsAsked floor on.from old
on_asked rules task ls held left old floor on floor_is = subst (λ f. IsAsked f on.from old) (sym floor_is) on.entered

-- a node is split
pub on_split :
    (rules : Rules) (task : Task) (ls : Vec Level Global) (held : Held) (left : Left) (old now : State) (order : List ℕ) (floor : ℕ) (level : Level) →
    (on : IsOn rules task ls held left old Enter) → order ≡ on.later → floor ≡ task.floor →
    IsOpened (line_of rules held) floor held.places order on.from now level → IsPaused rules task ls held left now level
on_split rules task ls held left old now order floor level on same floor_is opened =
    let next : on.later ≡ level.unit ∷ opened.later = sym same ∙ opened.next in
    let long = ap length next in
    let none = ap length opened.none in record {
      line = on.line;
      rest = on.rest;
      later = opened.later;
      ready = subst (IsReadyFor task.line.loads task.line.slots held.places) next on.ready;
      room = (let room = on.room in omega (arith, long, room));
      from = on.from;
      stack = subst (λ o. IsStack task (reverse ls.items) held.places o on.from) next on.stack;
      done = [];
      kids = opened.places ∙ ap (λ l. children l held.places level.unit) on.line;
      under =
          subst (λ f. IsUnderWay task.line f held.places level.unit opened.later [] on.from now level.trees.items) floor_is
          (subst (λ l. IsUnderWay l floor held.places level.unit opened.later [] on.from now level.trees.items) on.line opened.under);
      trees = (let room = opened.room in omega (arith, none, room));
    }

-- between two children, with the line of the loads and the guide's floor
pub paused_among :
    (rules : Rules) (task : Task) (ls : Vec Level Global) (held : Held) (left : Left) (now : State) (level : Level) (floor : ℕ) → (paused : IsPaused rules task ls held left now level) → floor ≡ task.floor →
    IsAmong (line_of rules held) floor held.places paused.later paused.done paused.from now level
paused_among rules task ls held left now level floor paused floor_is =
    subst (λ l. IsAmong l floor held.places paused.later paused.done paused.from now level) (sym paused.line)
    (subst (λ f. IsAmong task.line f held.places paused.later paused.done paused.from now level) (sym floor_is)
    (record { free = paused.ready.0; kids = paused.kids; under = paused.under; trees = paused.trees }))

pub among_paused :
    (rules : Rules) (task : Task) (ls : Vec Level Global) (held : Held) (left : Left) (old now : State) (level level2 : Level) (floor : ℕ) (done : List Place) → (paused : IsPaused rules task ls held left old level) →
    floor ≡ task.floor → level2.unit ≡ level.unit → IsAmong (line_of rules held) floor held.places paused.later done paused.from now level2 → IsPaused rules task ls held left now level2
among_paused rules task ls held left old now level level2 floor done paused floor_is unit_is among =
    let at =
    subst (λ f. IsAmong task.line f held.places paused.later done paused.from now level2) floor_is
    (subst (λ l. IsAmong l floor held.places paused.later done paused.from now level2) paused.line among) in
    record {
      line = paused.line;
      rest = paused.rest;
      later = paused.later;
      ready = subst (λ u. IsReadyFor task.line.loads task.line.slots held.places (u ∷ paused.later)) (sym unit_is) paused.ready;
      room = paused.room;
      from = paused.from;
      stack = subst (λ u. IsStack task (reverse ls.items) held.places (u ∷ paused.later) paused.from) (sym unit_is) paused.stack;
      done = done;
      kids = at.kids;
      under = at.under;
      trees = at.trees;
    }

-- no child is left to be explored
pub paused_up :
    (rules : Rules) (task : Task) (ls : Vec Level Global) (held : Held) (left : Left) (now : State) (level : Level) (b : Box (Vec Tree Global) Global) →
    (paused : IsPaused rules task ls held left now level) →
    IsUnderWay task.line task.floor held.places level.unit paused.later (children task.line held.places level.unit) paused.from now b.value.items →
    IsOn rules task ls held left now (Up (Split b))
paused_up rules task ls held left now level b paused under = record {
  line = paused.line;
  rest = paused.rest;
  later = level.unit ∷ paused.later;
  ready = paused.ready;
  room = paused.room;
  from = paused.from;
  stack = paused.stack;
  entered = under_all task.line task.floor held.places level.unit paused.later paused.from now b under;
}

pub paused_open :
    (rules : Rules) (task : Task) (ls : Vec Level Global) (held : Held) (left : Left) (now : State) (level : Level) (b : Box (Vec Tree Global) Global) →
    IsPaused rules task ls held left now level → (length level.places ≡ 0) ⊎ IsSpent now → b.value.items ≡ level.trees.items ++ replicate (length level.places) OpenLeaf →
    IsOn rules task ls held left now (Up (Split b))
paused_open rules task ls held left now level b paused why made =
    let under = under_open task.line task.floor held.places level.unit paused.later paused.done level.places paused.from now level.trees.items why paused.under in
    paused_up rules task ls held left now level b paused
    (subst (λ ts. IsUnderWay task.line task.floor held.places level.unit paused.later (children task.line held.places level.unit) paused.from now ts) (sym made)
    (subst (λ k. IsUnderWay task.line task.floor held.places level.unit paused.later k paused.from now (level.trees.items ++ replicate (length level.places) OpenLeaf)) paused.kids under))

length-last : (xs : List Level) (x : Level) → length (xs ++ x ∷ []) ≡ length xs + 1
length-last [] x = refl
length-last (y ∷ xs) x = let rest = length-last xs x in omega (arith, rest)

-- the next child gets its place
pub paused_next :
    (rules : Rules) (task : Task) (ls ls2 : Vec Level Global) (held held2 : Held) (left left2 : Left) (now asked : State) (level : Level) (p : Place) (places : List Place) →
    IsPaused rules task ls held left now level → IsAsked task.floor now asked → level.places ≡ p ∷ places →
    ls2.items ≡ ls.items ++ record { unit = level.unit; places = places; trees = level.trees; room = level.room; above = level.above } ∷ [] → vec_capacity ls2 ≡ vec_capacity ls →
    held2 ≡ with_place held level.unit (Some p) → left2 ≡ with_flag left level.unit false →
    IsOn rules task ls2 held2 left2 asked Enter
paused_next rules task ls ls2 held held2 left left2 now asked level p places paused entered steps pushed same made flagged =
    let u = level.unit in
    let level2 : Level = record { unit = level.unit; places = places; trees = level.trees; room = level.room; above = level.above } in
    let kids : paused.done ++ p ∷ places ≡ children task.line held.places u = ap (λ w. paused.done ++ w) (sym steps) ∙ paused.kids in
    let range = children-In task.line held.places u p (subst (In p) kids (In-mid paused.done p places)) in
    let at : held2.places ≡ set held.places u (Some p) = ap (λ (h : Held). h.places) made in
    let long = ap length pushed ∙ length-last ls.items level2 in
    let fewer = ap length steps in
    let room = paused.room in
    let trees = paused.trees in
    let top : IsTop task level2 held.places paused.from held2.places paused.later now = record {
      place = p;
      done = paused.done;
      kids = kids;
      ready = paused.ready;
      made = at;
      under = paused.under;
      room = omega (arith, trees, fewer);
    } in
    record {
      line = line_after rules held held2 u (Some p) task.line paused.line made;
      rest = rest_follows held held2 left left2 u (Some p) paused.rest made flagged;
      later = paused.later;
      ready = subst (λ q. IsReadyFor task.line.loads task.line.slots q paused.later) (sym at) (paused.ready.1 p range.0 range.2);
      room = omega (arith, long, room, same);
      from = now;
      stack = subst (λ w. IsStack task w held2.places paused.later now) (sym (ap reverse pushed ∙ reverse-push ls.items level2)) (held.places, paused.from, top, paused.stack);
      entered = entered;
    }

-- the place of the innermost level is taken back
pub taken_back :
    (rules : Rules) (task : Task) (ls : List Level) (level : Level) (held held2 : Held) (left left2 : Left) (later : List ℕ) (from : State) →
    line_of rules held ≡ task.line → IsRestOf left held → (stack : IsStack task (level ∷ ls) held.places later from) →
    held2 ≡ with_place held level.unit None → left2 ≡ with_flag left level.unit true →
    (line_of rules held2 ≡ task.line) × IsRestOf left2 held2 × (held2.places ≡ stack.0)
taken_back rules task ls level held held2 left left2 later from line rest (before, entered, top, stack) made flagged =
    let u = level.unit in
    let under : Held = record { loads = held.loads; slots = held.slots; places = before } in
    let was : held ≡ with_place under u (Some top.place) = λ j. record { loads = held.loads; slots = held.slots; places = top.made j } in
    let back : held2 ≡ under = restored under held held held2 u top.place was refl made top.ready.0 in (
      line_after rules held held2 u None task.line line made,
      rest_follows held held2 left left2 u None rest made flagged,
      ap (λ (h : Held). h.places) back,
    )

-- the unit of the innermost level is one of them
pub top_within : (task : Task) (ls : List Level) (level : Level) (held : Held) (later : List ℕ) (from : State) → IsStack task (level ∷ ls) held.places later from → level.unit < length held.places
top_within task ls level held later from (before, entered, top, stack) =
    let inside = slice_get_within before level.unit None top.ready.0 in
    subst (λ ps. level.unit < length ps) (sym top.made) (rw (length-set before level.unit (Some top.place)) inside)

-- the tree of a child is there
pub on_rise :
    (rules : Rules) (task : Task) (ls ls2 : Vec Level Global) (held held2 : Held) (left left2 : Left) (now : State) (tree : Tree) (level : Level) (v : Vec Tree Global) →
    IsOn rules task ls held left now (Up tree) → ls.items ≡ ls2.items ++ level ∷ [] → vec_capacity ls2 ≡ vec_capacity ls →
    held2 ≡ with_place held level.unit None → left2 ≡ with_flag left level.unit true →
    v.items ≡ level.trees.items ++ tree ∷ [] → vec_capacity v ≡ vec_capacity level.trees →
    IsPaused rules task ls2 held2 left2 now (record { unit = level.unit; places = level.places; trees = v; room = level.room; above = level.above })
on_rise rules task ls ls2 held held2 left left2 now tree level v on popped same made flagged trees_are room_is =
    let u = level.unit in
    let stack : IsStack task (level ∷ reverse ls2.items) held.places on.later on.from = subst (λ w. IsStack task w held.places on.later on.from) (ap reverse popped ∙ reverse-push ls2.items level) on.stack in
    let back = taken_back rules task (reverse ls2.items) level held held2 left left2 on.later on.from on.line on.rest stack made flagged in
    let before = stack.0 in
    let top = stack.2 in
    let explored = subst (λ ps. IsExplored task.line task.floor ps on.later on.from now (shape_of tree)) top.made on.entered in
    let under = under_more task.line task.floor before u on.later top.done top.place stack.1 on.from now level.trees.items tree top.under explored in
    let long = ap length popped ∙ length-last ls2.items level in
    let more = ap length trees_are ∙ length-tree level.trees.items tree in
    let room = on.room in
    let trees = top.room in
    record {
      line = back.0;
      rest = back.1;
      later = on.later;
      ready = subst (λ ps. IsReadyFor task.line.loads task.line.slots ps (u ∷ on.later)) (sym back.2) top.ready;
      room = omega (arith, long, room, same);
      from = stack.1;
      stack = subst (λ ps. IsStack task (reverse ls2.items) ps (u ∷ on.later) stack.1) (sym back.2) stack.3;
      done = top.done ++ top.place ∷ [];
      kids = append_assoc top.done (top.place ∷ []) level.places ∙ top.kids ∙ ap (λ ps. children task.line ps u) (sym back.2);
      under =
          subst (λ ps. IsUnderWay task.line task.floor ps u on.later (top.done ++ top.place ∷ []) stack.1 now v.items) (sym back.2)
          (subst (IsUnderWay task.line task.floor before u on.later (top.done ++ top.place ∷ []) stack.1 now) (sym trees_are) under);
      trees = omega (arith, more, trees, room_is);
    }
  where
    length-tree : (xs : List Tree) (x : Tree) → length (xs ++ x ∷ []) ≡ length xs + 1
    length-tree [] x = refl
    length-tree (y ∷ xs) x = let rest = length-tree xs x in omega (arith, rest)

-- the walk is over
pub on_end : (rules : Rules) (task : Task) (ls : Vec Level Global) (held : Held) (left : Left) (now : State) (tree : Tree) → IsOn rules task ls held left now (Up tree) → ls.items ≡ [] → IsEnd rules task held left now tree
on_end rules task ls held left now tree on none =
    let at = subst (λ w. IsStack task (reverse w) held.places on.later on.from) none on.stack in record {
      back = record { line = on.line; rest = on.rest; places = at.0 };
      explored =
          subst (λ s. IsExplored task.line task.floor task.places task.order s now (shape_of tree)) at.2
          (subst (λ o. IsExplored task.line task.floor task.places o on.from now (shape_of tree)) at.1
          (subst (λ ps. IsExplored task.line task.floor ps on.later on.from now (shape_of tree)) at.0 on.entered));
    }

pub no_levels : (ls : List Level) → length ls ≡ 0 → ls ≡ []
no_levels [] h = refl
no_levels (l ∷ ls) h = absurd (omega arith)

-- where memory is refused
pub on_within : (rules : Rules) (task : Task) (ls : Vec Level Global) (held : Held) (left : Left) (now : State) (turn : Turn) → IsOn rules task ls held left now turn → IsWithin rules task (reverse ls.items) held left
on_within rules task ls held left now turn on = record { line = on.line; rest = on.rest; later = on.later; from = on.from; stack = on.stack }

pub within_less :
    (rules : Rules) (task : Task) (ls ls2 : List Level) (level : Level) (held held2 : Held) (left left2 : Left) → IsWithin rules task (reverse ls) held left → ls ≡ ls2 ++ level ∷ [] →
    held2 ≡ with_place held level.unit None → left2 ≡ with_flag left level.unit true → IsWithin rules task (reverse ls2) held2 left2
within_less rules task ls ls2 level held held2 left left2 at popped made flagged =
    let stack = subst (λ w. IsStack task w held.places at.later at.from) (ap reverse popped ∙ reverse-push ls2 level) at.stack in
    let back = taken_back rules task (reverse ls2) level held held2 left left2 at.later at.from at.line at.rest stack made flagged in record {
      line = back.0;
      rest = back.1;
      later = level.unit ∷ at.later;
      from = stack.1;
      stack = subst (λ ps. IsStack task (reverse ls2) ps (level.unit ∷ at.later) stack.1) (sym back.2) stack.3;
    }

pub within_unit : (rules : Rules) (task : Task) (ls ls2 : List Level) (level : Level) (held : Held) (left : Left) → IsWithin rules task (reverse ls) held left → ls ≡ ls2 ++ level ∷ [] → level.unit < length held.places
within_unit rules task ls ls2 level held left at popped =
    top_within task (reverse ls2) level held at.later at.from (subst (λ w. IsStack task w held.places at.later at.from) (ap reverse popped ∙ reverse-push ls2 level) at.stack)

pub within_end : (rules : Rules) (task : Task) (ls : List Level) (held : Held) (left : Left) → IsWithin rules task (reverse ls) held left → ls ≡ [] → IsBack rules task held left
within_end rules task ls held left at none =
    let stack = subst (λ w. IsStack task (reverse w) held.places at.later at.from) none at.stack in
    record { line = at.line; rest = at.rest; places = stack.0 }

-- all is as it was
pub held_same : (rules : Rules) (a b : Held) → line_of rules a ≡ line_of rules b → a.places ≡ b.places → a ≡ b
held_same rules a b line places = λ j. record { loads = (ap (λ (l : Line). l.loads) line) j; slots = (ap (λ (l : Line). l.slots) line) j; places = places j }

-- the walk over all that the loads leave
abbrev pub walk_task : Rules → Held → List ℕ → Frame → State → Task
walk_task rules held order frame first = record { line = line_of rules held; floor = frame.floor; places = held.places; order = order; first = first }

pub for_walk : (rules : Rules) (held : Held) (order : List ℕ) (first now : Frame) (s : State) → now ≡ first → first.loads ≡ held.loads → first.slots ≡ held.slots → IsFor (walk_task rules held order first s) order now
for_walk rules held order first now s same loads slots = record {
  units = refl;
  loads = ap (λ (f : Frame). f.loads) same ∙ loads;
  slots = ap (λ (f : Frame). f.slots) same ∙ slots;
  floor = ap (λ (f : Frame). f.floor) same;
}

-- the walk begins
pub on_start :
    (rules : Rules) (held : Held) (left : Left) (order : List ℕ) (frame : Frame) (s now : State) (ls : Vec Level Global) →
    IsRestOf left held → IsReadyFor held.loads held.slots held.places order → ls.items ≡ [] → length order ≤ vec_capacity ls → IsAsked frame.floor s now → IsOn rules (walk_task rules held order frame s) ls held left now Enter
on_start rules held left order frame s now ls rest ready none room asked =
    let long = ap length none in record {
      line = refl;
      rest = rest;
      later = order;
      ready = ready;
      room = omega (arith, long, room);
      from = s;
      stack = subst (λ w. IsStack (walk_task rules held order frame s) (reverse w) held.places order s) (sym none) (refl, refl, refl);
      entered = asked;
    }
