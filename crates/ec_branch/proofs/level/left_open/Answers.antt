use Rattle.std.proofs.Common.{◌++◌, [], ◌∷◌, length, replicate, ap, sym, ◌∙◌, arith, append_assoc}
use Rattle.std.proofs.lemmas.List.{append-nil}
use Rattle.ec_cert.specs.declared.tree.Tree.{OpenLeaf}
use Rattle.ec_branch.proofs.level.left_open.Goals as goal

pub push_reserved-requires : goal.push_reserved-requires
push_reserved-requires c =
    let fewer = ap length c.in-Some.ensures.steps in
    let room = c.loop-trees.invariant.room in
    omega (arith, fewer, room, c.loop-trees.trees.ok.0)

pub loop-trees-preserved : goal.loop-trees-preserved
loop-trees-preserved c =
    let ts = c.loop-trees.trees.items in
    let steps = c.in-Some.ensures.steps in
    let fewer = ap length steps in
    let pushed = c.push_reserved.ensures.items in
    let room = c.loop-trees.invariant.room in
    let more = c.push_reserved.ensures.len in
    record {
      room = omega (arith, fewer, room, more, c.push_reserved.new.self.ok.0, c.loop-trees.trees.ok.0, c.push_reserved.ensures.capacity);
      items =
          ap (λ w. w ++ replicate (length c.next.new.self) OpenLeaf) pushed
          ∙ append_assoc ts (OpenLeaf ∷ []) (replicate (length c.next.new.self) OpenLeaf)
          ∙ ap (λ w. ts ++ replicate (length w) OpenLeaf) (sym steps)
          ∙ c.loop-trees.invariant.items;
    }

pub returns : goal.returns
returns c =
    let none = c.in_default.ensures.steps.0 in
    ap (λ v. v.items) c.replace.ensures.after ∙ sym (append-nil c.loop-trees.trees.items) ∙ ap (λ w. c.loop-trees.trees.items ++ replicate (length w) OpenLeaf) (sym none) ∙ c.loop-trees.invariant.items
