use Rattle.std.proofs.Common.{◌≡◌, ◌∙◌, ap, ◌++◌, ◌∷◌, [], replicate, arith, refl}
use lib.ListN.{replicate-append-replicate}
use Rattle.ec_cert.specs.declared.tree.Tree.{OpenLeaf}
use Rattle.ec_book.proofs.finish.open_leaves.Goals as goal

pub loop-i-init : goal.loop-i-init
loop-i-init c = (c.requires.none, refl)

pub loop-i-preserved : goal.loop-i-preserved
loop-i-preserved c = (c.push_reserved.ensures.items ∙ ap (λ l. l ++ OpenLeaf ∷ []) c.loop-i.invariant.0 ∙ replicate-append-replicate c.loop-i.i 1 OpenLeaf, c.push_reserved.ensures.capacity ∙ c.loop-i.invariant.1)

pub returns : goal.returns
returns c = let all : c.loop-i.i ≡ c.args.count = omega (arith, c.loop-i-test.false, c.loop-i) in c.loop-i.invariant.0 ∙ ap (λ n. replicate n OpenLeaf) all
