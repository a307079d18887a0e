use Rattle.std.proofs.Common.{◌≡◌, codes, sym, ap, ◌∙◌, rules}
use Rattle.ec_loads.specs.Shape.{average, leaf}
use Rattle.ec_cert.specs.Shapes.{shape_of}
use Rattle.ec_cert.specs.declared.tree.Tree.{Tree, Average, the_lemmas}
use Rattle.ec_cert.proofs.TreeLemmas.{shape_of-trees}
use Rattle.ec_cert_text.specs.Text.{node_lines}
use Rattle.ec_cert_text.proofs.WriteLemmas.{on_ok, front_all, front_as, all_as, split_front, split_then, split_all, children_none, children_more, children_front, children_all}
use Rattle.ec_cert_text.proofs.writing.+nodes.Goals as goal

pub write_node-returns-in_err-write_number-in-Split-clause-front : goal.write_node-returns-in_err-write_number-in-Split-clause-front
write_node-returns-in_err-write_number-in-Split-clause-front g t c = split_front _ c.as_ref-trees.result.now _ (shape_of-trees c.args.tree.now c.in-Split.trees c.as_ref-trees.result.now c.in-Split.is c.as_ref-trees.ensures) (search rules) c.write_number.ensures.front

pub write_node-returns-in_ok-write_number-in-Split-clause-all : goal.write_node-returns-in_ok-write_number-in-Split-clause-all
write_node-returns-in_ok-write_number-in-Split-clause-all g t c =
    on_ok c.write_nodes.result _ _ (split_all _ c.as_ref-trees.result.now _ (shape_of-trees c.args.tree.now c.in-Split.trees c.as_ref-trees.result.now c.in-Split.is c.as_ref-trees.ensures) (search rules) c.in_ok-write_number-in-Split.ensures.all) c.write_nodes.ensures.all

pub write_node-returns-in_ok-write_number-in-Split-clause-front : goal.write_node-returns-in_ok-write_number-in-Split-clause-front
write_node-returns-in_ok-write_number-in-Split-clause-front g t c =
    split_then _ c.as_ref-trees.result.now _ (shape_of-trees c.args.tree.now c.in-Split.trees c.as_ref-trees.result.now c.in-Split.is c.as_ref-trees.ensures) (search rules) c.in_ok-write_number-in-Split.ensures.all c.write_nodes.ensures.front

pub write_nodes-children-init : goal.write_nodes-children-init
write_nodes-children-init g t c = record {
  text = children_none c.deref-tree-items.result.now;
  same = search rules;
}

pub write_nodes-returns-in_err-write_node-clause-front : goal.write_nodes-returns-in_err-write_node-clause-front
write_nodes-returns-in_err-write_node-clause-front g t c =
    children_front c.deref-tree-items.result.now c.args.trees.now.items c.children.tree-index c.tree-item.result c.deref-tree-items.ensures.value c.children-test.true c.tree-item.is c.children.invariant.text c.write_node.ensures.front

pub write_nodes-children-preserved : goal.write_nodes-children-preserved
write_nodes-children-preserved g t c = record {
  text = children_more c.deref-tree-items.result.now c.children.tree-index c.tree-item.result c.children-test.true c.tree-item.is c.children.invariant.text c.in_ok-write_node.ensures.all;
  same = search rules;
}

pub write_nodes-returns-clause-all : goal.write_nodes-returns-clause-all
write_nodes-returns-clause-all g t c = children_all c.deref-tree-items.result.now c.args.trees.now.items c.children.tree-index c.deref-tree-items.ensures.value c.children-test.false c.children.invariant.text

pub write_nodes-returns-clause-front : goal.write_nodes-returns-clause-front
write_nodes-returns-clause-front g t c = front_all (children_all c.deref-tree-items.result.now c.args.trees.now.items c.children.tree-index c.deref-tree-items.ensures.value c.children-test.false c.children.invariant.text)

average_shape : shape_of Average ≡ leaf average
average_shape = search (rules, the_lemmas)

average_line : (t : Tree) → t ≡ Average → codes "A\n" ≡ node_lines (shape_of t)
average_line t is = sym (ap (λ x. node_lines (shape_of x)) is ∙ ap node_lines average_shape)

pub write_node-returns-in-Average-clause-all : goal.write_node-returns-in-Average-clause-all
write_node-returns-in-Average-clause-all g t c = on_ok c.write.result _ _ (all_as (average_line c.args.tree.now c.in-Average.is)) c.write.ensures.all

pub write_node-returns-in-Average-clause-front : goal.write_node-returns-in-Average-clause-front
write_node-returns-in-Average-clause-front g t c = front_as (average_line c.args.tree.now c.in-Average.is) c.write.ensures.front
