use Rattle.std.proofs.Common.{rules}
use Rattle.std.proofs.lemmas.Result.{err_from_is_err_and}
use Rattle.ec_cert_text.specs.Views.{at_view}
use Rattle.ec_cert_text.proofs.TreeLemmas.{line_fails, node_fails, node_reads}
use Rattle.ec_cert_text.proofs.nodes.judged_node.Goals as goal

pub returns-in_err-line-clause-exact : goal.returns-in_err-line-clause-exact
returns-in_err-line-clause-exact c =
    let p = err_from_is_err_and c.from_residual.result c.from_residual.ensures.1 in
    rw (p.1, p.2) (line_fails c.args.kinds c.args.levels (at_view c.args.place) c.in_err-line.field-0.0 c.in_err-line.ensures)

pub returns-in_err-node-clause-exact : goal.returns-in_err-node-clause-exact
returns-in_err-node-clause-exact c =
    let p = err_from_is_err_and c.from_residual-in_err-node.result c.from_residual-in_err-node.ensures.1 in
    rw (p.1, p.2) (node_fails c.args.kinds c.args.levels (at_view c.args.place) (at_view c.in_ok-line.rest) c.in_ok-line.line.now c.in_err-node.field-0.0 c.in_ok-line.ensures (search rules) c.in_err-node.ensures)

pub returns-clause-exact : goal.returns-clause-exact
returns-clause-exact c = node_reads c.args.kinds c.args.levels (at_view c.args.place) (at_view c.in_ok-line.rest) c.in_ok-line.line.now c.in_ok-node.node c.in_ok-line.ensures (search rules) c.in_ok-node.ensures (search rules)
