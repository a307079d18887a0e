use Rattle.std.proofs.Common.{◌≡◌, length}
use Rattle.ec_loads.specs.Search.{open_count}
use Rattle.ec_cert.specs.Shapes.{shape_of}
use Rattle.ec_book.specs.Numbered.{draw, numbered}
use Rattle.ec_book.specs.Grown.{grown, Chain, shape_at}
use Rattle.ec_book.proofs.finish.assembled.Given as goal

abbrev pub invariant-loop-report : goal.invariant-loop-report
invariant-loop-report l = record {
  chain : Chain (open_count (shape_of l.given)) l.reports.items (length l.built.items);
  same : draw (shape_at l.built.items) (grown (numbered 0 (shape_of l.given)) l.reports.items) ≡ draw (shape_at l.initial.built.items) (grown (numbered 0 (shape_of l.given)) l.initial.reports.items);
}

abbrev pub decreases-loop-report : goal.decreases-loop-report
decreases-loop-report l = length l.reports.items
