use Rattle.std.proofs.Common.{◌≡◌, ◌-◌, rules, arith, ap, ◌∙◌, sym, take, set, length, subst}
use Rattle.ec_loads.specs.Search.{open_count}
use Rattle.ec_cert.specs.Shapes.{shape_of}
use Rattle.ec_book.specs.Numbered.{numbered, draw}
use Rattle.ec_book.specs.Grown.{grown, Chain, shape_at}
use Rattle.ec_book.proofs.PieceLemmas.{grown-push}
use Rattle.ec_book.proofs.RowLemmas.{Below-numbered}
use Rattle.ec_book.proofs.DrawLemmas.{draw_step, chain-pop, grown-below, length-take', length-set''}
use Rattle.ec_book.proofs.finish.assembled.Goals as goal

pub filled-sub-requires : goal.filled-sub-requires
filled-sub-requires c =
    let r = c.in-Some.report in
    let chain = chain-pop (open_count (shape_of c.args.given)) c.pop.new.self.items (length c.loop-report.built.items) r (rw c.in-Some.ensures.items at c.loop-report.invariant.chain) in
    omega (arith, chain.2)

pub index_mut-requires : goal.index_mut-requires
index_mut-requires c =
    let r = c.in-Some.report in
    let built = c.loop-report.built.items in
    let chain = chain-pop (open_count (shape_of c.args.given)) c.pop.new.self.items (length built) r (rw c.in-Some.ensures.items at c.loop-report.invariant.chain) in
    let long = length-take' built (length built - open_count (shape_of r.tree)) (omega arith) in
    let same = ap length c.filled-sub.ensures.left in
    omega (arith, chain.1, chain.2, long, same)

pub loop-report-preserved : goal.loop-report-preserved
loop-report-preserved c =
    let r = c.in-Some.report in
    let rs = c.pop.new.self.items in
    let built = c.loop-report.built.items in
    let left = c.filled-sub.new.built.items in
    let chain = chain-pop (open_count (shape_of c.args.given)) rs (length built) r (rw c.in-Some.ensures.items at c.loop-report.invariant.chain) in
    let number : length built - open_count (shape_of r.tree) ≡ r.first = omega (arith, chain.2) in
    let is : left ≡ take r.first built = c.filled-sub.ensures.left ∙ ap (λ w. take w built) number in
    let long : length (set left r.piece c.filled-sub.result) ≡ r.first = length-set'' left r.piece c.filled-sub.result ∙ ap length is ∙ length-take' built r.first (omega (arith, chain.2)) in
    record {
      chain = subst (λ w. Chain (open_count (shape_of c.args.given)) rs w) (sym long) chain.0;
      same =
          draw_step built left (grown (numbered 0 (shape_of c.args.given)) rs) r.piece r.first (shape_of r.tree) c.filled-sub.result (grown-below (open_count (shape_of c.args.given)) rs r.first (numbered 0 (shape_of c.args.given)) chain.0 (Below-numbered 0 (shape_of c.args.given) (open_count (shape_of c.args.given)) (omega arith))) chain.1 (omega (arith, chain.2)) is
          (c.filled-sub.ensures.tree ∙ ap (λ w. draw (shape_at built) (numbered w (shape_of r.tree))) number)
          ∙ ap (draw (shape_at built)) (sym (grown-push (numbered 0 (shape_of c.args.given)) rs r))
          ∙ ap (λ w. draw (shape_at built) (grown (numbered 0 (shape_of c.args.given)) w)) (sym c.in-Some.ensures.items)
          ∙ c.loop-report.invariant.same;
    }

pub loop-report-preserved-in-Some : goal.loop-report-preserved-in-Some
loop-report-preserved-in-Some c =
    let r = c.in-Some.report in
    let rs = c.pop.new.self.items in
    let built = c.loop-report.built.items in
    let left = c.filled-sub.new.built.items in
    let chain = chain-pop (open_count (shape_of c.args.given)) rs (length built) r (rw c.in-Some.ensures.items at c.loop-report.invariant.chain) in
    let number : length built - open_count (shape_of r.tree) ≡ r.first = omega (arith, chain.2) in
    let is : left ≡ take r.first built = c.filled-sub.ensures.left ∙ ap (λ w. take w built) number in
    let long : length (set left r.piece c.filled-sub.result) ≡ r.first = length-set'' left r.piece c.filled-sub.result ∙ ap length is ∙ length-take' built r.first (omega (arith, chain.2)) in
    record {
      chain = subst (λ w. Chain (open_count (shape_of c.args.given)) rs w) (sym long) chain.0;
      same =
          draw_step built left (grown (numbered 0 (shape_of c.args.given)) rs) r.piece r.first (shape_of r.tree) c.filled-sub.result (grown-below (open_count (shape_of c.args.given)) rs r.first (numbered 0 (shape_of c.args.given)) chain.0 (Below-numbered 0 (shape_of c.args.given) (open_count (shape_of c.args.given)) (omega arith))) chain.1 (omega (arith, chain.2)) is
          (c.filled-sub.ensures.tree ∙ ap (λ w. draw (shape_at built) (numbered w (shape_of r.tree))) number)
          ∙ ap (draw (shape_at built)) (sym (grown-push (numbered 0 (shape_of c.args.given)) rs r))
          ∙ ap (λ w. draw (shape_at built) (grown (numbered 0 (shape_of c.args.given)) w)) (sym c.in-Some.ensures.items)
          ∙ c.loop-report.invariant.same;
    }

pub loop-report-preserved-in-Some-2 : goal.loop-report-preserved-in-Some-2
loop-report-preserved-in-Some-2 c =
    let r = c.in-Some.report in
    let rs = c.pop.new.self.items in
    let built = c.loop-report.built.items in
    let left = c.filled-sub.new.built.items in
    let chain = chain-pop (open_count (shape_of c.args.given)) rs (length built) r (rw c.in-Some.ensures.items at c.loop-report.invariant.chain) in
    let number : length built - open_count (shape_of r.tree) ≡ r.first = omega (arith, chain.2) in
    let is : left ≡ take r.first built = c.filled-sub.ensures.left ∙ ap (λ w. take w built) number in
    let long : length (set left r.piece c.filled-sub.result) ≡ r.first = length-set'' left r.piece c.filled-sub.result ∙ ap length is ∙ length-take' built r.first (omega (arith, chain.2)) in
    record {
      chain = subst (λ w. Chain (open_count (shape_of c.args.given)) rs w) (sym long) chain.0;
      same =
          draw_step built left (grown (numbered 0 (shape_of c.args.given)) rs) r.piece r.first (shape_of r.tree) c.filled-sub.result (grown-below (open_count (shape_of c.args.given)) rs r.first (numbered 0 (shape_of c.args.given)) chain.0 (Below-numbered 0 (shape_of c.args.given) (open_count (shape_of c.args.given)) (omega arith))) chain.1 (omega (arith, chain.2)) is
          (c.filled-sub.ensures.tree ∙ ap (λ w. draw (shape_at built) (numbered w (shape_of r.tree))) number)
          ∙ ap (draw (shape_at built)) (sym (grown-push (numbered 0 (shape_of c.args.given)) rs r))
          ∙ ap (λ w. draw (shape_at built) (grown (numbered 0 (shape_of c.args.given)) w)) (sym c.in-Some.ensures.items)
          ∙ c.loop-report.invariant.same;
    }

pub loop-report-preserved-in-Some-3 : goal.loop-report-preserved-in-Some-3
loop-report-preserved-in-Some-3 c =
    let r = c.in-Some.report in
    let rs = c.pop.new.self.items in
    let built = c.loop-report.built.items in
    let left = c.filled-sub.new.built.items in
    let chain = chain-pop (open_count (shape_of c.args.given)) rs (length built) r (rw c.in-Some.ensures.items at c.loop-report.invariant.chain) in
    let number : length built - open_count (shape_of r.tree) ≡ r.first = omega (arith, chain.2) in
    let is : left ≡ take r.first built = c.filled-sub.ensures.left ∙ ap (λ w. take w built) number in
    let long : length (set left r.piece c.filled-sub.result) ≡ r.first = length-set'' left r.piece c.filled-sub.result ∙ ap length is ∙ length-take' built r.first (omega (arith, chain.2)) in
    record {
      chain = subst (λ w. Chain (open_count (shape_of c.args.given)) rs w) (sym long) chain.0;
      same =
          draw_step built left (grown (numbered 0 (shape_of c.args.given)) rs) r.piece r.first (shape_of r.tree) c.filled-sub.result (grown-below (open_count (shape_of c.args.given)) rs r.first (numbered 0 (shape_of c.args.given)) chain.0 (Below-numbered 0 (shape_of c.args.given) (open_count (shape_of c.args.given)) (omega arith))) chain.1 (omega (arith, chain.2)) is
          (c.filled-sub.ensures.tree ∙ ap (λ w. draw (shape_at built) (numbered w (shape_of r.tree))) number)
          ∙ ap (draw (shape_at built)) (sym (grown-push (numbered 0 (shape_of c.args.given)) rs r))
          ∙ ap (λ w. draw (shape_at built) (grown (numbered 0 (shape_of c.args.given)) w)) (sym c.in-Some.ensures.items)
          ∙ c.loop-report.invariant.same;
    }

pub filled-requires : goal.filled-requires
filled-requires c = search rules

pub returns : goal.returns
returns c = search rules
