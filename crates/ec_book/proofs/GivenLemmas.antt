-- A search that begins with a tree.
use Rattle.std.proofs.Common.{◌≡◌, ℕ, Bool, List, [], ◌++◌, length, replicate, Option, refl, sym, ap, ◌∙◌, arith, subst, ◌≤◌}
use Rattle.std.proofs.lemmas.List.{length-replicate, length-map}
use Rattle.ec_units.specs.declared.unit.Unit.{Unit as SyncUnit}
use Rattle.ec_units.specs.Load.{load_of, loads_of}
use Rattle.ec_units.specs.declared.slave.Place.{Place}
use Rattle.ec_loads.specs.Held.{Held, no_places}
use Rattle.ec_loads.specs.Line.{Rules, Line, line_by}
use Rattle.ec_loads.specs.Shape.{Shape}
use Rattle.ec_loads.specs.Search.{IsPartialTree, open_count}
use Rattle.ec_cert.specs.declared.cert.Best.{Best}
use Rattle.ec_cert.specs.declared.tree.Tree.{Tree}
use Rattle.ec_cert.specs.declared.part.Part.{Part}
use Rattle.ec_cert.specs.Parts.{IsPart}
use Rattle.ec_cert.specs.IsBestPlan.{value_of, IsBestPlan}
use Rattle.ec_symmetry.specs.Orders.{IsOrder}
use Rattle.ec_book.specs.declared.report.Report.{Report}
use Rattle.ec_book.specs.declared.step.Step.{Step}
use Rattle.ec_book.specs.declared.piece.Piece.{Piece}
use Rattle.ec_book.specs.declared.piece.Piece.TheVariants.{Free}
use Rattle.ec_book.specs.Steps.{start}
use Rattle.ec_book.specs.Open.{open_places}
use Rattle.ec_book.specs.Parts.{is_of_part}
use Rattle.ec_book.specs.Kept.{IsCounted, IsGrown, IsKept}
use Rattle.ec_book.proofs.HistoryLemmas.{granted-free, taken-free}
use Rattle.ec_book.proofs.ShareLemmas.{parted-given}
use Rattle.ec_book.proofs.PieceLemmas.{pieces-given}
use Rattle.ec_book.proofs.OpenLemmas.{append_none}
use Rattle.ec_book.proofs.TreeLemmas.{length-leaves, reached-leaves, numbered-stands}

-- nothing is taken and nothing is spent
pub counted-given : (ours : ℕ → Bool) (given : Shape) (value : Option ℕ) (nodes room : ℕ) → IsCounted ours (start given value) nodes (replicate (open_count given) Free) value 0 0 0 0 [] room
counted-given ours given value nodes room =
    let free = granted-free [] (open_count given) in
    let taken = taken-free [] (open_count given) in
    record {
      history = refl;
      held_is = omega (arith, free);
      within = omega arith;
      taken_is = omega (arith, taken);
      room_is = omega arith;
      low_is = λ m low own. absurd (omega (arith, low));
      low_in = omega arith;
    }

module _ (given : Shape) (line : Line) (order : List ℕ) (value : Option ℕ) (tree : IsPartialTree line value given (no_places line.loads) order) where
  -- a piece for each open leaf
  pub count-given : length (open_places line order given []) ≡ open_count given
  count-given = length-leaves (λ _ _. Unit {0}) line value given (no_places line.loads) order [] tree.0

  pub grown-given : IsGrown given line order (replicate (open_count given) Free) (open_places line order given []) [] value 0
  grown-given = record {
    chain = sym (length-replicate (open_count given) Free);
    each = count-given ∙ sym (length-replicate (open_count given) Free);
    reached = reached-leaves line order given (no_places line.loads) order [] (refl, refl) tt;
    pieces_are = pieces-given given;
    tree = numbered-stands line value order (open_places line order given []) given (no_places line.loads) order [] 0 [] [] refl (sym (append_none (open_places line order given []))) (refl, refl) tree.0 tree.1;
  }

  -- as many free pieces as places
  pub pieces-are : (pieces old : List Piece) (prefixes : List (List Place)) (count : ℕ) → pieces ≡ old ++ replicate count Free → old ≡ [] → prefixes ≡ open_places line order given [] → count ≡ length prefixes → pieces ≡ replicate (open_count given) Free
  pieces-are pieces old prefixes count is empty opened counted = is ∙ ap (λ w. w ++ replicate count Free) empty ∙ ap (λ n. replicate n Free) (counted ∙ ap length opened ∙ count-given)

-- an order of these units is one of their loads
pub order-given : (us : List SyncUnit) (n : ℕ) (held : Held) (order given : List ℕ) → IsOrder (length us) given → held ≡ record { loads = loads_of us; slots = n; places = no_places (loads_of us) } → order ≡ given → IsOrder (length held.loads) order
order-given us n held order given is_order held_is is = rw (held_is, is) (rw (length-map us load_of) is_order)

-- what is true of each book is true of one that begins with a tree for these units
pub kept-given : (us : List SyncUnit) (n : ℕ) (order : List ℕ) (rules : Rules) (best : Option Best) (given : Shape) (nodes : ℕ)
    → IsOrder (length us) order → IsBestPlan (loads_of us) n best → IsPartialTree (line_by rules (loads_of us) n) (value_of best) given (no_places (loads_of us)) order
    → (held : Held) (pieces : List Piece) (prefixes : List (List Place)) (reports : List Report) (log : List Step) (room : ℕ) (leaves : List Tree) (most : ℕ) (part : Part) (first : ℕ)
    → held ≡ record { loads = loads_of us; slots = n; places = no_places (loads_of us) }
    → pieces ≡ replicate (open_count given) Free → prefixes ≡ open_places (line_by rules (loads_of us) n) order given [] → reports ≡ [] → log ≡ [] → leaves ≡ [] → length prefixes ≤ most → IsPart part → first ≡ open_count given
    → IsKept held order rules nodes pieces prefixes reports best 0 0 0 0 log given (value_of best) room leaves most part first
kept-given us n order rules best given nodes is_order is_best tree held pieces prefixes reports log room leaves most part first held_is pieces_are prefixes_are reports_are log_is none enough is_part first_is =
    rw (held_is, pieces_are, prefixes_are, reports_are, log_is) (record {
      for = record { order_is = rw (length-map us load_of) is_order; empty = refl; best_is = is_best };
      counted = counted-given (is_of_part part first) given (value_of best) nodes room;
      grown = grown-given given (line_by rules (loads_of us) n) order (value_of best) tree;
      spare = record { none = none; each = subst (λ (ps : List (List Place)). length ps ≤ most) prefixes_are enough };
      shared = record { part_is = is_part; first_is = first_is; parted = parted-given (is_of_part part first) (open_count given) };
    })
