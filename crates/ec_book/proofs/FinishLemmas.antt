-- What the tree of a finished book is.
use Rattle.std.proofs.Common.{◌≡◌, ℕ, ◌+◌, ◌<◌, ◌==◌, ◌||◌, false, All, if◌then◌else◌, arith, ap, ◌∙◌, sym, refl, replicate, length, subst, List, [], ◌∷◌, Option}
use Rattle.std.proofs.lemmas.Bool.{lt-leb}
use Rattle.ec_units.specs.declared.slave.Place.{Place}
use Rattle.ec_loads.specs.Line.{Line}
use Rattle.ec_loads.specs.Shape.{Shape, open_leaf}
use Rattle.ec_loads.specs.Search.{IsTree, IsPartialTree, node_count, open_count}
use Rattle.ec_loads.specs.Held.{no_places}
use Rattle.ec_cert.specs.declared.tree.Tree.{Tree, OpenLeaf}
use Rattle.ec_cert.specs.Shapes.{shape_of}
use Rattle.ec_book.specs.declared.piece.Piece.{Piece}
use Rattle.ec_book.specs.declared.report.Report.{Report}
use Rattle.ec_book.specs.Numbered.{Numbered, gap, numbered, fill, plug, draw, plain}
use Rattle.ec_book.specs.Steps.{live_count}
use Rattle.ec_book.specs.Finishing.{GrowsFrom}
use Rattle.ec_cert.specs.Parts.{has_leaf}
use Rattle.ec_cert.specs.declared.part.Part.{Part}
use Rattle.ec_book.specs.Open.{StandsAt}
use Rattle.ec_book.specs.Parts.{is_of_part, IsReportOf, LeavesOthers}
use Rattle.ec_book.specs.Grown.{grown, shape_at}
use Rattle.ec_book.specs.Kept.{IsGrown}
use Rattle.ec_book.proofs.DrawLemmas.{draw-same, draw-fill, shape_at-open, grown-below}
use Rattle.ec_book.proofs.ShareLemmas.{unreported}
use Rattle.ec_book.proofs.PlugLemmas.{fill-fill, fill-gap}
use Rattle.ec_book.proofs.RowLemmas.{Below-numbered}
use Rattle.ec_book.proofs.TreeLemmas.{numbered-plain, gaps-plain, size-plain, tree-closed}

-- the reports change a tree at its open leaves alone
grown-fill : (rs : List Report) (t : Numbered) → grown t rs ≡ fill (λ m. grown (gap m) rs) t
grown-fill [] t = sym (fill-gap t)
grown-fill (r ∷ rs) t =
    let s = numbered r.first (shape_of r.tree) in
    grown-fill rs (plug r.piece s t)
    ∙ sym (fill-fill (λ m. grown (gap m) (r ∷ rs)) (λ m. grown (gap m) rs) (λ m. if m == r.piece then s else gap m) (λ m. grown-fill rs (if m == r.piece then s else gap m)) t)

-- a leaf that isn't of the part is a piece that isn't
other_piece : (part : Part) (first m : ℕ) → m < first → has_leaf part m ≡ false → is_of_part part first m ≡ false
unfolding is_of_part
other_piece part first m low other = ap (λ b. b || has_leaf part m) (lt-leb first m low) ∙ other

module _ (given : Shape) (line : Line) (order : List ℕ) (pieces : List Piece) (prefixes : List (List Place)) (reports : List Report) (value : Option ℕ) (spent : ℕ)
    (h : IsGrown given line order pieces prefixes reports value spent) where
  abbrev tree : Numbered
  tree = grown (numbered 0 given) reports

  -- the tree in memory is what the reports made, without numbers
  pub drawn : (count : ℕ) (built : List Tree) (shape : Shape) → shape ≡ draw (shape_at built) tree → built ≡ replicate count OpenLeaf → shape ≡ plain tree
  drawn count built shape is opened =
      is ∙ ap (λ w. draw (shape_at w) tree) opened
      ∙ draw-same (shape_at (replicate count OpenLeaf)) (λ _. open_leaf) (length pieces) (λ m _. shape_at-open count m) tree (grown-below (open_count given) reports (length pieces) (numbered 0 given) h.chain (Below-numbered 0 given (open_count given) (omega arith)))

  pub drawn-partial : (shape : Shape) → shape ≡ plain tree → IsPartialTree line value shape (no_places line.loads) order
  drawn-partial shape is = subst (λ s. IsPartialTree line value s (no_places line.loads) order) (sym is) (numbered-plain (StandsAt line.loads order prefixes) line value tree (no_places line.loads) order h.tree)

  pub drawn-nodes : (shape : Shape) → shape ≡ plain tree → node_count shape ≡ node_count given + spent
  drawn-nodes shape is = ap node_count is ∙ size-plain tree ∙ h.pieces_are.nodes_is

  pub drawn-open : (shape : Shape) → shape ≡ plain tree → open_count shape ≡ live_count pieces
  drawn-open shape is = ap open_count is ∙ gaps-plain (StandsAt line.loads order prefixes) line value tree (no_places line.loads) order h.tree ∙ h.pieces_are.count_is

  pub drawn-closed : (shape : Shape) → shape ≡ plain tree → open_count shape ≡ 0 → IsTree line value shape (no_places line.loads) order
  drawn-closed shape is none = tree-closed (λ _ _. Unit {0}) (λ _ _. ⊥) line value shape (no_places line.loads) order none (drawn-partial shape is).0

  -- it goes on from the tree that was given
  pub drawn-extends : (shape : Shape) → shape ≡ plain tree → GrowsFrom given shape
  drawn-extends shape is =
      let part : ℕ → Shape = λ m. plain (grown (gap m) reports) in (
        part,
        is ∙ ap plain (grown-fill reports (numbered 0 given))
            ∙ sym (draw-fill part (λ _. open_leaf) (λ m. grown (gap m) reports) (open_count given) (λ m _. refl) (numbered 0 given) (Below-numbered 0 given (open_count given) (omega arith))),
      )

  -- it goes on from the tree that was given at the leaves of the part alone
  pub drawn-others : (part : Part) (shape : Shape) → shape ≡ plain tree → All (IsReportOf (is_of_part part (open_count given))) reports → LeavesOthers part given shape
  unfolding drawn-extends
  drawn-others part shape is own =
      let extends = drawn-extends shape is in (
        extends.0,
        extends.1,
        λ m low other. ap plain (unreported (is_of_part part (open_count given)) reports m own (other_piece part (open_count given) m low other)),
      )
