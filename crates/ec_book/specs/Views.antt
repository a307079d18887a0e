-- A book as contracts see it.
use Rattle.std.specs.Prelude.{ℕ, Bool, ◌+◌, List, [], ◌∷◌, ◌++◌, length, set, replicate, Option, Some}
use Rattle.ec_units.specs.declared.slave.Place.{Place}
use Rattle.ec_units.specs.declared.unit.Load.{Load}
use Rattle.ec_loads.specs.Line.{Rules}
use Rattle.ec_loads.specs.Shape.{Shape}
use Rattle.ec_loads.specs.Search.{node_count, open_count}
use Rattle.ec_cert.specs.declared.cert.Best.{Best}
use Rattle.ec_cert.specs.declared.part.Part.{Part}
use Rattle.ec_cert.specs.IsBestPlan.{value_of}
use Rattle.ec_book.specs.declared.step.Step.{Step}
use Rattle.ec_book.specs.declared.step.Step.TheVariants.{Took, Reported, Better, Back}
use Rattle.ec_book.specs.declared.piece.Piece.{Piece}
use Rattle.ec_book.specs.declared.piece.Piece.TheVariants.{Free, Taken, Ended}
use Rattle.ec_book.specs.Steps.{PiecesState, start}
use Rattle.ec_book.specs.Parts.{is_of_part}

-- the units' loads and the slot count, the order of the units, the rules by which its trees are made, the nodes that may be spent; the pieces by their numbers and the places that lead to each;
-- the best plan; the nodes spent; what happened; the tree that the search was given, an open leaf where it began afresh, the value that it was given, and the part of that tree's open leaves
pub record BookView : Type 0 where
  pub loads : List Load
  pub slots : ℕ
  pub order : List ℕ
  pub rules : Rules
  pub nodes : ℕ
  pub pieces : List Piece
  pub prefixes : List (List Place)
  pub best : Option Best
  pub spent : ℕ
  pub log : List Step
  pub given : Shape
  pub given_value : Option ℕ
  pub part : Part

abbrev pub book_view : List Load → ℕ → List ℕ → Rules → ℕ → List Piece → List (List Place) → Option Best → ℕ → List Step → Shape → Option ℕ → Part → BookView
book_view loads slots order rules nodes pieces prefixes best spent log given given_value part =
    record { loads = loads; slots = slots; order = order; rules = rules; nodes = nodes; pieces = pieces; prefixes = prefixes; best = best; spent = spent; log = log; given = given; given_value = given_value; part = part }

abbrev pub state_of : BookView → PiecesState
state_of b = record { pieces = b.pieces; value = value_of b.best; spent = b.spent }

-- how a book's search began, before its log
abbrev pub opening : BookView → PiecesState
opening b = start b.given b.given_value

-- the nodes of the tree that a book's search was given
abbrev pub given_nodes : BookView → ℕ
given_nodes b = node_count b.given

-- the pieces that are of a book's part
abbrev pub ours : BookView → ℕ → Bool
ours b = is_of_part b.part (open_count b.given)

-- the piece is taken, and that is written down
abbrev pub after_took : BookView → ℕ → ℕ → ℕ → BookView
after_took b worker piece grant = record b { pieces = set b.pieces piece (Taken worker grant); log = b.log ++ (Took worker piece grant) ∷ [] }

-- the piece has ended, the pieces that its tree left open are there with their prefixes, and that is written down
abbrev pub after_report : BookView → ℕ → ℕ → ℕ → List (List Place) → BookView
after_report b worker piece spent opened = record b {
  pieces = set b.pieces piece Ended ++ replicate (length opened) Free;
  prefixes = b.prefixes ++ opened;
  spent = b.spent + spent;
  log = b.log ++ (Reported worker piece spent (length b.pieces) (length opened)) ∷ [];
}

-- the plan is the best one, and that is written down
abbrev pub after_better : BookView → ℕ → Best → BookView
after_better b worker best = record b { best = Some best; log = b.log ++ (Better worker best.busiest) ∷ [] }

-- the piece is free again, and that is written down
abbrev pub after_back : BookView → ℕ → ℕ → BookView
after_back b worker piece = record b { pieces = set b.pieces piece Free; log = b.log ++ (Back worker piece) ∷ [] }
