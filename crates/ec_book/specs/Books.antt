-- Books of a search.
use Rattle.std.specs.Prelude.{◌≡◌, ℕ, List, Option}
use Rattle.ec_units.specs.declared.unit.Unit.{Unit as SyncUnit}
use Rattle.ec_units.specs.Load.{loads_of}
use Rattle.ec_loads.specs.Line.{Rules}
use Rattle.ec_loads.specs.Shape.{Shape}
use Rattle.ec_cert.specs.declared.part.Part.{Part}
use Rattle.ec_book.specs.Views.{BookView}

-- a book for these units, this order of them and these rules
pub record IsBookOf (us : List SyncUnit) (n : ℕ) (order : List ℕ) (rules : Rules) (b : BookView) : Type 0 where
  pub loads_is : b.loads ≡ loads_of us
  pub slots_is : b.slots ≡ n
  pub order_is : b.order ≡ order
  pub rules_is : b.rules ≡ rules

-- a book whose search was given this tree, this value, so many nodes and this part of the tree's open leaves
pub record BeganWith (given : Shape) (value : Option ℕ) (nodes : ℕ) (part : Part) (b : BookView) : Type 0 where
  pub given_is : b.given ≡ given
  pub value_is : b.given_value ≡ value
  pub nodes_is : b.nodes ≡ nodes
  pub part_is : b.part ≡ part

-- two books for the same units, order and rules, whose searches were given the same
pub record IsSameSearch (a b : BookView) : Type 0 where
  pub loads_is : b.loads ≡ a.loads
  pub slots_is : b.slots ≡ a.slots
  pub order_is : b.order ≡ a.order
  pub rules_is : b.rules ≡ a.rules
  pub given_is : b.given ≡ a.given
  pub value_is : b.given_value ≡ a.given_value
  pub nodes_is : b.nodes ≡ a.nodes
  pub part_is : b.part ≡ a.part
