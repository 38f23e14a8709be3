-- What is kept of a state, and when two kept ones are equal.
use Rattle.std.specs.Prelude.{◌≡◌, ℕ, Bool, List, nat_eq}
use Rattle.std.specs.Cmp.Lexicographic.{pointwise}
use Rattle.cmwq_types.specs.Contents.{ScenarioContents}
use Rattle.cmwq_table.specs.View.{view_of}
use Rattle.cmwq_orders.specs.Orders.{Explored}
use Rattle.cmwq_orders.specs.Sizes.{IsWhole}
use Rattle.cmwq_stored.specs.Packed.{state_bytes}

-- bytes
abbrev pub StoredContents : Type 0
StoredContents = List ℕ

-- what is kept of a state: every part of it
unfoldable pub stored_of : Explored → StoredContents
stored_of e = state_bytes (view_of e.machine) e.at e.waits

abbrev pub stored_eq : StoredContents → StoredContents → Bool
stored_eq = pointwise nat_eq

-- two whole states of one scenario of which the same is kept are one
unfoldable pub TellsStatesApart : Type 0
TellsStatesApart = (S : ScenarioContents) (e f : Explored) → IsWhole S e → IsWhole S f → stored_of e ≡ stored_of f → e ≡ f
