-- Orders to what was seen.
use Rattle.std.specs.Prelude.{◌≡◌, ℕ, ◌+◌, List, length, Some, slice_get}
use Rattle.cmwq_types.specs.Contents.{ScenarioContents}
use Rattle.cmwq_orders.specs.Orders.{Explored, reached, reached_from}
use Rattle.cmwq_orders.specs.Sizes.{IsWhole}
use Rattle.cmwq_orders.specs.declared.choice.Before.{Before}
use Rattle.cmwq_orders.specs.declared.choice.Choice.{Choice}
use Rattle.cmwq_explore.specs.Searching.{Entry}
use Rattle.cmwq_stored.specs.Stored.{stored_of}
use Rattle.cmwq_explore.specs.declared.seen.Mark.{Mark}

-- the state stands at this place
abbrev pub IsSeenAt : List Entry → ℕ → Explored → Type 0
IsSeenAt seen place e = (m : Mark) × (slice_get seen place ≡ Some (stored_of e, m))

-- the order comes to the state at this place, and has as many choices as that lies deep
pub record IsOrderTo (S : ScenarioContents) (before : List Before) (seen : List Entry) (place : ℕ) (order : List Choice) : Type 0 where
  pub state : Explored
  pub mark : Mark
  pub there : slice_get seen place ≡ Some (stored_of state, mark)
  pub comes : reached S before order ≡ Some state
  pub deep : length order ≡ mark.depth

-- The choices lead from the state at one place to that at another one, which lies as much deeper as they are many.
abbrev pub IsWay : ScenarioContents → List Before → List Entry → ℕ → ℕ → List Choice → Type 0
IsWay S before seen at place cs =
    (x : Entry) (e : Explored) → slice_get seen at ≡ Some x → IsWhole S e → stored_of e ≡ x.0
    → (f : Explored) × (y : Entry) × (reached_from S before cs e ≡ Some f) × (slice_get seen place ≡ Some y) × (y.0 ≡ stored_of f) × (length cs + x.1.depth ≡ y.1.depth)
