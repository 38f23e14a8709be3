-- The laws: what one may believe of orders without reading how a choice is taken.
use Rattle.std.specs.Prelude.{◌≡◌, ℕ, true, false, List, Some, None, Contains}
use Rattle.cmwq_types.specs.Contents.{ScenarioContents}
use Rattle.cmwq_table.specs.Table.{run}
use Rattle.cmwq_orders.specs.Orders.{Explored, has_ended, instrs_of, is_waiting, reached, start, taken}
use Rattle.cmwq_orders.specs.Questions.{is_stuck}
use Rattle.cmwq_orders.specs.Sizes.{IsWhole}
use Rattle.cmwq_orders.specs.declared.choice.Before.{Before}
use Rattle.cmwq_orders.specs.declared.choice.Choice.{Choice}
use Rattle.cmwq_orders.specs.declared.choice.Choice.TheVariants.{Line}

-- no choice leads out of the list
abbrev pub IsClosed : ScenarioContents → List Before → List Explored → Type 0
IsClosed S before seen = (e f : Explored) (c : Choice) → Contains seen e → taken S before e c ≡ Some f → Contains seen f

-- A list that has the start, and out of which no choice leads, has all to which orders come.
unfoldable pub ClosedListsHaveAll : Type 0
ClosedListsHaveAll =
    (S : ScenarioContents) (before : List Before) (seen : List Explored) → IsClosed S before seen → Contains seen (start S)
    → (cs : List Choice) (e : Explored) → reached S before cs ≡ Some e → Contains seen e

-- To whatever an order comes, its machine is that of the table's run of the order's instructions.
unfoldable pub OrdersAreRuns : Type 0
OrdersAreRuns =
    (S : ScenarioContents) (before : List Before) (cs : List Choice) (e : Explored) → reached S before cs ≡ Some e
    → e.machine ≡ run S (instrs_of S before cs)

-- No actor goes on while the flush that its last line gave isn't done.
unfoldable pub WaitsForItsFlush : Type 0
WaitsForItsFlush =
    (S : ScenarioContents) (before : List Before) (e f : Explored) (actor : ℕ) → taken S before e (Line actor) ≡ Some f
    → is_waiting S e actor ≡ false

-- No actor carries out a line before each that precedes it has ended.
unfoldable pub BeginsBehindOthers : Type 0
BeginsBehindOthers =
    (S : ScenarioContents) (before : List Before) (e f : Explored) (p : Before) → Contains before p → taken S before e (Line p.then) ≡ Some f
    → has_ended S e p.first ≡ true

-- In a stuck state no choice at all can be taken.
unfoldable pub StuckStatesHaveNoChoice : Type 0
StuckStatesHaveNoChoice =
    (S : ScenarioContents) (before : List Before) (e : Explored) → is_stuck S before e ≡ true → (c : Choice) → taken S before e c ≡ None

-- To whatever an order comes, each finite map has its places, and something is known of each actor.
unfoldable pub ReachedStatesAreWhole : Type 0
ReachedStatesAreWhole = (S : ScenarioContents) (before : List Before) (cs : List Choice) (e : Explored) → reached S before cs ≡ Some e → IsWhole S e
