-- What one may believe of what a flush waits for without reading how it is found.
use Rattle.std.specs.Prelude.{◌≡◌, ◌⊎◌, ℕ, ◌<◌, List, length, Some, slice_get, take}
use Rattle.std.specs.List.{IsDistinct}
use Rattle.cmwq_types.specs.Contents.{ScenarioContents}
use Rattle.cmwq_table.specs.State.{State}
use Rattle.cmwq_table.specs.declared.state.FlushTarget.{FlushTarget}
use Rattle.cmwq_table.specs.declared.state.FlushTarget.TheVariants as target
use Rattle.cmwq_reasons.specs.Laws.{IsAmong}
use Rattle.cmwq_reasons.specs.Reasons.{is_same, waits}
use Rattle.cmwq_reasons.specs.declared.reason.Instance.{Instance}
use Rattle.cmwq_flush_waits.specs.Waits.{blamed, reached}

-- a flush on a work is on one of the scenario's
abbrev pub IsOnDeclared : ScenarioContents → FlushTarget → Type 0
IsOnDeclared S (target.Instance work born) = work.0 < length S.works
IsOnDeclared S (target.Queue queue bound) = Unit {0}
IsOnDeclared S target.Nothing = Unit {0}

-- one of these blames the instance
abbrev pub IsBlamedByOne : ScenarioContents → State → List Instance → Instance → Type 0
IsBlamedByOne S s xs y = (x : Instance) × IsAmong x xs × IsAmong y (blamed S s x)

-- All are the first ones, and whom they blame, and whom these blame, and so on to the last.
pub record AreReached (S : ScenarioContents) (s : State) (first all : List Instance) : Type 0 where
  -- the first ones stand first, in their order
  pub begins : take (length first) all ≡ first
  -- each is named once
  pub once : IsDistinct is_same all
  -- whom one of them blames, is one of them
  pub closed : (x y : Instance) → IsAmong x all → IsAmong y (blamed S s x) → IsAmong y all
  -- each is one of the first, or one that stands before it blames it
  pub follows : (place : ℕ) (y : Instance) → slice_get all place ≡ Some y → IsAmong y first ⊎ IsBlamedByOne S s (take place all) y

-- What is reached from the instances that a flush waits for, is all that these wait for in the end.
unfoldable pub ReachesAllBlamed : ScenarioContents → State → Type 0
ReachesAllBlamed S s = (on : FlushTarget) → IsOnDeclared S on → AreReached S s (waits S s on) (reached S s (waits S s on))
