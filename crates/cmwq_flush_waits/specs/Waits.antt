-- What a flush waits for, and what these instances wait for, down to the last.
use Rattle.std.specs.Prelude.{ℕ, zero, suc, ◌*◌, List, [], ◌∷◌, ◌++◌, length, Option, Some, None, if◌then◌else◌, slice_get}
use Rattle.std.specs.List.{list_any}
use Rattle.cmwq_types.specs.Contents.{ScenarioContents}
use Rattle.cmwq_table.specs.State.{State}
use Rattle.cmwq_reasons.specs.Reasons.{causes, is_same, reason_of, work_of}
use Rattle.cmwq_reasons.specs.declared.reason.Instance.{Instance}
use Rattle.cmwq_reasons.specs.declared.reason.Reason.{Reason}

-- whom an instance of the work blames for this reason
abbrev pub blamed_for : ScenarioContents → State → ℕ → Option Reason → List Instance
blamed_for S s w (Some reason) = causes S s w reason
blamed_for S s w None = []

-- whom the instance blames
abbrev pub blamed : ScenarioContents → State → Instance → List Instance
blamed S s x = blamed_for S s (work_of x) (reason_of S s x)

abbrev pub blamed_if_any : ScenarioContents → State → Option Instance → List Instance
blamed_if_any S s (Some x) = blamed S s x
blamed_if_any S s None = []

-- the instance is put last, unless it is there
abbrev pub with_instance : List Instance → Instance → List Instance
with_instance xs y = if list_any (is_same y) xs then xs else xs ++ y ∷ []

abbrev pub with_instances : List Instance → List Instance → List Instance
with_instances xs [] = xs
with_instances xs (y ∷ ys) = with_instances (with_instance xs y) ys

-- with those whom the one at this place blames
abbrev pub with_blamed : ScenarioContents → State → List Instance → ℕ → List Instance
with_blamed S s xs place = with_instances xs (blamed_if_any S s (slice_get xs place))

-- with those whom the first n blame, be they there from the start or put there so
abbrev pub with_blamed_below : ScenarioContents → State → List Instance → ℕ → List Instance
with_blamed_below S s xs zero = xs
with_blamed_below S s xs (suc n) = with_blamed S s (with_blamed_below S s xs n) n

-- These instances, then those whom they blame, and so on for ever, each once. There are at most two instances of each work.
abbrev pub reached : ScenarioContents → State → List Instance → List Instance
reached S s xs = with_blamed_below S s xs (2 * length S.works)
