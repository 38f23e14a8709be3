-- States whose choices are still to be tried, with their machines.
use Rattle.std.specs.Prelude.{◌≡◌, ◌==◌, ◌⊎◌, ℕ, Bool, false, List, ◌∷◌, [], ◌++◌, Some, slice_get}
use Rattle.cmwq_orders.specs.Sizes.{IsWhole}
use Rattle.cmwq_explore.specs.Plans.{PlanContents, Stood}
use Rattle.cmwq_explore.specs.Searching.{Entry}
use Rattle.cmwq_explore.specs.Tracing.{IsSeenAt}

-- a machine and the actors, and at which place their state was seen
pub record ReadyContents : Type 0 where
  pub place : ℕ
  pub stood : Stood

-- the first stands at this place
abbrev pub begins_at : List ReadyContents → ℕ → Bool
begins_at [] place = false
begins_at (x ∷ xs) place = x.place == place

-- it stands behind the others now, or there was no room
abbrev pub IsKept : List ReadyContents → List ReadyContents → ReadyContents → Type 0
IsKept old new x = (new ≡ old) ⊎ (new ≡ old ++ x ∷ [])

-- its state stands there
pub record IsReadyAt (plan : PlanContents) (seen : List Entry) (x : ReadyContents) : Type 0 where
  pub of_plan : x.stood.plan ≡ plan
  pub there : IsSeenAt seen x.place x.stood.explored
  pub whole : IsWhole plan.scenario x.stood.explored

-- and so it is of each that waits
abbrev pub AreWaiting : PlanContents → List Entry → List ReadyContents → Type 0
AreWaiting plan seen waiting = (i : ℕ) (x : ReadyContents) → slice_get waiting i ≡ Some x → IsReadyAt plan seen x
