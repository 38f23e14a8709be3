-- A work that isn't pending stays so while others are listed.
use Rattle.std.proofs.Common.{◌≡◌, ℕ, zero, suc, List, [], ◌∷◌, Option, Some, None, refl, ap, ◌∙◌, length}
use Rattle.std.specs.Prelude.{if◌then◌else◌, slice_index_or, slice_set}
use Rattle.cmwq_types.specs.Contents.{ScenarioContents}
use Rattle.cmwq_types.specs.Scenario.{queue_of}
use Rattle.cmwq_types.specs.declared.reply.Place.{Place}
use Rattle.cmwq_types.specs.declared.reply.Place.TheVariants.{Timer, Inactive, Listed, Deferred}
use Rattle.cmwq_table.specs.Counts.{first_inactive, has_room}
use Rattle.cmwq_table.specs.Moves.{enlist, fill_from, fill_one, fill_times, listed_at, taken_off, with_pending}
use Rattle.cmwq_table.specs.State.{State, pending_at}
use Rattle.cmwq_table.specs.declared.state.Pending.{Pending}

-- nothing written, nothing there
none-set : {A : Type 0} (xs : List (Option A)) (w : ℕ) → slice_index_or (slice_set xs w None) w None ≡ None
none-set [] w = refl
none-set (x ∷ xs) zero = refl
none-set (x ∷ xs) (suc w) = none-set xs w

pub unpend-idle : (s : State) (w : ℕ) → pending_at (with_pending s w None) w ≡ None
unpend-idle s w = none-set s.pending w

-- what is none stays none where what was there is written anew by a function that keeps none
none-kept : {A : Type 0} (f : Option A → Option A) → f None ≡ None → (xs : List (Option A)) (v w : ℕ) → slice_index_or xs w None ≡ None
    → slice_index_or (slice_set xs v (f (slice_index_or xs v None))) w None ≡ None
none-kept f keeps [] v w none = refl
none-kept f keeps (x ∷ xs) zero zero none = ap f none ∙ keeps
none-kept f keeps (x ∷ xs) zero (suc w) none = none
none-kept f keeps (x ∷ xs) (suc v) zero none = none
none-kept f keeps (x ∷ xs) (suc v) (suc w) none = none-kept f keeps xs v w none

enlist-idle : (s : State) (pool : ℕ) (o : Option ℕ) (w : ℕ) → pending_at s w ≡ None → pending_at (enlist s pool o) w ≡ None
enlist-idle s pool (Some v) w idle = none-kept (listed_at pool s.next) refl s.pending v w idle
enlist-idle s pool None w idle = idle

fill_times-idle : (S : ScenarioContents) (queue pool n : ℕ) (s : State) (w : ℕ) → pending_at s w ≡ None → pending_at (fill_times S queue pool n s) w ≡ None
fill_times-idle S queue pool zero s w idle = idle
fill_times-idle S queue pool (suc n) s w idle =
    fill_times-idle S queue pool n (fill_one S queue pool s) w (enlist-idle s pool (if has_room S s queue pool then first_inactive S s queue pool else None) w idle)

fill_from-idle : (S : ScenarioContents) (queue : ℕ) (at : Place) (s : State) (w : ℕ) → pending_at s w ≡ None → pending_at (fill_from S queue at s) w ≡ None
fill_from-idle S queue (Timer due cpu) s w idle = idle
fill_from-idle S queue (Inactive pool) s w idle = fill_times-idle S queue pool (length S.works) s w idle
fill_from-idle S queue (Listed pool) s w idle = fill_times-idle S queue pool (length S.works) s w idle
fill_from-idle S queue (Deferred pool) s w idle = fill_times-idle S queue pool (length S.works) s w idle

-- what was taken off isn't pending
pub taken_off-idle : (S : ScenarioContents) (s : State) (w : ℕ) (p : Pending) → pending_at (taken_off S s w (Some p)) w ≡ None
taken_off-idle S s w p = fill_from-idle S (queue_of S w) p.place (with_pending s w None) w (unpend-idle s w)

pub ruleset unpended = (unpend-idle, taken_off-idle)
