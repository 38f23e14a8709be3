-- How actors end, and what their endings say of the history that they leave.
use Rattle.std.specs.Prelude.{◌≡◌, ℕ, ◌<◌, Bool, true, false, List, length, if◌then◌else◌, slice_index_or}
use Rattle.std.specs.List.{list_any}
use Rattle.cmwq_types.specs.declared.instr.Instr.{Instr}
use Rattle.cmwq_engine.specs.declared.history.Entry.{Entry}
use Rattle.cmwq_engine.specs.declared.shared.IssueError.{IssueError}
use Rattle.cmwq_engine.specs.declared.shared.IssueError.TheVariants as issue
use Rattle.cmwq_actors.specs.Interleaving.{Interleaves, InterleavesFronts, IsFrontOf, issued_by, script_at}
use Rattle.cmwq_actors.specs.declared.ending.Ending.{Ending}
use Rattle.cmwq_actors.specs.declared.ending.Ending.TheVariants.{Done, Full, Exhausted}

abbrev pub is_full : Ending → Bool
is_full Done = false
is_full Full = true
is_full Exhausted = false

abbrev pub is_exhausted : Ending → Bool
is_exhausted Done = false
is_exhausted Full = false
is_exhausted Exhausted = true

-- how an actor ends whose instruction wasn't issued
abbrev pub stopped_by : IssueError → Ending
stopped_by issue.Full = Full
stopped_by issue.Exhausted = Exhausted

-- how all end: exhausted where one is, else full where one is, else done
abbrev pub ending_of : List Ending → Ending
ending_of endings =
    if list_any is_exhausted endings then Exhausted else (if list_any is_full endings then Full else Done)

-- what an actor's ending says of what it has issued, of its script, and of the history
abbrev pub HasEnded : ℕ → List Entry → List Instr → List Instr → Ending → Type 0
HasEnded capacity history issued script Done = issued ≡ script
HasEnded capacity history issued script Full = IsFrontOf issued script × (length history ≡ capacity)
HasEnded capacity history issued script Exhausted = IsFrontOf issued script

-- each actor has ended as its ending says
pub record EachHasEnded (scripts : List (List Instr)) (capacity : ℕ) (history : List Entry) (endings : List Ending) : Type 0 where
  pub counted : length endings ≡ length scripts
  pub each : (actor : ℕ) (e : Ending) → actor < length scripts
      → HasEnded capacity history (issued_by actor history) (script_at scripts actor) (slice_index_or endings actor e)

-- what the ending of all says of the history
abbrev pub AllHaveEnded : List (List Instr) → ℕ → List Entry → Ending → Type 0
AllHaveEnded scripts capacity history Done = Interleaves scripts history
AllHaveEnded scripts capacity history Full = InterleavesFronts scripts history × (length history ≡ capacity)
AllHaveEnded scripts capacity history Exhausted = InterleavesFronts scripts history
