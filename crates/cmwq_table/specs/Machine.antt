-- What loading a scenario answers.
use Rattle.std.specs.Prelude.{◌≡◌, Some, Result, Ok, Err}
use Rattle.cmwq_types.specs.Contents.{ScenarioContents}
use Rattle.cmwq_types.specs.Faults.{first_fault, IsValid}
use Rattle.cmwq_table.specs.State.{State, start}
use Rattle.cmwq_table.specs.declared.machine.LoadError.{LoadError}
use Rattle.cmwq_table.specs.declared.machine.LoadError.TheVariants.{Fault, NoMemory}

-- a machine of the scenario, in its start state; the scenario's first fault; or want of memory, where it has none
abbrev pub Loads : {M : Type 0} → (M → ScenarioContents) → (M → State) → ScenarioContents → Result M LoadError → Type 0
Loads loaded state S (Ok machine) = IsValid S × (loaded machine ≡ S) × (state machine ≡ start S)
Loads loaded state S (Err (Fault fault)) = first_fault S ≡ Some fault
Loads loaded state S (Err NoMemory) = IsValid S
