-- Which works have rows: those that are named, with a comma between two, or all.
use Rattle.std.specs.Borrow.{Bor}
use Rattle.std.specs.Prelude.{ℕ, List, [], ◌∷◌, ◌++◌, Option, Some, None, is_some, if◌then◌else◌, ◌==◌}
use Rattle.cmwq_types.specs.Contents.{ScenarioContents}
use Rattle.cmwq_types.specs.declared.instr.WorkId.{WorkId}
use Rattle.cmwq_types.specs.Scenario.{work_named}

-- the names of a list, where the first of them began with these bytes
abbrev pub names_from : List ℕ → List ℕ → List (List ℕ)
names_from name [] = name ∷ []
names_from name (byte ∷ bytes) = if byte == 44 then name ∷ names_from [] bytes else names_from (name ++ byte ∷ []) bytes

-- one work more, if there is one of the name
abbrev pub with_work : Option ℕ → Option (List WorkId) → Option (List WorkId)
with_work (Some w) (Some works) = Some (record { 0 = w } ∷ works)
with_work (Some w) None = None
with_work None works = None

-- the works of these names, if each is declared
abbrev pub works_named : ScenarioContents → List (List ℕ) → Option (List WorkId)
works_named S [] = Some []
works_named S (name ∷ names) = with_work (work_named S name) (works_named S names)

-- the first of these names that isn't declared
abbrev pub undeclared : ScenarioContents → List (List ℕ) → Option (List ℕ)
undeclared S [] = None
undeclared S (name ∷ names) = if is_some (work_named S name) then undeclared S names else Some name

-- the works that have rows, or that all have; none of these where a name isn't declared
abbrev pub only_these : Option (List WorkId) → Option (Option (List WorkId))
only_these (Some works) = Some (Some works)
only_these None = None

abbrev pub picked : ScenarioContents → Option (Bor (List ℕ)) → Option (Option (List WorkId))
picked S (Some names) = only_these (works_named S (names_from [] names.now))
picked S None = Some None
