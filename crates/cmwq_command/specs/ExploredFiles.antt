-- What exploring a file's scenario does to the writers, and its exit status.
use Rattle.std.specs.Prelude.{◌≡◌, ◌⊎◌, ℕ, Bool, List, [], ◌∷◌, ◌++◌, Option, Some, Result, Ok, Err, codes}
use Rattle.std.specs.Fmt.{decimal}
use Rattle.std.specs.Io.KnownBytes.{Appends, Keeps}
use Rattle.cmwq_exploration.specs.declared.exploration.Exploration.{Exploration}
use Rattle.cmwq_explored.specs.Exploring.{Explores}
use Rattle.cmwq_explored.specs.declared.error.ExploreError.{ExploreError}
use Rattle.cmwq_explored.specs.declared.error.ExploreError.TheVariants.{Play, NoSuchActor, Flushes}
use Rattle.cmwq_explored.specs.declared.outcome.Outcome.{Outcome}
use Rattle.cmwq_explored.specs.declared.outcome.Outcome.TheVariants.{Holds, Found, Open}
use Rattle.cmwq_streams.specs.Sending.{HasSentFront}
use Rattle.cmwq_streams.specs.declared.error.PlayError.{PlayError}
use Rattle.cmwq_streams.specs.declared.error.PlayError.TheVariants.{NoMemory, Read}

-- the exit status: 0 where it holds, 5 where an order was found, and 6 where that is open
abbrev pub status_of_outcome : Outcome → ℕ
status_of_outcome Holds = 0
status_of_outcome Found = 5
status_of_outcome Open = 6

-- the line that tells a fault which no other command has
abbrev pub unexplored_line : ExploreError → List ℕ
unexplored_line (Play why) = []
unexplored_line NoSuchActor = codes "no such actor" ++ 10 ∷ []
unexplored_line (Flushes count) = codes "flushes " ++ (decimal count ++ (codes " needed" ++ 10 ∷ []))

-- the line went to the writer for faults, or as much of it as that took
abbrev pub TellsLine : List ℕ → (errors errors_now : Option (List ℕ)) → Type 0
TellsLine line errors errors_now = Appends errors errors_now line ⊎ HasSentFront errors errors_now line

-- what is told of what it came to
abbrev pub IsToldSo : Result Outcome ExploreError → (errors errors_now : Option (List ℕ)) → Result ℕ PlayError → Type 0
IsToldSo (Ok out) errors errors_now result = (result ≡ Ok (status_of_outcome out)) × (errors_now ≡ errors)
IsToldSo (Err (Play why)) errors errors_now result = (result ≡ Err why) × (errors_now ≡ errors)
IsToldSo (Err NoSuchActor) errors errors_now result = (result ≡ Ok 1) × TellsLine (unexplored_line NoSuchActor) errors errors_now
IsToldSo (Err (Flushes count)) errors errors_now result =
    ((result ≡ Ok 1) × TellsLine (unexplored_line (Flushes count)) errors errors_now) ⊎ ((result ≡ Err NoMemory) × (errors_now ≡ errors))

-- The file, which has these bytes, couldn't be opened, and nothing was written; or it was explored, and that was told.
abbrev pub HasExploredFile : Exploration → List ℕ → (output output_now : Option (List ℕ)) → (failed : Bool) → (errors errors_now : Option (List ℕ)) → Result ℕ PlayError → Type 0
HasExploredFile x bytes output output_now failed errors errors_now result =
    ((result ≡ Err Read) × Keeps output output_now × (errors_now ≡ errors))
    ⊎ ((outcome : Result Outcome ExploreError) × Explores x (Some bytes) output output_now failed outcome × IsToldSo outcome errors errors_now result)
