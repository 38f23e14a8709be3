-- What sweeping over a queue's max does to the writers, and its exit status.
use Rattle.std.specs.Prelude.{◌≡◌, ◌⊎◌, ℕ, Bool, List, [], ◌∷◌, ◌++◌, Option, Some, Result, Ok, Err, codes}
use Rattle.std.specs.Io.KnownBytes.{Keeps}
use Rattle.cmwq_command.specs.ExploredFiles.{TellsLine}
use Rattle.cmwq_reports.specs.declared.report.Sweep.{Sweep}
use Rattle.cmwq_streams.specs.declared.error.PlayError.{PlayError}
use Rattle.cmwq_streams.specs.declared.error.PlayError.TheVariants.{Read}
use Rattle.cmwq_sweep.specs.Swept.{Sweeps}
use Rattle.cmwq_sweep.specs.declared.error.SweepError.{SweepError}
use Rattle.cmwq_sweep.specs.declared.error.SweepError.TheVariants.{Play, NoSuchQueue, Ordered}

-- the line that tells a fault which no other command has
abbrev pub unswept_line : SweepError → List ℕ
unswept_line (Play why) = []
unswept_line NoSuchQueue = codes "no such queue" ++ 10 ∷ []
unswept_line Ordered = codes "ordered" ++ 10 ∷ []

-- what is told of what it came to
abbrev pub IsToldSwept : Result (Unit {0}) SweepError → (errors errors_now : Option (List ℕ)) → Result ℕ PlayError → Type 0
IsToldSwept (Ok done) errors errors_now result = (result ≡ Ok 0) × (errors_now ≡ errors)
IsToldSwept (Err (Play why)) errors errors_now result = (result ≡ Err why) × (errors_now ≡ errors)
IsToldSwept (Err NoSuchQueue) errors errors_now result = (result ≡ Ok 1) × TellsLine (unswept_line NoSuchQueue) errors errors_now
IsToldSwept (Err Ordered) errors errors_now result = (result ≡ Ok 1) × TellsLine (unswept_line Ordered) errors errors_now

-- The file, which has these bytes, couldn't be opened, and nothing was written; or it was swept over, and that was told.
abbrev pub HasSweptFile : Sweep → List ℕ → (output output_now : Option (List ℕ)) → (failed : Bool) → (errors errors_now : Option (List ℕ)) → Result ℕ PlayError → Type 0
HasSweptFile asked bytes output output_now failed errors errors_now result =
    ((result ≡ Err Read) × Keeps output output_now × (errors_now ≡ errors))
    ⊎ ((outcome : Result (Unit {0}) SweepError) × Sweeps asked (Some bytes) output output_now failed outcome × IsToldSwept outcome errors errors_now result)
