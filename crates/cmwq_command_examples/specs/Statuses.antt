-- Which of several files' statuses is told.
use Rattle.std.specs.Prelude.{◌≡◌, ◌⊎◌, ◌<◌, ◌≤◌, ℕ, List, [], ◌∷◌, codes, Option, Some, IfSome, slice_index_or}
use Rattle.cmwq_command.specs.Carried.{HasChecked, IsJudged, Store}
use Rattle.cmwq_outcome.specs.Checking.{status_of_judged}
use Rattle.cmwq_outcome.specs.declared.file_verdict.Judged.{Judged}
use Rattle.cmwq_verdict.specs.declared.looks.Look.{Look}

-- the file of this number was judged so, as far as it is known what it has
abbrev pub WasJudged : Store → Look → List (List ℕ) → ℕ → Judged → Type 0
WasJudged store look files n judged =
    (output : Option (List ℕ)) × (output_now : Option (List ℕ)) × (errors : Option (List ℕ)) × (errors_now : Option (List ℕ))
    × IfSome (store (slice_index_or files n [])) (λ bytes. IsJudged look (slice_index_or files n []) bytes output output_now errors errors_now judged)

-- of the first n files one has this status, and none a higher one; where there are none, it is 0
pub record IsHighest (store : Store) (look : Look) (files : List (List ℕ)) (n status : ℕ) : Type 0 where
  pub reached : (status ≡ 0) ⊎ ((k : ℕ) × (k < n) × ((judged : Judged) × WasJudged store look files k judged × (status ≡ status_of_judged judged)))
  pub above : (k : ℕ) → k < n → (judged : Judged) × WasJudged store look files k judged × (status_of_judged judged ≤ status)

-- the status of checked files is the highest one
unfoldable pub TellsHighest : Type 0
TellsHighest =
    (store : Store) (look : Look) (files : List (List ℕ)) (n status : ℕ) (output output_now errors errors_now : Option (List ℕ))
    → HasChecked store look files n output output_now errors errors_now status → IsHighest store look files n status

-- two files that have these bytes
abbrev pub two_files : List (List ℕ)
two_files = codes "a" ∷ codes "b" ∷ []

abbrev pub having : List ℕ → Store
having bytes file = Some bytes
