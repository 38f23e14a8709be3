-- What the actor did, in words.
use Rattle.std.specs.Prelude.{ℕ, List, [], ◌∷◌, ◌++◌, codes, Option, Some, None, if◌then◌else◌, ◌==◌}
use Rattle.std.specs.Fmt.{decimal}
use Rattle.std.specs.List.{join_with_byte}
use Rattle.cmwq_types.specs.Contents.{ScenarioContents}
use Rattle.cmwq_types.specs.Listing.{instr_words}
use Rattle.cmwq_picture.specs.declared.row.Act.{Act}

abbrev pub act_words : ScenarioContents → Act → List ℕ
act_words S act = join_with_byte 32 (instr_words S act.instr)

-- what stands in front of it: a comma where it is at the time of the one before, else the time in a line of its own
abbrev pub line_begun : Option ℕ → ℕ → List ℕ
line_begun None time = codes "^ at " ++ decimal time ++ codes ": "
line_begun (Some before) time = if before == time then codes ", " else 10 ∷ codes "^ at " ++ decimal time ++ codes ": "

abbrev pub line_ended : Option ℕ → List ℕ
line_ended None = []
line_ended (Some before) = 10 ∷ []

-- behind one at this time
abbrev pub acts_from : ScenarioContents → Option ℕ → List Act → List ℕ
acts_from S before [] = line_ended before
acts_from S before (act ∷ acts) = line_begun before act.time ++ act_words S act ++ acts_from S (Some act.time) acts

-- a line for each tick at which the actor did something
abbrev pub act_lines : ScenarioContents → List Act → List ℕ
act_lines S acts = acts_from S None acts
