-- The breaks that are set, as lines.
use Rattle.std.specs.Prelude.{ℕ, suc, List, [], ◌∷◌, ◌++◌, Option, Some, None, codes}
use Rattle.std.specs.Fmt.{decimal}
use Rattle.cmwq_types.specs.Contents.{ScenarioContents}
use Rattle.cmwq_table.specs.Events.{work_name}
use Rattle.cmwq_debug.specs.EventWords.{kind_word}
use Rattle.cmwq_debug.specs.declared.breaks.Break.{Break}
use Rattle.cmwq_debug.specs.declared.breaks.Break.TheVariants.{OnWork, OnTime, OnRefusal, OnActivation}

-- a break as it was given, behind the command's word
abbrev pub break_words : ScenarioContents → Break → List ℕ
break_words S (OnWork work kind) = codes "work " ++ work_name S work ++ codes " event " ++ kind_word kind
break_words S (OnTime time) = codes "time " ++ decimal time
break_words S OnRefusal = codes "refusal"
break_words S (OnActivation work) = codes "activates " ++ work_name S work

-- the line of a place for a break, which has none where no break is there
abbrev pub break_line : ScenarioContents → ℕ → Option Break → List ℕ
break_line S i (Some break) = codes "break " ++ decimal i ++ codes " " ++ break_words S break ++ 10 ∷ []
break_line S i None = []

-- the lines of places, the first of which has this number
abbrev pub break_lines : ScenarioContents → ℕ → List (Option Break) → List ℕ
break_lines S i [] = []
break_lines S i (there ∷ others) = break_line S i there ++ break_lines S (suc i) others

abbrev pub or_no_breaks : List ℕ → List ℕ
or_no_breaks [] = codes "no breaks" ++ 10 ∷ []
or_no_breaks (byte ∷ bytes) = byte ∷ bytes

-- the breaks that are set, by their numbers
abbrev pub list_text : ScenarioContents → List (Option Break) → List ℕ
list_text S breaks = or_no_breaks (break_lines S 0 breaks)
