-- What a flush waits for, as text.
use Rattle.std.specs.Prelude.{ℕ, nat_lt, Bool, not, ◌||◌, ◌==◌, List, [], ◌++◌, length, drop, codes, Option, Some, None, option_map, if◌then◌else◌, slice_get}
use Rattle.std.specs.Fmt.{decimal}
use Rattle.std.specs.List.{flat_map, list_any}
use Rattle.cmwq_types.specs.Contents.{ScenarioContents}
use Rattle.cmwq_table.specs.State.{State}
use Rattle.cmwq_reasons.specs.Reasons.{lacks_memory, lacks_thaw, reason_of, waits, work_of}
use Rattle.cmwq_reasons.specs.declared.reason.Instance.{Instance}
use Rattle.cmwq_reasons.specs.declared.reason.Reason.{Reason}
use Rattle.cmwq_why_text.specs.WhyText.{name_of, reason_text}
use Rattle.cmwq_flush_waits.specs.Waits.{reached}
use Rattle.cmwq_flush_waits.specs.declared.needs.Needs.{Needs}

-- What has to come from outside, where something has.

abbrev pub text_if : Bool → List ℕ → List ℕ
text_if given word = if given then word else []

-- that the wait doesn't end by itself, and for want of what
abbrev pub needs_text : Needs → List ℕ
needs_text needs =
    if needs.thaw || needs.memory || needs.steps then
    codes ", not by itself:" ++ text_if needs.thaw (codes " frozen") ++ text_if needs.memory (codes " pressure") ++ text_if needs.steps (codes " spent")
    else []

-- a thaw, memory, or more steps than the scenario has
abbrev pub needs_of : ScenarioContents → State → List Instance → Needs
needs_of S s xs =
    record { thaw = list_any (lacks_thaw S s) xs; memory = list_any (lacks_memory S s) xs; steps = not (nat_lt s.spent S.steps) }

-- The lines.

abbrev pub line_for : ScenarioContents → State → List ℕ → ℕ → Option Reason → List ℕ
line_for S s indent w (Some reason) = indent ++ name_of S w ++ codes " " ++ reason_text S s w reason ++ codes "\n"
line_for S s indent w None = []

-- a line of an instance: behind the indent its work's name and its reason
abbrev pub waiter_line : ScenarioContents → State → List ℕ → Instance → List ℕ
waiter_line S s indent x = line_for S s indent (work_of x) (reason_of S s x)

abbrev pub lines : ScenarioContents → State → List ℕ → List Instance → List ℕ
lines S s indent xs = flat_map (waiter_line S s indent) xs

-- how many instances the flush waits for, and what has to come from outside
abbrev pub head_text : ScenarioContents → State → List Instance → List ℕ
head_text S s xs = codes " waits for " ++ decimal (length xs) ++ needs_text (needs_of S s xs) ++ codes "\n"

-- behind that a line for each of them, and then one for each other instance whom one of those above blames
abbrev pub waiting_text : ScenarioContents → State → List Instance → List ℕ
waiting_text S s xs =
    head_text S s xs ++ lines S s (codes "  ") xs ++ lines S s (codes "    ") (drop (length xs) (reached S s xs))

-- of a flush that waits for these instances
abbrev pub waits_text : ScenarioContents → State → List Instance → List ℕ
waits_text S s xs = if length xs == 0 then codes " done\n" else waiting_text S s xs

-- what is written of a flush of this number that waits for these instances
abbrev pub flush_waits_lines : ScenarioContents → State → ℕ → List Instance → List ℕ
flush_waits_lines S s flush xs = codes "flush " ++ decimal flush ++ waits_text S s xs

-- what is written of the flush of this number; nothing where none was given
abbrev pub flush_lines : ScenarioContents → State → ℕ → Option (List ℕ)
flush_lines S s flush = option_map (λ on. flush_waits_lines S s flush (waits S s on)) (slice_get s.flushes flush)
