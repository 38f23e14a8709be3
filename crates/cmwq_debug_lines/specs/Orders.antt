-- What a command line tells the debugger, by its words.
use Rattle.std.specs.Prelude.{ℕ, List, [], ◌∷◌, Option, Some, None, Result, Ok, Err, codes, if◌then◌else◌}
use Rattle.std.specs.Str.{bytes_eq}
use Rattle.cmwq_types.specs.Contents.{ScenarioContents}
use Rattle.cmwq_types.specs.Scenario.{work_named}
use Rattle.cmwq_grammar.specs.LineFields.{number_within}
use Rattle.cmwq_grammar.specs.declared.why.Why.{Why}
use Rattle.cmwq_scan.specs.LastFields.{last}
use Rattle.cmwq_debug.specs.EventWords.{kind_of}
use Rattle.cmwq_debug.specs.declared.command.Command.{Command}
use Rattle.cmwq_debug.specs.declared.command.Command.TheVariants as command
use Rattle.cmwq_debug.specs.declared.command.EventKind.{EventKind}
use Rattle.cmwq_debug_lines.specs.Verbs.{verb_of}
use Rattle.cmwq_debug_lines.specs.declared.verb.Verb.{Verb}
use Rattle.cmwq_debug_lines.specs.declared.verb.Verb.TheVariants as verb
use Rattle.cmwq_debug_lines.specs.declared.order.Order.{Order}
use Rattle.cmwq_debug_lines.specs.declared.order.Order.TheVariants.{Nothing, Bad, NoWork, Help, Quit, Do}

-- a command with the number that was read
abbrev pub number_order : (ℕ → Command) → Result ℕ Why → Order
number_order make (Ok n) = Do (make n)
number_order make (Err why) = Bad

-- a command with the number that is the last word, at most this high
abbrev pub with_number : (ℕ → Command) → ℕ → List (List ℕ) → Order
with_number make high words = number_order make (last (number_within 0 high words))

-- an order behind which no word stands
abbrev pub only : Order → List (List ℕ) → Order
only order [] = order
only order (word ∷ rest) = Bad

abbrev pub alone : Command → List (List ℕ) → Order
alone command words = only (Do command) words

-- the event is judged before the name is looked up
abbrev pub on_work : Option ℕ → Option EventKind → Order
on_work work None = Bad
on_work None (Some event) = NoWork
on_work (Some w) (Some event) = Do (command.BreakWork (record { 0 = w }) event)

-- behind `break work`
abbrev pub work_break : ScenarioContents → List (List ℕ) → Order
work_break S (name ∷ word ∷ event ∷ []) = if bytes_eq word (codes "event") then on_work (work_named S name) (kind_of event) else Bad
work_break S _ = Bad

-- a break on the activation of this work
abbrev pub on_activation : Option ℕ → Order
on_activation (Some w) = Do (command.BreakActivation (record { 0 = w }))
on_activation None = NoWork

-- behind `break activates`
abbrev pub activation_break : ScenarioContents → List (List ℕ) → Order
activation_break S (name ∷ []) = on_activation (work_named S name)
activation_break S _ = Bad

-- behind `break`
abbrev pub break_order : ScenarioContents → List (List ℕ) → Order
break_order S [] = Bad
break_order S (word ∷ rest) =
    if bytes_eq word (codes "work") then work_break S rest
    else if bytes_eq word (codes "time") then with_number command.BreakTime 4294967295 rest
    else if bytes_eq word (codes "refusal") then alone command.BreakRefusal rest
    else if bytes_eq word (codes "activates") then activation_break S rest
    else Bad

-- behind `next`
abbrev pub next_order : List (List ℕ) → Order
next_order [] = Bad
next_order (word ∷ rest) = if bytes_eq word (codes "event") then alone command.NextEvent rest else Bad

-- behind `dump`
abbrev pub dump_order : List (List ℕ) → Order
dump_order [] = Do command.Dump
dump_order (word ∷ rest) = if bytes_eq word (codes "pool") then with_number command.DumpPool 255 rest else Bad

-- why this work isn't further
abbrev pub why_work : Option ℕ → Order
why_work (Some w) = Do (command.Why (record { 0 = w }))
why_work None = NoWork

-- behind `why`: the name of a work alone, which may be `flush`, or the number of a flush behind that word
abbrev pub why_order : ScenarioContents → List (List ℕ) → Order
why_order S [] = Bad
why_order S (name ∷ []) = why_work (work_named S name)
why_order S (word ∷ number ∷ rest) =
    if bytes_eq word (codes "flush") then with_number command.WhyFlush 4294967295 (number ∷ rest) else Bad

-- a command with a number, or with 1 where no word stands
abbrev pub with_count : (ℕ → Command) → List (List ℕ) → Order
with_count make [] = Do (make 1)
with_count make (number ∷ rest) = with_number make 4294967295 (number ∷ rest)

-- what a verb tells with the words behind it
abbrev pub verb_order : ScenarioContents → Verb → List (List ℕ) → Order
verb_order S verb.Step rest = with_count command.Step rest
verb_order S verb.Back rest = with_count command.Back rest
verb_order S verb.Goto rest = with_number command.Goto 4294967295 rest
verb_order S verb.Break rest = break_order S rest
verb_order S verb.Clear rest = with_number command.Clear 255 rest
verb_order S verb.List rest = alone command.List rest
verb_order S verb.Run rest = alone command.Run rest
verb_order S verb.Next rest = next_order rest
verb_order S verb.Dump rest = dump_order rest
verb_order S verb.Why rest = why_order S rest
verb_order S verb.Help rest = only Help rest
verb_order S verb.Quit rest = only Quit rest

-- the same, where the first word stands for a verb
abbrev pub read_order : ScenarioContents → Option Verb → List (List ℕ) → Order
read_order S None rest = Bad
read_order S (Some verb) rest = verb_order S verb rest

-- what a line of these words tells
abbrev pub order_of : ScenarioContents → List (List ℕ) → Order
order_of S [] = Nothing
order_of S (word ∷ rest) = read_order S (verb_of word) rest
