-- What is said to command lines, as bytes.
use Rattle.std.specs.Prelude.{ℕ, List, [], ◌∷◌, ◌++◌, Option, Some, None, Result, Ok, Err, codes}
use Rattle.std.specs.Fmt.{decimal}
use Rattle.cmwq_types.specs.Contents.{ScenarioContents}
use Rattle.cmwq_grammar.specs.Cutting.{words_of}
use Rattle.cmwq_debug.specs.Debugging.{Answer, At, Broke, Cleared, Text, Session, does}
use Rattle.cmwq_debug.specs.declared.command.DebugError.{DebugError}
use Rattle.cmwq_debug.specs.declared.command.DebugError.TheVariants as error
use Rattle.cmwq_debug_lines.specs.Orders.{order_of}
use Rattle.cmwq_debug_lines.specs.Verbs.{help_text}
use Rattle.cmwq_debug_lines.specs.declared.order.Order.{Order}
use Rattle.cmwq_debug_lines.specs.declared.order.Order.TheVariants.{Nothing, Bad, NoWork, Help, Quit, Do}

-- the break that stopped a run
abbrev pub by_text : Option ℕ → List ℕ
by_text (Some number) = codes " break " ++ decimal number
by_text None = []

abbrev pub answer_text : Answer → List ℕ
answer_text (At position now by) = codes "at " ++ decimal position ++ codes " now " ++ decimal now ++ by_text by ++ 10 ∷ []
answer_text (Broke number) = codes "break " ++ decimal number ++ 10 ∷ []
answer_text (Cleared number) = codes "cleared " ++ decimal number ++ 10 ∷ []
answer_text (Text text) = text

abbrev pub error_name : DebugError → List ℕ
error_name error.NoSuchWork = codes "NoSuchWork"
error_name error.NoSuchPool = codes "NoSuchPool"
error_name error.NoSuchFlush = codes "NoSuchFlush"
error_name error.NoSuchBreak = codes "NoSuchBreak"
error_name error.PastEnd = codes "PastEnd"
error_name error.PastStart = codes "PastStart"
error_name error.TooManyBreaks = codes "TooManyBreaks"
error_name error.NoMemory = codes "NoMemory"

abbrev pub refused_text : DebugError → List ℕ
refused_text why = codes "refused " ++ error_name why ++ 10 ∷ []

abbrev pub answer_line : Result Answer DebugError → List ℕ
answer_line (Ok answer) = answer_text answer
answer_line (Err why) = refused_text why

-- where the debugger stands after an order, and what is said to it; nothing is, where it ends the session
abbrev pub obeyed : Session → Order → Session × Option (List ℕ)
obeyed d Nothing = (d, Some [])
obeyed d Bad = (d, Some (codes "bad command" ++ 10 ∷ []))
obeyed d NoWork = (d, Some (refused_text error.NoSuchWork))
obeyed d Help = (d, Some help_text)
obeyed d Quit = (d, None)
obeyed d (Do command) = ((does d command).0, Some (answer_line (does d command).1))

-- the same after a line; S has the names of works
unfoldable pub line_said : ScenarioContents → Session → List ℕ → Session × Option (List ℕ)
line_said S d line = obeyed d (order_of S (words_of line))
