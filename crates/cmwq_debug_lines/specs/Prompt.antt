-- What a session with a prompt says besides the answers.
use Rattle.std.specs.Prelude.{ℕ, List, [], ◌∷◌, ◌++◌, Option, Some, None, Ok, codes, if◌then◌else◌}
use Rattle.std.specs.Fmt.{decimal}
use Rattle.cmwq_types.specs.Contents.{ScenarioContents}
use Rattle.cmwq_types.specs.Listing.{instr_words, line_text}
use Rattle.cmwq_types.specs.declared.instr.Instr.{Instr}
use Rattle.cmwq_types.specs.declared.reply.Reply.{Reply}
use Rattle.cmwq_table.specs.Events.{is_silent, reply_line}
use Rattle.cmwq_grammar.specs.Cutting.{lines_of, words_of}
use Rattle.cmwq_debug.specs.Debugging.{At, Outcome, Session, does, last_of, opened, time_at}
use Rattle.cmwq_debug_lines.specs.Orders.{order_of}
use Rattle.cmwq_debug_lines.specs.Talk.{line_said, obeyed}
use Rattle.cmwq_debug_lines.specs.declared.manner.Manner.{Manner}
use Rattle.cmwq_debug_lines.specs.declared.manner.Manner.TheVariants.{Plain, Prompted}
use Rattle.cmwq_debug_lines.specs.declared.order.Order.{Order}
use Rattle.cmwq_debug_lines.specs.declared.order.Order.TheVariants.{Do}

-- the position and the time there; a command is typed behind it
abbrev pub prompt : Session → List ℕ
prompt d = decimal d.position ++ codes " now " ++ decimal (time_at d d.position) ++ codes "> "

-- behind two blanks the line that a run prints of a reply, if it prints one
abbrev pub indented_reply : ScenarioContents → ℕ → Instr → Reply → List ℕ
indented_reply S now instr reply = if is_silent reply then [] else codes "  " ++ reply_line S now instr reply

-- the instruction that was carried out last, in the words of the listing, and below it what a run prints of it at this time
abbrev pub last_text : ScenarioContents → ℕ → Option (Instr × Reply) → List ℕ
last_text S now (Some last) = codes "  " ++ line_text (instr_words S last.0) ++ indented_reply S now last.0 last.1
last_text S now None = []

-- behind an answer that tells where the debugger stands: what brought it there
abbrev pub behind_answer : ScenarioContents → Outcome → List ℕ
behind_answer S (d, Ok (At position now by)) = last_text S now (last_of d)
behind_answer S other = []

-- behind the answer to an order
abbrev pub behind : ScenarioContents → Session → Order → List ℕ
behind S d (Do command) = behind_answer S (does d command)
behind S d other = []

-- behind what an order is answered stand these words; nothing does, where it ends the session
abbrev pub and_then : Option (List ℕ) → List ℕ → Option (List ℕ)
and_then (Some text) words = Some (text ++ words)
and_then None words = None

-- where the debugger stands after an order, and what is said to it: the answer, what brought it there, and the next prompt
abbrev pub prompted : ScenarioContents → Session → Order → Session × Option (List ℕ)
prompted S d order = ((obeyed d order).0, and_then (obeyed d order).1 (behind S d order ++ prompt (obeyed d order).0))

-- the same after a line, in each manner
unfoldable pub line_told : Manner → ScenarioContents → Session → List ℕ → Session × Option (List ℕ)
line_told Plain S d line = line_said S d line
line_told Prompted S d line = prompted S d (order_of S (words_of line))

-- what is said before anything is read
abbrev pub opening : Manner → Session → List ℕ
opening Plain d = []
opening Prompted d = prompt d

-- and where the commands end without `quit`: the line of the prompt is ended
abbrev pub ending : Manner → List ℕ
ending Plain = []
ending Prompted = 10 ∷ []

abbrev pub text_said : Option (List ℕ) → List ℕ
text_said (Some text) = text
text_said None = []

-- what is said to a line, and then to those behind it; nothing more, where it ended the session
abbrev pub said_before : Option (List ℕ) → List ℕ → List ℕ
said_before (Some text) rest = text ++ rest
said_before None rest = []

-- what is said to the lines, one after another, and at their end
abbrev pub lines_said : Manner → ScenarioContents → Session → List (List ℕ) → List ℕ
lines_said manner S d [] = ending manner
lines_said manner S d (line ∷ lines) =
    said_before (line_told manner S d line).1 (lines_said manner S (line_told manner S d line).0 lines)

-- what a debugger of these instructions says to a text of commands
abbrev pub debugged : Manner → ScenarioContents → List Instr → List ℕ → List ℕ
debugged manner S instrs commands = opening manner (opened S instrs) ++ lines_said manner S (opened S instrs) (lines_of commands)
