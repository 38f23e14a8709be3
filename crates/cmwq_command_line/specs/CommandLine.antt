-- The command line: its commands, what each takes, and the line of its version.
use Rattle.std.specs.Prelude.{◌≡◌, ℕ, List, [], ◌∷◌, ◌++◌, Err, Ok, IfOk, Option, IsSomeAnd, None, Result, false, true, codes, Some, if◌then◌else◌}
use Rattle.std.specs.Str.{bytes_eq}
use Rattle.clap.specs.Words.{AddsSubcommand, App, Rule, Text, app_of, new_app, new_rule, rule_of, with_rule, with_subcommand}
use Rattle.clap.specs.declared.builder.arg.Arg.{Arg}
use Rattle.clap.specs.declared.builder.command.Command.{Command}
use Rattle.clap.specs.declared.builder.command.Command.TheViews.{out-Command as fields_of}
use Rattle.clap.specs.declared.builder.action.ArgAction.TheVariants.{Append, SetTrue}
use Rattle.cmwq_command_line.specs.declared.help.TheConstants.{VERSION}

-- the argument obeys this rule, in its own command alone
abbrev pub IsArgument : Rule → Arg → Type 0
IsArgument rule arg = (rule_of arg ≡ rule) × (arg.global ≡ false)

-- it is this command, none of whose arguments holds in another one
abbrev pub IsCommand : App → Command → Type 0
IsCommand app command = (app_of command ≡ app) × ((fields_of command).has_globals ≡ false)

-- the new one is the program with the command more, which there is
unfoldable pub WithMore : {E : Type 0} → Command → Result Command E → Command → Type 0
WithMore program (Ok more) new = AddsSubcommand program more new
WithMore program (Err _) new = ⊥

-- an argument that has to be given
abbrev pub required_rule : Text → Rule
required_rule id = record (new_rule id) { required = true }

-- an option without a value
abbrev pub flag_rule : Text → Rule
flag_rule name = record (new_rule name) { long = Some name; action = Some SetTrue }

-- an option that may be given, with its value
abbrev pub value_rule : Text → Text → Rule
value_rule id name = record (new_rule id) { long = Some name }

-- an option whose value is one or more, told as two
abbrev pub several_rule : Text → Text → (least most : ℕ) → Rule
several_rule id name least most = record (value_rule id name) { range = Some (record { start_inclusive = least; end_inclusive = most }); value_names = 2 }

-- a command that takes one argument
abbrev pub command_on : Text → Text → App
command_on name id = with_rule (new_app name) (required_rule id)

-- `new [FILE]`
abbrev pub new_command : App
new_command = with_rule (new_app (codes "new")) (new_rule (codes "FILE"))

-- `run [--settle] [--tell] [--strict] FILE`, `list FILE`, `asm FILE OUT`, `show IMAGE`, `debug [--settle] FILE` and `play FILE --capacity N`
abbrev pub run_command : App
run_command =
    with_rule
    (with_rule (with_rule (command_on (codes "run") (codes "FILE")) (flag_rule (codes "settle"))) (flag_rule (codes "tell")))
    (flag_rule (codes "strict"))

abbrev pub list_command : App
list_command = command_on (codes "list") (codes "FILE")

abbrev pub asm_command : App
asm_command = with_rule (command_on (codes "asm") (codes "FILE")) (required_rule (codes "OUT"))

abbrev pub show_command : App
show_command = command_on (codes "show") (codes "IMAGE")

abbrev pub debug_command : App
debug_command = with_rule (command_on (codes "debug") (codes "FILE")) (flag_rule (codes "settle"))

abbrev pub play_command : App
play_command =
    with_rule (command_on (codes "play") (codes "FILE")) (record (required_rule (codes "N")) { long = Some (codes "capacity") })

-- `check FILE..`
abbrev pub check_command : App
check_command = with_rule (new_app (codes "check")) (record (required_rule (codes "FILE")) { action = Some Append })

-- `settle FILE`
abbrev pub settle_command : App
settle_command = command_on (codes "settle") (codes "FILE")

-- `draw [--settle] [--svg] [--from T] [--to T] FILE`, and so with `[--fold] [--works A,B] [--scale N] [--id NAME]`
abbrev pub spanned_command : App
spanned_command =
    with_rule
    (with_rule
    (with_rule (with_rule (command_on (codes "draw") (codes "FILE")) (flag_rule (codes "settle"))) (flag_rule (codes "svg")))
    (value_rule (codes "FROM") (codes "from")))
    (value_rule (codes "TO") (codes "to"))

abbrev pub draw_command : App
draw_command =
    with_rule
    (with_rule
    (with_rule (with_rule spanned_command (flag_rule (codes "fold"))) (value_rule (codes "WORKS") (codes "works")))
    (value_rule (codes "SCALE") (codes "scale")))
    (value_rule (codes "NAME") (codes "id"))

-- `why [--flush F] [--at K] FILE [WORK]`, and so with `[--every] [--time T] [--settle]`
abbrev pub asking_command : App
asking_command =
    with_rule
    (with_rule (with_rule (command_on (codes "why") (codes "FILE")) (new_rule (codes "WORK"))) (value_rule (codes "F") (codes "flush")))
    (value_rule (codes "K") (codes "at"))

abbrev pub why_command : App
why_command =
    with_rule
    (with_rule (with_rule asking_command (flag_rule (codes "every"))) (value_rule (codes "T") (codes "time")))
    (flag_rule (codes "settle"))

-- `explore [--after ACTOR] [--never WORK [WORK]] [--stuck] FILE`, and so with `[--before A B].. [--limit N]`
abbrev pub never_command : App
never_command =
    with_rule
    (with_rule (with_rule (command_on (codes "explore") (codes "FILE")) (value_rule (codes "ACTOR") (codes "after"))) (several_rule (codes "WORK") (codes "never") 1 2))
    (flag_rule (codes "stuck"))

abbrev pub explore_command : App
explore_command =
    with_rule
    (with_rule never_command (record (several_rule (codes "BEFORE") (codes "before") 2 2) { action = Some Append }))
    (value_rule (codes "N") (codes "limit"))

-- `times [--json] [--whom] [--sweep QUEUE LOW..HIGH] FILE`
abbrev pub times_command : App
times_command =
    with_rule
    (with_rule (with_rule (command_on (codes "times") (codes "FILE")) (flag_rule (codes "json"))) (flag_rule (codes "whom")))
    (several_rule (codes "SWEEP") (codes "sweep") 2 2)

-- `trace [--json] [--lines] [--text] [--dat OUT] FILE`
abbrev pub trace_command : App
trace_command =
    with_rule
    (with_rule
    (with_rule (with_rule (command_on (codes "trace") (codes "FILE")) (flag_rule (codes "json"))) (flag_rule (codes "lines")))
    (flag_rule (codes "text")))
    (value_rule (codes "OUT") (codes "dat"))

-- the program with no command
abbrev pub bare_program : App
bare_program =
    record (new_app (codes "cmwq")) {
      top = record (new_app (codes "cmwq")).top { has_version = true; arg_required_else_help = true; subcommand_required = true };
    }

-- one command after the other
abbrev pub with_commands : App → List App → App
with_commands program [] = program
with_commands program (command ∷ commands) = with_commands (with_subcommand program command.top) commands

-- the program with its first four commands, with its first eight, with its first twelve, and with all
abbrev pub four_commands : App
four_commands = with_commands bare_program (new_command ∷ run_command ∷ list_command ∷ asm_command ∷ [])

abbrev pub eight_commands : App
eight_commands = with_commands four_commands (show_command ∷ debug_command ∷ play_command ∷ check_command ∷ [])

abbrev pub twelve_commands : App
twelve_commands = with_commands eight_commands (settle_command ∷ draw_command ∷ why_command ∷ explore_command ∷ [])

abbrev pub command_line : App
command_line = with_commands twelve_commands (times_command ∷ trace_command ∷ [])

-- the command of this name, of those that can be given words which ask for nothing
abbrev pub misusable : Text → Option App
misusable name =
    if bytes_eq name (codes "debug") then Some debug_command
    else if bytes_eq name (codes "play") then Some play_command
    else if bytes_eq name (codes "draw") then Some draw_command
    else if bytes_eq name (codes "why") then Some why_command
    else if bytes_eq name (codes "explore") then Some explore_command
    else if bytes_eq name (codes "times") then Some times_command
    else if bytes_eq name (codes "trace") then Some trace_command
    else None

-- this is the command, if there was memory for it
abbrev pub IsMisusable : {E : Type 0} → Option App → Option (Result Command E) → Type 0
IsMisusable (Some app) (Some command) = IfOk command (IsCommand app)
IsMisusable None None = Unit {0}
IsMisusable app command = ⊥

-- its usage begins so: `cmwq NAME`
abbrev pub IsCalled : (name : Text) → Command → Type 0
IsCalled name command = IsSomeAnd (fields_of command).bin_name (λ call. call.bytes.items ≡ codes "cmwq " ++ name)

-- the line of the program's version, and of the logic that its proofs rest on
abbrev pub version_line : (logic : List ℕ) → List ℕ
version_line logic = codes "cmwq " ++ VERSION.now ++ codes " (logic " ++ logic ++ codes ")" ++ 10 ∷ []
