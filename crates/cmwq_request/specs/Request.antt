-- What the words of a command line ask for.
use Rattle.std.specs.Prelude.{◌≡◌, ◌≢◌, ◌≤◌, ◌<◌, ◌^◌, ◌⊎◌, ℕ, List, [], ◌∷◌, ◌++◌, Bool, true, false, ◌&&◌, ◌||◌, ◌==◌, length, nat_le, nat_lt, map, codes, if◌then◌else◌, Option, None, Some, is_none, option_and_then, option_map, option_to_list, Result, IfSome, IsErrAnd, MatchResult}
use Rattle.std.specs.List.{list_all}
use Rattle.std.specs.Fmt.{decimal}
use Rattle.std.specs.Str.{bytes_eq}
use Rattle.std.specs.Str.Parse.{digits_value}
use Rattle.clap.specs.Words.{Row, Text, all_of, app_of, first_of, kind_of, one_of, subcommand_of, takes}
use Rattle.clap.specs.declared.builder.command.Command.{Command}
use Rattle.cmwq_command_line.specs.CommandLine.{IsCalled, command_line, misusable}
use Rattle.clap.specs.declared.error.Error.{Error}
use Rattle.clap.specs.declared.error.kind.ErrorKind.TheVariants.{OutOfMemory, ValueValidation}
use Rattle.cmwq_types.specs.declared.limits.TheConstants.{MAX_LINES}
use Rattle.cmwq_types.specs.Faults.{within}
use Rattle.cmwq_exploration.specs.declared.exploration.Exploration.{Exploration}
use Rattle.cmwq_exploration.specs.declared.exploration.Never.{Never}
use Rattle.cmwq_exploration.specs.declared.exploration.Never.TheVariants as never
use Rattle.cmwq_exploration.specs.declared.exploration.TheConstants.{MAX_STATES, USUAL_STATES}
use Rattle.cmwq_rings.specs.Rings.{HasNoRing, IsRing, Pair, goes_in_ring, pairs_of}
use Rattle.cmwq_drawing.specs.declared.drawing.Drawing.{Drawing}
use Rattle.cmwq_drawing.specs.declared.drawing.Form.{Form}
use Rattle.cmwq_drawing.specs.declared.drawing.Form.TheVariants as form
use Rattle.cmwq_drawing.specs.declared.drawing.Span.{Span}
use Rattle.cmwq_question.specs.declared.question.Inquiry.{Inquiry}
use Rattle.cmwq_question.specs.declared.question.Looks.{Looks}
use Rattle.cmwq_question.specs.declared.question.Looks.TheVariants.{Settled as AtSettled, Every, At, Time}
use Rattle.cmwq_question.specs.declared.question.Question.{Question}
use Rattle.cmwq_question.specs.declared.question.Question.TheVariants.{Work, Flush}
use Rattle.cmwq_reports.specs.declared.report.Format.{Format}
use Rattle.cmwq_reports.specs.declared.report.Format.TheVariants as format
use Rattle.cmwq_reports.specs.declared.report.LimitRange.{LimitRange}
use Rattle.cmwq_reports.specs.declared.report.Times.{Times}
use Rattle.cmwq_reports.specs.declared.report.TraceForm.{TraceForm}
use Rattle.cmwq_reports.specs.declared.report.TraceForm.TheVariants.{Json, Lines, Text as AsText}
use Rattle.cmwq_tasks.specs.declared.task.RunKind.{RunKind}
use Rattle.cmwq_tasks.specs.declared.task.RunKind.TheVariants.{Plain, Settled, Told, ToldSettled}
use Rattle.cmwq_tasks.specs.declared.task.Task.{Task}
use Rattle.cmwq_tasks.specs.declared.task.Task.TheVariants as task
use Rattle.cmwq_request.specs.Numbers.{are_limits, limits_in, limits_word, plain_number}
use Rattle.cmwq_request.specs.declared.request.Request.{Request}
use Rattle.cmwq_request.specs.declared.request.Request.TheVariants.{New, Do, Strict, Sweep, TraceData, Asm, Debug, Play, Explore, Check, Language, Version}

-- how many entries a play's history may have room for: as many as an actor may have lines
abbrev pub IsCapacity : ℕ → Type 0
IsCapacity capacity = (1 ≤ capacity) × (capacity ≤ MAX_LINES)

-- how many states may be looked at
abbrev pub IsStateLimit : ℕ → Type 0
IsStateLimit limit = (1 ≤ limit) × (limit ≤ MAX_STATES)

-- an option's word where it is given, and nothing else
abbrev pub option_words : Text → Bool → List Text
option_words word given = if given then word ∷ [] else []

-- an option's word and its number, if it has one
abbrev pub number_words : Text → Option ℕ → List Text
number_words word (Some n) = word ∷ decimal n ∷ []
number_words word None = []

-- an option's word and its text, if it has one
abbrev pub text_words : Text → Option Text → List Text
text_words word (Some text) = word ∷ text ∷ []
text_words word None = []

-- what stands behind `run`
abbrev pub run_arguments : RunKind → Text → List Text
run_arguments Plain file = file ∷ []
run_arguments Settled file = codes "--settle" ∷ file ∷ []
run_arguments Told file = codes "--tell" ∷ file ∷ []
run_arguments ToldSettled file = codes "--settle" ∷ codes "--tell" ∷ file ∷ []

-- the same with --strict, if that is given
abbrev pub strict_arguments : (strict : Bool) → RunKind → Text → List Text
strict_arguments strict kind file = option_words (codes "--strict") strict ++ run_arguments kind file

-- what stands behind `debug`
abbrev pub debug_arguments : (settle : Bool) → Text → List Text
debug_arguments settle file = option_words (codes "--settle") settle ++ (file ∷ [])

-- What is asked of a drawing, by its options.
pub record DrawingWords : Type 0 where
  pub settle : Bool
  pub svg : Bool
  pub fold : Bool
  pub span : Span
  pub works : Option Text
  pub scale : Option ℕ
  pub id : Option Text

abbrev pub is_svg : Form → Bool
is_svg form.Text = false
is_svg (form.Svg style) = true

abbrev pub scale_of : Form → Option ℕ
scale_of form.Text = None
scale_of (form.Svg style) = style.scale

abbrev pub id_of : Form → Option Text
id_of form.Text = None
id_of (form.Svg style) = option_map (λ id. id.now) style.id

abbrev pub form_words : Form → Bool × Option ℕ × Option Text
form_words form = (is_svg form, scale_of form, id_of form)

abbrev pub drawing_words : Drawing → DrawingWords
drawing_words drawing =
    record {
      settle = drawing.settle;
      svg = is_svg drawing.form;
      fold = drawing.fold;
      span = drawing.span;
      works = option_map (λ names. names.now) drawing.works;
      scale = scale_of drawing.form;
      id = id_of drawing.form;
    }

-- what stands behind `draw`
abbrev pub style_words : DrawingWords → Text → List Text
style_words drawing file =
    option_words (codes "--fold") drawing.fold
    ++ (text_words (codes "--works") drawing.works
    ++ (number_words (codes "--scale") drawing.scale ++ (text_words (codes "--id") drawing.id ++ (file ∷ []))))

abbrev pub draw_arguments : DrawingWords → Text → List Text
draw_arguments drawing file =
    option_words (codes "--settle") drawing.settle
    ++ (option_words (codes "--svg") drawing.svg
    ++ (number_words (codes "--from") drawing.span.from ++ (number_words (codes "--to") drawing.span.to ++ style_words drawing file)))

-- the words that say which positions are looked at; none where these are the settled ones
abbrev pub look_words : Looks → List Text
look_words AtSettled = []
look_words Every = codes "--every" ∷ []
look_words (At k) = codes "--at" ∷ decimal k ∷ []
look_words (Time time) = codes "--time" ∷ decimal time ∷ []

-- what stands behind `why`, where it is asked of a work, and where of a flush
abbrev pub work_arguments : (settle : Bool) → Looks → (file work : Text) → List Text
work_arguments settle looks file work = option_words (codes "--settle") settle ++ (look_words looks ++ (file ∷ work ∷ []))

abbrev pub flush_arguments : (settle : Bool) → Looks → ℕ → Text → List Text
flush_arguments settle looks flush file =
    codes "--flush" ∷ decimal flush ∷ (option_words (codes "--settle") settle ++ (look_words looks ++ (file ∷ [])))

abbrev pub question_arguments : Question → (settle : Bool) → Looks → Text → List Text
question_arguments (Work work) settle looks file = work_arguments settle looks file work.now
question_arguments (Flush flush) settle looks file = flush_arguments settle looks flush file

abbrev pub why_arguments : Inquiry → Text → List Text
why_arguments inquiry file = question_arguments inquiry.question inquiry.settle inquiry.looks file

-- a number of at most ten digits
abbrev pub IsShortNumber : ℕ → Type 0
IsShortNumber n = n < 10 ^ 10

-- that of a position or tick is one
abbrev pub HasShortNumber : Looks → Type 0
HasShortNumber (At k) = IsShortNumber k
HasShortNumber (Time time) = IsShortNumber time
HasShortNumber looks = Unit {0}

-- a time that an option may have is a number below 2^64
abbrev pub IsTimeIfAny : Option ℕ → Type 0
IsTimeIfAny (Some time) = time < 2 ^ 64
IsTimeIfAny None = Unit {0}

-- the first time, where it is given, isn't behind the last
abbrev pub is_ahead : (from to : Option ℕ) → Bool
is_ahead (Some from) (Some to) = nat_le from to
is_ahead from to = true

abbrev pub IsSpan : Span → Type 0
IsSpan span = IsTimeIfAny span.from × IsTimeIfAny span.to × (is_ahead span.from span.to ≡ true)

-- a tick may be 1 to 100 pixels wide
abbrev pub is_scale : Option ℕ → Bool
is_scale (Some scale) = within 1 100 scale
is_scale None = true

-- A picture's name has 1 to 64 letters, digits, hyphens (45) and underscores (95), first a letter: so it can stand in a page's style.
abbrev pub is_letter : ℕ → Bool
is_letter byte = within 65 90 byte || within 97 122 byte

abbrev pub is_in_id : ℕ → Bool
is_in_id byte = is_letter byte || (within 48 57 byte || (byte == 45 || byte == 95))

abbrev pub begins_with_letter : Text → Bool
begins_with_letter [] = false
begins_with_letter (first ∷ rest) = is_letter first

unfoldable pub is_picture_name : Text → Bool
is_picture_name name = begins_with_letter name && (nat_le (length name) 64 && list_all is_in_id name)

abbrev pub is_picture_name_if_any : Option Text → Bool
is_picture_name_if_any (Some name) = is_picture_name name
is_picture_name_if_any None = true

-- only an SVG picture has a scale and a name
abbrev pub is_styled : (svg : Bool) → Option ℕ → Option Text → Bool
is_styled true scale id = is_scale scale && is_picture_name_if_any id
is_styled false scale id = is_none scale && is_none id

-- What no order may come to, by the names of an actor and of works.
pub data Forbidden : Type 0 where
  never_after : (actor work : Text) → Forbidden
  never_runs : (work : Text) → Forbidden
  never_together : (work other : Text) → Forbidden
  never_stuck : Forbidden

abbrev pub forbidden : Never → Forbidden
forbidden (never.After actor work) = Forbidden.never_after actor.now work.now
forbidden (never.Runs work) = Forbidden.never_runs work.now
forbidden (never.Together work other) = Forbidden.never_together work.now other.now
forbidden never.Stuck = Forbidden.never_stuck

-- What is asked of all orders, by its options.
pub record ExplorationWords : Type 0 where
  pub never : Forbidden
  pub before : List Pair
  pub limit : ℕ

abbrev pub exploration_words : Exploration → ExplorationWords
exploration_words exploration = record { never = forbidden exploration.never; before = pairs_of exploration.before.items; limit = exploration.limit }

abbrev pub never_words : Forbidden → List Text
never_words (Forbidden.never_after actor work) = codes "--after" ∷ actor ∷ codes "--never" ∷ work ∷ []
never_words (Forbidden.never_runs work) = codes "--never" ∷ work ∷ []
never_words (Forbidden.never_together work other) = codes "--never" ∷ work ∷ other ∷ []
never_words Forbidden.never_stuck = codes "--stuck" ∷ []

abbrev pub before_words : List Pair → List Text
before_words [] = []
before_words (pair ∷ before) = codes "--before" ∷ pair.0 ∷ pair.1 ∷ before_words before

-- what stands behind `explore`, where no limit is given, and where one is
abbrev pub unlimited_arguments : Forbidden → List Pair → Text → List Text
unlimited_arguments never before file = file ∷ (never_words never ++ before_words before)

abbrev pub explore_arguments : ExplorationWords → Text → List Text
explore_arguments asked file = unlimited_arguments asked.never asked.before file ++ (codes "--limit" ∷ decimal asked.limit ∷ [])

abbrev pub is_json : Format → Bool
is_json format.Text = false
is_json format.Json = true

-- what stands behind `times`, and where runs are told of that differ by a queue's max
abbrev pub times_arguments : Times → Text → List Text
times_arguments times file = option_words (codes "--json") (is_json times.format) ++ (option_words (codes "--whom") times.whom ++ (file ∷ []))

abbrev pub sweep_arguments : Format → (queue : Text) → LimitRange → (file : Text) → List Text
sweep_arguments format queue limits file = option_words (codes "--json") (is_json format) ++ (file ∷ codes "--sweep" ∷ queue ∷ limits_word limits ∷ [])

-- what stands behind `trace`, and where the events go to a file
abbrev pub trace_arguments : TraceForm → Text → List Text
trace_arguments Json file = codes "--json" ∷ file ∷ []
trace_arguments Lines file = codes "--lines" ∷ file ∷ []
trace_arguments AsText file = codes "--text" ∷ file ∷ []

abbrev pub data_arguments : (file out : Text) → List Text
data_arguments file out = file ∷ codes "--dat" ∷ out ∷ []

-- the words that ask for the task on a file
abbrev pub task_words : Task → Text → List Text
task_words (task.Run kind) file = codes "run" ∷ run_arguments kind file
task_words task.Settle file = codes "settle" ∷ file ∷ []
task_words task.List file = codes "list" ∷ file ∷ []
task_words task.Show file = codes "show" ∷ file ∷ []
task_words (task.Draw drawing) file = codes "draw" ∷ draw_arguments (drawing_words drawing) file
task_words (task.Why inquiry) file = codes "why" ∷ why_arguments inquiry file
task_words (task.Times times) file = codes "times" ∷ times_arguments times file
task_words (task.Trace form) file = codes "trace" ∷ trace_arguments form file

-- the words that ask for it
abbrev pub request_words : Request → List Text
request_words (New None) = codes "new" ∷ []
request_words (New (Some file)) = codes "new" ∷ file.now ∷ []
request_words (Do file task) = task_words task file.now
request_words (Strict file kind) = codes "run" ∷ strict_arguments true kind file.now
request_words (Sweep file sweep) = codes "times" ∷ sweep_arguments sweep.format sweep.queue.now sweep.limits file.now
request_words (TraceData file out) = codes "trace" ∷ data_arguments file.now out.now
request_words (Asm file out) = codes "asm" ∷ file.now ∷ out.now ∷ []
request_words (Debug file settle) = codes "debug" ∷ debug_arguments settle file.now
request_words (Play file capacity) = codes "play" ∷ file.now ∷ codes "--capacity" ∷ decimal capacity ∷ []
request_words (Explore file exploration) = codes "explore" ∷ explore_arguments (exploration_words exploration) file.now
request_words (Check files) = codes "check" ∷ map (λ file. file.now) files.items
request_words Language = codes "help" ∷ codes "scenario" ∷ []
request_words Version = codes "--version" ∷ []

-- the words of the request, where clap met this command with these values
abbrev pub one_value : Text → Text → List Row → Option (List Text)
one_value command id rows = option_map (λ value. command ∷ value ∷ []) (first_of id rows)

abbrev pub two_values : Text → Text → Text → List Row → Option (List Text)
two_values command first second rows =
    option_and_then (λ value. option_map (λ other. command ∷ value ∷ other ∷ []) (first_of second rows)) (first_of first rows)

abbrev pub value_if_any : Text → Text → List Row → List Text
value_if_any command id rows = command ∷ option_to_list (first_of id rows)

abbrev pub file_and_capacity : List Row → Option (List Text)
file_and_capacity rows =
    option_and_then (λ file. option_map (λ n. codes "play" ∷ file ∷ codes "--capacity" ∷ n ∷ []) (first_of (codes "N") rows)) (first_of (codes "FILE") rows)

abbrev pub all_values : Text → Text → List Row → Option (List Text)
all_values command id rows = option_map (λ values. command ∷ values) (all_of id rows)

-- the flag of such a text
abbrev pub flag_in : Option Text → Option Bool
flag_in None = Some false
flag_in (Some text) =
    if bytes_eq text (codes "true") then Some true else if bytes_eq text (codes "false") then Some false else None

abbrev pub flag_of : Text → List Row → Option Bool
flag_of id rows = flag_in (one_of id rows)

-- which run the flags settle and tell ask for
abbrev pub kind_of_run : (settle tell : Bool) → RunKind
kind_of_run false false = Plain
kind_of_run true false = Settled
kind_of_run false true = Told
kind_of_run true true = ToldSettled

abbrev pub kind_from : Option Bool → Option Bool → Option RunKind
kind_from (Some settle) (Some tell) = Some (kind_of_run settle tell)
kind_from settle tell = None

-- the words of such a run of this file
abbrev pub words_to_run : (strict : Option Bool) → Option RunKind → Option Text → Option (List Text)
words_to_run strict kind file =
    option_and_then
    (λ is_strict. option_and_then (λ given. option_map (λ name. codes "run" ∷ strict_arguments is_strict given name) file) kind)
    strict

abbrev pub file_to_run : List Row → Option (List Text)
file_to_run rows =
    words_to_run (flag_of (codes "strict") rows) (kind_from (flag_of (codes "settle") rows) (flag_of (codes "tell") rows)) (first_of (codes "FILE") rows)

-- whether a debugger's run goes on, and the words of such a request
abbrev pub words_to_debug : Option Bool → Option Text → Option (List Text)
words_to_debug settle file = option_and_then (λ given. option_map (λ name. codes "debug" ∷ debug_arguments given name) file) settle

-- the commands come from standard input, so the scenario's text can't
abbrev pub is_input : Text → Bool
is_input file = bytes_eq file (codes "-")

abbrev pub unless_input : Option Text → Option Text
unless_input (Some file) = if is_input file then None else Some file
unless_input None = None

abbrev pub file_to_debug : List Row → Option (List Text)
file_to_debug rows = words_to_debug (flag_of (codes "settle") rows) (unless_input (first_of (codes "FILE") rows))

-- The number that a word spells: its own decimal digits, below 2^64.
unfoldable pub number_in : Text → Option ℕ
number_in word =
    if bytes_eq word (decimal (digits_value 10 word)) && nat_lt (digits_value 10 word) (2 ^ 64) then Some (digits_value 10 word) else None

-- the number of an option that may be given
abbrev pub number_if_any : Option Text → Option (Option ℕ)
number_if_any None = Some None
number_if_any (Some word) = option_map Some (number_in word)

-- the span of these times, if each is one and they are in order
abbrev pub span_from : (from to : Option (Option ℕ)) → Option Span
span_from (Some from) (Some to) = if is_ahead from to then Some (record { from = from; to = to }) else None
span_from from to = None

abbrev pub span_asked : List Row → Option Span
span_asked rows = span_from (number_if_any (first_of (codes "FROM") rows)) (number_if_any (first_of (codes "TO") rows))

-- the picture of these values, if each is one
abbrev pub drawing_from : (settle svg fold : Option Bool) → Option Span → (works : Option Text) → (scale : Option (Option ℕ)) → (id : Option Text) → Option DrawingWords
drawing_from (Some settle) (Some svg) (Some fold) (Some span) works (Some scale) id =
    if is_styled svg scale id
    then Some (record { settle = settle; svg = svg; fold = fold; span = span; works = works; scale = scale; id = id })
    else None
drawing_from settle svg fold span works scale id = None

abbrev pub drawing_asked : List Row → Option DrawingWords
drawing_asked rows =
    drawing_from (flag_of (codes "settle") rows) (flag_of (codes "svg") rows) (flag_of (codes "fold") rows) (span_asked rows)
    (first_of (codes "WORKS") rows)
    (number_if_any (first_of (codes "SCALE") rows))
    (first_of (codes "NAME") rows)

-- the words of a picture of this file
abbrev pub words_to_draw : Option DrawingWords → Option Text → Option (List Text)
words_to_draw drawing file = option_and_then (λ given. option_map (λ name. codes "draw" ∷ draw_arguments given name) file) drawing

abbrev pub file_to_draw : List Row → Option (List Text)
file_to_draw rows = words_to_draw (drawing_asked rows) (first_of (codes "FILE") rows)

-- the positions, by whether --every is given, and by the words of --at and --time; none where two of them are given, or the word isn't
-- such a number
abbrev pub looks_in : (every : Bool) → (at time : Option Text) → Option Looks
looks_in false None None = Some AtSettled
looks_in true None None = Some Every
looks_in false (Some word) None = option_map At (plain_number word)
looks_in false None (Some word) = option_map Time (plain_number word)
looks_in false (Some word) (Some other) = None
looks_in true (Some word) time = None
looks_in true None (Some word) = None

-- the words of a question on a work, or on the flush whose number's word this is; none where both or neither are given
abbrev pub question_words : Option Text → Option Text → (settle : Bool) → Looks → Text → Option (List Text)
question_words (Some work) None settle looks file = Some (work_arguments settle looks file work)
question_words None (Some word) settle looks file = option_map (λ flush. flush_arguments settle looks flush file) (plain_number word)
question_words None None settle looks file = None
question_words (Some work) (Some word) settle looks file = None

-- the words of such a question, where these are what stands for --every, --settle, --at, --time, FILE, WORK and --flush
abbrev pub asked_from : (every settle : Bool) → (at time file work flush : Option Text) → Option (List Text)
asked_from every settle at time file work flush =
    option_and_then
    (λ name. option_and_then (λ looks. option_map (λ arguments. codes "why" ∷ arguments) (question_words work flush settle looks name)) (looks_in every at time))
    file

abbrev pub asked_why : (every settle : Bool) → List Row → Option (List Text)
asked_why every settle rows =
    asked_from every settle (first_of (codes "K") rows) (first_of (codes "T") rows) (first_of (codes "FILE") rows) (first_of (codes "WORK") rows)
    (first_of (codes "F") rows)

abbrev pub file_to_ask : List Row → Option (List Text)
file_to_ask rows =
    option_and_then (λ settle. option_and_then (λ every. asked_why every settle rows) (flag_of (codes "every") rows)) (flag_of (codes "settle") rows)

-- What no order may come to, by whether --stuck is given, and by the words of --after and of --never; none where that is more than one thing,
-- or nothing.
abbrev pub if_two : (same : Bool) → (work other : Text) → Option Forbidden
if_two true work other = None
if_two false work other = Some (Forbidden.never_together work other)

abbrev pub works_forbidden : (works : List Text) → Option Forbidden
works_forbidden (work ∷ []) = Some (Forbidden.never_runs work)
works_forbidden (work ∷ other ∷ []) = if_two (bytes_eq work other) work other
works_forbidden works = None

abbrev pub after_forbidden : (actor : Text) → (works : List Text) → Option Forbidden
after_forbidden actor (work ∷ []) = Some (Forbidden.never_after actor work)
after_forbidden actor works = None

abbrev pub never_from : (stuck : Bool) → (after : Option Text) → (works : Option (List Text)) → Option Forbidden
never_from false None (Some works) = works_forbidden works
never_from false (Some actor) (Some works) = after_forbidden actor works
never_from true None None = Some Forbidden.never_stuck
never_from stuck after works = None

-- the pairs of --before, of which two words each are one
abbrev pub pairs_in : List Text → List Pair
pairs_in (first ∷ second ∷ more) = (first, second) ∷ pairs_in more
pairs_in words = []

abbrev pub pairs_from : Option (List Text) → List Pair
pairs_from None = []
pairs_from (Some words) = pairs_in words

-- the number of --limit, which is the usual one where it isn't given
abbrev pub state_limit : ℕ → Option ℕ
state_limit limit = if within 1 MAX_STATES limit then Some limit else None

abbrev pub limit_from : Option Text → Option ℕ
limit_from None = Some USUAL_STATES
limit_from (Some word) = option_and_then state_limit (plain_number word)

-- what is asked of all orders, if each part of it is something and --before goes in no ring
abbrev pub exploration_from : (rings : Bool) → Option Forbidden → (before : List Pair) → (limit : Option ℕ) → Option ExplorationWords
exploration_from false (Some never) before (Some limit) = Some (record { never = never; before = before; limit = limit })
exploration_from rings never before limit = None

abbrev pub words_to_explore : Option ExplorationWords → Option Text → Option (List Text)
words_to_explore asked (Some file) = option_map (λ exploration. codes "explore" ∷ explore_arguments exploration file) asked
words_to_explore asked None = None

-- what is read of these values
abbrev pub explored_from : (stuck : Bool) → (after : Option Text) → (works before : Option (List Text)) → (limit file : Option Text) → Option (List Text)
explored_from stuck after works before limit file =
    words_to_explore (exploration_from (goes_in_ring (pairs_from before)) (never_from stuck after works) (pairs_from before) (limit_from limit)) file

abbrev pub asked_explore : (stuck : Bool) → List Row → Option (List Text)
asked_explore stuck rows =
    explored_from stuck (first_of (codes "ACTOR") rows) (all_of (codes "WORK") rows) (all_of (codes "BEFORE") rows) (first_of (codes "N") rows)
    (first_of (codes "FILE") rows)

abbrev pub file_to_explore : List Row → Option (List Text)
file_to_explore rows = option_and_then (λ stuck. asked_explore stuck rows) (flag_of (codes "stuck") rows)

-- What is told of a run's time, by whether --json and --whom are given, and by the two words of --sweep; --whom and --sweep don't go together.
abbrev pub format_given : (json : Bool) → Format
format_given json = if json then format.Json else format.Text

abbrev pub times_given : (json whom : Bool) → Times
times_given json whom = record { format = format_given json; whom = whom }

abbrev pub swept_from : (json : Bool) → (words : List Text) → (file : Text) → Option (List Text)
swept_from json (queue ∷ word ∷ []) file =
    option_map (λ limits. codes "times" ∷ sweep_arguments (format_given json) queue limits file) (limits_in word)
swept_from json words file = None

abbrev pub times_from : (json whom : Bool) → (words : Option (List Text)) → (file : Text) → Option (List Text)
times_from json whom None file = Some (codes "times" ∷ times_arguments (times_given json whom) file)
times_from json false (Some words) file = swept_from json words file
times_from json true (Some words) file = None

abbrev pub asked_times : (json whom : Bool) → List Row → Option (List Text)
asked_times json whom rows = option_and_then (λ file. times_from json whom (all_of (codes "SWEEP") rows) file) (first_of (codes "FILE") rows)

abbrev pub file_to_time : List Row → Option (List Text)
file_to_time rows =
    option_and_then (λ json. option_and_then (λ whom. asked_times json whom rows) (flag_of (codes "whom") rows)) (flag_of (codes "json") rows)

-- What a run is traced as, by whether --json, --lines and --text are given, and by the word of --dat: one of them has to be.
abbrev pub if_given : Bool → TraceForm → List TraceForm
if_given given form = if given then form ∷ [] else []

abbrev pub forms_given : (json lines text : Bool) → List TraceForm
forms_given json lines text = if_given json Json ++ (if_given lines Lines ++ if_given text AsText)

abbrev pub only_form : List TraceForm → Option TraceForm
only_form (form ∷ []) = Some form
only_form forms = None

abbrev pub form_given : (json lines text : Bool) → Option TraceForm
form_given json lines text = only_form (forms_given json lines text)

abbrev pub traced_from : (json lines text : Bool) → (out : Option Text) → (file : Text) → Option (List Text)
traced_from json lines text None file = option_map (λ form. codes "trace" ∷ trace_arguments form file) (form_given json lines text)
traced_from false false false (Some out) file = Some (codes "trace" ∷ data_arguments file out)
traced_from json lines text (Some out) file = None

abbrev pub asked_trace : (json lines text : Bool) → List Row → Option (List Text)
asked_trace json lines text rows =
    option_and_then (λ file. traced_from json lines text (first_of (codes "OUT") rows) file) (first_of (codes "FILE") rows)

abbrev pub file_to_trace : List Row → Option (List Text)
file_to_trace rows =
    option_and_then
    (λ json. option_and_then (λ lines. option_and_then (λ text. asked_trace json lines text rows) (flag_of (codes "text") rows)) (flag_of (codes "lines") rows))
    (flag_of (codes "json") rows)

-- those of the commands that look into a run
abbrev pub asked_of_run : Text × List Row → Option (List Text)
asked_of_run met =
    if bytes_eq met.0 (codes "debug") then file_to_debug met.1
    else if bytes_eq met.0 (codes "draw") then file_to_draw met.1
    else if bytes_eq met.0 (codes "why") then file_to_ask met.1
    else if bytes_eq met.0 (codes "times") then file_to_time met.1
    else if bytes_eq met.0 (codes "trace") then file_to_trace met.1
    else if bytes_eq met.0 (codes "play") then file_and_capacity met.1
    else if bytes_eq met.0 (codes "check") then all_values (codes "check") (codes "FILE") met.1
    else if bytes_eq met.0 (codes "explore") then file_to_explore met.1
    else None

abbrev pub asked_in : Text × List Row → Option (List Text)
asked_in met =
    if bytes_eq met.0 (codes "new") then Some (value_if_any (codes "new") (codes "FILE") met.1)
    else if bytes_eq met.0 (codes "run") then file_to_run met.1
    else if bytes_eq met.0 (codes "settle") then one_value (codes "settle") (codes "FILE") met.1
    else if bytes_eq met.0 (codes "list") then one_value (codes "list") (codes "FILE") met.1
    else if bytes_eq met.0 (codes "asm") then two_values (codes "asm") (codes "FILE") (codes "OUT") met.1
    else if bytes_eq met.0 (codes "show") then one_value (codes "show") (codes "IMAGE") met.1
    else asked_of_run met

abbrev pub asked_of : Option (Text × List Row) → Option (List Text)
asked_of met = option_and_then asked_in met

-- a play's capacity is a number from 1 to 4,096
abbrev pub IsCapacityOf : (is_play : Bool) → Text → Type 0
IsCapacityOf true n = (capacity : ℕ) × (n ≡ decimal capacity) × IsCapacity capacity
IsCapacityOf false n = Unit {0}

abbrev pub HasCapacity : List Text → Type 0
HasCapacity (command ∷ file ∷ option ∷ n ∷ []) = IsCapacityOf (bytes_eq command (codes "play")) n
HasCapacity words = Unit {0}

-- what is asked for has such a capacity, looks at so many states, or takes such values of a queue's max, if it has them
abbrev pub IsWithin : Request → Type 0
IsWithin (Play file capacity) = IsCapacity capacity
IsWithin (Explore file exploration) = IsStateLimit exploration.limit
IsWithin (Sweep file sweep) = are_limits sweep.limits.low sweep.limits.high ≡ true
IsWithin request = Unit {0}

-- the request, which is there, has these words
abbrev pub IsRequestOf : List Text → Option Request → Type 0
IsRequestOf asked request = option_map (λ r. request_words r) request ≡ Some asked

-- clap takes the words, and the request that is read of them has these words
abbrev pub IsRead : List Text → List Text → Type 0
IsRead words asked = (takes command_line words ≡ true) × (asked_of (subcommand_of command_line words) ≡ Some asked) × HasCapacity asked

-- What clap met asks for nothing: it is `why`, and with its values no question; a picture whose first time is behind its last; a debugger
-- whose scenario and commands would both come from standard input; `explore`, and with its values nothing that can be asked of all orders;
-- `times` of values that no max may have, or with whom works waited for in each of their runs; or a trace of no form, or of two.
abbrev pub IsNoQuestion : List Row → Type 0
IsNoQuestion rows =
    (every settle : Bool) × (flag_of (codes "every") rows ≡ Some every) × (flag_of (codes "settle") rows ≡ Some settle) × (asked_why every settle rows ≡ None)

abbrev pub IsBackwards : List Row → Type 0
IsBackwards rows =
    (from to : ℕ) × (number_if_any (first_of (codes "FROM") rows) ≡ Some (Some from)) × (number_if_any (first_of (codes "TO") rows) ≡ Some (Some to))
    × (to < from)

abbrev pub IsNoExploration : List Row → Type 0
IsNoExploration rows = (stuck : Bool) × (flag_of (codes "stuck") rows ≡ Some stuck) × (asked_explore stuck rows ≡ None)

abbrev pub IsNoTimes : List Row → Type 0
IsNoTimes rows =
    (json whom : Bool) × (flag_of (codes "json") rows ≡ Some json) × (flag_of (codes "whom") rows ≡ Some whom) × (asked_times json whom rows ≡ None)

abbrev pub IsNoTrace : List Row → Type 0
IsNoTrace rows =
    (json lines text : Bool) × (flag_of (codes "json") rows ≡ Some json) × (flag_of (codes "lines") rows ≡ Some lines) × (flag_of (codes "text") rows ≡ Some text)
    × (asked_trace json lines text rows ≡ None)

abbrev pub AsksNothing : Text × List Row → Type 0
AsksNothing met =
    ((met.0 ≡ codes "why") × IsNoQuestion met.1)
    ⊎ (((met.0 ≡ codes "draw") × IsBackwards met.1)
    ⊎ (((met.0 ≡ codes "debug") × (first_of (codes "FILE") met.1 ≡ Some (codes "-")))
    ⊎ (((met.0 ≡ codes "explore") × IsNoExploration met.1)
    ⊎ (((met.0 ≡ codes "trace") × IsNoTrace met.1) ⊎ ((met.0 ≡ codes "times") × IsNoTimes met.1)))))

-- clap takes the words, and what it meets asks for nothing
abbrev pub IsMisuse : List Text → Type 0
IsMisuse words = (takes command_line words ≡ true) × (met : Text × List Row) × (subcommand_of command_line words ≡ Some met) × AsksNothing met

-- the usage of the command of this name is told, if it is one that can be given words which ask for nothing
abbrev pub HasUsageOf : (name : Text) → Command → Type 0
HasUsageOf name command = IfSome (misusable name) (λ app. (app_of command ≡ app) × IsCalled name command)

-- the word is no option: it isn't empty and doesn't begin with a hyphen (45)
abbrev pub IsPlainWord : Text → Type 0
IsPlainWord word = (first : ℕ) × (rest : Text) × (word ≡ first ∷ rest) × (first ≢ 45)

-- a file that is read may be `-`, standard input
abbrev pub IsFileWord : Text → Type 0
IsFileWord word = IsPlainWord word ⊎ (word ≡ codes "-")

-- an option may have it as its value
abbrev pub IsValueWord : Text → Type 0
IsValueWord word = (word ≡ []) ⊎ IsPlainWord word

-- the pictures that the table has
abbrev pub spanned : (settle svg : Bool) → Span → DrawingWords
spanned settle svg span = record { settle = settle; svg = svg; fold = false; span = span; works = None; scale = None; id = None }

abbrev pub whole_span : Span
whole_span = record { from = None; to = None }

abbrev pub folded : (settle svg : Bool) → DrawingWords
folded settle svg = record (spanned settle svg whole_span) { fold = true }

abbrev pub of_works : Text → DrawingWords
of_works names = record (spanned false false whole_span) { works = Some names }

abbrev pub styled : Option ℕ → Option Text → DrawingWords
styled scale id = record (spanned false true whole_span) { scale = scale; id = id }

-- an exploration's names aren't options, its works differ, its actors don't wait for each other in a ring, and it looks at so many states
abbrev pub HasPlainNames : Forbidden → Type 0
HasPlainNames (Forbidden.never_after actor work) = IsPlainWord actor × IsPlainWord work
HasPlainNames (Forbidden.never_runs work) = IsPlainWord work
HasPlainNames (Forbidden.never_together work other) = IsPlainWord work × IsPlainWord other × (work ≢ other)
HasPlainNames Forbidden.never_stuck = Unit {0}

abbrev pub ArePlainPairs : List Pair → Type 0
ArePlainPairs [] = Unit {0}
ArePlainPairs (pair ∷ before) = IsPlainWord pair.0 × IsPlainWord pair.1 × ArePlainPairs before

abbrev pub CanBeAsked : ExplorationWords → Type 0
CanBeAsked asked = HasPlainNames asked.never × ArePlainPairs asked.before × HasNoRing asked.before × IsStateLimit asked.limit

abbrev pub usual : Forbidden → List Pair → ExplorationWords
usual never before = record { never = never; before = before; limit = USUAL_STATES }

-- What is given of the three options that say what no order may come to; --never has one work or two.
pub data WorksGiven : Type 0 where
  no_works : WorksGiven
  one_work : (work : Text) → WorksGiven
  two_works : (work other : Text) → WorksGiven

pub record NeverGiven : Type 0 where
  pub stuck : Bool
  pub after : Option Text
  pub works : WorksGiven

abbrev pub works_words : WorksGiven → List Text
works_words WorksGiven.no_works = []
works_words (WorksGiven.one_work work) = codes "--never" ∷ work ∷ []
works_words (WorksGiven.two_works work other) = codes "--never" ∷ work ∷ other ∷ []

abbrev pub given_words : NeverGiven → List Text
given_words given = option_words (codes "--stuck") given.stuck ++ (text_words (codes "--after") given.after ++ works_words given.works)

abbrev pub works_given : WorksGiven → Option (List Text)
works_given WorksGiven.no_works = None
works_given (WorksGiven.one_work work) = Some (work ∷ [])
works_given (WorksGiven.two_works work other) = Some (work ∷ other ∷ [])

-- that is one thing, if it is
abbrev pub never_of : NeverGiven → Option Forbidden
never_of given = never_from given.stuck given.after (works_given given.works)

abbrev pub ArePlainWorks : WorksGiven → Type 0
ArePlainWorks WorksGiven.no_works = Unit {0}
ArePlainWorks (WorksGiven.one_work work) = IsPlainWord work
ArePlainWorks (WorksGiven.two_works work other) = IsPlainWord work × IsPlainWord other

abbrev pub IsPlainIfAny : Option Text → Type 0
IsPlainIfAny (Some word) = IsPlainWord word
IsPlainIfAny None = Unit {0}

abbrev pub ArePlainGiven : NeverGiven → Type 0
ArePlainGiven given = IsPlainIfAny given.after × ArePlainWorks given.works

-- The table of the command line: which words behind the program's name ask for what, as the request's own words say it.
pub data IsAskedBy : (given asked : List Text) → Type 0 where
  new : IsAskedBy (codes "new" ∷ []) (codes "new" ∷ [])
  new_file : (file : Text) → IsPlainWord file → IsAskedBy (codes "new" ∷ file ∷ []) (codes "new" ∷ file ∷ [])
  run : (kind : RunKind) (file : Text) → IsFileWord file → IsAskedBy (codes "run" ∷ run_arguments kind file) (codes "run" ∷ run_arguments kind file)
  run_strict : (kind : RunKind) (file : Text) → IsFileWord file
      → IsAskedBy (codes "run" ∷ strict_arguments true kind file) (codes "run" ∷ strict_arguments true kind file)
  settle : (file : Text) → IsFileWord file → IsAskedBy (codes "settle" ∷ file ∷ []) (codes "settle" ∷ file ∷ [])
  list : (file : Text) → IsFileWord file → IsAskedBy (codes "list" ∷ file ∷ []) (codes "list" ∷ file ∷ [])
  asm : (file out : Text) → IsFileWord file → IsPlainWord out → IsAskedBy (codes "asm" ∷ file ∷ out ∷ []) (codes "asm" ∷ file ∷ out ∷ [])
  show : (image : Text) → IsFileWord image → IsAskedBy (codes "show" ∷ image ∷ []) (codes "show" ∷ image ∷ [])
  debug : (goes_on : Bool) (file : Text) → IsPlainWord file → IsAskedBy (codes "debug" ∷ debug_arguments goes_on file) (codes "debug" ∷ debug_arguments goes_on file)
  draw : (goes_on svg : Bool) (span : Span) (file : Text) → IsFileWord file → IsSpan span
      → IsAskedBy (codes "draw" ∷ draw_arguments (spanned goes_on svg span) file) (codes "draw" ∷ draw_arguments (spanned goes_on svg span) file)
  draw_folded : (goes_on svg : Bool) (file : Text) → IsFileWord file
      → IsAskedBy (codes "draw" ∷ draw_arguments (folded goes_on svg) file) (codes "draw" ∷ draw_arguments (folded goes_on svg) file)
  draw_works : (names file : Text) → IsPlainWord names → IsFileWord file
      → IsAskedBy (codes "draw" ∷ draw_arguments (of_works names) file) (codes "draw" ∷ draw_arguments (of_works names) file)
  draw_styled : (scale : Option ℕ) (id : Option Text) (file : Text) → is_styled true scale id ≡ true → IsFileWord file
      → IsAskedBy (codes "draw" ∷ draw_arguments (styled scale id) file) (codes "draw" ∷ draw_arguments (styled scale id) file)
  why_work : (goes_on : Bool) (looks : Looks) (file work : Text) → IsFileWord file → IsPlainWord work → HasShortNumber looks
      → IsAskedBy (codes "why" ∷ work_arguments goes_on looks file work) (codes "why" ∷ work_arguments goes_on looks file work)
  why_flush : (goes_on : Bool) (looks : Looks) (flush : ℕ) (file : Text) → IsFileWord file → IsShortNumber flush → HasShortNumber looks
      → IsAskedBy (codes "why" ∷ flush_arguments goes_on looks flush file) (codes "why" ∷ flush_arguments goes_on looks flush file)
  -- the options may stand behind FILE and WORK
  why_work_first : (looks : Looks) (file work : Text) → IsFileWord file → IsPlainWord work → HasShortNumber looks
      → IsAskedBy (codes "why" ∷ file ∷ work ∷ look_words looks) (codes "why" ∷ work_arguments false looks file work)
  why_flush_first : (looks : Looks) (flush : ℕ) (file : Text) → IsFileWord file → IsShortNumber flush → HasShortNumber looks
      → IsAskedBy (codes "why" ∷ file ∷ codes "--flush" ∷ decimal flush ∷ look_words looks) (codes "why" ∷ flush_arguments false looks flush file)
  times : (asked : Times) (file : Text) → IsFileWord file → IsAskedBy (codes "times" ∷ times_arguments asked file) (codes "times" ∷ times_arguments asked file)
  sweep : (format : Format) (queue : Text) (limits : LimitRange) (file : Text) → IsPlainWord queue → are_limits limits.low limits.high ≡ true → IsFileWord file
      → IsAskedBy (codes "times" ∷ sweep_arguments format queue limits file) (codes "times" ∷ sweep_arguments format queue limits file)
  trace_data : (file out : Text) → IsFileWord file → IsPlainWord out
      → IsAskedBy (codes "trace" ∷ data_arguments file out) (codes "trace" ∷ data_arguments file out)
  trace : (form : TraceForm) (file : Text) → IsFileWord file → IsAskedBy (codes "trace" ∷ trace_arguments form file) (codes "trace" ∷ trace_arguments form file)
  play : (file : Text) (capacity : ℕ) → IsFileWord file → IsCapacity capacity
      → IsAskedBy (codes "play" ∷ file ∷ codes "--capacity" ∷ decimal capacity ∷ []) (codes "play" ∷ file ∷ codes "--capacity" ∷ decimal capacity ∷ [])
  explore : (asked : ExplorationWords) (file : Text) → IsFileWord file → CanBeAsked asked
      → IsAskedBy (codes "explore" ∷ explore_arguments asked file) (codes "explore" ∷ explore_arguments asked file)
  -- without --limit, the usual number of states is looked at
  explore_usual : (never : Forbidden) (before : List Pair) (file : Text) → IsFileWord file → CanBeAsked (usual never before)
      → IsAskedBy (codes "explore" ∷ unlimited_arguments never before file) (codes "explore" ∷ explore_arguments (usual never before) file)
  check : (file : Text) → IsFileWord file → IsAskedBy (codes "check" ∷ file ∷ []) (codes "check" ∷ file ∷ [])
  check_two : (file other : Text) → IsPlainWord file → IsPlainWord other → IsAskedBy (codes "check" ∷ file ∷ other ∷ []) (codes "check" ∷ file ∷ other ∷ [])
  language : IsAskedBy (codes "help" ∷ codes "scenario" ∷ []) (codes "help" ∷ codes "scenario" ∷ [])

-- Words behind the program's name that clap takes, and that ask for nothing.
pub data IsMisusedBy : (given : List Text) → Type 0 where
  of_neither : (file : Text) → IsPlainWord file → IsMisusedBy (codes "why" ∷ file ∷ [])
  of_both : (number file work : Text) → IsValueWord number → IsPlainWord file → IsPlainWord work → IsMisusedBy (codes "why" ∷ codes "--flush" ∷ number ∷ file ∷ work ∷ [])
  of_no_number : (number file : Text) → IsValueWord number → plain_number number ≡ None → IsPlainWord file → IsMisusedBy (codes "why" ∷ codes "--flush" ∷ number ∷ file ∷ [])
  at_both : (number file work : Text) → IsValueWord number → IsPlainWord file → IsPlainWord work
      → IsMisusedBy (codes "why" ∷ codes "--every" ∷ codes "--at" ∷ number ∷ file ∷ work ∷ [])
  at_no_number : (number file work : Text) → IsValueWord number → plain_number number ≡ None → IsPlainWord file → IsPlainWord work
      → IsMisusedBy (codes "why" ∷ codes "--at" ∷ number ∷ file ∷ work ∷ [])
  at_position_and_time : (number time file work : Text) → IsValueWord number → IsValueWord time → IsPlainWord file → IsPlainWord work
      → IsMisusedBy (codes "why" ∷ codes "--at" ∷ number ∷ codes "--time" ∷ time ∷ file ∷ work ∷ [])
  drawn_backwards : (from to : ℕ) (file : Text) → to < from → from < 2 ^ 64 → IsPlainWord file
      → IsMisusedBy (codes "draw" ∷ codes "--from" ∷ decimal from ∷ codes "--to" ∷ decimal to ∷ file ∷ [])
  -- it isn't said what no order may come to, or it isn't one thing
  explore_never : (given : NeverGiven) (file : Text) → IsPlainWord file → ArePlainGiven given → never_of given ≡ None
      → IsMisusedBy (codes "explore" ∷ file ∷ given_words given)
  -- actors wait for each other in a ring
  explore_ring : (never : Forbidden) (before : List Pair) (ring : List Text) (file : Text) → IsPlainWord file → HasPlainNames never → ArePlainPairs before
      → IsRing before ring → IsMisusedBy (codes "explore" ∷ unlimited_arguments never before file)
  -- so many states can't be looked at
  explore_no_limit : (never : Forbidden) (number file : Text) → IsPlainWord file → HasPlainNames never → IsValueWord number → limit_from (Some number) ≡ None
      → IsMisusedBy (codes "explore" ∷ file ∷ (never_words never ++ (codes "--limit" ∷ number ∷ [])))
  -- a trace has one form
  traced_as_nothing : (file : Text) → IsPlainWord file → IsMisusedBy (codes "trace" ∷ file ∷ [])
  traced_as_both : (file : Text) → IsPlainWord file → IsMisusedBy (codes "trace" ∷ codes "--json" ∷ codes "--lines" ∷ file ∷ [])
  traced_as_both_kinds : (form : TraceForm) (file out : Text) → IsPlainWord file → IsPlainWord out
      → IsMisusedBy (codes "trace" ∷ codes "--dat" ∷ out ∷ trace_arguments form file)
  -- no max may have these values
  swept_over_no_limits : (queue word file : Text) → IsPlainWord file → IsPlainWord queue → IsValueWord word → limits_in word ≡ None
      → IsMisusedBy (codes "times" ∷ file ∷ codes "--sweep" ∷ queue ∷ word ∷ [])
  -- it isn't told for whom works wait where runs are swept over
  swept_with_whom : (queue word file : Text) → IsPlainWord file → IsPlainWord queue → IsValueWord word
      → IsMisusedBy (codes "times" ∷ codes "--whom" ∷ file ∷ codes "--sweep" ∷ queue ∷ word ∷ [])
  -- the commands of a debugger come from standard input
  debug_of_input : IsMisusedBy (codes "debug" ∷ codes "-" ∷ [])

-- the answer is the request of these words, unless memory ran out
abbrev pub Asks : List Text → Result Request Error → Type 0
Asks words r = MatchResult r (λ request. request_words request ≡ words) (λ e. kind_of e ≡ OutOfMemory)

-- the answer is a usage fault, unless memory ran out
abbrev pub IsUsageFault : Result Request Error → Type 0
IsUsageFault r = IsErrAnd r (λ e. (kind_of e ≡ ValueValidation) ⊎ (kind_of e ≡ OutOfMemory))

-- the words that ask what a scenario's text may say
abbrev pub asks_for_language : List Text → Bool
asks_for_language (name ∷ help ∷ scenario ∷ []) = bytes_eq help (codes "help") && bytes_eq scenario (codes "scenario")
asks_for_language words = false

-- the words that ask for the version
abbrev pub IsVersionWord : Text → Type 0
IsVersionWord word = (word ≡ codes "--version") ⊎ (word ≡ codes "-V")

-- the answer is to tell the version, unless memory ran out
abbrev pub AsksVersion : Result Request Error → Type 0
AsksVersion r = MatchResult r (λ request. request ≡ Version) (λ e. kind_of e ≡ OutOfMemory)
