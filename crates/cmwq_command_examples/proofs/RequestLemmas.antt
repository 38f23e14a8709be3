-- What a request has done with a text of the first scenario.
use Rattle.std.proofs.Common.{◌≡◌, ℕ, Bool, List, [], ◌∷◌, ◌++◌, Option, Some, None, Result, Ok, Err, true, false, arith, refl, sym, ap, ◌∙◌, subst, inl, inr}
use Rattle.std.specs.Io.KnownBytes.{Appends}
use Rattle.std.specs.Prelude.{IfSome, codes}
use Rattle.cmwq_actors.specs.Interleaving.{Interleaves, scripts_of}
use Rattle.cmwq_command.specs.Carried.{HasCarriedOut, HasDebugged, HasDone, HasLeft, HasStarted, HasToldLanguage, OfSpelled, Store, UnlessUnopened, graded}
use Rattle.cmwq_command.specs.Tasks.{IsGoalOf, IsWrittenBy}
use Rattle.cmwq_command_examples.specs.Examples.{LeadsIn, HasFirst, Leads, Path, Puts, PutsNothing, TaskFindsNoFault}
use Rattle.cmwq_command_line.specs.CommandLine.{version_line}
use Rattle.cmwq_debug_lines.specs.declared.manner.Manner.{Manner}
use Rattle.cmwq_debug_session.specs.Told.{IsDebugged}
use Rattle.cmwq_draw.specs.Drawn.{IsDrawing}
use Rattle.cmwq_examples.specs.Declare.{enqueue, times}
use Rattle.cmwq_examples.specs.Rows.{printed}
use Rattle.cmwq_explain.specs.Explained.{AreChanges}
use Rattle.cmwq_grammar.specs.Grammar.{Spells}
use Rattle.cmwq_image.specs.Versions.{IsImageOf}
use Rattle.cmwq_interleaving.specs.Plays.{IsFull, Left}
use Rattle.cmwq_play.specs.Commands.{IsOutside}
use Rattle.cmwq_play.specs.PlayTexts.{ComesTo, IsSpelled}
use Rattle.cmwq_play.specs.Runs.{IsPrinted, IsRunOf}
use Rattle.cmwq_request.specs.declared.request.Request.TheVariants.{Asm, Debug, Do, Language, New, Play, Version}
use Rattle.cmwq_language.specs.Page.{language_page}
use Rattle.cmwq_settle.specs.Settled.{IsSettledIf}
use Rattle.cmwq_settle.specs.Settling.{IsFollowedOutput, IsSettledListing}
use Rattle.cmwq_outcome.specs.Starter.{first_lines, first_scenario}
use Rattle.cmwq_streams.specs.declared.error.PlayError.{PlayError}
use Rattle.cmwq_streams.specs.declared.error.PlayError.TheVariants.{Full, Read}
use Rattle.cmwq_table.specs.Events.{events}
use Rattle.cmwq_drawing.specs.declared.drawing.Drawing.{Drawing}
use Rattle.cmwq_question.specs.declared.question.Inquiry.{Inquiry}
use Rattle.cmwq_tasks.specs.declared.task.RunKind.TheVariants.{Plain, Settled, Told, ToldSettled}
use Rattle.cmwq_tasks.specs.declared.task.Task.{Task}
use Rattle.cmwq_tasks.specs.declared.task.Task.TheVariants as task
use Rattle.cmwq_tell.specs.RunTold.{IsToldIf, tell_text}
use Rattle.cmwq_types.specs.Contents.{ActorContents, ScenarioContents}
use Rattle.cmwq_types.specs.Listing.{listing}
use Rattle.cmwq_types.specs.Scenario.{expand}
use Rattle.cmwq_verdict.specs.declared.looks.Look.{Look}
use Rattle.cmwq_types.specs.declared.instr.Instr.TheVariants as instr

-- a text spells one scenario
abbrev pub OneScenario : Type 0
OneScenario = (text : List ℕ) (S T : ScenarioContents) → Spells text S → Spells text T → S ≡ T

of-first : {A : Type 0} (Gives : ScenarioContents → A → Type 0) → OneScenario → (bytes : List ℕ) → Spells bytes first_scenario → (x : A)
    → ComesTo Gives (Some bytes) x → Gives first_scenario x
of-first Gives one bytes spells x comes =
    subst (λ (S : ScenarioContents). Gives S x) (one bytes comes.0 first_scenario comes.1.spelled spells) comes.2

not-both : {X E : Type 0} (r : Result X E) (x : X) (e : E) → r ≡ Ok x → r ≡ Err e → ⊥
not-both r x e well ill = cc

-- a result of which this holds, which ended well
ended-well : (fact : Result (Unit {0}) PlayError → Type 0) (outcome : Result (Unit {0}) PlayError) → Ok 0 ≡ graded outcome → fact outcome → fact (Ok tt)
ended-well fact (Ok done) ends holds = holds
ended-well fact (Err e) ends holds = absurd (not-both (Ok 0) 0 e refl ends)

-- or ended so
ended-so : (fact : Result (Unit {0}) PlayError → Type 0) (error : PlayError) (outcome : Result (Unit {0}) PlayError) → Err error ≡ graded outcome → fact outcome → fact (Err error)
ended-so fact error (Ok done) ends holds = absurd (not-both (Err error) 0 error ends refl)
ended-so fact error (Err e) ends holds = (let same : e ≡ error = cc in subst (λ (x : PlayError). fact (Err x)) same holds)

-- A task that ended well has put on the output what it is to write.
done-puts : (t : Task) (bytes : List ℕ) (output output_now : Option (List ℕ)) (failed : Bool)
    → UnlessUnopened output output_now (Ok tt) (HasDone t bytes output output_now failed (Ok tt))
    → (text : List ℕ) × IsWrittenBy t (Some bytes) text × Appends output output_now text
done-puts t bytes output output_now failed (inl unopened) = absurd (not-both (Ok tt) tt Read refl unopened.0)
done-puts t bytes output output_now failed (inr done) = done.1.wrote

pub task-puts : (store : Store) (file : Path) (t : Task) (bytes : List ℕ) (fact : List ℕ → Type 0) → store file.now ≡ Some bytes
    → ((text : List ℕ) → IsWrittenBy t (Some bytes) text → fact text) → Puts store (Do file t) fact
task-puts store file t bytes fact has gives manner look logic input output output_now errors errors_now failed carried =
    let so = λ (outcome : Result (Unit {0}) PlayError). IfSome (store file.now) (λ (known : List ℕ). UnlessUnopened output output_now outcome (HasDone t known output output_now failed outcome)) in
    let well : so (Ok tt) = ended-well so carried.1.0 carried.1.1 carried.1.2 in
    let done : UnlessUnopened output output_now (Ok tt) (HasDone t bytes output output_now failed (Ok tt)) =
    subst (λ (known : Option (List ℕ)). IfSome known (λ (b : List ℕ). UnlessUnopened output output_now (Ok tt) (HasDone t b output output_now failed (Ok tt)))) has well in
    let put = done-puts t bytes output output_now failed done in
    (carried.0, (put.0, gives put.0 put.1, put.2))

-- a task whose text comes from the scenario that is spelled
of_text : (store : Store) (file : Path) (t : Task) (Gives : ScenarioContents → List ℕ → Type 0) → OneScenario
    → ((bytes text : List ℕ) → IsWrittenBy t (Some bytes) text → ComesTo Gives (Some bytes) text) → HasFirst store file
    → Puts store (Do file t) (λ text. Gives first_scenario text)
of_text store file t Gives one is first =
    task-puts store file t first.0 (λ text. Gives first_scenario text) first.1 (λ text written. of-first Gives one first.0 first.2 text (is first.0 text written))

first-actor : (actor other : ActorContents) → actor ∷ [] ≡ other ∷ [] → actor ≡ other
first-actor actor other e = cc

appended-none : (text : List ℕ) → text ++ [] ≡ text
appended-none [] = refl
appended-none (byte ∷ text) = ap (λ (rest : List ℕ). byte ∷ rest) (appended-none text)

printed-first : printed first_scenario ≡ first_lines → (text : List ℕ) → IsPrinted first_scenario text → text ≡ first_lines
printed-first lines text is =
    let same = first-actor _ is.0 is.1.alone in
    is.2 ∙ (ap (λ (actor : ActorContents). events first_scenario (expand actor)) (sym same) ∙ (sym (appended-none _) ∙ lines))

pub run-puts : OneScenario → printed first_scenario ≡ first_lines → (store : Store) (file : Path) → HasFirst store file
    → Puts store (Do file (task.Run Plain)) (λ text. text ≡ first_lines)
run-puts one lines store file first =
    task-puts store file (task.Run Plain) first.0 (λ text. text ≡ first_lines) first.1
    (λ text written. printed-first lines text (of-first IsPrinted one first.0 first.2 text written))

module _ (one : OneScenario) (store : Store) (file : Path) (first : HasFirst store file) where
  pub settled-puts : Puts store (Do file (task.Run Settled)) (λ text. IsFollowedOutput first_scenario text)
  settled-puts = of_text store file (task.Run Settled) IsFollowedOutput one (λ bytes text written. written) first

  pub told-puts : Puts store (Do file (task.Run Told)) (λ text. IsToldIf false first_scenario text)
  told-puts = of_text store file (task.Run Told) (IsToldIf false) one (λ bytes text written. written) first

  pub both-puts : Puts store (Do file (task.Run ToldSettled)) (λ text. IsToldIf true first_scenario text)
  both-puts = of_text store file (task.Run ToldSettled) (IsToldIf true) one (λ bytes text written. written) first

  pub settle-puts : Puts store (Do file task.Settle) (λ text. IsSettledListing first_scenario text)
  settle-puts = of_text store file task.Settle IsSettledListing one (λ bytes text written. written) first

  pub list-puts : Puts store (Do file task.List) (λ text. text ≡ listing first_scenario)
  list-puts = of_text store file task.List (λ S text. text ≡ listing S) one (λ bytes text written. written) first

  pub draw-puts : (drawing : Drawing) → Puts store (Do file (task.Draw drawing)) (λ text. IsDrawing drawing first_scenario text)
  draw-puts drawing = of_text store file (task.Draw drawing) (IsDrawing drawing) one (λ bytes text written. written) first

  pub why-puts : (inquiry : Inquiry) → Puts store (Do file (task.Why inquiry)) (λ text. AreChanges inquiry first_scenario text)
  why-puts inquiry = of_text store file (task.Why inquiry) (AreChanges inquiry) one (λ bytes text written. written) first

  -- A debugger, and a play.

  of_spelled : (bytes : List ℕ) (fact : ScenarioContents → Type 0) → Spells bytes first_scenario → OfSpelled bytes fact → fact first_scenario
  of_spelled bytes fact spells holds = subst fact (one bytes holds.0 first_scenario holds.1 spells) holds.2

  pub debug-leads : (manner : Manner) (settle : Bool) → LeadsIn manner store (Debug file settle) (Ok 0)
      (λ input output output_now errors errors_now. (errors_now ≡ errors)
      × ((T : ScenarioContents) × IsSettledIf settle first_scenario T × IsDebugged manner input output output_now T))
  debug-leads manner settle look logic input output output_now errors errors_now failed carried =
      let so = λ (outcome : Result (Unit {0}) PlayError). IfSome (store file.now) (λ (known : List ℕ). HasDebugged manner settle known input output output_now failed outcome) in
      let well : so (Ok tt) = ended-well so carried.1.0 carried.1.1 carried.1.2 in
      let said : HasDebugged manner settle first.0 input output output_now failed (Ok tt) =
      subst (λ (known : Option (List ℕ)). IfSome known (λ (b : List ℕ). HasDebugged manner settle b input output output_now failed (Ok tt))) first.1 well in
      (carried.0, of_spelled first.0 (λ S. (T : ScenarioContents) × IsSettledIf settle S T × IsDebugged manner input output output_now T) first.2 said.told)

  play-left : (capacity : ℕ) (output output_now : Option (List ℕ)) (failed : Bool) (r : Result (Unit {0}) PlayError)
      → IfSome (store file.now) (λ (known : List ℕ). HasLeft capacity known output output_now failed r) → HasLeft capacity first.0 output output_now failed r
  play-left capacity output output_now failed r left =
      subst (λ (known : Option (List ℕ)). IfSome known (λ (b : List ℕ). HasLeft capacity b output output_now failed r)) first.1 left

  pub play-leads : (capacity : ℕ)
      → Leads store (Play file capacity) (Ok 0)
      (λ input output output_now errors errors_now. (errors_now ≡ errors) × Left first_scenario (λ history. Interleaves (scripts_of first_scenario) history) output output_now)
  play-leads capacity manner look logic input output output_now errors errors_now failed carried =
      let so = λ (outcome : Result (Unit {0}) PlayError). IfSome (store file.now) (λ (known : List ℕ). HasLeft capacity known output output_now failed outcome) in
      let left = play-left capacity output output_now failed (Ok tt) (ended-well so carried.1.0 carried.1.1 carried.1.2) in
      (carried.0, of_spelled first.0 (λ S. Left S (λ history. Interleaves (scripts_of S) history) output output_now) first.2 left.all)

  pub full-leads : (capacity : ℕ)
      → Leads store (Play file capacity) (Err Full)
      (λ input output output_now errors errors_now. (errors_now ≡ errors) × Left first_scenario (λ history. IsFull first_scenario capacity history) output output_now)
  full-leads capacity manner look logic input output output_now errors errors_now failed carried =
      let so = λ (outcome : Result (Unit {0}) PlayError). IfSome (store file.now) (λ (known : List ℕ). HasLeft capacity known output output_now failed outcome) in
      let left = play-left capacity output output_now failed (Err Full) (ended-so so Full carried.1.0 carried.1.1 carried.1.2) in
      (carried.0, of_spelled first.0 (λ S. Left S (λ history. IsFull S capacity history) output output_now) first.2 (left.full refl))

pub show_puts : (store : Store) (file : Path) (bytes : List ℕ) → store file.now ≡ Some bytes
    → Puts store (Do file task.Show) (λ text. (S : ScenarioContents) × IsImageOf bytes S × (text ≡ listing S))
show_puts store file bytes has =
    task-puts store file task.Show bytes (λ text. (S : ScenarioContents) × IsImageOf bytes S × (text ≡ listing S)) has
    (λ text shown. (shown.0, shown.1.image, shown.2))

-- A good text.

read-outside : (error : PlayError) (r : Result (Unit {0}) PlayError) → r ≡ Err error → r ≡ Err Read → IsOutside error
read-outside error r is unread = let same : Read ≡ error = cc in subst IsOutside same tt

outside-of : (t : Task) (bytes x : List ℕ) (output output_now : Option (List ℕ)) (failed : Bool) (error : PlayError) → IsGoalOf t (Some bytes) x
    → UnlessUnopened output output_now (Err error) (HasDone t bytes output output_now failed (Err error)) → IsOutside error
outside-of t bytes x output output_now failed error goal (inl unopened) = read-outside error (Err error) refl unopened.0
outside-of t bytes x output output_now failed error goal (inr done) = done.0.given x goal

pub fault-outside : (store : Store) (file : Path) (t : Task) (bytes x : List ℕ) (error : PlayError) → store file.now ≡ Some bytes → IsGoalOf t (Some bytes) x
    → Leads store (Do file t) (Err error) (λ input output output_now errors errors_now. IsOutside error)
fault-outside store file t bytes x error has goal manner look logic input output output_now errors errors_now failed carried =
    let so = λ (outcome : Result (Unit {0}) PlayError). IfSome (store file.now) (λ (known : List ℕ). UnlessUnopened output output_now outcome (HasDone t known output output_now failed outcome)) in
    let ended : so (Err error) = ended-so so error carried.1.0 carried.1.1 carried.1.2 in
    let done : UnlessUnopened output output_now (Err error) (HasDone t bytes output output_now failed (Err error)) =
    subst (λ (known : Option (List ℕ)). IfSome known (λ (b : List ℕ). UnlessUnopened output output_now (Err error) (HasDone t b output output_now failed (Err error)))) has ended in
    outside-of t bytes x output output_now failed error goal done

me : ActorContents
me = record { name = codes "me"; lines = enqueue 0 0 ∷ enqueue 1 0 ∷ times instr.Quiet 100 ∷ [] }

first-runs : IsRunOf first_scenario me
unfolding me
first-runs = record { alone = refl; few = omega arith }

spelled-first : (bytes : List ℕ) → Spells bytes first_scenario → IsSpelled (Some bytes) first_scenario
spelled-first bytes spells = record { valid = spells.is_text.valid; spelled = spells }

pub run-outside : TaskFindsNoFault (task.Run Plain)
run-outside store file error first =
    fault-outside store file (task.Run Plain) first.0 (events first_scenario (expand me)) error first.1
    (first_scenario, spelled-first first.0 first.2, (me, first-runs, refl))

pub told-outside : TaskFindsNoFault (task.Run Told)
told-outside store file error first =
    fault-outside store file (task.Run Told) first.0 (tell_text first_scenario (expand me)) error first.1
    (first_scenario, spelled-first first.0 first.2, (first_scenario, (refl, (me, first-runs)), (me, first-runs, refl)))

pub list-outside : TaskFindsNoFault task.List
list-outside store file error first =
    fault-outside store file task.List first.0 (listing first_scenario) error first.1 (first_scenario, spelled-first first.0 first.2, refl)

-- What goes elsewhere.

pub new_puts : (store : Store) → Puts store (New None) (λ text. Spells text first_scenario)
new_puts store manner look logic input output output_now errors errors_now failed carried =
    (carried.0, (ended-well (λ outcome. HasStarted output output_now failed outcome) carried.1.0 carried.1.1 carried.1.2).0)

pub language_puts : (store : Store) → Puts store Language (λ text. text ≡ language_page)
language_puts store manner look logic input output output_now errors errors_now failed carried =
    (carried.0, (language_page, refl, (ended-well (λ outcome. HasToldLanguage output output_now failed outcome) carried.1.0 carried.1.1 carried.1.2).0))

pub version_puts : (store : Store) (look : Look) (manner : Manner) (logic : List ℕ) (input output output_now errors errors_now : Option (List ℕ)) (failed : Bool)
    → HasCarriedOut store look manner logic input output output_now errors errors_now failed Version (Ok 0)
    → (errors_now ≡ errors) × Appends output output_now (version_line logic)
version_puts store look manner logic input output output_now errors errors_now failed carried = (carried.0, carried.1.1)

pub new_file_puts : (store : Store) (file : Path) → PutsNothing store (New (Some file))
new_file_puts store file manner look logic input output output_now errors errors_now failed carried = (carried.1, carried.0)

pub asm_puts : (store : Store) (file out : Path) → PutsNothing store (Asm file out)
asm_puts store file out manner look logic input output output_now errors errors_now failed carried = (carried.1, carried.0)
