-- A command more, and an argument more.
use Rattle.std.proofs.Common.{◌≡◌, ◌∙◌, ◌||◌, Bool, Err, IfOk, None, Ok, Option, Result, Some, ap, subst, ℕ}
use Rattle.std.proofs.lemmas.Result.{IfOk-weaker}
use Rattle.clap.specs.Words.{AddsArg, App, Rule, Text, app_of, rule_of, shape_of, with_rule, with_subcommand}
use Rattle.clap.specs.declared.builder.arg.Arg.{Arg}
use Rattle.clap.specs.declared.builder.command.Command.{Command}
use Rattle.cmwq_command_line.specs.CommandLine.{IsArgument, IsCommand, IsMisusable, WithMore, several_rule}

pub joined : {E : Type 0} (old new : Command) (sub : Result Command E) (before more : App) → WithMore old sub new → app_of old ≡ before
    → IfOk sub (IsCommand more) → app_of new ≡ with_subcommand before more.top
unfolding WithMore
joined old new (Ok one) before more adds program command =
    adds.shape command.1
    ∙ ap (λ (app : App). with_subcommand app (shape_of one)) program
    ∙ ap (λ (app : App). with_subcommand before app.top) command.0
joined old new (Err _) before more adds program command = elim adds [ ]

-- the same, where there may be no memory for it
pub joined_last : {E F : Type 0} (old : Command) (sub : Result Command E) (before more : App) (result : Result Command F)
    → IfOk result (λ new. WithMore old sub new) → app_of old ≡ before → IfOk sub (IsCommand more)
    → IfOk result (λ new. app_of new ≡ with_subcommand before more.top)
joined_last old sub before more result added program command =
    IfOk-weaker result (λ new. WithMore old sub new) (λ new. app_of new ≡ with_subcommand before more.top)
    (λ new adds. joined old new sub before more adds program command) added

-- an argument with this change
pub changed : (old new : Arg) (rule : Rule) (change : Rule → Rule) → IsArgument rule old → rule_of new ≡ change (rule_of old) → new.global ≡ old.global
    → IsArgument (change rule) new
changed old new rule change argument same global = (same ∙ ap change argument.0, global ∙ argument.1)

-- an argument with so many values
pub spanning : (arg : Arg) (id name : Text) (start end least most : ℕ) → start ≡ least → end ≡ most → IsArgument (several_rule id name start end) arg
    → IsArgument (several_rule id name least most) arg
spanning arg id name start end least most begins ends argument = (
  argument.0 ∙ ap (λ (n : ℕ). several_rule id name n end) begins ∙ ap (λ (n : ℕ). several_rule id name least n) ends,
  argument.1,
)

pub given : (old new : Command) (arg : Arg) (before : App) (rule : Rule) → AddsArg old arg new → IsCommand before old → IsArgument rule arg
    → IsCommand (with_rule before rule) new
given old new arg before rule adds command argument = (
  adds.shape argument.1
      ∙ ap (λ (app : App). with_rule app (rule_of arg)) command.0
      ∙ ap (λ (one : Rule). with_rule before one) argument.0,
  adds.globals ∙ ap (λ (has : Bool). has || arg.global) command.1 ∙ argument.1,
)

-- the same, where there may be no memory for it
pub given_last : {E : Type 0} (old : Command) (arg : Arg) (before : App) (rule : Rule) (result : Result Command E) → IfOk result (λ new. AddsArg old arg new)
    → IsCommand before old → IsArgument rule arg → IfOk result (λ new. IsCommand (with_rule before rule) new)
given_last old arg before rule result added command argument =
    IfOk-weaker result (λ new. AddsArg old arg new) (λ new. IsCommand (with_rule before rule) new) (λ new adds. given old new arg before rule adds command argument) added

-- a command that was found is the one of its name
pub named : {E : Type 0} (known : Option App) (found : Option (Result Command E)) (made : Result Command E) (command : Command) → IsMisusable known found
    → found ≡ Some made → made ≡ Ok command → Some (app_of command) ≡ known
named {E} (Some app) (Some one) made command is there ok =
    let same : one ≡ Ok command = cc in
    ap Some (subst (λ (r : Result Command E). IfOk r (IsCommand app)) same is).0
named (Some app) None made command is there ok = elim is [ ]
named None (Some one) made command is there ok = elim is [ ]
named None None made command is there ok = cc
