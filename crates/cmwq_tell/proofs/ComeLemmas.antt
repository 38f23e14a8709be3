-- What has come changes nothing, and is told by its line alone; and parts are joined only where both have come.
use Rattle.std.proofs.Common.{◌≡◌, ◌&&◌, true, List, [], ◌++◌, Option, Some, None, append-nil, refl, ap, ◌∙◌}
use Rattle.std.proofs.lemmas.Bool.{and_parts}
use Rattle.std.specs.Prelude.{is_none}
use Rattle.cmwq_types.specs.Contents.{ScenarioContents}
use Rattle.cmwq_types.specs.contracts.instr.InstrPartialEq.TheImpl as instr_eq
use Rattle.cmwq_types.specs.declared.instr.Instr.{Instr}
use Rattle.cmwq_types.specs.declared.reply.Refusal.{Refusal}
use Rattle.cmwq_types.specs.declared.reply.Reply.TheVariants as reply
use Rattle.cmwq_table.proofs.GoingLemmas.{table-met}
use Rattle.cmwq_table.specs.Events.{reply_line}
use Rattle.cmwq_table.specs.Laws.{AtEveryInstruction}
use Rattle.cmwq_table.specs.State.{State}
use Rattle.cmwq_table.specs.Table.{is_met, operands, run, table}
use Rattle.cmwq_tell.specs.declared.change.Change.{Change}
use Rattle.cmwq_tell.specs.Laws.{HasItsLineAlone}
use Rattle.cmwq_tell.specs.RunTold.{Part, change_lines, has_come, instr_line, joins, told_wholly}
use Rattle.cmwq_tell.proofs.BelowLemmas.{nothing-hidden, run-below}

none-is : (o : Option Refusal) → is_none o ≡ true → o ≡ None
none-is None e = refl
none-is (Some why) e = cc

pub come-done : (S : ScenarioContents) (s : State) (i : Instr) → has_come S s i ≡ true → table S s i ≡ (s, reply.Done)
come-done S s i come =
    let both = and_parts (is_met S s i) (is_none (operands S s i)) come in
    table-met S s i (none-is (operands S s i) both.1) both.0

pub joins-come : (part next : Part) → joins part next ≡ true → (part.come ≡ true) × (next.come ≡ true)
joins-come part next j =
    let outer = and_parts (part.come && next.come) (instr_eq.ghosts.eq part.instr next.instr) j in
    and_parts part.come next.come outer.0

pub come_alone : AtEveryInstruction HasItsLineAlone
unfolding HasItsLineAlone reply_line
come_alone S valid instrs i k come =
    let s = run S instrs in
    ap (told_wholly S k s i) (come-done S s i come)
    ∙ ap (λ (changes : List Change). (instr_line S k i ++ []) ++ change_lines S changes) (nothing-hidden s reply.Done (run-below S instrs) refl)
    ∙ append-nil (instr_line S k i ++ []) ∙ append-nil (instr_line S k i)
