-- A refused instruction and a question hide nothing, since they change nothing, and nothing starts.
use Rattle.std.proofs.Common.{◌≡◌, Bool, true, false, Option, None, Some, refl, ap}
use Rattle.cmwq_types.specs.Contents.{ScenarioContents}
use Rattle.cmwq_types.specs.declared.instr.Instr.{Instr}
use Rattle.cmwq_types.specs.declared.instr.Instr.TheVariants as instr
use Rattle.cmwq_types.specs.declared.reply.Refusal.{Refusal}
use Rattle.cmwq_types.specs.declared.reply.Reply.{Reply}
use Rattle.cmwq_table.specs.Counts.{is_busy, is_done}
use Rattle.cmwq_table.specs.Laws.{AtEveryInstruction, ChangesNothingAsked, ChangesNothingRefused, reply_to, state_after}
use Rattle.cmwq_table.specs.State.{State}
use Rattle.cmwq_table.specs.Table.{answer, effect, is_question, refusal, run, table, target_at, yes_or_no}
use Rattle.cmwq_tell.specs.Hidden.{start_told}
use Rattle.cmwq_tell.specs.Laws.{HidesNothingAsked, HidesNothingRefused}
use Rattle.cmwq_tell.proofs.BelowLemmas.{hidden-same, run-below}

-- an answer to a question tells of no start
answered : (t : State) (b : Bool) → start_told t (yes_or_no b) ≡ None
answered t true = refl
answered t false = refl

module _ (S : ScenarioContents) (s t : State) where
  asked-if : (i : Instr) (o : Option Refusal) → start_told t (effect S s i).1 ≡ None → start_told t (answer S s i o (effect S s i)).1 ≡ None
  asked-if i (Some why) silent = refl
  asked-if i None silent = silent

  asked-effect : (i : Instr) → is_question i ≡ true → start_told t (effect S s i).1 ≡ None
  asked-effect (instr.Ask flush) is = answered t (is_done S s (target_at s flush))
  asked-effect instr.Busy is = answered t (is_busy S s)
  asked-effect (instr.State w) is = refl
  asked-effect _ is = cc

  asked-unstarted : (i : Instr) → is_question i ≡ true → start_told t (table S s i).1 ≡ None
  unfolding table
  asked-unstarted i is = asked-if i (refusal S s i) (asked-effect i is)

pub refused-hides : AtEveryInstruction ChangesNothingRefused → AtEveryInstruction HidesNothingRefused
unfolding ChangesNothingRefused HidesNothingRefused
refused-hides law S valid instrs i = λ why refused.
    let s = run S instrs in
    let t = state_after S s i in
    hidden-same s t (reply_to S s i) (run-below S instrs) (law S valid instrs i why refused) (ap (λ (r : Reply). start_told t r) refused)

pub asked-hides : AtEveryInstruction ChangesNothingAsked → AtEveryInstruction HidesNothingAsked
unfolding ChangesNothingAsked HidesNothingAsked
asked-hides law S valid instrs i = λ asked.
    let s = run S instrs in
    let t = state_after S s i in
    hidden-same s t (reply_to S s i) (run-below S instrs) (law S valid instrs i asked) (asked-unstarted S s t i asked)
