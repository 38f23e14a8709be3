use Rattle.std.proofs.Common.{refl, sym, ap, ◌∙◌, subst}
use Rattle.cmwq_types.specs.declared.instr.Instr.TheVariants.{Cancel, Delay, Queue}
use Rattle.cmwq_types.specs.declared.reply.Reply.TheVariants.{Already, NotPending, Refused}
use Rattle.cmwq_table.specs.Ready.{Loaded}
use Rattle.cmwq_table.specs.Repeats.{HasRepeated}
use Rattle.cmwq_table.specs.State.{State}
use Rattle.cmwq_table.proofs.RepeatLemmas.{cancel_repeats, delay_repeats, question_repeats, queue_repeats, refusal_repeats}
use Rattle.cmwq_exec.proofs.RepeatedLemmas.{met-again, repeated-as}
use Rattle.cmwq_exec.proofs.repeating.again.Goals as goal

pub returns-then-is_question-clause-repeated : goal.returns-then-is_question-clause-repeated
returns-then-is_question-clause-repeated g c =
    let going = c.args.going.now in
    question_repeats going.scenario going.state c.args.instr c.args.reply c.args.most c.requires.answered (sym c.is_question.ensures ∙ c.if-is_question.true)

pub returns-in-Refused-clause-repeated : goal.returns-in-Refused-clause-repeated
returns-in-Refused-clause-repeated g c =
    let going = c.args.going.now in
    let i = c.args.instr in
    let why = c.in-Refused._why in
    repeated-as going.scenario going.state going.state i i c.args.reply (Refused why) c.args.most c.args.most refl c.in-Refused.is c.requires.answered
    (refusal_repeats going.scenario going.state i why c.args.most)

pub returns-in-Queue-clause-repeated : goal.returns-in-Queue-clause-repeated
returns-in-Queue-clause-repeated g c =
    let going = c.args.going.now in
    let w = c.in-Queue._work in
    let cpu = c.in-Queue._cpu in
    let count = c.spend_again.result in
    let done = c.spend_again.ensures in
    subst (λ (after : State). HasRepeated going.scenario going.state c.args.instr c.args.reply c.args.most count after) (sym (ap (λ (m : Loaded). m.state) done.spent))
    (repeated-as going.scenario going.state _ c.args.instr (Queue w cpu) c.args.reply Already c.args.most count c.in-Queue.is c.in-Already.is c.requires.answered
    (λ answered. queue_repeats going.scenario going.state w cpu c.args.most count answered done.few done.left))

pub returns-in-Delay-clause-repeated : goal.returns-in-Delay-clause-repeated
returns-in-Delay-clause-repeated g c =
    let going = c.args.going.now in
    let w = c.in-Delay._work in
    let cpu = c.in-Delay._cpu in
    let ticks = c.in-Delay._ticks in
    let count = c.spend_again-in-Delay.result in
    let done = c.spend_again-in-Delay.ensures in
    subst (λ (after : State). HasRepeated going.scenario going.state c.args.instr c.args.reply c.args.most count after) (sym (ap (λ (m : Loaded). m.state) done.spent))
    (repeated-as going.scenario going.state _ c.args.instr (Delay w cpu ticks) c.args.reply Already c.args.most count c.in-Delay.is c.in-Already.is c.requires.answered
    (λ answered. delay_repeats going.scenario going.state w cpu ticks c.args.most count answered done.few done.left))

pub returns-in-Cancel-clause-repeated : goal.returns-in-Cancel-clause-repeated
returns-in-Cancel-clause-repeated g c =
    let going = c.args.going.now in
    let w = c.in-Cancel._work in
    let count = c.spend_again-in-Cancel.result in
    let done = c.spend_again-in-Cancel.ensures in
    subst (λ (after : State). HasRepeated going.scenario going.state c.args.instr c.args.reply c.args.most count after) (sym (ap (λ (m : Loaded). m.state) done.spent))
    (repeated-as going.scenario going.state _ c.args.instr (Cancel w) c.args.reply NotPending c.args.most count c.in-Cancel.is c.in-NotPending.is c.requires.answered
    (λ answered. cancel_repeats going.scenario going.state w c.args.most count answered done.few done.left))

pub returns-in-Done-clause-repeated : goal.returns-in-Done-clause-repeated
returns-in-Done-clause-repeated g c =
    let going = c.args.going.now in
    met-again going.scenario going.state c.args.instr c.args.reply c.args.most (sym c.has_come.ensures ∙ c.if-has_come.true) c.in-Done.is
