use Rattle.cmwq_lines.proofs.reply_lines.ReplyLines.put_words.Goals as goal

pub returns-in-Event-clause-words : goal.returns-in-Event-clause-words
returns-in-Event-clause-words c = rw c.in-Event.is (c.put_work_event.ensures.words c.args.instr)
