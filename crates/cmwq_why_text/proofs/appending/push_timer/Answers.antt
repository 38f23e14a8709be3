use Rattle.cmwq_why_text.proofs.appending.push_timer.Goals as goal

pub returns : goal.returns
returns c = c.in_ok-write.ensures.bytes
