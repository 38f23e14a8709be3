use Rattle.cmwq_lines.proofs.PutLemmas.{puts_then}
use Rattle.cmwq_lines.proofs.reply_lines.put_refusal.Goals as goal

pub returns-in-AlreadyFrozen : goal.returns-in-AlreadyFrozen
returns-in-AlreadyFrozen c = rw c.in-AlreadyFrozen.is (puts_then _ _ _ _ _ _ _ _ c.put_text-at.ensures c.put_text-in-AlreadyFrozen.ensures)
