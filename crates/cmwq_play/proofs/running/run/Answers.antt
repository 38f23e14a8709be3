use Rattle.cmwq_table.specs.Events.{events}
use Rattle.cmwq_table.specs.State.{start}
use Rattle.cmwq_play.proofs.RunLemmas.{replies-told, run_answers, run_writes}
use Rattle.cmwq_play.proofs.running.run.Goals as goal

pub returns-clause-answers : goal.returns-clause-answers
returns-clause-answers g c = run_answers _ _ _ events (λ S instrs. replies-told _ S (start S) instrs) (g.R.Read.remaining c.args.reader.now) c.tell_run.result c.tell_run.ensures.answers

pub returns-clause-writes : goal.returns-clause-writes
returns-clause-writes g c = run_writes _ _ _ events (λ S instrs. replies-told _ S (start S) instrs) (g.R.Read.remaining c.args.reader.now) _ _ _ c.tell_run.result c.tell_run.ensures.writes
