use Rattle.cmwq_command.proofs.standard_input.reads_input.Goals as goal

pub returns-in-Ok-clause-reads : goal.returns-in-Ok-clause-reads
returns-in-Ok-clause-reads c = λ name given asked words by. (c.in-Ok.request, c.in-Ok.ensures.asks name given asked words by, c.names_input.ensures)
