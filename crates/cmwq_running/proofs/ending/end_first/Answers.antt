use Rattle.std.proofs.Common.{sym, ◌∙◌}
use Rattle.cmwq_phased.specs.Runs.{first_to_end}
use Rattle.cmwq_running.proofs.EndLemmas.{all_timely, first_by, none_by}
use Rattle.cmwq_running.proofs.ending.end_first.Goals as goal

pub returns-in-None-clause-timely : goal.returns-in-None-clause-timely
returns-in-None-clause-timely c is =
    all_timely c.args.time c.args.works.now.runs c.requires.on_time
    (none_by c.args.works.now.scenario c.args.works.now.runs c.requires.headed.long c.args.time (sym c.first_to_end_by.ensures.first ∙ c.in-None.is))

pub end_at-requires-clause-first : goal.end_at-requires-clause-first
end_at-requires-clause-first c =
    first_by c.args.works.now.runs c.args.time (first_to_end c.args.works.now.scenario c.args.works.now.runs) c.in-Some.w (sym c.first_to_end_by.ensures.first ∙ c.in-Some.is)
