use Rattle.std.proofs.lemmas.List.Elements.{All-pop}
use Rattle.cmwq_engine.specs.Shared.{IsPassOf}
use Rattle.cmwq_tests.proofs.filling.check_caller_64.Goals as goal

pub retire_all-requires-clause-passes : goal.retire_all-requires-clause-passes
retire_all-requires-clause-passes g c =
    (All-pop (IsPassOf c.opened-shared.result.0) c.more_passes-passes.result.items _ c.pop.result c.pop.ensures.items c.more_passes-passes.ensures.passes).0
