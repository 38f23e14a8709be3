use Rattle.std.proofs.Common.{◌∙◌, List, subst, sym}
use Rattle.std.specs.List.{All}
use Rattle.std.specs.Prelude.{IsTrue}
use Rattle.cmwq_types.specs.Faults.{names_declared}
use Rattle.cmwq_types.specs.declared.instr.Instr.{Instr}
use Rattle.cmwq_interleaving.proofs.HistoryLemmas.{fronts_declared}
use Rattle.cmwq_interleaving.proofs.playing.text_left.Goals as goal

pub played_text-requires-clause-declared : goal.played_text-requires-clause-declared
played_text-requires-clause-declared c =
    subst (λ (instrs : List Instr). All (λ instr. IsTrue (names_declared c.args.scenario.now instr)) instrs) (sym (c.deref.ensures.value ∙ c.in_ok-instrs.ensures))
    (fronts_declared c.args.scenario.now c.args.history.now c.requires.valid c.requires.fronts)
