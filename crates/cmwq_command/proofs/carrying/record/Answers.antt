use Rattle.std.proofs.Common.{List, Option, subst, ℕ}
use Rattle.std.proofs.lemmas.Option.{IfSome_then}
use Rattle.cmwq_kernel_trace.specs.DataTrace.{dat_of_run}
use Rattle.cmwq_play.specs.Framing.{IsTextOfRun}
use Rattle.cmwq_play.specs.Commands.{Answers}
use Rattle.cmwq_play.specs.PlayTexts.{IsRunFault}
use Rattle.cmwq_command.proofs.carrying.record.Goals as goal

pub returns : goal.returns
returns g c = record {
  answers = IfSome_then (g.F.FileStore.bytes c.args.files.now c.args.file.now) c.in_ok-reader.ensures.bytes
      (λ all known. subst (λ (input : Option (List ℕ)). Answers (IsTextOfRun dat_of_run) IsRunFault input c.trace_dat.result) known c.trace_dat.ensures.answers);
}
