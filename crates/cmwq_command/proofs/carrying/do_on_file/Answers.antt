use Rattle.std.proofs.Common.{Option, List, ℕ, inr, subst}
use Rattle.std.proofs.lemmas.Option.{IfSome_then}
use Rattle.cmwq_command.specs.Tasks.{IsGoalOf, IsTaskFault, IsWrittenBy}
use Rattle.cmwq_play.specs.Commands.{Answers, Writes}
use Rattle.cmwq_command.proofs.carrying.do_on_file.Goals as goal

pub returns : goal.returns
returns g c =
    let task = c.args.task in
    record {
      done = IfSome_then (g.F.FileStore.bytes c.args.files.now c.args.file.now) c.in_ok-reader.ensures.bytes
          (λ all known. inr (
            subst (λ (input : Option (List ℕ)). Answers (IsGoalOf task) (IsTaskFault task) input c.do_task.result) known c.do_task.ensures.answers,
            subst (λ (input : Option (List ℕ)). Writes (IsWrittenBy task input) (g.W.Write.contents c.args.writer.now) (g.W.Write.contents c.do_task.new.writer) (g.W.Sink.failed c.do_task.new.writer) c.do_task.result) known c.do_task.ensures.writes,
          ));
    }
