use Rattle.std.proofs.Common.{◌⊎◌, Err, List, Option, ap, subst, ℕ, IfSome}
use Rattle.std.proofs.lemmas.Option.{IfSome_then}
use Rattle.std.proofs.lemmas.Result.{err_from_is_err_and}
use Rattle.cmwq_grammar.specs.Grammar.{Spells}
use Rattle.cmwq_play.specs.Commands.{IsOutside}
use Rattle.cmwq_play.specs.PlayTexts.{IsTextFault}
use Rattle.cmwq_command.proofs.CarriedLemmas.{left_played, left_unopened, left_unread}
use Rattle.cmwq_command.proofs.carrying.play_file.Goals as goal

pub returns : goal.returns
returns g c =
    let contents = g.W.Write.contents in
    let scenario = c.in_ok-scenario.scenario in
    record {
      left = IfSome_then (g.F.FileStore.bytes c.args.files.now c.args.file.now) c.in_ok-reader.ensures.bytes
          (λ all known. left_played c.args.capacity all (contents c.args.writer.now) (contents c.play.new.writer) (g.W.Sink.failed c.play.new.writer) scenario c.play.result
          (subst (λ (input : Option (List ℕ)). IfSome input (λ text. Spells text scenario)) known c.in_ok-scenario.ensures.found.spelled)
          c.play.ensures.ok c.play.ensures.full c.play.ensures.tickets c.play.ensures.write c.play.ensures.front c.play.ensures.actors c.play.ensures.silent c.play.ensures.why);
    }

pub returns-in_err-reader : goal.returns-in_err-reader
returns-in_err-reader g c =
    let p = err_from_is_err_and c.from_residual.result c.from_residual.ensures.1 in
    rw (p.1, p.2) record {
      left = left_unopened c.args.capacity (g.F.FileStore.bytes c.args.files.now c.args.file.now) (g.W.Write.contents c.args.writer.now) (g.W.Sink.failed c.args.writer.now) c.in_err-reader.field-0.0 c.requires.writer c.in_err-reader.ensures.why;
    }

pub returns-in_err-scenario : goal.returns-in_err-scenario
returns-in_err-scenario g c =
    let p = err_from_is_err_and c.from_residual-in_err-scenario.result c.from_residual-in_err-scenario.ensures.1 in
    let error = c.in_err-scenario.field-0.0 in
    rw (p.1, p.2) record {
      left = IfSome_then (g.F.FileStore.bytes c.args.files.now c.args.file.now) c.in_ok-reader.ensures.bytes
          (λ all known. left_unread c.args.capacity all (g.W.Write.contents c.args.writer.now) (g.W.Sink.failed c.args.writer.now) error c.requires.writer (λ is. c.in_err-scenario.ensures.no_write (ap Err is)) (subst (λ (input : Option (List ℕ)). IsTextFault input error ⊎ IsOutside error) known c.in_err-scenario.ensures.answers.told));
    }
