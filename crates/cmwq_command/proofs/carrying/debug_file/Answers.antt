use Rattle.std.proofs.Common.{◌≡◌, ◌⊎◌, rules, Err, List, Option, ap, subst, ℕ}
use Rattle.std.proofs.lemmas.Option.{IfSome_then}
use Rattle.std.proofs.lemmas.Result.{err_from_is_err_and}
use Rattle.cmwq_play.specs.Commands.{IsOutside}
use Rattle.cmwq_play.specs.PlayTexts.{IsSpelled, IsTextFault}
use Rattle.cmwq_command.specs.Carried.{HasDebugged}
use Rattle.cmwq_command.proofs.CarriedLemmas.{debugged_read, debugged_unopened, debugged_unread, debugged_unsettled}
use Rattle.cmwq_command.proofs.carrying.debug_file.Goals as goal

pub returns : goal.returns
returns g c =
    let contents = g.W.Write.contents in
    let scenario = c.in_ok-scenario.scenario in
    let lent : g.I.Read.remaining c.new-commands.result.inner ≡ g.I.Read.remaining c.args.input = search rules in
    record {
      debugged = IfSome_then (g.F.FileStore.bytes c.args.files.now c.args.file.now) c.in_ok-reader.ensures.bytes
          (λ all known. subst (λ (input : Option (List ℕ)). HasDebugged c.args.manner c.args.settle all input (contents c.args.writer.now) (contents c.debug.new.writer) (g.W.Sink.failed c.debug.new.writer) c.debug.result) lent
          (debugged_read c.args.manner c.args.settle all (g.I.Read.remaining c.new-commands.result.inner) (contents c.args.writer.now) (contents c.debug.new.writer) (g.W.Sink.failed c.debug.new.writer) scenario c.in_ok-run.run' c.debug.result
          (subst (λ (input : Option (List ℕ)). IsSpelled input scenario) known c.in_ok-scenario.ensures.found)
          c.in_ok-run.ensures.settled c.in_ok-run.ensures.can c.debug.ensures.told c.debug.ensures.front c.debug.ensures.write c.debug.ensures.too_long c.debug.ensures.refused));
    }

pub returns-in_err-reader : goal.returns-in_err-reader
returns-in_err-reader g c =
    let p = err_from_is_err_and c.from_residual.result c.from_residual.ensures.1 in
    rw (p.1, p.2) record {
      debugged = debugged_unopened c.args.manner c.args.settle (g.F.FileStore.bytes c.args.files.now c.args.file.now) (g.I.Read.remaining c.args.input) (g.W.Write.contents c.args.writer.now) (g.W.Sink.failed c.args.writer.now) c.in_err-reader.field-0.0 c.requires c.in_err-reader.ensures.why;
    }

pub returns-in_err-scenario : goal.returns-in_err-scenario
returns-in_err-scenario g c =
    let p = err_from_is_err_and c.from_residual-in_err-scenario.result c.from_residual-in_err-scenario.ensures.1 in
    rw (p.1, p.2) record {
      debugged = IfSome_then (g.F.FileStore.bytes c.args.files.now c.args.file.now) c.in_ok-reader.ensures.bytes
          (λ all known. debugged_unread c.args.manner c.args.settle all (g.I.Read.remaining c.args.input) (g.W.Write.contents c.args.writer.now) (g.W.Sink.failed c.args.writer.now) c.in_err-scenario.field-0.0 c.requires (λ is. c.in_err-scenario.ensures.no_write (ap Err is)) (subst (λ (input : Option (List ℕ)). IsTextFault input c.in_err-scenario.field-0.0 ⊎ IsOutside c.in_err-scenario.field-0.0) known c.in_err-scenario.ensures.answers.told));
    }

pub returns-in_err-run : goal.returns-in_err-run
returns-in_err-run g c =
    let p = err_from_is_err_and c.from_residual-in_err-run.result c.from_residual-in_err-run.ensures.1 in
    rw (p.1, p.2) record {
      debugged = IfSome_then (g.F.FileStore.bytes c.args.files.now c.args.file.now) c.in_ok-reader.ensures.bytes
          (λ all known. debugged_unsettled c.args.manner c.args.settle all (g.I.Read.remaining c.args.input) (g.W.Write.contents c.args.writer.now) (g.W.Sink.failed c.args.writer.now) c.in_ok-scenario.scenario c.in_err-run.field-0.0 c.requires
          (subst (λ (input : Option (List ℕ)). IsSpelled input c.in_ok-scenario.scenario) known c.in_ok-scenario.ensures.found) c.in_err-run.ensures.why);
    }
