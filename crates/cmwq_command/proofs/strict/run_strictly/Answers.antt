use Rattle.std.proofs.Common.{◌≡◌, ◌≤◌, Option, IfSome, List, length, ℕ, inr, subst}
use Rattle.std.proofs.lemmas.Option.{IfSome_then}
use Rattle.std.specs.Io.KnownBytes.{Consumes}
use Rattle.cmwq_command.specs.StrictRuns.{IsToldStrictly}
use Rattle.cmwq_command.specs.Tasks.{HasDone}
use Rattle.cmwq_tasks.specs.declared.task.Task.TheVariants.{Run}
use Rattle.cmwq_types.specs.declared.limits.TheConstants.{MAX_TEXT}
use Rattle.cmwq_command.proofs.strict.run_strictly.Goals as goal

pub returns : goal.returns
returns g c =
    let text = c.in_ok-text.text.items in
    let left = g.F.Reader.Read.remaining c.read_whole.new.reader in
    let outcome = c.run_text-ran.result in
    record {
      strict = IfSome_then (g.F.FileStore.bytes c.args.files.now c.args.file.now) c.in_ok-reader.ensures.bytes
          (λ all known. inr (
            left,
            text,
            outcome,
            record {
              read = subst (λ (input : Option (List ℕ)). Consumes input left text) known c.in_ok-text.ensures.front;
              whole = subst (λ (input : Option (List ℕ)). length text ≤ MAX_TEXT → IfSome input (λ read. read ≡ text)) known c.in_ok-text.ensures.whole;
            },
            subst (λ (it : List ℕ). HasDone (Run c.args.kind) it (g.O.Write.contents c.args.output.now) (g.O.Write.contents c.run_text-ran.new.writer) (g.O.Sink.failed c.run_text-ran.new.writer) outcome) c.deref.ensures.value c.run_text-ran.ensures,
            subst (λ (it : List ℕ). IsToldStrictly it outcome (g.E.Write.contents c.args.errors.now) (g.E.Write.contents c.told_strictly.new.errors) c.told_strictly.result) c.deref-2.ensures.value c.told_strictly.ensures,
          ));
    }
