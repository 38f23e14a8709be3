use Rattle.std.proofs.Common.{List, Option, subst, ℕ}
use Rattle.std.proofs.lemmas.Option.{IfSome_then}
use Rattle.cmwq_image.specs.Image.{image}
use Rattle.cmwq_image.specs.declared.version.TheConstants.{VERSION}
use Rattle.cmwq_play.specs.Commands.{Answers}
use Rattle.cmwq_play.specs.PlayTexts.{IsOutput, IsTextFault}
use Rattle.cmwq_command.proofs.carrying.asm.Goals as goal

pub returns : goal.returns
returns g c = record {
  answers = IfSome_then (g.F.FileStore.bytes c.args.files.now c.args.file.now) c.in_ok-reader.ensures.bytes
      (λ all known. subst (λ (input : Option (List ℕ)). Answers (IsOutput (image VERSION)) IsTextFault input c.to_image.result) known c.to_image.ensures.answers);
}
