use Rattle.std.proofs.Common.{◌++◌, ap, ◌∙◌}
use Rattle.std.proofs.lemmas.List.Elements.{All-more}
use Rattle.cmwq_types.specs.declared.scenario.Op.TheVariants as op
use Rattle.cmwq_image.proofs.WritingLemmas.{image_at}
use Rattle.cmwq_image.proofs.writing.push_ops.Goals as goal
use Rattle.cmwq_image.specs.Image.{op_image, word_image}
use Rattle.cmwq_image.specs.declared.word.Word.{Word}
use Rattle.cmwq_types.specs.Values.{IsOp}

pub loop-op-preserved : goal.loop-op-preserved
loop-op-preserved c =
    let i = c.loop-op.op-index in
    record {
      image = image_at op_image c.args.body.now i (op.Burn 0) c.args.bytes.now.items c.loop-op.bytes.items c.push_word.new.bytes.items c.loop-op-test.true
          c.loop-op.invariant.image (c.in_ok-push_word.ensures ∙ ap (λ (w : Word). c.loop-op.bytes.items ++ word_image w) c.op_word.ensures.image);
      body = All-more IsOp c.args.body.now i (op.Burn 0) c.loop-op-test.true c.loop-op.invariant.body c.op_word.ensures.op;
    }
