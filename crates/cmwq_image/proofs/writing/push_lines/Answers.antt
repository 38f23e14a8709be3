use Rattle.std.proofs.lemmas.List.Elements.{All-more}
use Rattle.cmwq_types.specs.declared.instr.Instr.TheVariants as instr
use Rattle.cmwq_image.proofs.WritingLemmas.{image_at}
use Rattle.cmwq_image.proofs.writing.push_lines.Goals as goal
use Rattle.cmwq_image.specs.Image.{line_image}
use Rattle.cmwq_types.specs.Values.{IsLine}

pub loop-line-preserved : goal.loop-line-preserved
loop-line-preserved c =
    let i = c.loop-line.line-index in
    record {
      image = image_at line_image c.args.lines.now i (record { instr = instr.Queue (record { 0 = 0 }) 0; times = 0 }) c.args.bytes.now.items c.loop-line.bytes.items c.push_line.new.bytes.items c.loop-line-test.true
          c.loop-line.invariant.image c.in_ok-push_line.ensures.image;
      lines = All-more IsLine c.args.lines.now i (record { instr = instr.Queue (record { 0 = 0 }) 0; times = 0 }) c.loop-line-test.true c.loop-line.invariant.lines c.in_ok-push_line.ensures.line;
    }
