use Rattle.cmwq_image.proofs.WritingLemmas.{all_more, image_more}
use Rattle.cmwq_image.proofs.writing.push_works.Goals as goal
use Rattle.cmwq_image.specs.Image.{work_image}
use Rattle.cmwq_types.specs.Values.{IsWorkDecl}

pub loop-work-preserved : goal.loop-work-preserved
loop-work-preserved c =
    let i = c.loop-work.work-index in
    let x = c.work-item.result in
    record {
      image = image_more work_image c.args.works.now i x c.args.bytes.now.items c.loop-work.bytes.items c.push_work.new.bytes.items c.loop-work-test.true c.work-item.is
          c.loop-work.invariant.image c.in_ok-push_work.ensures.image;
      works = all_more IsWorkDecl c.args.works.now i x c.loop-work-test.true c.work-item.is c.loop-work.invariant.works c.in_ok-push_work.ensures.work;
    }
