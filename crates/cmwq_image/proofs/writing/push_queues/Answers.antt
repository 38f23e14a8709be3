use Rattle.cmwq_image.proofs.WritingLemmas.{all_more, image_more}
use Rattle.cmwq_image.proofs.writing.push_queues.Goals as goal
use Rattle.cmwq_image.specs.Image.{queue_image}
use Rattle.cmwq_types.specs.Values.{IsQueueDecl}

pub loop-queue-preserved : goal.loop-queue-preserved
loop-queue-preserved c =
    let i = c.loop-queue.queue-index in
    let x = c.queue-item.result in
    record {
      image = image_more queue_image c.args.queues.now i x c.args.bytes.now.items c.loop-queue.bytes.items c.push_queue.new.bytes.items c.loop-queue-test.true c.queue-item.is
          c.loop-queue.invariant.image c.in_ok-push_queue.ensures.image;
      queues = all_more IsQueueDecl c.args.queues.now i x c.loop-queue-test.true c.queue-item.is c.loop-queue.invariant.queues c.in_ok-push_queue.ensures.queue;
    }
