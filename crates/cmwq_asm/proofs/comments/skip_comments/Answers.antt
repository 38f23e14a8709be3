use Rattle.std.proofs.Common.{arith, rules}
use Rattle.cmwq_asm.proofs.TextLemmas.{leads_further, leads_nowhere}
use Rattle.cmwq_asm.proofs.comments.skip_comments.Goals as goal

pub loop-comment-init : goal.loop-comment-init
loop-comment-init c = record { lines = λ stage. leads_nowhere c.args.text.now stage; text = c.requires.text; room = (omega arith) }

pub loop-comment-preserved : goal.loop-comment-preserved
loop-comment-preserved c = record {
  lines = λ stage.
      leads_further c.args.text.now stage c.loop-comment.rest.now c.loop-comment.count stage stage _ c.in-Some.behind.now
      (c.loop-comment.invariant.lines stage) c.in-Some.ensures.lines c.in-Some.ensures.ends (c.in-Some.ensures.comment stage);
  text = c.in-Some.ensures.text;
  room = (let before = c.loop-comment.invariant.room in let shorter = c.in-Some.ensures.ends in omega arith);
}

pub overflow_add-count : goal.overflow_add-count
overflow_add-count c =
    let before = c.loop-comment.invariant.room in
    let shorter = c.in-Some.ensures.ends in
    let few = c.requires.few in
    search rules
