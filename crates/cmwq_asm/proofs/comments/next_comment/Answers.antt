use Rattle.std.proofs.Common.{◌≡◌, true}
use Rattle.cmwq_asm.specs.CommentLines.{begins_comment}
use Rattle.cmwq_asm.proofs.CommentLemmas.{next_judged}
use Rattle.cmwq_asm.proofs.comments.next_comment.Goals as goal

pub returns-clause-comment : goal.returns-clause-comment
returns-clause-comment c =
    let begins : begins_comment c.args.text.now ≡ true = (let told = c.begins_comment.ensures in let is = c.if-not-begins_comment.false in cc) in
    next_judged c.next_line.result (λ x. x.0.now) (λ x. x.1.now) c.args.text.now begins c.requires c.next_line.ensures.lines c.next_line.ensures.utf8
