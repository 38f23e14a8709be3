use Rattle.std.proofs.Common.{arith}
use Rattle.cmwq_table.specs.Events.{is_silent, reply_line}
use Rattle.cmwq_interleaving.proofs.LineLemmas.{comment_pushed, one_line, pushed_ascii, pushed_short}
use Rattle.cmwq_interleaving.proofs.commenting.push_comment.Goals as goal

pub returns-clause-text : goal.returns-clause-text
returns-clause-text c =
    let S = c.args.lines.now in
    let reply = c.args.reply.now in
    let one = one_line S c.args.time c.args.instr reply c.requires.works c.fit.ensures (omega arith) in
    comment_pushed c.push_after_hash.result c.args.text.now c.push_after_hash.new.text (is_silent reply) (reply_line S c.args.time c.args.instr reply) one c.push_after_hash.ensures.text

pub returns-clause-ascii : goal.returns-clause-ascii
returns-clause-ascii c =
    let S = c.args.lines.now in
    let reply = c.args.reply.now in
    let one = one_line S c.args.time c.args.instr reply c.requires.works c.fit.ensures (omega arith) in
    pushed_ascii c.push_after_hash.result c.args.text.now c.push_after_hash.new.text (is_silent reply) (reply_line S c.args.time c.args.instr reply) one c.push_after_hash.ensures.text

pub returns-clause-short : goal.returns-clause-short
returns-clause-short c =
    let S = c.args.lines.now in
    let reply = c.args.reply.now in
    let one = one_line S c.args.time c.args.instr reply c.requires.works c.fit.ensures (omega arith) in
    pushed_short c.push_after_hash.result c.args.text.now c.push_after_hash.new.text (is_silent reply) (reply_line S c.args.time c.args.instr reply) one c.push_after_hash.ensures.text
