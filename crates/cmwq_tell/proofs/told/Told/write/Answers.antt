use Rattle.std.proofs.Common.{◌≡◌, ◌++◌, List, ℕ, Result, Ok, Err, OnErr, OnOk, ap, subst}
use Rattle.cmwq_types.specs.Contents.{ScenarioContents}
use Rattle.cmwq_streams.specs.Blocks.{Sends, SendsFront, kept, sink}
use Rattle.cmwq_streams.specs.declared.error.PlayError.{PlayError}
use Rattle.cmwq_streams.proofs.CallerLemmas.{front_more, front_then, sends_then}
use Rattle.cmwq_table.specs.Events.{reply_line}
use Rattle.cmwq_tell.specs.Positions.{held_text}
use Rattle.cmwq_tell.specs.RunTold.{change_lines, instr_line}
use Rattle.cmwq_tell.proofs.told.Told.write.Goals as goal

on-ok : (r : Result (Unit {0}) PlayError) (P Q : Type 0) → OnOk r P → (P → Q) → OnOk r Q
on-ok (Ok done) P Q is then = then is
on-ok (Err error) P Q is then = tt

of-err : (r : Result (Unit {0}) PlayError) (P : Type 0) → P → OnErr r P
of-err (Ok done) P is = tt
of-err (Err error) P is = is

on-err : (r : Result (Unit {0}) PlayError) (P Q : Type 0) → OnErr r P → (P → Q) → OnErr r Q
on-err (Ok done) P Q is then = tt
on-err (Err error) P Q is then = then is

pub returns-in_err-write-clause-err : goal.returns-in_err-write-clause-err
returns-in_err-write-clause-err g c =
    let told = c.args.self in
    let S = told.scenario.now in
    let contents = g.W.Write.contents in
    let a = c.args.lines.now in
    let b = c.write.new.self in
    let x = held_text S told.before ++ instr_line S told.position told.instr in
    let y = reply_line S told.time told.instr told.reply in
    let z = change_lines S told.changes.now in
    of-err c.from_residual.result (SendsFront contents a b ((x ++ y) ++ z)) (front_more (contents (sink a)) (contents (sink b)) (kept a) (x ++ y) z
    (front_more (contents (sink a)) (contents (sink b)) (kept a) x y c.in_err-write.ensures.err))

pub returns-in_err-write_reply-clause-err : goal.returns-in_err-write_reply-clause-err
returns-in_err-write_reply-clause-err g c =
    let told = c.args.self in
    let S = told.scenario.now in
    let contents = g.W.Write.contents in
    let a = c.args.lines.now in
    let b = c.write.new.self in
    let x = held_text S told.before ++ instr_line S told.position told.instr in
    let y = reply_line S told.time told.instr told.reply in
    let z = change_lines S told.changes.now in
    let d = c.write_reply.new.self in
    let line : reply_line c.args.replies.now told.time told.instr told.reply ≡ y = ap (λ (T : ScenarioContents). reply_line T told.time told.instr told.reply) c.requires.parts in
    let front = subst (λ (text : List ℕ). SendsFront contents b d text) line c.in_err-write_reply.ensures.err in
    of-err c.from_residual-in_err-write_reply.result (SendsFront contents a d ((x ++ y) ++ z)) (front_more (contents (sink a)) (contents (sink d)) (kept a) (x ++ y) z
    (front_then (contents (sink a)) (contents (sink b)) (contents (sink d)) (kept a) (kept b) x y c.in_ok-write.ensures.ok front))

pub returns-clause-ok : goal.returns-clause-ok
returns-clause-ok g c =
    let told = c.args.self in
    let S = told.scenario.now in
    let contents = g.W.Write.contents in
    let a = c.args.lines.now in
    let b = c.write.new.self in
    let x = held_text S told.before ++ instr_line S told.position told.instr in
    let y = reply_line S told.time told.instr told.reply in
    let z = change_lines S told.changes.now in
    let d = c.write_reply.new.self in
    let line : reply_line c.args.replies.now told.time told.instr told.reply ≡ y = ap (λ (T : ScenarioContents). reply_line T told.time told.instr told.reply) c.requires.parts in
    let e = c.write-2.new.self in
    let first : Sends contents a d (x ++ y) =
    sends_then (contents (sink a)) (contents (sink b)) (contents (sink d)) (kept a) (kept b) (kept d) x y c.in_ok-write.ensures.ok
    (subst (λ (text : List ℕ). Sends contents b d text) line c.in_ok-write_reply.ensures.ok)
    in
    on-ok c.write-2.result (Sends contents d e z) (Sends contents a e ((x ++ y) ++ z)) c.write-2.ensures.ok
    (sends_then (contents (sink a)) (contents (sink d)) (contents (sink e)) (kept a) (kept d) (kept e) (x ++ y) z first)

pub returns-clause-err : goal.returns-clause-err
returns-clause-err g c =
    let told = c.args.self in
    let S = told.scenario.now in
    let contents = g.W.Write.contents in
    let a = c.args.lines.now in
    let b = c.write.new.self in
    let x = held_text S told.before ++ instr_line S told.position told.instr in
    let y = reply_line S told.time told.instr told.reply in
    let z = change_lines S told.changes.now in
    let d = c.write_reply.new.self in
    let line : reply_line c.args.replies.now told.time told.instr told.reply ≡ y = ap (λ (T : ScenarioContents). reply_line T told.time told.instr told.reply) c.requires.parts in
    let e = c.write-2.new.self in
    let first : Sends contents a d (x ++ y) =
    sends_then (contents (sink a)) (contents (sink b)) (contents (sink d)) (kept a) (kept b) (kept d) x y c.in_ok-write.ensures.ok
    (subst (λ (text : List ℕ). Sends contents b d text) line c.in_ok-write_reply.ensures.ok)
    in
    on-err c.write-2.result (SendsFront contents d e z) (SendsFront contents a e ((x ++ y) ++ z)) c.write-2.ensures.err
    (front_then (contents (sink a)) (contents (sink d)) (contents (sink e)) (kept a) (kept d) (x ++ y) z first)
