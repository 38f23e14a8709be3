use Rattle.std.proofs.Common.{◌≡◌, ◌<◌, ◌≤◌, ◌+◌, ◌-◌, ◌∙◌, Err, List, Ok, length-append, ap, arith, drop, length, refl, rules, take, ℕ}
use Rattle.std.proofs.lemmas.Grind.{common_steps}
use Rattle.std.proofs.lemmas.Result.{err_from_is_err_and}
use Rattle.cmwq_types.specs.declared.limits.TheConstants.{MAX_TEXT}
use Rattle.cmwq_debug_session.specs.Told.{HasNoLine, Told}
use Rattle.cmwq_debug_session.proofs.TalkLemmas.{talks_cut_short, talks_to_its_end, talks_to_the_end, talks_too_long, talks_unheard}
use Rattle.cmwq_debug_session.proofs.ToldLemmas.{answered_more, lent_is, reads_more}
use Rattle.cmwq_debug_session.proofs.debugging.talk.Goals as goal

pub returns-in_err-read_some : goal.returns-in_err-read_some
returns-in_err-read_some g c =
    let remaining = g.R.Read.remaining in
    let contents = g.W.Write.contents in
    let p = err_from_is_err_and c.from_residual.result c.from_residual.ensures.1 in
    rw (p.1, p.2) (talks_unheard (remaining c.args.commands.now) (remaining c.loop-turn.commands) (remaining c.read_some.new.reader) (contents c.args.writer.now) (contents c.loop-turn.writer)
    (g.R.Source.failed c.read_some.new.reader) (g.W.Sink.failed c.loop-turn.writer) c.args.manner c.args.scenario.now c.args.debugger.now c.loop-turn.debugger c.loop-turn.text.items c.loop-turn.done c.loop-turn.invariant.answered
    c.in_err-read_some.field-0.0
    (reads_more (remaining c.args.commands.now) (remaining c.loop-turn.commands) (remaining c.read_some.new.reader) (g.R.Source.failed c.read_some.new.reader) c.loop-turn.text.items _
    c.loop-turn.invariant.answered.heard c.in_err-read_some.ensures.few c.in_err-read_some.ensures.failed)
    (λ is. c.in_err-read_some.ensures.unread (ap Err is)) c.in_err-read_some.ensures.why c.loop-turn.invariant.writes)

pub returns-then-branch-eq0 : goal.returns-then-branch-eq0
returns-then-branch-eq0 g c =
    let remaining = g.R.Read.remaining in
    let contents = g.W.Write.contents in
    let heard = c.in_ok-read_some.ensures.read in
    let both = c.read_some.new.text.items in
    let lent : c.deref.result.now ≡ both = search rules in
    talks_to_the_end (remaining c.args.commands.now) (remaining c.loop-turn.commands) (remaining c.read_some.new.reader) (contents c.args.writer.now) (contents c.loop-turn.writer)
    (g.R.Source.failed c.read_some.new.reader) (g.W.Sink.failed c.answer_rest.new.writer) c.args.manner c.args.scenario.now c.args.debugger.now c.loop-turn.debugger c.loop-turn.text.items c.loop-turn.done c.loop-turn.invariant.answered
    heard.0 both c.in_ok-read_some.field-0
    (reads_more (remaining c.args.commands.now) (remaining c.loop-turn.commands) (remaining c.read_some.new.reader) (g.R.Source.failed c.read_some.new.reader) c.loop-turn.text.items _
    c.loop-turn.invariant.answered.heard c.in_ok-read_some.ensures.few c.in_ok-read_some.ensures.failed)
    heard.3 heard.1 (contents c.answer_rest.new.writer) (take (length c.deref.result.now - c.loop-turn.done) (drop c.loop-turn.done c.deref.result.now)) c.answer_rest.result
    (lent_is c.deref.result.now both c.loop-turn.done lent) (c.in_ok-read_some.ensures.end (ap Ok c.if-branch-eq0.true)) c.answer_rest.ensures.ok c.answer_rest.ensures.err c.answer_rest.ensures.why c.answer_rest.ensures.write

pub returns-then-len-gt-MAX_TEXT : goal.returns-then-len-gt-MAX_TEXT
returns-then-len-gt-MAX_TEXT g c =
    let remaining = g.R.Read.remaining in
    let contents = g.W.Write.contents in
    let heard = c.in_ok-read_some.ensures.read in
    let long : MAX_TEXT < length c.read_some.new.text.items = grind (arith, common_steps) in
    talks_too_long (remaining c.args.commands.now) (remaining c.loop-turn.commands) (remaining c.read_some.new.reader) (contents c.args.writer.now) (contents c.loop-turn.writer)
    (g.R.Source.failed c.read_some.new.reader) (g.W.Sink.failed c.loop-turn.writer) c.args.manner c.args.scenario.now c.args.debugger.now c.loop-turn.debugger c.loop-turn.text.items c.loop-turn.done c.loop-turn.invariant.answered
    heard.0 c.read_some.new.text.items c.in_ok-read_some.field-0
    (reads_more (remaining c.args.commands.now) (remaining c.loop-turn.commands) (remaining c.read_some.new.reader) (g.R.Source.failed c.read_some.new.reader) c.loop-turn.text.items _
    c.loop-turn.invariant.answered.heard c.in_ok-read_some.ensures.few c.in_ok-read_some.ensures.failed)
    heard.3 heard.1 long c.loop-turn.invariant.writes

pub returns-in_err-taken : goal.returns-in_err-taken
returns-in_err-taken g c =
    let remaining = g.R.Read.remaining in
    let contents = g.W.Write.contents in
    let heard = c.in_ok-read_some.ensures.read in
    let both = c.read_some.new.text.items in
    let lent : c.deref-in-loop-turn.result.now ≡ both = search rules in
    let p = err_from_is_err_and c.from_residual-in_err-taken.result c.from_residual-in_err-taken.ensures.1 in
    rw (p.1, p.2) (talks_cut_short (remaining c.args.commands.now) (remaining c.loop-turn.commands) (remaining c.read_some.new.reader) (contents c.args.writer.now) (contents c.loop-turn.writer)
    (g.R.Source.failed c.read_some.new.reader) (g.W.Sink.failed c.answer_lines.new.writer) c.args.manner c.args.scenario.now c.args.debugger.now c.loop-turn.debugger c.loop-turn.text.items c.loop-turn.done c.loop-turn.invariant.answered
    heard.0 both c.in_ok-read_some.field-0
    (reads_more (remaining c.args.commands.now) (remaining c.loop-turn.commands) (remaining c.read_some.new.reader) (g.R.Source.failed c.read_some.new.reader) c.loop-turn.text.items _
    c.loop-turn.invariant.answered.heard c.in_ok-read_some.ensures.few c.in_ok-read_some.ensures.failed)
    heard.3 heard.1 (contents c.answer_lines.new.writer) (take (length c.deref-in-loop-turn.result.now - c.loop-turn.done) (drop c.loop-turn.done c.deref-in-loop-turn.result.now))
    c.in_err-taken.field-0.0 (Err c.in_err-taken.field-0.0) refl
    (lent_is c.deref-in-loop-turn.result.now both c.loop-turn.done lent) c.in_err-taken.ensures.front c.in_err-taken.ensures.why c.in_err-taken.ensures.write)

pub returns-in-None : goal.returns-in-None
returns-in-None g c =
    let remaining = g.R.Read.remaining in
    let contents = g.W.Write.contents in
    let heard = c.in_ok-read_some.ensures.read in
    let both = c.read_some.new.text.items in
    let lent : c.deref-in-loop-turn.result.now ≡ both = search rules in
    talks_to_its_end (remaining c.args.commands.now) (remaining c.loop-turn.commands) (remaining c.read_some.new.reader) (contents c.args.writer.now) (contents c.loop-turn.writer)
    (g.R.Source.failed c.read_some.new.reader) (g.W.Sink.failed c.answer_lines.new.writer) c.args.manner c.args.scenario.now c.args.debugger.now c.loop-turn.debugger c.loop-turn.text.items c.loop-turn.done c.loop-turn.invariant.answered
    heard.0 both c.in_ok-read_some.field-0
    (reads_more (remaining c.args.commands.now) (remaining c.loop-turn.commands) (remaining c.read_some.new.reader) (g.R.Source.failed c.read_some.new.reader) c.loop-turn.text.items _
    c.loop-turn.invariant.answered.heard c.in_ok-read_some.ensures.few c.in_ok-read_some.ensures.failed)
    heard.3 heard.1 (contents c.answer_lines.new.writer) (take (length c.deref-in-loop-turn.result.now - c.loop-turn.done) (drop c.loop-turn.done c.deref-in-loop-turn.result.now))
    (lent_is c.deref-in-loop-turn.result.now both c.loop-turn.done lent) (search rules) (search rules)

pub loop-turn-preserved : goal.loop-turn-preserved
loop-turn-preserved g c =
    let remaining = g.R.Read.remaining in
    let contents = g.W.Write.contents in
    let heard = c.in_ok-read_some.ensures.read in
    let both = c.read_some.new.text.items in
    let lent : c.deref-in-loop-turn.result.now ≡ both = search rules in
    let rest : List ℕ = take (length c.deref-in-loop-turn.result.now - c.loop-turn.done) (drop c.loop-turn.done c.deref-in-loop-turn.result.now) in
    let short : length both ≤ MAX_TEXT = grind (arith, common_steps) in
    let grown : length both ≡ length c.loop-turn.text.items + length heard.0 = ap length heard.1 ∙ length-append c.loop-turn.text.items heard.0 in
    let M = c.args.manner in
    let S = c.args.scenario.now in
    let told : Told (contents c.loop-turn.writer) (contents c.answer_lines.new.writer) M S c.loop-turn.debugger (take c.in-Some.taken rest) c.answer_lines.new.debugger = search rules in
    let within : c.in-Some.taken ≤ length rest = search rules in
    let begun : HasNoLine (drop c.in-Some.taken rest) = search rules in
    record {
      answered = answered_more (remaining c.args.commands.now) (remaining c.loop-turn.commands) (remaining c.read_some.new.reader) (contents c.args.writer.now) (contents c.loop-turn.writer) (contents c.answer_lines.new.writer)
          c.args.manner c.args.scenario.now c.args.debugger.now c.loop-turn.debugger c.answer_lines.new.debugger c.loop-turn.text.items heard.0 both rest c.loop-turn.done c.in-Some.taken
          c.loop-turn.invariant.answered heard.3 heard.1 short (lent_is c.deref-in-loop-turn.result.now both c.loop-turn.done lent) told within begun;
      long = search rules;
      reads = search rules;
      writes = search rules;
    }
