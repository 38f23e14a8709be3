use Rattle.std.proofs.Common.{◌≡◌, ◌+◌, ◌-◌, ◌≤◌, ◌++◌, List, ℕ, Ok, Err, arith, refl, ap, ◌∙◌, subst}
use Rattle.std.proofs.lemmas.Result.{err_from_is_err_and}
use Rattle.cmwq_types.specs.Contents.{ScenarioContents}
use Rattle.cmwq_table.specs.Events.{reply_line}
use Rattle.cmwq_streams.specs.Blocks.{Sends, SendsFront, kept, sink}
use Rattle.cmwq_streams.proofs.CallerLemmas.{front_more, front_then, sends_then}
use Rattle.cmwq_lines.specs.Putting.{repeated}
use Rattle.cmwq_lines.proofs.RepeatedLemmas.{repeated-front}
use Rattle.cmwq_play.proofs.TellerLemmas.{sound_then, wrote_once}
use Rattle.cmwq_play.proofs.session.Session.tell_times.Goals as goal

pub loop-left-preserved : goal.loop-left-preserved
loop-left-preserved g c =
    let old = c.args.self.now in
    let here = c.loop-left.self in
    let was = c.loop-left.invariant in
    let left = c.loop-left.left in
    let done = c.args.times - left in
    let some = c.min-some.result in
    let fewer : some ≤ left = omega (arith, c.min-some.ensures) in
    let contents = g.W.Write.contents in
    let S = old.scenario.now in
    let time = (g.M.Reads.state old.machine).time in
    let line = reply_line S time c.args.instr c.args.reply.now in
    let new = c.write_replies.new.self in
    let lines_are : here.replies ≡ S = was.ready.has_lines ∙ was.scenario in
    let time_is : c.now-time.result ≡ time = c.now-time.ensures in
    let line_is : reply_line here.replies c.now-time.result c.args.instr c.args.reply.now ≡ line =
    ap (λ (T : ScenarioContents). reply_line T c.now-time.result c.args.instr c.args.reply.now) lines_are
    ∙ ap (λ (t : ℕ). reply_line S t c.args.instr c.args.reply.now) time_is
    in
    let place : done + some ≡ c.args.times - (left - some) = omega (arith, was.few, fewer) in
    record {
      few = omega (arith, was.few);
      ready = record {
        has_scenario = was.ready.has_scenario;
        has_lines = c.write_replies.ensures.scenario ∙ was.ready.has_lines;
        is_sound = sound_then (g.W.Sink.failed (sink new)) (Ok tt) refl c.in_ok-write_replies.ensures.failed;
      };
      scenario = was.scenario;
      machine = was.machine;
      same = c.write_replies.ensures.same ∙ was.same;
      sent =
          subst (λ (text : List ℕ). Sends contents old.lines new text) (repeated-front line done some ∙ ap (repeated line) place)
          (sends_then (contents (sink old.lines)) (contents (sink here.lines)) (contents (sink new)) (kept old.lines) (kept here.lines) (kept new) (repeated line done) (repeated line some) was.sent
          (subst (λ (text : List ℕ). Sends contents here.lines new (repeated text some)) line_is c.in_ok-write_replies.ensures.ok));
    }

pub returns-in_err-write_replies : goal.returns-in_err-write_replies
returns-in_err-write_replies g c =
    let old = c.args.self.now in
    let here = c.loop-left.self in
    let was = c.loop-left.invariant in
    let left = c.loop-left.left in
    let done = c.args.times - left in
    let some = c.min-some.result in
    let fewer : some ≤ left = omega (arith, c.min-some.ensures) in
    let contents = g.W.Write.contents in
    let S = old.scenario.now in
    let time = (g.M.Reads.state old.machine).time in
    let line = reply_line S time c.args.instr c.args.reply.now in
    let new = c.write_replies.new.self in
    let lines_are : here.replies ≡ S = was.ready.has_lines ∙ was.scenario in
    let time_is : c.now-time.result ≡ time = c.now-time.ensures in
    let line_is : reply_line here.replies c.now-time.result c.args.instr c.args.reply.now ≡ line =
    ap (λ (T : ScenarioContents). reply_line T c.now-time.result c.args.instr c.args.reply.now) lines_are
    ∙ ap (λ (t : ℕ). reply_line S t c.args.instr c.args.reply.now) time_is
    in
    let rest = left - some in
    let place : (done + some) + rest ≡ c.args.times = omega (arith, was.few, fewer) in
    let whole : (repeated line done ++ repeated line some) ++ repeated line rest ≡ repeated line c.args.times =
    ap (λ (front : List ℕ). front ++ repeated line rest) (repeated-front line done some) ∙ repeated-front line (done + some) rest ∙ ap (repeated line) place
    in
    let front =
    front_then (contents (sink old.lines)) (contents (sink here.lines)) (contents (sink new)) (kept old.lines) (kept here.lines) (repeated line done) (repeated line some) was.sent
    (subst (λ (text : List ℕ). SendsFront contents here.lines new (repeated text some)) line_is c.in_err-write_replies.ensures.err)
    in
    let sent =
    subst (λ (text : List ℕ). SendsFront contents old.lines new text) whole
    (front_more (contents (sink old.lines)) (contents (sink new)) (kept old.lines) (repeated line done ++ repeated line some) (repeated line rest) front)
    in
    let p = err_from_is_err_and c.from_residual.result c.from_residual.ensures.1 in
    rw (p.1, p.2) (wrote_once g.M.Reads.loaded g.M.Reads.state contents g.W.Sink.failed old (record here { replies = c.write_replies.new.lines; lines = new }) (g.M.Reads.state old.machine)
    (repeated line c.args.times) (repeated line c.args.times) (Err c.in_err-write_replies.field-0.0)
    was.ready.has_scenario (c.write_replies.ensures.scenario ∙ was.ready.has_lines) was.scenario (ap g.M.Reads.state was.machine) refl (c.write_replies.ensures.same ∙ was.same) tt sent
    c.in_err-write_replies.ensures.failed c.in_err-write_replies.ensures.why)
