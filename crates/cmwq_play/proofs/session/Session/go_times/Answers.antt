use Rattle.std.proofs.Common.{◌≡◌, ◌-◌, ◌++◌, [], List, ℕ, Some, arith, ap, refl, sym, subst, ◌∙◌, append-nil, replicate}
use Rattle.std.proofs.lemmas.Bool.Decides.{nat_tests}
use Rattle.std.proofs.lemmas.Result.{err_from_is_err_and}
use Rattle.cmwq_types.specs.Contents.{ScenarioContents}
use Rattle.cmwq_types.specs.declared.instr.Instr.TheVariants.{Next}
use Rattle.cmwq_table.specs.Events.{reply_line}
use Rattle.cmwq_table.specs.Repeats.{HasGone, reply_of}
use Rattle.cmwq_table.specs.Table.{after_all}
use Rattle.cmwq_table.specs.declared.machine.Went.{Went}
use Rattle.cmwq_table.specs.declared.machine.Went.TheVariants.{Ticked}
use Rattle.cmwq_types.specs.declared.reply.Reply.TheVariants as Reply
use Rattle.cmwq_streams.specs.Blocks.{kept}
use Rattle.cmwq_play.specs.declared.session.Session.{Session}
use Rattle.cmwq_play.specs.Session.{CanIssue, Issued, Stopped}
use Rattle.cmwq_play.proofs.RepeatingLemmas.{batch-stopped, batch-told, gone-events, keeping, keeps-text, kept-same, replies, same-before, same-stopped, telling}
use Rattle.cmwq_play.proofs.RunLemmas.{replicate_rest, replies-told}
use Rattle.cmwq_play.proofs.SessionLemmas.{begins, ends, goes_on, stops}
use Rattle.cmwq_play.proofs.session.Session.go_times.Goals as goal
use Rattle.cmwq_play.proofs.session.Session.go_times.Goals.{in-Happened+then-not-keep_event+in_ok-tell_event-in-Happened, in-Happened+else-not-keep_event, in-Ticked, in-Spent+in_ok-tell_spent-in-Spent}

-- nothing is told of a tick
ticked : (S : ScenarioContents) (time : ℕ) (went : Went) → went ≡ Ticked → [] ≡ reply_line S time Next (reply_of went)
unfolding reply_line
ticked S time went is = ap (λ (t : Went). reply_line S time Next (reply_of t)) (sym is)

pub loop-left-init : goal.loop-left-init
loop-left-init g c = begins g.M.Reads.loaded g.M.Reads.state g.W.Write.contents g.W.Sink.failed telling keeping c.args.self.now replies (replicate c.args.times Next) (replicate c.args.times Next) refl c.requires.ready

pub loop-left-preserved : goal.loop-left-preserved
loop-left-preserved g c =
    let here = c.loop-left.self in
    let S = here.scenario.now in
    let s = g.M.Reads.state here.machine in
    let machine = c.go-count.new.self in
    let after = g.M.Reads.state machine in
    let left = c.loop-left.left in
    let count = c.go-count.result.0 in
    let went = c.go-count.result.1 in
    let mid = record here { machine = machine } in
    let some = replicate count Next in
    let gone = subst (λ (T : ScenarioContents). HasGone T s left count after (reply_of went)) c.loop-left.invariant.ready.has_scenario c.go-count.ensures.gone in
    let line = reply_line S after.time Next (reply_of went) in
    let ready : CanIssue g.M.Reads.loaded g.M.Reads.state g.W.Write.contents g.W.Sink.failed mid = record {
      has_scenario = c.go-count.ensures.scenario ∙ c.loop-left.invariant.ready.has_scenario;
      has_lines = c.loop-left.invariant.ready.has_lines;
      is_sound = c.loop-left.invariant.ready.is_sound;
    } in
    let issued : Issued g.M.Reads.loaded g.M.Reads.state g.W.Write.contents g.W.Sink.failed mid c.match-went.self after line = elim c.match-went.branch [
      | in-Happened+then-not-keep_event+in_ok-tell_event-in-Happened w ↦
          let happened = ap (λ (t : Went). reply_line S after.time Next (reply_of t)) (sym w.in-Happened.is) in
          subst (λ (new : Session _ _). Issued g.M.Reads.loaded g.M.Reads.state g.W.Write.contents g.W.Sink.failed mid new after line) (sym w.self-is)
          (subst (λ (text : List ℕ). Issued g.M.Reads.loaded g.M.Reads.state g.W.Write.contents g.W.Sink.failed mid w.tell_event.new.self after text) happened
          (same-before g.M.Reads.loaded g.M.Reads.state g.W.Write.contents g.W.Sink.failed mid w.keep_event.new.lines w.keep_event.new.self w.tell_event.new.self after _ w.keep_event.ensures.scenario
          (w.keep_event.ensures.none w.if-not-keep_event.true) w.in_ok-tell_event-in-Happened.ensures))
      | in-Happened+else-not-keep_event w ↦
          let text = w.keep_event.ensures.line w.if-not-keep_event.false Next in
          let happened = Reply.Event w.in-Happened.happened.work w.in-Happened.happened.event in
          let told = ap (λ (T : ScenarioContents). reply_line T w.now-time.result Next happened) c.loop-left.invariant.ready.has_lines
          ∙ ap (λ (time : ℕ). reply_line S time Next happened) w.now-time.ensures
          ∙ ap (λ (t : Went). reply_line S after.time Next (reply_of t)) (sym w.in-Happened.is)
          in
          subst (λ (new : Session _ _). Issued g.M.Reads.loaded g.M.Reads.state g.W.Write.contents g.W.Sink.failed mid new after line) (sym w.self-is)
          (keeps-text g.M.Reads.loaded g.M.Reads.state g.W.Write.contents g.W.Sink.failed mid (record mid { replies = w.keep_event.new.lines; lines = w.keep_event.new.self }) line ready refl refl w.keep_event.ensures.scenario
          w.keep_event.ensures.same w.keep_event.ensures.writer (text ∙ ap (λ (told : List ℕ). kept mid.lines ++ told) told))
      | in-Ticked w ↦
          let none : [] ≡ line = ticked S after.time went (w.in-Ticked.is) in
          subst (λ (new : Session _ _). Issued g.M.Reads.loaded g.M.Reads.state g.W.Write.contents g.W.Sink.failed mid new after line) (sym w.self-is)
          (keeps-text g.M.Reads.loaded g.M.Reads.state g.W.Write.contents g.W.Sink.failed mid mid line ready refl refl refl refl refl (sym (append-nil (kept mid.lines)) ∙ ap (λ (told : List ℕ). kept mid.lines ++ told) none))
      | in-Spent+in_ok-tell_spent-in-Spent w ↦
          let spent = ap (λ (t : Went). reply_line S after.time Next (reply_of t)) (sym w.in-Spent.is) in
          subst (λ (new : Session _ _). Issued g.M.Reads.loaded g.M.Reads.state g.W.Write.contents g.W.Sink.failed mid new after line) (sym w.self-is)
          (subst (λ (text : List ℕ). Issued g.M.Reads.loaded g.M.Reads.state g.W.Write.contents g.W.Sink.failed mid w.tell_spent.new.self after text) spent w.in_ok-tell_spent-in-Spent.ensures)
    ] in
    let told = batch-told g.M.Reads.loaded g.M.Reads.state g.W.Write.contents g.W.Sink.failed here machine Next left count line gone.few gone.state
    (gone-events S s after left count (reply_of went) gone ∙ append-nil line) c.match-went.self gone.some issued in
    goes_on g.M.Reads.loaded g.M.Reads.state g.W.Write.contents g.W.Sink.failed telling keeping c.args.self.now here replies replies (replicate c.args.times Next) (replicate left Next)
    some (replicate (left - count) Next) (replicate_rest count left Next gone.few) c.loop-left.invariant c.match-went.self replies
    (subst (λ (text : List ℕ). Issued g.M.Reads.loaded g.M.Reads.state g.W.Write.contents g.W.Sink.failed here c.match-went.self (after_all S s some) text) (sym (replies-told replies S s some)) told.issued)
    (sym (kept-same replies S s some))

pub returns : goal.returns
returns g c =
    let old = c.args.self.now in
    let all = replicate c.args.times Next in
    let none : c.loop-left.left ≡ 0 = grind (arith, nat_tests, c.loop-left-test.false) in
    subst (λ (text : List ℕ). Issued g.M.Reads.loaded g.M.Reads.state g.W.Write.contents g.W.Sink.failed old c.loop-left.self (after_all old.scenario.now (g.M.Reads.state old.machine) all) text) (replies-told replies old.scenario.now (g.M.Reads.state old.machine) all)
    (ends g.M.Reads.loaded g.M.Reads.state g.W.Write.contents g.W.Sink.failed telling keeping old c.loop-left.self replies replies all (replicate c.loop-left.left Next) (ap (λ (n : ℕ). replicate n Next) none) c.loop-left.invariant)

pub returns-in_err-tell_event-in-Happened : goal.returns-in_err-tell_event-in-Happened
returns-in_err-tell_event-in-Happened g c =
    let old = c.args.self.now in
    let here = c.loop-left.self in
    let S = here.scenario.now in
    let s = g.M.Reads.state here.machine in
    let machine = c.go-count.new.self in
    let after = g.M.Reads.state machine in
    let left = c.loop-left.left in
    let count = c.go-count.result.0 in
    let went = c.go-count.result.1 in
    let mid = record here { machine = machine } in
    let all = replicate c.args.times Next in
    let rest = replicate left Next in
    let error = c.in_err-tell_event-in-Happened.field-0.0 in
    let gone = subst (λ (T : ScenarioContents). HasGone T s left count after (reply_of went)) c.loop-left.invariant.ready.has_scenario c.go-count.ensures.gone in
    let line = reply_line S after.time Next (reply_of went) in
    let stopped = subst (λ (text : List ℕ). Stopped g.M.Reads.loaded g.M.Reads.state g.W.Write.contents g.W.Sink.failed mid c.tell_event.new.self text error) (ap (λ (t : Went). reply_line S after.time Next (reply_of t)) (sym c.in-Happened.is))
    (same-stopped g.M.Reads.loaded g.M.Reads.state g.W.Write.contents g.W.Sink.failed mid c.keep_event.new.lines c.keep_event.new.self c.tell_event.new.self _ c.in_err-tell_event-in-Happened.field-0.0 c.keep_event.ensures.scenario
    (c.keep_event.ensures.none c.if-not-keep_event.true) c.in_err-tell_event-in-Happened.ensures) in
    let whole = batch-stopped g.M.Reads.loaded g.M.Reads.state g.W.Write.contents g.W.Sink.failed here machine Next left count line gone.few gone.state
    (gone-events S s after left count (reply_of went) gone ∙ append-nil line) c.tell_event.new.self error stopped in
    let p = err_from_is_err_and c.from_residual.result c.from_residual.ensures.1 in
    rw (p.1, p.2)
    (subst (λ (text : List ℕ). Stopped g.M.Reads.loaded g.M.Reads.state g.W.Write.contents g.W.Sink.failed old c.tell_event.new.self text error) (replies-told replies old.scenario.now (g.M.Reads.state old.machine) all)
    (stops g.M.Reads.loaded g.M.Reads.state g.W.Write.contents g.W.Sink.failed telling keeping old here replies replies all rest rest [] (sym (append-nil rest)) c.loop-left.invariant c.tell_event.new.self error
    (subst (λ (text : List ℕ). Stopped g.M.Reads.loaded g.M.Reads.state g.W.Write.contents g.W.Sink.failed here c.tell_event.new.self text error) (sym (replies-told replies S s rest)) whole)))

pub returns-in_err-tell_spent-in-Spent : goal.returns-in_err-tell_spent-in-Spent
returns-in_err-tell_spent-in-Spent g c =
    let old = c.args.self.now in
    let here = c.loop-left.self in
    let S = here.scenario.now in
    let s = g.M.Reads.state here.machine in
    let machine = c.go-count.new.self in
    let after = g.M.Reads.state machine in
    let left = c.loop-left.left in
    let count = c.go-count.result.0 in
    let went = c.go-count.result.1 in
    let mid = record here { machine = machine } in
    let all = replicate c.args.times Next in
    let rest = replicate left Next in
    let error = c.in_err-tell_spent-in-Spent.field-0.0 in
    let gone = subst (λ (T : ScenarioContents). HasGone T s left count after (reply_of went)) c.loop-left.invariant.ready.has_scenario c.go-count.ensures.gone in
    let line = reply_line S after.time Next (reply_of went) in
    let stopped = subst (λ (text : List ℕ). Stopped g.M.Reads.loaded g.M.Reads.state g.W.Write.contents g.W.Sink.failed mid c.tell_spent.new.self text error) (ap (λ (t : Went). reply_line S after.time Next (reply_of t)) (sym c.in-Spent.is))
    c.in_err-tell_spent-in-Spent.ensures in
    let whole = batch-stopped g.M.Reads.loaded g.M.Reads.state g.W.Write.contents g.W.Sink.failed here machine Next left count line gone.few gone.state
    (gone-events S s after left count (reply_of went) gone ∙ append-nil line) c.tell_spent.new.self error stopped in
    let p = err_from_is_err_and c.from_residual-in_err-tell_spent-in-Spent.result c.from_residual-in_err-tell_spent-in-Spent.ensures.1 in
    rw (p.1, p.2)
    (subst (λ (text : List ℕ). Stopped g.M.Reads.loaded g.M.Reads.state g.W.Write.contents g.W.Sink.failed old c.tell_spent.new.self text error) (replies-told replies old.scenario.now (g.M.Reads.state old.machine) all)
    (stops g.M.Reads.loaded g.M.Reads.state g.W.Write.contents g.W.Sink.failed telling keeping old here replies replies all rest rest [] (sym (append-nil rest)) c.loop-left.invariant c.tell_spent.new.self error
    (subst (λ (text : List ℕ). Stopped g.M.Reads.loaded g.M.Reads.state g.W.Write.contents g.W.Sink.failed here c.tell_spent.new.self text error) (sym (replies-told replies S s rest)) whole)))
