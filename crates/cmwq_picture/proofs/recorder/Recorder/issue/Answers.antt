use Rattle.std.proofs.Common.{◌≡◌, ◌≢◌, ◌+◌, ◌<◌, ◌∷◌, ◌++◌, [], ap, false, length, subst, sym, true, ◌∙◌}
use Rattle.cmwq_types.specs.Contents.{ScenarioContents}
use Rattle.cmwq_table.specs.Table.{table}
use Rattle.cmwq_picture.specs.Column.{column_of}
use Rattle.cmwq_picture.specs.Picture.{Deeds, deeds_of, from_time, is_drawn}
use Rattle.cmwq_picture.specs.Recording.{Recording, issued, no_deeds, overflows, recording_of}
use Rattle.cmwq_picture.proofs.RecordingLemmas.{drawn-after, moved-kept, on_ok, passes-after, room-after, stays-after, told, told-at}
use Rattle.cmwq_picture.proofs.recorder.Recorder.issue.Goals as goal

pub invariant_of-self : goal.invariant_of-self
invariant_of-self g c =
    let inside = c.self.inside in
    let S = inside.scenario.now in
    let s = g.M.Reads.state inside.machine in
    let exact = c.exec-reply.ensures.exact ∙ ap (λ (T : ScenarioContents). table T s c.args.instr) c.self.invariant.1 in (
      moved-kept (recording_of S inside.span s (deeds_of inside.acted inside.armed.items) inside.acts.items inside.columns) c.args.instr _ _ exact c.self.invariant.0,
      c.exec-reply.ensures.scenario ∙ c.self.invariant.1,
    )

pub draw-requires : goal.draw-requires
draw-requires g c =
    let inside = c.self.inside in
    let S = inside.scenario.now in
    let s = g.M.Reads.state inside.machine in
    let t = g.M.Reads.state c.exec-reply.new.self in
    let r = recording_of S inside.span s (deeds_of inside.acted inside.armed.items) inside.acts.items inside.columns in
    let x = c.args.instr in
    let answer = c.exec-reply.result in
    let exact = c.exec-reply.ensures.exact ∙ ap (λ (T : ScenarioContents). table T s x) c.self.invariant.1 in
    let whole = c.self-2.view_is ∙ c.in_ok-note.ensures ∙ told-at r x t answer exact c.now-time.result c.now-time.ensures in
    let left = c.take_armed-armed.ensures.begun ∙ ap (λ (q : Recording). record q { deeds = no_deeds }) whole in
    let differs : t.time ≢ s.time = λ same. c.if-now-time.false (c.now.ensures ∙ ap (λ (q : Recording). q.state.time) whole ∙ same ∙ sym c.now-time.ensures) in
    let drawn : is_drawn inside.span s.time ≡ true =
    ap (λ (q : Recording). is_drawn q.span s.time) (sym (c.self-3.view_is ∙ left)) ∙ ap (is_drawn c.self-3.inside.span) (sym c.now-time.ensures) ∙ sym c.is_drawn.ensures ∙ c.if-is_drawn.true in
    record {
      later = subst (λ (q : Recording). from_time q.span.from + length q.columns < q.state.time) (sym left) (room-after r x t answer exact c.self.invariant.0.setting differs c.self.invariant.0 drawn);
    }

pub returns-then-is_drawn-clause-ok : goal.returns-then-is_drawn-clause-ok
returns-then-is_drawn-clause-ok g c =
    let inside = c.self.inside in
    let S = inside.scenario.now in
    let s = g.M.Reads.state inside.machine in
    let t = g.M.Reads.state c.exec-reply.new.self in
    let r = recording_of S inside.span s (deeds_of inside.acted inside.armed.items) inside.acts.items inside.columns in
    let x = c.args.instr in
    let answer = c.exec-reply.result in
    let exact = c.exec-reply.ensures.exact ∙ ap (λ (T : ScenarioContents). table T s x) c.self.invariant.1 in
    let whole = c.self-2.view_is ∙ c.in_ok-note.ensures ∙ told-at r x t answer exact c.now-time.result c.now-time.ensures in
    let left = c.take_armed-armed.ensures.begun ∙ ap (λ (q : Recording). record q { deeds = no_deeds }) whole in
    let differs : t.time ≢ s.time = λ same. c.if-now-time.false (c.now.ensures ∙ ap (λ (q : Recording). q.state.time) whole ∙ same ∙ sym c.now-time.ensures) in
    let drawn : is_drawn inside.span s.time ≡ true =
    ap (λ (q : Recording). is_drawn q.span s.time) (sym (c.self-3.view_is ∙ left)) ∙ ap (is_drawn c.self-3.inside.span) (sym c.now-time.ensures) ∙ sym c.is_drawn.ensures ∙ c.if-is_drawn.true in
    let taken : deeds_of c.self-2.inside.acted c.deref.result.now ≡ (told r x t answer exact).deeds =
    ap (deeds_of c.self-2.inside.acted) (c.deref.ensures.value ∙ c.take_armed-armed.ensures.taken) ∙ ap (λ (q : Recording). q.deeds) whole in
    let then : _ ≡ issued r x =
    ap (λ (q : Recording). record q { columns = q.columns ++ column_of q.scenario q.state (deeds_of c.self-2.inside.acted c.deref.result.now) ∷ [] }) left
    ∙ ap (λ (deeds : Deeds). record (told r x t answer exact) { deeds = no_deeds; columns = r.columns ++ column_of S t deeds ∷ [] }) taken ∙ drawn-after r x t answer exact c.self.invariant.0.setting differs drawn in
    on_ok c.draw.result (λ same. same ∙ then ∙ ap (λ (r : Recording). issued r x) c.self.view_is) c.draw.ensures.ok

pub returns-then-is_drawn-clause-wide : goal.returns-then-is_drawn-clause-wide
returns-then-is_drawn-clause-wide g c = λ wide.
    let inside = c.self.inside in
    let S = inside.scenario.now in
    let s = g.M.Reads.state inside.machine in
    let t = g.M.Reads.state c.exec-reply.new.self in
    let r = recording_of S inside.span s (deeds_of inside.acted inside.armed.items) inside.acts.items inside.columns in
    let x = c.args.instr in
    let answer = c.exec-reply.result in
    let exact = c.exec-reply.ensures.exact ∙ ap (λ (T : ScenarioContents). table T s x) c.self.invariant.1 in
    let whole = c.self-2.view_is ∙ c.in_ok-note.ensures ∙ told-at r x t answer exact c.now-time.result c.now-time.ensures in
    let left = c.take_armed-armed.ensures.begun ∙ ap (λ (q : Recording). record q { deeds = no_deeds }) whole in
    let differs : t.time ≢ s.time = λ same. c.if-now-time.false (c.now.ensures ∙ ap (λ (q : Recording). q.state.time) whole ∙ same ∙ sym c.now-time.ensures) in
    let drawn : is_drawn inside.span s.time ≡ true =
    ap (λ (q : Recording). is_drawn q.span s.time) (sym (c.self-3.view_is ∙ left)) ∙ ap (is_drawn c.self-3.inside.span) (sym c.now-time.ensures) ∙ sym c.is_drawn.ensures ∙ c.if-is_drawn.true in
    let taken : deeds_of c.self-2.inside.acted c.deref.result.now ≡ (told r x t answer exact).deeds =
    ap (deeds_of c.self-2.inside.acted) (c.deref.ensures.value ∙ c.take_armed-armed.ensures.taken) ∙ ap (λ (q : Recording). q.deeds) whole in
    let then : _ ≡ issued r x =
    ap (λ (q : Recording). record q { columns = q.columns ++ column_of q.scenario q.state (deeds_of c.self-2.inside.acted c.deref.result.now) ∷ [] }) left
    ∙ ap (λ (deeds : Deeds). record (told r x t answer exact) { deeds = no_deeds; columns = r.columns ++ column_of S t deeds ∷ [] }) taken ∙ drawn-after r x t answer exact c.self.invariant.0.setting differs drawn in
    ap overflows (sym (then ∙ ap (λ (r : Recording). issued r x) c.self.view_is)) ∙ c.draw.ensures.wide wide

pub returns-clause-ok : goal.returns-clause-ok
returns-clause-ok g c =
    let inside = c.self.inside in
    let S = inside.scenario.now in
    let s = g.M.Reads.state inside.machine in
    let t = g.M.Reads.state c.exec-reply.new.self in
    let r = recording_of S inside.span s (deeds_of inside.acted inside.armed.items) inside.acts.items inside.columns in
    let x = c.args.instr in
    let answer = c.exec-reply.result in
    let exact = c.exec-reply.ensures.exact ∙ ap (λ (T : ScenarioContents). table T s x) c.self.invariant.1 in
    let whole = c.self-2.view_is ∙ c.in_ok-note.ensures ∙ told-at r x t answer exact c.now-time.result c.now-time.ensures in
    let left = c.take_armed-armed.ensures.begun ∙ ap (λ (q : Recording). record q { deeds = no_deeds }) whole in
    let differs : t.time ≢ s.time = λ same. c.if-now-time.false (c.now.ensures ∙ ap (λ (q : Recording). q.state.time) whole ∙ same ∙ sym c.now-time.ensures) in
    let undrawn : is_drawn inside.span s.time ≡ false =
    ap (λ (q : Recording). is_drawn q.span s.time) (sym (c.self-3.view_is ∙ left)) ∙ ap (is_drawn c.self-3.inside.span) (sym c.now-time.ensures) ∙ sym c.is_drawn.ensures ∙ c.if-is_drawn.false in
    left ∙ passes-after r x t answer exact c.self.invariant.0.setting differs undrawn
    ∙ ap (λ (r : Recording). issued r x) c.self.view_is
