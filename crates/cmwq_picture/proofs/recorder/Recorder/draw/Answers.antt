use Rattle.std.proofs.Common.{◌≡◌, [], ◌∷◌, ◌++◌, ap, subst, ◌∙◌}
use Rattle.cmwq_types.specs.Contents.{ScenarioContents}
use Rattle.cmwq_table.specs.Ready.{Loaded}
use Rattle.cmwq_picture.specs.Column.{ColumnContents, column_of}
use Rattle.cmwq_picture.specs.Picture.{Deeds, deeds_of}
use Rattle.cmwq_picture.specs.Recording.{Recording, recording_of}
use Rattle.cmwq_picture.proofs.recorder.Recorder.draw.Goals as goal

pub returns-clause-ok : goal.returns-clause-ok
returns-clause-ok g c =
    let inside = c.self.inside in
    let S = inside.scenario.now in
    let s = g.M.Reads.state inside.machine in
    let deeds : Deeds = deeds_of c.args.acted c.args.armed.now in
    let kept : Deeds = deeds_of inside.acted inside.armed.items in
    let old = inside.columns in
    let pushed : c.push.new.self ≡ old ++ column_of S s deeds ∷ [] =
    c.in_ok-push.ensures.pushed
    ∙ ap (λ (one : ColumnContents). old ++ one ∷ []) (c.in_ok-column.ensures ∙ ap (λ (m : Loaded). column_of m.scenario m.state deeds) c.in_ok-moment.ensures ∙ ap (λ (T : ScenarioContents). column_of T s deeds) c.self.invariant.1) in
    subst (λ (r : Recording). recording_of S inside.span s kept inside.acts.items c.push.new.self ≡ record r { columns = r.columns ++ column_of r.scenario r.state deeds ∷ [] })
    c.self.view_is (ap (recording_of S inside.span s kept inside.acts.items) pushed)
