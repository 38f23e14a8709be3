use Rattle.std.proofs.Common.{List, ℕ, ◌≡◌, ◌∙◌, ◌+◌, ◌*◌, ◌≤◌, ◌^◌, ap, length, subst, sym}
use Rattle.std.proofs.lemmas.List.{with_items_is}
use Rattle.std.specs.Vec.{with_items}
use Rattle.cmwq_blame.specs.Blame.{BlameContents, blame_ticked, work_counts}
use Rattle.cmwq_blame.specs.Bounds.{IsBlameWithin}
use Rattle.cmwq_blame.specs.Table.{HasCounted, count_at}
use Rattle.cmwq_blame.proofs.CountingLemmas.{contents, count-within, ticked-is}
use Rattle.cmwq_blame.proofs.blame.Blame.tick.Goals as goal

pub count_tick-requires-clause-within : goal.count_tick-requires-clause-within
count_tick-requires-clause-within g c = λ w other there.
    let n = c.self.inside.works in
    let room = subst (λ (B : BlameContents). IsBlameWithin (2 ^ 62) B) (sym c.self.view_is) c.requires.room in
    subst (λ (counts : List ℕ). count_at n counts w other ≤ 2 ^ 62) (sym c.deref_mut.ensures.value)
    (count-within (2 ^ 62) (record { works = n; counts = c.self.inside.counts.items }) w other there (room w other))

pub returns : goal.returns
returns g c =
    let S = g.R.Reads.loaded c.args.machine.now in
    let s = g.R.Reads.state c.args.machine.now in
    let n = c.self.inside.works in
    let vec = c.self.inside.counts in
    let new = c.count_tick.new.counts in
    let counted = subst (λ (counts : List ℕ). HasCounted n counts new (work_counts S s)) c.deref_mut.ensures.value c.count_tick.ensures.counted in
    let items : (with_items vec new).items ≡ new = with_items_is vec new (c.count_tick.ensures.same ∙ c.deref_mut.ensures.len) in
    let room : length new ≡ n * (n + 1) = c.count_tick.ensures.same ∙ ap length c.deref_mut.ensures.value ∙ c.self.invariant.1 in
    ap (contents n) items ∙ ticked-is S s n vec.items new room counted ∙ ap (blame_ticked S s) c.self.view_is
