use Rattle.std.proofs.Common.{arith, ◌≡◌, [], length, vec_len, sym, ◌∙◌}
use Rattle.cmwq_lock.specs.Tokens.{opener_view}
use Rattle.cmwq_lock.specs.Views.{records_of}
use Rattle.cmwq_engine.specs.Shared.{setting_of}
use Rattle.cmwq_actors.proofs.PlayedLemmas.{all_have_played}
use Rattle.cmwq_actors.proofs.part.fn.ActorStage.perform.scope.Goals as goal

pub join_all-requires-clause-parts : goal.join_all-requires-clause-parts
join_all-requires-clause-parts g c =
    λ lifetimes lives i t below. let part = c.start-opener.ensures.parts i t (record { name = []; lines = [] }) below in (part.0, part.1, part.2)

-- Where there are as many endings as actors, each actor has a thread, and each thread has played.
pub returns : goal.returns
returns g c =
    let started = c.start-opener.ensures in
    let joined = c.join_all.ensures in
    let threads = c.start-opener.result.1 in
    let counted = threads.ok.0 in
    let few = joined.few in
    let within = started.few in
    record {
      opener = joined.opener;
      none_out = joined.none_out;
      few = (omega arith);
      played = λ all.
          let as_many : vec_len threads ≡ length c.captures.actors.now = omega arith in
          let none = started.none_retired as_many in
          let recorded = joined.counted none in
          all_have_played
          threads.items
          (λ x. x.promise.lines.value.items)
          (g.G.Gate.has_passed c.captures.self.now.gate.now)
          (setting_of c.captures.self.now.shared).capacity
          c.captures.actors.now
          c.join_all.result.1.items
          (records_of (opener_view c.join_all.result.0))
          (sym counted ∙ as_many)
          (recorded ∙ counted)
          (λ i t a below. (started.parts i t a (omega arith)).3)
          (λ i t e k below. joined.played none (omega arith) i t e k (omega arith));
    }
