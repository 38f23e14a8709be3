use Rattle.std.proofs.Common.{arith, ◌≡◌, ◌-◌, [], ◌∷◌, length, get_or, vec_len, ap, ◌∙◌, length-append}
use Rattle.std.specs.Vec.Iter.{into_iter_len}
use Rattle.cmwq_types.specs.Scenario.{expand_lines}
use Rattle.cmwq_lock.specs.Tokens.{opener_view, pass_view}
use Rattle.cmwq_lock.specs.Views.{knowledge_of, records_of}
use Rattle.cmwq_engine.specs.Shared.{setting_of}
use Rattle.cmwq_actors.proofs.PlayedLemmas.{one_more_played, promised}
use Rattle.cmwq_actors.proofs.RestLemmas.{rest_at_end, taken_at}
use Rattle.cmwq_actors.proofs.part.ActorStage.join_all.Goals as goal

pub returns-clause-played : goal.returns-clause-played
returns-clause-played g c =
    λ none equal i t e k below.
    let ended = c.in-None.ensures.steps in
    c.loop-thread.invariant.played none (omega arith) i t e k (omega arith)

pub loop-thread-preserved-in-Some-ending : goal.loop-thread-preserved-in-Some-ending
loop-thread-preserved-in-Some-ending g c =
    let was = c.loop-thread.invariant in
    let all = c.args.threads in
    let thread = c.in-Some.thread in
    let steps = c.in-Some.ensures.steps in
    let fewer = steps.1 in
    let out = was.out in
    let within = was.within in
    let few = was.few in
    let old = c.loop-thread.endings in
    let n = vec_len old in
    let counted = old.ok.0 in
    let records = records_of (opener_view c.loop-thread.opener) in
    let knows = knowledge_of (pass_view c.join-pass.result.pass) in
    let pushed = c.push_reserved.ensures.len in
    let recorded = c.retire.ensures.recorded in
    record {
      can_next = tt;
      is_finite = tt;
      token = c.retire.ensures.opener;
      out = (let one_fewer = c.retire.ensures.one_fewer in omega arith);
      within = omega arith;
      rest = rest_at_end c.args.threads.items _ _ _ (vec_len c.args.threads) _ _ steps.0 fewer within was.rest;
      few = omega arith;
      room = c.push_reserved.ensures.capacity ∙ was.room;
      counted = λ none.
          let longer = ap length recorded ∙ length-append records (knows ∷ []) in let before = was.counted none in omega arith;
      played = λ none full i t e k below.
          let before = was.counted none in
          let place : vec_len all - into_iter_len c.loop-thread.thread-iterator ≡ n = omega arith in
          let this : thread ≡ get_or all.items n t =
          taken_at all.items _ _ _ (vec_len all) _ _ steps.0 fewer within was.rest t ∙ ap (λ m. get_or all.items m t) place
          in
          let kept = c.join-pass.ensures in
          let part = c.requires.parts n t (omega arith) in
          let same_gate : thread.promise.gate.value ≡ c.args.self.now.gate.now = rw this part.0 in
          let same : thread.promise.shared.value ≡ c.args.self.now.shared = rw this part.1 in
          let number : thread.promise.actor ≡ n = rw this part.2 in
          let last = promised _ _ g.G.Gate.has_passed _ _ _ n _ _ _ _ same_gate same number c.in-Some-ending.is kept.1 in
          rw (c.push_reserved.ensures.items, recorded)
          (one_more_played
          (g.G.Gate.has_passed c.args.self.now.gate.now) (setting_of c.args.self.now.shared).capacity n (λ m. expand_lines (get_or all.items m t).promise.lines.value.items)
          old.items records c.in-Some-ending.ending knows counted (omega arith)
          (λ j e' k' low. was.played none (omega arith) j t e' k' low)
          (rw (← this) last)
          i e k (omega arith));
    }

pub loop-thread-preserved : goal.loop-thread-preserved
loop-thread-preserved g c =
    let was = c.loop-thread.invariant in
    let steps = c.in-Some.ensures.steps in
    let fewer = steps.1 in
    let out = was.out in
    let within = was.within in
    let few = was.few in
    let records = records_of (opener_view c.loop-thread.opener) in
    let knows = knowledge_of (pass_view c.join-pass.result.pass) in
    let recorded = c.retire.ensures.recorded in
    record {
      can_next = tt;
      is_finite = tt;
      token = c.retire.ensures.opener;
      out = (let one_fewer = c.retire.ensures.one_fewer in omega arith);
      within = omega arith;
      rest = rest_at_end c.args.threads.items _ _ _ (vec_len c.args.threads) _ _ steps.0 fewer within was.rest;
      few = omega arith;
      room = was.room;
      counted = λ none.
          let longer = ap length recorded ∙ length-append records (knows ∷ []) in let before = was.counted none in omega arith;
      played = λ none full. absurd (omega arith);
    }
