use Rattle.std.proofs.Common.{arith, ◌≡◌, ◌<◌, ◌++◌, ℕ, [], ◌∷◌, length, get_or, sym, ap, ◌∙◌, below_more}
use Rattle.std.proofs.Math.ListN.{get_or-append}
use Rattle.std.proofs.Math.Seq.{get_or-append_seam}
use Rattle.std.proofs.lemmas.List.{get_or_default}
use Rattle.cmwq_actors.proofs.part.ActorStage.start.Goals as goal

pub returns-clause-parts : goal.returns-clause-parts
returns-clause-parts g c =
    λ i t a below. let started = c.loop-number.invariant.started in c.loop-number.invariant.parts i t a (omega arith)

pub returns-in-None-clause-parts : goal.returns-in-None-clause-parts
returns-in-None-clause-parts g c =
    λ i t a below. let started = c.loop-number.invariant.started in c.loop-number.invariant.parts i t a (omega arith)

-- The thread that was started stands behind the others, and promises of its own number and lines.
pub loop-number-preserved : goal.loop-number-preserved
loop-number-preserved g c =
    let was = c.loop-number.invariant in
    let n = c.loop-number.number in
    let old = c.loop-number.threads in
    let new = c.push_reserved.new.self in
    let thread = c.in-Some.thread in
    let one = c.in-Some.ensures in
    let counted = old.ok.0 in
    let long : length old.items ≡ n = sym counted ∙ was.started in
    let pushed = c.push_reserved.ensures.items in
    let promise = one.promise in
    record {
      token = one.opener;
      next = (let given = one.next in let next = was.next in omega arith);
      out = (let given = one.one_more in let out = was.out in omega arith);
      none_retired = one.same_records ∙ was.none_retired;
      started = (let longer = c.push_reserved.ensures.len in let started = was.started in omega arith);
      room = c.push_reserved.ensures.capacity ∙ was.room;
      parts = λ i t a below.
          let earlier = λ (k : ℕ) (low : k < n).
          ap (λ xs. get_or xs k t) pushed ∙ get_or-append old.items (thread ∷ []) t k (omega arith)
          in
          let last : get_or new.items n t ≡ thread =
          ap (λ xs. get_or xs n t) pushed ∙ ap (λ k. get_or (old.items ++ thread ∷ []) k t) (sym long)
          ∙ get_or-append_seam old.items thread [] t
          in
          let actor = c.actor.view_is ∙ c.index-actors-number.is ∙ get_or_default c.args.actors.now n _ a c.loop-number-test.true in
          below_more
          (λ k.
          ((get_or new.items k t).promise.gate.value ≡ c.args.self.now.gate.now)
          × ((get_or new.items k t).promise.shared.value ≡ c.args.self.now.shared)
          × ((get_or new.items k t).promise.actor ≡ k)
          × ((get_or new.items k t).promise.lines.value.items ≡ (get_or c.args.actors.now k a).lines))
          n
          (λ k low. rw (earlier k low) (was.parts k t a low))
          (rw last (promise.0, promise.1, promise.2, promise.3 ∙ ap (λ x. x.lines) actor))
          i below;
    }
