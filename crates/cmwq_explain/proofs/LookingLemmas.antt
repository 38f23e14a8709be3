-- Parts of what is told, one after another.
use Rattle.std.proofs.Common.{◌≡◌, ℕ, List, ◌++◌, Bool, Option, refl, ◌∙◌}
use Rattle.cmwq_types.specs.Contents.{ScenarioContents}
use Rattle.cmwq_table.specs.State.{State}
use Rattle.cmwq_streams.specs.Blocks.{kept, sink}
use Rattle.cmwq_streams.specs.declared.error.PlayError.{PlayError}
use Rattle.cmwq_streams.proofs.CallerLemmas.{front_more, front_then, sends_then}
use Rattle.cmwq_play.specs.Session.{Issued, Stopped}
use Rattle.cmwq_play.specs.declared.session.Session.{Session}
use Rattle.cmwq_explain.specs.declared.looker.Looker.{Looker}

-- what depends on a looker, a scenario and a state
pub alike : {P X : Type 0} (f : Looker P → ScenarioContents → State → X) (l m : Looker P) (S T : ScenarioContents) (s t : State) → l ≡ m → S ≡ T → s ≡ t → f l S s ≡ f m T t
alike f l m S T s t a b c = rw (a, b, c) refl

module _ {M W : Type 0} (loaded : M → ScenarioContents) (state : M → State) (contents : W → Option (List ℕ)) (failed : W → Bool) (a b c : Session M W) (mid : State) (first second : List ℕ) where
  pub then_issued : (to : State) → Issued loaded state contents failed a b mid first → Issued loaded state contents failed b c to second → Issued loaded state contents failed a c to (first ++ second)
  then_issued to one two = record {
    ready = two.ready;
    scenario = two.scenario ∙ one.scenario;
    same = two.same ∙ one.same;
    reached = two.reached;
    sent = sends_then (contents (sink a.lines)) (contents (sink b.lines)) (contents (sink c.lines)) (kept a.lines) (kept b.lines) (kept c.lines) first second one.sent two.sent;
  }

  -- the writing stopped at the second part
  pub then_stopped : (error : PlayError) → Issued loaded state contents failed a b mid first → Stopped loaded state contents failed b c second error → Stopped loaded state contents failed a c (first ++ second) error
  then_stopped error one two = record {
    same = two.same ∙ one.same;
    sent = front_then (contents (sink a.lines)) (contents (sink b.lines)) (contents (sink c.lines)) (kept a.lines) (kept b.lines) first second one.sent two.sent;
    write = two.write;
    why = two.why;
  }

  -- and there was more to come
  pub stopped_more : (error : PlayError) → Stopped loaded state contents failed a c first error → Stopped loaded state contents failed a c (first ++ second) error
  stopped_more error stopped = record {
    same = stopped.same;
    sent = front_more (contents (sink a.lines)) (contents (sink c.lines)) (kept a.lines) first second stopped.sent;
    write = stopped.write;
    why = stopped.why;
  }
