-- Parts of what is told, one after another.
use Rattle.std.proofs.Common.{◌≡◌, ℕ, List, ◌++◌, Bool, Option, Result, Ok, Err, refl, ◌∙◌}
use Rattle.cmwq_types.specs.Contents.{ScenarioContents}
use Rattle.cmwq_table.specs.State.{State}
use Rattle.cmwq_streams.specs.Blocks.{kept, sink}
use Rattle.cmwq_streams.specs.declared.error.PlayError.{PlayError}
use Rattle.cmwq_streams.proofs.CallerLemmas.{front_more, front_then, sends_then}
use Rattle.cmwq_play.specs.Session.{Issued, Issues, Stopped}
use Rattle.cmwq_play.specs.declared.session.Session.{Session}

module _ {M W : Type 0} (loaded : M → ScenarioContents) (state : M → State) (contents : W → Option (List ℕ)) (failed : W → Bool) where
  module _ (a b c : Session M W) (mid : State) (first second : List ℕ) where
    pub then_issued : (to : State) → Issued loaded state contents failed a b mid first → Issued loaded state contents failed b c to second → Issued loaded state contents failed a c to (first ++ second)
    then_issued to one two = record {
      ready = two.ready;
      scenario = two.scenario ∙ one.scenario;
      same = two.same ∙ one.same;
      reached = two.reached;
      sent = sends_then (contents (sink a.lines)) (contents (sink b.lines)) (contents (sink c.lines)) (kept a.lines) (kept b.lines) (kept c.lines) first second one.sent two.sent;
    }

    -- the writing stopped at the second part
    pub then_stopped : (error : PlayError) → Issued loaded state contents failed a b mid first → Stopped loaded state contents failed b c second error → Stopped loaded state contents failed a c (first ++ second) error
    then_stopped error one two = record {
      same = two.same ∙ one.same;
      sent = front_then (contents (sink a.lines)) (contents (sink b.lines)) (contents (sink c.lines)) (kept a.lines) (kept b.lines) first second one.sent two.sent;
      write = two.write;
      why = two.why;
    }

    pub then_issues : (to : State) (r : Result (Unit {0}) PlayError) → Issued loaded state contents failed a b mid first → Issues loaded state contents failed b c to second r → Issues loaded state contents failed a c to (first ++ second) r
    then_issues to (Ok done) one two = then_issued to one two
    then_issues to (Err error) one two = then_stopped error one two

  -- and there was more to come
  pub stopped_more : (a c : Session M W) (first second : List ℕ) (error : PlayError) → Stopped loaded state contents failed a c first error → Stopped loaded state contents failed a c (first ++ second) error
  stopped_more a c first second error stopped = record {
    same = stopped.same;
    sent = front_more (contents (sink a.lines)) (contents (sink c.lines)) (kept a.lines) first second stopped.sent;
    write = stopped.write;
    why = stopped.why;
  }

-- what depends on a teller, a scenario and a state
pub alike : {T X : Type 0} (f : T → ScenarioContents → State → X) (l m : T) (R S : ScenarioContents) (s t : State) → l ≡ m → R ≡ S → s ≡ t → f l R s ≡ f m S t
alike f l m R S s t a b c = rw (a, b, c) refl
