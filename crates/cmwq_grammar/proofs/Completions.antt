-- Every stage that reading reaches goes on to some scenario.
use Rattle.std.proofs.Common.{◌≡◌, ℕ, true, List, [], ◌∷◌, ◌++◌, map, arith, refl, sym, ap, ◌∙◌, append-nil}
use Rattle.std.proofs.lemmas.List.{map-append}
use Rattle.cmwq_types.specs.Contents.{ScenarioContents, WorkContents}
use Rattle.cmwq_types.specs.Faults.{within}
use Rattle.cmwq_types.specs.Listing.{WrittenLine, op_line, written}
use Rattle.cmwq_types.specs.declared.limits.TheConstants.{MAX_CPUS, MAX_STEPS, MAX_WORKERS}
use Rattle.cmwq_types.specs.declared.scenario.Line.{Line}
use Rattle.cmwq_types.specs.declared.scenario.Op.{Op}
use Rattle.cmwq_types.specs.declared.scenario.Op.TheVariants as op
use Rattle.cmwq_grammar.specs.Stages.{Stage, Start, Cpus, Workers, Steps, Queues, Works, Bodies, Body, Actor, head_of, with_actor}
use Rattle.cmwq_grammar.proofs.Continuations.{Continues, SameHead, Sound, SoundBodies, SoundBody, SoundQueues, SoundWorks, at_least, bare, rest_lines}
use Rattle.cmwq_grammar.proofs.GoodScenario.{Good}
use Rattle.cmwq_grammar.proofs.ReadingLemmas.{EndsAs, actor_ends, queues_end}
use Rattle.cmwq_grammar.proofs.Soundness.{good_least}

-- a scenario, and the lines that are missing
pub record Completion (stage : Stage) : Type 0 where
  pub scenario : ScenarioContents
  pub lines : List WrittenLine
  pub good : Good scenario
  pub continues : Continues stage lines scenario

head_good : (cpus workers steps : ℕ) → within 1 MAX_CPUS cpus ≡ true → within 1 MAX_WORKERS workers ≡ true → within 1 MAX_STEPS steps ≡ true
    → Good (head_of cpus workers steps 0)
head_good cpus workers steps a b c = record {
  cpus = a;
  workers = b;
  steps = c;
  flushes = refl;
  few_queues = omega arith;
  few_works = omega arith;
  few_actors = omega arith;
  queue_names = tt;
  queues = refl;
  work_names = tt;
  works = refl;
  bodies = tt;
  actor_names = tt;
  actors = refl;
  actors_are = tt;
}

same_head : (D : ScenarioContents) (works : List WorkContents) → SameHead D (record D { works = works })
same_head D works = record { cpus = refl; workers = refl; steps = refl; flushes = refl }

bare_least : (ws : List WorkContents) → map bare (map at_least ws) ≡ map bare ws
bare_least [] = refl
bare_least (w ∷ ws) = ap (λ (xs : List WorkContents). bare w ∷ xs) (bare_least ws)

works_complete : (D : ScenarioContents) → SoundWorks D → Completion (Works D)
works_complete D sound =
    let works : List WorkContents = map at_least D.works in
    let S : ScenarioContents = record D { works = works } in
    record {
      scenario = S;
      lines = rest_lines S [] [] works S.actors;
      good = good_least D sound;
      continues = record {
        head = same_head D works;
        queues = refl;
        front = works;
        more = [];
        works = sym (append-nil works);
        declared = sound.declared ∙ sym (bare_least D.works);
        said = refl;
      };
    }

bodies_complete : (D : ScenarioContents) (done : List WorkContents) → SoundBodies D done → Completion (Bodies D done)
bodies_complete D done sound =
    let more : List WorkContents = map at_least sound.more in
    let S : ScenarioContents = record D { works = done ++ more } in
    record {
      scenario = S;
      lines = rest_lines S [] [] more S.actors;
      good = sound.good;
      continues = record {
        head = same_head D (done ++ more);
        queues = refl;
        more = more;
        works = refl;
        declared = sound.declared ∙ map-append bare done sound.more ∙ ap (λ (ws : List WorkContents). map bare done ++ ws) (sym (bare_least sound.more))
            ∙ sym (map-append bare done more);
        said = refl;
      };
    }

body_complete : (D : ScenarioContents) (done : List WorkContents) (ops : List Op) → SoundBody D done ops → Completion (Body D done ops)
body_complete D done ops sound =
    let more : List WorkContents = map at_least sound.more in
    let x : WorkContents = record sound.work { body = ops ++ op.Finish ∷ [] } in
    let S : ScenarioContents = record D { works = done ++ x ∷ more } in
    record {
      scenario = S;
      lines = map (op_line S) (op.Finish ∷ []) ++ rest_lines S [] [] more S.actors;
      good = sound.good;
      continues = record {
        head = same_head D (done ++ x ∷ more);
        queues = refl;
        work = x;
        left = op.Finish ∷ [];
        more = more;
        works = refl;
        body = refl;
        declared = sound.declared ∙ map-append bare done (sound.work ∷ sound.more)
            ∙ ap (λ (ws : List WorkContents). map bare done ++ bare sound.work ∷ ws) (sym (bare_least sound.more)) ∙ sym (map-append bare done (x ∷ more));
        said = refl;
      };
    }

queues_complete : (D : ScenarioContents) → SoundQueues D → Completion (Queues D)
queues_complete D sound =
    let ends : EndsAs (Queues D) D = queues_end D D sound refl in
    record { scenario = D; lines = []; good = ends.1; continues = ends.0 }

actor_complete : (D : ScenarioContents) (name : List ℕ) (given : List Line) → Good (with_actor D name given) → Completion (Actor D name given)
actor_complete D name given good =
    let ends : EndsAs (Actor D name given) (with_actor D name given) = actor_ends D (with_actor D name given) name given good refl in
    record { scenario = with_actor D name given; lines = []; good = ends.1; continues = ends.0 }

pub complete : (stage : Stage) → Sound stage → Completion stage
complete Start sound = record { scenario = head_of 1 1 1 0; lines = written (head_of 1 1 1 0); good = head_good 1 1 1 refl refl refl; continues = refl }
complete (Cpus cpus) sound = record { scenario = head_of cpus 1 1 0; lines = _; good = head_good cpus 1 1 sound refl refl; continues = (refl, refl) }
complete (Workers cpus workers) sound =
    record { scenario = head_of cpus workers 1 0; lines = _; good = head_good cpus workers 1 sound.0 sound.1 refl; continues = (refl, refl, refl) }
complete (Steps cpus workers steps) sound =
    record { scenario = head_of cpus workers steps 0; lines = _; good = head_good cpus workers steps sound.0 sound.1 sound.2; continues = (refl, refl, refl, refl) }
complete (Queues D) sound = queues_complete D sound
complete (Works D) sound = works_complete D sound
complete (Bodies D done) sound = bodies_complete D done sound
complete (Body D done ops) sound = body_complete D done ops sound
complete (Actor D name given) sound = actor_complete D name given sound
