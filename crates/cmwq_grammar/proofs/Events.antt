-- Declarations, bodies and actors as stages take them: what is read, and that it is read.
use Rattle.std.proofs.Common.{◌≡◌, ℕ, ◌+◌, ◌<◌, true, false, not, ◌⊎◌, List, [], ◌∷◌, ◌++◌, length, get_or, eqb, ltb, Ok, Err, sym, ap, ◌∙◌, inl, inr, subst, codes, refl}
use Rattle.std.specs.Str.{bytes_eq}
use Rattle.cmwq_types.specs.Contents.{ScenarioContents, WorkContents}
use Rattle.cmwq_types.specs.Faults.{fits_flags, is_finish}
use Rattle.cmwq_types.specs.Listing.{actor_line, queue_line, work_line}
use Rattle.cmwq_types.specs.Name.{is_name}
use Rattle.cmwq_types.specs.Values.{IsLine}
use Rattle.cmwq_types.specs.declared.check.Fault.TheVariants as fault
use Rattle.cmwq_types.specs.declared.limits.TheConstants.{MAX_ACTORS, MAX_LINES, MAX_OPS, MAX_QUEUES, MAX_WORKS}
use Rattle.cmwq_types.specs.declared.scenario.Line.{Line}
use Rattle.cmwq_types.specs.declared.scenario.Op.{Op}
use Rattle.cmwq_types.specs.declared.scenario.QueueDecl.{QueueDecl}
use Rattle.cmwq_grammar.specs.LineFields.{◌>>=◌, declared_at, made_last, new_name_at, value_if}
use Rattle.cmwq_grammar.specs.Grammar.{Says}
use Rattle.cmwq_grammar.specs.Instructions.{actor_names, cannot_stand, instr_at, line_at, queue_names, work_names}
use Rattle.cmwq_grammar.specs.LineReasons.{add_actor, add_line, add_op, add_queue, add_work, is_next, op_at_line, open_actor, open_body, queue_at_line, work_at_line}
use Rattle.cmwq_grammar.specs.Stages.{Stage, Queues, Works, Bodies, Body, Actor, with_body}
use Rattle.cmwq_grammar.specs.declared.why.Why.TheVariants as why
use Rattle.cmwq_grammar.proofs.Basics.{ok_same, fine, bind_ok, bind_at, value_if_ok, value_if_at, chosen, either, cond_yes, cond_no, not_false, same_word, below, below_is, equal, equal_is}
use Rattle.cmwq_grammar.proofs.FieldLemmas.{IsNew, declared_read, ended_again, last_read, new_name_read, new_name_again}
use Rattle.cmwq_grammar.proofs.LineLemmas.{OpRead, op_read, queue_read, work_read}
use Rattle.cmwq_grammar.proofs.InstrLemmas.{FewNames, LineRead, good_line, line_read}
use Rattle.cmwq_grammar.proofs.NameLists.{GoodNames, declared_good}

-- A queue.

abbrev pub with_queue : ScenarioContents → QueueDecl → ScenarioContents
with_queue D queue = record D { queues = D.queues ++ queue ∷ [] }

abbrev pub with_work : ScenarioContents → WorkContents → ScenarioContents
with_work D work = record D { works = D.works ++ work ∷ [] }

pub record QueueAdded (D : ScenarioContents) (said : List (List ℕ)) (next : Stage) : Type 0 where
  pub queue : QueueDecl
  pub stage : Queues (with_queue D queue) ≡ next
  pub says : Says (queue_line queue) said
  pub new : IsNew (queue_names D) queue.name
  pub name : is_name queue.name ≡ true
  pub flags : fits_flags queue ≡ true
  pub room : length D.queues < MAX_QUEUES

queue_stage : (D : ScenarioContents) (queue : QueueDecl) (next : Stage) → add_queue D queue ≡ Ok next
    → (fits_flags queue ≡ true) × (length D.queues < MAX_QUEUES) × (Queues (with_queue D queue) ≡ next)
unfolding add_queue
queue_stage D queue next e =
    elim (chosen (not (fits_flags queue)) (Err (why.Fault fault.BadFlags)) (value_if (ltb (length D.queues) MAX_QUEUES) (Queues (with_queue D queue)) (why.Fault fault.TooMany)) (Ok next) e) [
      | inl bad ↦ absurd (not_fine next bad.1)
      | inr it ↦ (let room : (ltb (length D.queues) MAX_QUEUES ≡ true) × (Queues (with_queue D queue) ≡ next) = value_if_ok (ltb (length D.queues) MAX_QUEUES) (Queues (with_queue D queue)) (why.Fault fault.TooMany) next it.1 in
          (not_false (fits_flags queue) it.0, below (length D.queues) MAX_QUEUES room.0, room.1))
    ]
  where
    not_fine : (n : Stage) → Err (why.Fault fault.BadFlags) ≡ fine n → ⊥
    not_fine n h = cc

pub queue_added : (D : ScenarioContents) (rest : List (List ℕ)) (next : Stage) → (queue_at_line D rest >>= add_queue D) ≡ Ok next
    → QueueAdded D (codes "queue" ∷ rest) next
queue_added D rest next e =
    let there : (q : QueueDecl) × (queue_at_line D rest ≡ Ok q) × (add_queue D q ≡ Ok next) = bind_ok (queue_at_line D rest) (add_queue D) next e in
    let read : Says (queue_line there.0) (codes "queue" ∷ rest) × IsNew (queue_names D) (there.0).name × (is_name (there.0).name ≡ true) =
    queue_read D rest there.0 there.1 in
    let added : (fits_flags there.0 ≡ true) × (length D.queues < MAX_QUEUES) × (Queues (with_queue D there.0) ≡ next) = queue_stage D there.0 next there.2 in
    record { queue = there.0; stage = added.2; says = read.0; new = read.1; name = read.2; flags = added.0; room = added.1 }

pub queue_adds : (D : ScenarioContents) (queue : QueueDecl) → fits_flags queue ≡ true → length D.queues < MAX_QUEUES
    → add_queue D queue ≡ Ok (Queues (with_queue D queue))
unfolding add_queue
queue_adds D queue fits room =
    cond_no (not (fits_flags queue)) (Err (why.Fault fault.BadFlags)) (value_if (ltb (length D.queues) MAX_QUEUES) (Queues (with_queue D queue)) (why.Fault fault.TooMany)) (ap not fits)
    ∙ value_if_at (ltb (length D.queues) MAX_QUEUES) (Queues (with_queue D queue)) (why.Fault fault.TooMany) (below_is (length D.queues) MAX_QUEUES room)

-- A work.

pub record WorkAdded (D : ScenarioContents) (said : List (List ℕ)) (next : Stage) : Type 0 where
  pub work : WorkContents
  pub stage : Works (with_work D work) ≡ next
  pub says : Says (work_line D work) said
  pub new : IsNew (work_names D) work.name
  pub name : is_name work.name ≡ true
  pub queue : ltb work.queue.0 (length D.queues) ≡ true
  pub bare : work.body ≡ []
  pub room : length D.works < MAX_WORKS

pub work_added : (D : ScenarioContents) (rest : List (List ℕ)) (next : Stage) → (work_at_line D rest >>= add_work D) ≡ Ok next → WorkAdded D (codes "work" ∷ rest) next
unfolding add_work
work_added D rest next e =
    let there : (w : WorkContents) × (work_at_line D rest ≡ Ok w) × (add_work D w ≡ Ok next) = bind_ok (work_at_line D rest) (add_work D) next e in
    let read : Says (work_line D there.0) (codes "work" ∷ rest) × IsNew (work_names D) (there.0).name × (is_name (there.0).name ≡ true) × (ltb ((there.0).queue).0 (length D.queues) ≡ true) × ((there.0).body ≡ []) =
    work_read D rest there.0 there.1 in
    let room : (ltb (length D.works) MAX_WORKS ≡ true) × (Works (with_work D there.0) ≡ next) =
    value_if_ok (ltb (length D.works) MAX_WORKS) (Works (with_work D there.0)) (why.Fault fault.TooMany) next there.2 in
    record { work = there.0; stage = room.1; says = read.0; new = read.1; name = read.2; queue = read.3; bare = read.4; room = below (length D.works) MAX_WORKS room.0 }

pub work_adds : (D : ScenarioContents) (work : WorkContents) → length D.works < MAX_WORKS → add_work D work ≡ Ok (Works (with_work D work))
unfolding add_work
work_adds D work room = value_if_at (ltb (length D.works) MAX_WORKS) (Works (with_work D work)) (why.Fault fault.TooMany) (below_is (length D.works) MAX_WORKS room)

-- A body.

pub body_opened : (D : ScenarioContents) (done : List WorkContents) (rest : List (List ℕ)) (next : Stage) → open_body D done rest ≡ Ok next
    → (rest ≡ get_or (work_names D) (length done) [] ∷ []) × (length done < length (work_names D)) × (Body D done [] ≡ next)
unfolding open_body
body_opened D done rest next e =
    let last : (n : ℕ × List (List ℕ)) × ((declared_at (work_names D) rest >>= is_next (length done)) ≡ Ok n) × (made_last (λ work. Body D done []) n ≡ Ok next) =
    bind_ok (declared_at (work_names D) rest >>= is_next (length done)) (made_last (λ work. Body D done [])) next e in
    let work : (n : ℕ × List (List ℕ)) × (declared_at (work_names D) rest ≡ Ok n) × (is_next (length done) n ≡ Ok last.0) =
    bind_ok (declared_at (work_names D) rest) (is_next (length done)) last.0 last.1 in
    let placed : (eqb (work.0).0 (length done) ≡ true) × (work.0 ≡ last.0) = value_if_ok (eqb (work.0).0 (length done)) work.0 why.Misplaced last.0 work.2 in
    let made : ((last.0).1 ≡ []) × (Body D done [] ≡ next) = last_read (λ (n : ℕ). Body D done []) last.0 next last.2 in
    let there : (rest ≡ get_or (work_names D) (work.0).0 [] ∷ (work.0).1) × ((work.0).0 < length (work_names D)) = declared_read (work_names D) rest work.0 work.1 in
    let number : (work.0).0 ≡ length done = equal (work.0).0 (length done) placed.0 in
    let none : (work.0).1 ≡ [] = ap (λ (n : ℕ × List (List ℕ)). n.1) placed.1 ∙ made.0 in (
      there.0 ∙ ap (λ (n : ℕ). get_or (work_names D) n [] ∷ (work.0).1) number ∙ ap (λ (ws : List (List ℕ)). get_or (work_names D) (length done) [] ∷ ws) none,
      subst (λ (n : ℕ). n < length (work_names D)) number there.1,
      made.1,
    )

pub body_opens : (D : ScenarioContents) (done : List WorkContents) → GoodNames [] (work_names D) → length done < length (work_names D)
    → open_body D done (get_or (work_names D) (length done) [] ∷ []) ≡ Ok (Body D done [])
unfolding open_body
body_opens D done names there =
    let name = get_or (work_names D) (length done) [] in
    let found : declared_at (work_names D) (name ∷ []) ≡ Ok (length done, []) = declared_good (work_names D) (length done) [] names there in
    let next : (declared_at (work_names D) (name ∷ []) >>= is_next (length done)) ≡ Ok (length done, []) =
    bind_at (declared_at (work_names D) (name ∷ [])) (is_next (length done)) (length done, []) found
    ∙ value_if_at (eqb (length done) (length done)) (length done, []) why.Misplaced (equal_is (length done) (length done) refl) in
    bind_at (declared_at (work_names D) (name ∷ []) >>= is_next (length done)) (made_last (λ work. Body D done [])) (length done, []) next ∙ ended_again (Body D done [])

-- An operation.

pub record OpAdded (D : ScenarioContents) (done : List WorkContents) (ops : List Op) (word : List ℕ) (rest : List (List ℕ)) (next : Stage) : Type 0 where
  pub last : Op
  pub read : OpRead D word rest last
  pub stage :
      ((is_finish last ≡ true) × (Bodies D (with_body D done (ops ++ last ∷ [])) ≡ next))
      ⊎ ((is_finish last ≡ false) × (length ops + 1 < MAX_OPS) × (Body D done (ops ++ last ∷ []) ≡ next))

pub op_added : (D : ScenarioContents) (done : List WorkContents) (ops : List Op) (word : List ℕ) (rest : List (List ℕ)) (next : Stage)
    → (op_at_line D word rest >>= add_op D done ops) ≡ Ok next → OpAdded D done ops word rest next
unfolding add_op
op_added D done ops word rest next e =
    let there : (o : Op) × (op_at_line D word rest ≡ Ok o) × (add_op D done ops o ≡ Ok next) = bind_ok (op_at_line D word rest) (add_op D done ops) next e in
    let more : List Op = ops ++ there.0 ∷ [] in
    record {
      last = there.0;
      read = op_read D word rest there.0 there.1;
      stage =
          elim (chosen (is_finish there.0) (fine (Bodies D (with_body D done more))) (value_if (ltb (length ops + 1) MAX_OPS) (Body D done more) (why.Fault fault.TooMany)) (Ok next) there.2) [
            | inl it ↦ inl (it.0, ok_same (Bodies D (with_body D done more)) next it.1)
            | inr it ↦ (let room : (ltb (length ops + 1) MAX_OPS ≡ true) × (Body D done more ≡ next) = value_if_ok (ltb (length ops + 1) MAX_OPS) (Body D done more) (why.Fault fault.TooMany) next it.1 in
                inr (it.0, below (length ops + 1) MAX_OPS room.0, room.1))
          ];
    }

pub finish_adds : (D : ScenarioContents) (done : List WorkContents) (ops : List Op) (last : Op) → is_finish last ≡ true
    → add_op D done ops last ≡ Ok (Bodies D (with_body D done (ops ++ last ∷ [])))
unfolding add_op
finish_adds D done ops last e =
    cond_yes (is_finish last) (fine (Bodies D (with_body D done (ops ++ last ∷ [])))) (value_if (ltb (length ops + 1) MAX_OPS) (Body D done (ops ++ last ∷ [])) (why.Fault fault.TooMany)) e

pub op_adds : (D : ScenarioContents) (done : List WorkContents) (ops : List Op) (last : Op) → is_finish last ≡ false → length ops + 1 < MAX_OPS
    → add_op D done ops last ≡ Ok (Body D done (ops ++ last ∷ []))
unfolding add_op
op_adds D done ops last e room =
    cond_no (is_finish last) (fine (Bodies D (with_body D done (ops ++ last ∷ [])))) (value_if (ltb (length ops + 1) MAX_OPS) (Body D done (ops ++ last ∷ [])) (why.Fault fault.TooMany)) e
    ∙ value_if_at (ltb (length ops + 1) MAX_OPS) (Body D done (ops ++ last ∷ [])) (why.Fault fault.TooMany) (below_is (length ops + 1) MAX_OPS room)

-- An actor.

pub record ActorOpened (D : ScenarioContents) (rest : List (List ℕ)) (next : Stage) : Type 0 where
  pub name : List ℕ
  pub stage : Actor D name [] ≡ next
  pub says : rest ≡ name ∷ []
  pub new : IsNew (actor_names D) name
  pub is : is_name name ≡ true
  pub room : length D.actors < MAX_ACTORS

pub actor_opened : (D : ScenarioContents) (rest : List (List ℕ)) (next : Stage) → open_actor D rest ≡ Ok next → ActorOpened D rest next
unfolding open_actor
actor_opened D rest next e =
    let last : (n : List ℕ) × ((new_name_at (actor_names D) rest >>= made_last (λ name. name)) ≡ Ok n) × (add_actor D n ≡ Ok next) =
    bind_ok (new_name_at (actor_names D) rest >>= made_last (λ name. name)) (add_actor D) next e in
    let name : (n : List ℕ × List (List ℕ)) × (new_name_at (actor_names D) rest ≡ Ok n) × (made_last (λ m. m) n ≡ Ok last.0) =
    bind_ok (new_name_at (actor_names D) rest) (made_last (λ m. m)) last.0 last.1 in
    let made : ((name.0).1 ≡ []) × ((name.0).0 ≡ last.0) = last_read (λ (m : List ℕ). m) name.0 last.0 name.2 in
    let read : (rest ≡ (name.0).0 ∷ (name.0).1) × (is_name (name.0).0 ≡ true) × IsNew (actor_names D) (name.0).0 = new_name_read (actor_names D) rest name.0 name.1 in
    let room : (ltb (length D.actors) MAX_ACTORS ≡ true) × (Actor D last.0 [] ≡ next) =
    value_if_ok (ltb (length D.actors) MAX_ACTORS) (Actor D last.0 []) (why.Fault fault.TooMany) next last.2 in
    record {
      name = last.0;
      stage = room.1;
      says = read.0 ∙ ap (λ (n : List ℕ). n ∷ (name.0).1) made.1 ∙ ap (λ (ws : List (List ℕ)). last.0 ∷ ws) made.0;
      new = subst (λ (n : List ℕ). IsNew (actor_names D) n) made.1 read.2;
      is = sym (ap is_name made.1) ∙ read.1;
      room = below (length D.actors) MAX_ACTORS room.0;
    }

pub actor_opens : (D : ScenarioContents) (name : List ℕ) → is_name name ≡ true → IsNew (actor_names D) name → length D.actors < MAX_ACTORS
    → open_actor D (name ∷ []) ≡ Ok (Actor D name [])
unfolding open_actor
actor_opens D name is new room =
    let found : (new_name_at (actor_names D) (name ∷ []) >>= made_last (λ n. n)) ≡ Ok name =
    bind_at (new_name_at (actor_names D) (name ∷ [])) (made_last (λ n. n)) (name, []) (new_name_again (actor_names D) name [] is new) ∙ ended_again name in
    bind_at (new_name_at (actor_names D) (name ∷ []) >>= made_last (λ n. n)) (add_actor D) name found
    ∙ value_if_at (ltb (length D.actors) MAX_ACTORS) (Actor D name []) (why.Fault fault.TooMany) (below_is (length D.actors) MAX_ACTORS room)

-- An actor's line.

pub record LineAdded (D : ScenarioContents) (name : List ℕ) (lines : List Line) (said : List (List ℕ)) (next : Stage) : Type 0 where
  pub line : Line
  pub stage : Actor D name (lines ++ line ∷ []) ≡ next
  pub says : Says (actor_line D line) said
  pub good : good_line D line ≡ true
  pub is : IsLine line
  pub room : length lines < MAX_LINES

pub line_added : (D : ScenarioContents) (name : List ℕ) (lines : List Line) (word : List ℕ) (rest : List (List ℕ)) (next : Stage) → FewNames D
    → (line_at D word rest >>= add_line D name lines) ≡ Ok next → LineAdded D name lines (word ∷ rest) next
unfolding add_line
line_added D name lines word rest next few e =
    let there : (l : Line) × (line_at D word rest ≡ Ok l) × (add_line D name lines l ≡ Ok next) = bind_ok (line_at D word rest) (add_line D name lines) next e in
    let read : LineRead D (word ∷ rest) there.0 = line_read D word rest there.0 few there.1 in
    let room : (ltb (length lines) MAX_LINES ≡ true) × (Actor D name (lines ++ there.0 ∷ []) ≡ next) =
    value_if_ok (ltb (length lines) MAX_LINES) (Actor D name (lines ++ there.0 ∷ [])) (why.Fault fault.TooMany) next there.2 in
    record { line = there.0; stage = room.1; says = read.0; good = read.1; is = read.2; room = below (length lines) MAX_LINES room.0 }

pub line_adds : (D : ScenarioContents) (name : List ℕ) (lines : List Line) (line : Line) → length lines < MAX_LINES
    → add_line D name lines line ≡ Ok (Actor D name (lines ++ line ∷ []))
unfolding add_line
line_adds D name lines line room =
    value_if_at (ltb (length lines) MAX_LINES) (Actor D name (lines ++ line ∷ [])) (why.Fault fault.TooMany) (below_is (length lines) MAX_LINES room)

err_not_fine : (l : Line) → Err why.Misplaced ≡ fine l → ⊥
err_not_fine l h = cc

actor_refused : (D : ScenarioContents) (rest : List (List ℕ)) (line : Line) → line_at D (codes "actor") rest ≡ Ok line → ⊥
unfolding line_at instr_at cannot_stand
actor_refused D rest line h = err_not_fine line h

-- no instruction begins with `actor`
pub not_actor : (D : ScenarioContents) (word : List ℕ) (rest : List (List ℕ)) (line : Line) → line_at D word rest ≡ Ok line → bytes_eq word (codes "actor") ≡ false
not_actor D word rest line e =
    elim (either (bytes_eq word (codes "actor"))) [
      | inl it ↦ absurd (actor_refused D rest line (sym (ap (λ (w : List ℕ). line_at D w rest) (same_word word (codes "actor") it)) ∙ e))
      | inr no_actor ↦ no_actor
    ]
