-- What is said of an order is notes: without a line feed, ASCII alone, and short.
use Rattle.std.proofs.Common.{◌≡◌, ℕ, zero, suc, ◌^◌, ◌<◌, Bool, true, false, List, [], ◌∷◌, ◌++◌, Result, Ok, Err, OnOk, append-nil, append_assoc, ap, codes, cond, get_or, refl, subst, sym, ◌∙◌}
use Rattle.std.specs.Fmt.{decimal}
use Rattle.std.specs.List.{AllByRecursion}
use Rattle.cmwq_types.specs.Contents.{ActorContents, ScenarioContents}
use Rattle.cmwq_types.specs.Values.{IsInstr}
use Rattle.cmwq_types.specs.declared.instr.Instr.{Instr}
use Rattle.cmwq_types.specs.declared.reply.Reply.{Reply}
use Rattle.cmwq_table.specs.Events.{event_line_at, is_silent, reply_line, reply_words}
use Rattle.cmwq_table.specs.State.{State}
use Rattle.cmwq_table.specs.Table.{table}
use Rattle.cmwq_orders.specs.Orders.{no_actor}
use Rattle.cmwq_orders.specs.declared.choice.Choice.{Choice}
use Rattle.cmwq_orders.specs.declared.choice.Choice.TheVariants.{Line, Own}
use Rattle.cmwq_orders.specs.declared.question.Question.{Question}
use Rattle.cmwq_orders.specs.declared.question.Question.TheVariants.{After, Never, Together, Stuck}
use Rattle.cmwq_annotated.proofs.CallerLemmas.{instr_piece, joint, literal, named, number, reply_notes_are, within, work_piece}
use Rattle.cmwq_annotated.specs.Notes.{AreNotes, IsNote, Piece, note_lines, reply_notes}
use Rattle.cmwq_annotated.specs.ReplyNumbers.{IsReply}
use Rattle.cmwq_explored.specs.Answers.{actor_name}
use Rattle.cmwq_explored.specs.Found.{before_note, kind_note, notes_of_step, step_note, waits_note, who}
use Rattle.cmwq_explored.specs.Names.{HasName, HasNames}

-- an actor's name, which is empty where no actor has the number
name_at : (actors : List ActorContents) (actor : ℕ) → AllByRecursion HasName actors → Piece 15 (get_or actors actor no_actor).name
name_at [] actor are = literal 15 [] refl refl
name_at (a ∷ actors) zero are = named a.name are.0
name_at (a ∷ actors) (suc actor) are = name_at actors actor are.1

module _ (S : ScenarioContents) (names : HasNames S) where
  actor_piece : (actor : ℕ) → Piece 15 (actor_name S actor)
  actor_piece actor = name_at S.actors actor names.actors

  pub kind_is_note : (question : Question) → IsNote (kind_note S question)
  kind_is_note (After actor work) =
      within 253
      (joint (work_piece S work names.works)
      (joint (literal 25 (codes " is pending or runs, and ") refl refl) (joint (actor_piece actor) (literal 10 (codes " has ended") refl refl))))
      refl
  kind_is_note (Never work) = within 253 (joint (work_piece S work names.works) (literal 5 (codes " runs") refl refl)) refl
  kind_is_note (Together v w) =
      within 253
      (joint (work_piece S v names.works) (joint (literal 5 (codes " and ") refl refl) (joint (work_piece S w names.works) (literal 21 (codes " run at the same time") refl refl))))
      refl
  kind_is_note Stuck = literal 253 (codes "no actor can go on, and not all have ended") refl refl

  who_piece : (c : Choice) → Piece 15 (who S c)
  who_piece (Line actor) = actor_piece actor
  who_piece (Own i) = literal 15 (codes "(machine)") refl refl

  step_is_note : (n : ℕ) (c : Choice) (i : Instr) → n < 2 ^ 64 → IsInstr i → IsNote (step_note S n c i)
  step_is_note n c i small is =
      within 253
      (joint (joint (joint (joint (number n small) (literal 1 (codes " ") refl refl)) (who_piece c)) (literal 1 (codes " ") refl refl))
      (instr_piece S names.works names.queues i is))
      refl

  -- a step and the line of its reply
  pub step_are_notes : (n : ℕ) (s : State) (step : Choice × Instr) → n < 2 ^ 64 → IsInstr step.1 → IsReply (table S s step.1).1 → (table S s step.1).0.time < 2 ^ 64
      → AreNotes (notes_of_step S n s step)
  step_are_notes n s step small is reply time =
      (step_is_note n step.0 step.1 small is, reply_notes_are S (table S s step.1).0.time step.1 (table S s step.1).1 names.works reply time)

  pub waits_is_note : (actor flush : ℕ) → flush < 2 ^ 64 → IsNote (waits_note S actor flush)
  waits_is_note actor flush small =
      within 253 (joint (joint (actor_piece actor) (literal 17 (codes " waits for flush ") refl refl)) (number flush small)) refl

  pub before_is_note : (actor : ℕ) (i : Instr) → IsInstr i → IsNote (before_note S actor i)
  before_is_note actor i is =
      within 253 (joint (joint (actor_piece actor) (literal 11 (codes " is before ") refl refl)) (instr_piece S names.works names.queues i is)) refl

-- notes behind notes
pub are_notes : (xs ys : List (List ℕ)) → AreNotes xs → AreNotes ys → AreNotes (xs ++ ys)
are_notes [] ys a b = b
are_notes (x ∷ xs) ys a b = (a.0, are_notes xs ys a.1 b)

-- a reply that isn't silent: its line further in is its note
pub reply_noted : (S : ScenarioContents) (now : ℕ) (asked : Instr) (reply : Reply) → is_silent reply ≡ false
    → codes "#   " ++ reply_line S now asked reply ≡ note_lines (reply_notes S now asked reply)
unfolding reply_line
reply_noted S now asked reply loud = at (is_silent reply) loud
  where
    at : (b : Bool) → b ≡ false
        → codes "#   " ++ cond b [] (event_line_at now (reply_words S asked reply)) ≡ note_lines (cond b [] ((codes "  " ++ decimal now ++ codes " " ++ reply_words S asked reply) ∷ []))
    at false is = sym (append-nil (codes "#   " ++ event_line_at now (reply_words S asked reply)))
    at true is = cc

-- so it is, where it was written behind the text
pub pushed : (S : ScenarioContents) (now : ℕ) (asked : Instr) (reply : Reply) (old mid new : List ℕ) {E : Type 0} (r : Result (Unit {0}) E)
    → is_silent reply ≡ false → mid ≡ old ++ codes "#   " → OnOk r (new ≡ mid ++ reply_line S now asked reply)
    → OnOk r (new ≡ old ++ note_lines (reply_notes S now asked reply))
pushed S now asked reply old mid new (Ok done) loud first then =
    then ∙ ap (λ (text : List ℕ). text ++ reply_line S now asked reply) first ∙ append_assoc old (codes "#   ") (reply_line S now asked reply)
    ∙ ap (λ (text : List ℕ). old ++ text) (reply_noted S now asked reply loud)
pushed S now asked reply old mid new (Err why) loud first then = tt

-- a step that the machine carried out, and the line of its reply, are notes
pub noted_on : (S : ScenarioContents) (names : HasNames S) (n : ℕ) (s : State) (step : Choice × Instr) (loaded : ScenarioContents) (t : State) (reply : Reply) (now : ℕ)
    {E : Type 0} (r : Result (Unit {0}) E) → n < 2 ^ 64 → IsInstr step.1 → loaded ≡ S → (t, reply) ≡ table loaded s step.1 → IsReply reply → now ≡ t.time → now < 2 ^ 64
    → OnOk r (AreNotes (notes_of_step S n s step))
noted_on S names n s step loaded t reply now (Ok done) small is same exact fits is_now early =
    let whole : (t, reply) ≡ table S s step.1 = exact ∙ ap (λ (T : ScenarioContents). table T s step.1) same in
    let answer : reply ≡ (table S s step.1).1 = ap (λ (x : State × Reply). x.1) whole in
    let after : t ≡ (table S s step.1).0 = ap (λ (x : State × Reply). x.0) whole in
    step_are_notes S names n s step small is (subst IsReply answer fits)
    (subst (λ (time : ℕ). time < 2 ^ 64) (is_now ∙ ap (λ (u : State). u.time) after) early)
noted_on S names n s step loaded t reply now (Err why) small is same exact fits is_now early = tt
