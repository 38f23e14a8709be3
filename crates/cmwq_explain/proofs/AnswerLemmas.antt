-- Where something is said of each state, something is told of each run that has a position to look at.
use Rattle.std.proofs.Common.{◌≡◌, inl, inr, ℕ, zero, suc, ◌<◌, ◌≤◌, Bool, true, false, List, [], ◌∷◌, ◌++◌, length, Option, Some, None, Result, Err, cond, arith, refl, sym, ap, subst, ◌∙◌, take, ◌⊎◌}
use Rattle.std.proofs.Math.Nat.{eq-or-lt_of_le}
use Rattle.std.proofs.lemmas.Bool.{cases_lt, eq-eqb}
use Rattle.std.specs.Prelude.{◌==◌, ◌&&◌, ◌||◌, if◌then◌else◌, option_map}
use Rattle.cmwq_types.specs.Contents.{ActorContents, ScenarioContents}
use Rattle.cmwq_types.specs.Scenario.{expand}
use Rattle.cmwq_types.specs.declared.instr.Instr.{Instr}
use Rattle.cmwq_table.specs.State.{State}
use Rattle.cmwq_table.specs.Table.{run}
use Rattle.cmwq_explain.specs.Changes.{changes_text, is_last, is_settled, looks_at, said_at, said_below, said_line, state_there, told_at, told_below}
use Rattle.cmwq_explain.specs.ChangesTold.{IsPastEnd}
use Rattle.cmwq_question.specs.declared.question.Looks.{Looks}
use Rattle.cmwq_question.specs.declared.question.Looks.TheVariants.{Settled, Every, At, Time}
use Rattle.cmwq_types.specs.Scenario.{work_named}
use Rattle.cmwq_streams.specs.declared.error.PlayError.{PlayError}
use Rattle.cmwq_streams.specs.declared.error.PlayError.TheVariants as errors
use Rattle.cmwq_explain.specs.Explained.{Explains, IsAsked, IsUnknown, has_stopped, line_of_work, said_of, said_to, told_along, with_stop}
use Rattle.cmwq_explain.specs.Laws.{AnswersAfterWorks, IsAfterFlush, LooksAtEachTick}
use Rattle.cmwq_explain.proofs.TimeLemmas.{ticks_are_reached}
use Rattle.cmwq_question.specs.declared.question.Inquiry.{Inquiry}
use Rattle.cmwq_question.specs.declared.question.Question.{Question}
use Rattle.cmwq_question.specs.declared.question.Question.TheVariants.{Work, Flush}

none-both : (xs ys : List ℕ) → xs ++ ys ≡ [] → (xs ≡ []) × (ys ≡ [])
none-both [] ys e = (refl, e)
none-both (x ∷ xs) ys e = cc

module _ (says : ScenarioContents → Bool → State → Option (List ℕ)) (looks : Looks) (S : ScenarioContents) (instrs : List Instr) (always : (is_last : Bool) (s : State) → (text : List ℕ) × (says S is_last s ≡ Some text)) where
  -- where nothing was said before, something is told
  first-told : (k time : ℕ) (before said : Option (List ℕ)) (text : List ℕ) → before ≡ None → said ≡ Some text → said_line k time before said ≡ [] → ⊥
  first-told k time None (Some words) text none is e = cc
  first-told k time (Some old) said text none is e = cc
  first-told k time before None text none is e = cc

  none-looked : (n : ℕ) (b : Bool) → looks_at says looks S instrs n ≡ b → told_at says looks S instrs n ≡ [] → said_below says looks S instrs n ≡ None → b ≡ false
  none-looked n false is nothing none = refl
  none-looked n true is nothing none =
      let here : said_line n (state_there says looks S instrs n).time (said_below says looks S instrs n) (said_at says looks S instrs n) ≡ [] =
      ap (λ (b : Bool). cond {A = List ℕ} b (said_line n (state_there says looks S instrs n).time (said_below says looks S instrs n) (said_at says looks S instrs n)) []) (sym is) ∙ nothing in
      let said = always (is_last says looks S instrs n) (state_there says looks S instrs n) in
      absurd (first-told n (state_there says looks S instrs n).time (said_below says looks S instrs n) (said_at says looks S instrs n) said.0 none said.1 here)

  -- where nothing is told, no position was looked at
  unlooked : (n : ℕ) → told_below says looks S instrs n ≡ [] → (said_below says looks S instrs n ≡ None) × ((k : ℕ) → k < n → looks_at says looks S instrs k ≡ false)
  unlooked zero nothing = (refl, λ k less. absurd (omega arith))
  unlooked (suc n) nothing =
      let both = none-both (told_below says looks S instrs n) (told_at says looks S instrs n) nothing in
      let before = unlooked n both.0 in
      let here : looks_at says looks S instrs n ≡ false = none-looked n (looks_at says looks S instrs n) refl both.1 before.0 in (
        ap (λ (b : Bool). cond {A = Option (List ℕ)} b (said_at says looks S instrs n) (said_below says looks S instrs n)) here ∙ before.0,
        λ k less. elim (eq-or-lt_of_le (let most : k ≤ n = omega arith in most)) [
          | inl at ↦ ap (looks_at says looks S instrs) at ∙ here
          | inr below ↦ before.1 k below
        ],
      )

-- a run that isn't past its end has a position that is looked at
or-true : (a b : Bool) → a ≡ true → (a || b) ≡ true
or-true true b e = refl
or-true false b e = cc

or-second : (a b : Bool) → b ≡ true → (a || b) ≡ true
or-second true b e = refl
or-second false b e = e

looked : (says : ScenarioContents → Bool → State → Option (List ℕ)) (looks : Looks) (S : ScenarioContents) (instrs : List Instr) → (IsPastEnd looks S instrs → ⊥)
    → (k : ℕ) × (k ≤ length instrs) × (looks_at says looks S instrs k ≡ true)
looked says Settled S instrs within = (length instrs, omega arith, or-true (length instrs == length instrs) _ (eq-eqb (length instrs) (length instrs) refl))
looked says Every S instrs within = (length instrs, omega arith, refl)
looked says (At position) S instrs within = elim (cases_lt (length instrs) position) [
  | inl past ↦ absurd (within past)
  | inr there ↦ (position, there, eq-eqb position position refl)
]
looked says (Time tick) S instrs within = elim (cases_lt (run S instrs).time tick) [
  | inl past ↦ absurd (within past)
  | inr there ↦ at-tick (ticks_are_reached S instrs tick there)
] where
  here : (k : ℕ) → (run S (take k instrs)).time ≡ tick → (is_last says (Time tick) S instrs k || is_settled S (run S (take k instrs))) ≡ true → looks_at says (Time tick) S instrs k ≡ true
  here k at so = ap (λ (b : Bool). b && (is_last says (Time tick) S instrs k || is_settled S (run S (take k instrs)))) (eq-eqb (run S (take k instrs)).time tick at) ∙ so

  at-tick : (k : ℕ) × (k ≤ length instrs) × ((run S (take k instrs)).time ≡ tick) × ((k ≡ length instrs) ⊎ (is_settled S (run S (take k instrs)) ≡ true))
      → (k : ℕ) × (k ≤ length instrs) × (looks_at says (Time tick) S instrs k ≡ true)
  at-tick (k, less, at, inl is) = (k, less, here k at (or-true (k == length instrs) _ (eq-eqb k (length instrs) is)))
  at-tick (k, less, at, inr settled) = (k, less, here k at (or-second (k == length instrs) _ settled))

something : (says : ScenarioContents → Bool → State → Option (List ℕ)) (looks : Looks) (S : ScenarioContents) (instrs : List Instr) → ((is_last : Bool) (s : State) → (text : List ℕ) × (says S is_last s ≡ Some text))
    → (IsPastEnd looks S instrs → ⊥) → changes_text says looks S instrs ≡ [] → ⊥
something says looks S instrs always within nothing =
    let at = looked says looks S instrs within in
    let least : at.0 ≤ length instrs = at.1 in
    let unseen : looks_at says looks S instrs at.0 ≡ false = (unlooked says looks S instrs always (suc (length instrs)) nothing).1 at.0 (omega arith) in
    let seen : looks_at says looks S instrs at.0 ≡ true = at.2 in
    cc

line-of : (S : ScenarioContents) (s : State) (o : Option ℕ) → (o ≡ None → ⊥) → (text : List ℕ) × (line_of_work S s o ≡ Some text)
line-of S s (Some w) known = (_, refl)
line-of S s None known = absurd (known refl)

stopped-or-not : (b : Bool) (o : Option (List ℕ)) → (text : List ℕ) × (o ≡ Some text) → (text : List ℕ) × ((if b then option_map with_stop o else o) ≡ Some text)
stopped-or-not true (Some words) some = (_, refl)
stopped-or-not true None some = absurd (let wrong = some.1 in cc)
stopped-or-not false o some = some

after-work : (inquiry : Inquiry) (question : Question) → inquiry.question ≡ question → (S T : ScenarioContents) (actor : ActorContents) → IsAsked inquiry S T actor → told_along inquiry T actor ≡ [] → IsAfterFlush question
after-work inquiry (Work name) is S T actor asked nothing =
    let known = subst (λ (question : Question). IsUnknown question T → ⊥) is asked.known in
    let silent = subst (λ (question : Question). changes_text (said_to question) inquiry.looks T (expand actor) ≡ []) is nothing in
    something (said_to (Work name)) inquiry.looks T (expand actor)
    (λ is_last s. stopped-or-not (has_stopped (Work name) T is_last s) (said_of (Work name) T s) (line-of T s (work_named T name.now) known)) asked.within silent
after-work inquiry (Flush flush) is S T actor asked nothing = tt

pub answers_after_works : AnswersAfterWorks
unfolding AnswersAfterWorks
answers_after_works inquiry S T actor asked nothing = after-work inquiry inquiry.question refl S T actor asked nothing

-- only a question after a flush goes without an answer for want of anything to tell
pub after_flush : (inquiry : Inquiry) (S : ScenarioContents) (before after : Option (List ℕ)) (failed : Bool) (r : Result (Unit {0}) PlayError)
    → Explains inquiry S before after failed r → r ≡ Err errors.NoSuchFlush → IsAfterFlush inquiry.question
unfolding AnswersAfterWorks
after_flush inquiry S before after failed (Err errors.NoSuchFlush) told is = elim told.why [
  | inl silent ↦ answers_after_works inquiry S silent.0 silent.1 silent.2 silent.3
  | inr sent ↦ absurd sent
]
after_flush inquiry S before after failed r told is = cc

pub each_tick : LooksAtEachTick
unfolding LooksAtEachTick
each_tick S instrs tick least = ticks_are_reached S instrs tick least
