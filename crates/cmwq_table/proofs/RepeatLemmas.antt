-- What comes out the same when it is carried out again.
use Rattle.std.proofs.Common.{◌≡◌, ℕ, zero, suc, ◌+◌, ◌<◌, ◌≤◌, true, Option, Some, None, arith, refl, sym, ap, ◌∙◌, subst}
use Rattle.std.proofs.lemmas.Bool.{lt-ltb}
use Rattle.cmwq_types.specs.Contents.{ScenarioContents}
use Rattle.cmwq_types.specs.declared.instr.Instr.{Instr}
use Rattle.cmwq_types.specs.declared.instr.Instr.TheVariants as instr
use Rattle.cmwq_types.specs.declared.instr.WorkId.{WorkId}
use Rattle.cmwq_types.specs.declared.reply.Refusal.{Refusal}
use Rattle.cmwq_types.specs.declared.reply.Reply.{Reply}
use Rattle.cmwq_types.specs.declared.reply.Reply.TheVariants as reply
use Rattle.cmwq_table.specs.declared.state.Pending.{Pending}
use Rattle.cmwq_table.specs.Counts.{or_else}
use Rattle.cmwq_table.specs.Repeats.{HasAnswered, HasRepeated, after_times, reply_behind}
use Rattle.cmwq_table.specs.State.{State, pending_at}
use Rattle.cmwq_table.specs.Table.{answer, cancelled, delayed, is_met, is_question, operands, queued, refusal, situation, spent_all, table}
use Rattle.cmwq_table.proofs.GoingLemmas.{table-met}
use Rattle.cmwq_table.proofs.LawLemmas.Refusals.{asked-free, free-same, refused-same}

-- An instruction that left the state as it was is answered the same, however often.

same_always :
    (S : ScenarioContents) (s : State) (i : Instr) (r : Reply) → table S s i ≡ (s, r)
    → (count : ℕ) → (after_times S s i count ≡ s) × (reply_behind S s i count ≡ r)
same_always S s i r same zero = (refl, ap (λ (p : State × Reply). p.1) same)
same_always S s i r same (suc count) =
    let stays : (table S s i).0 ≡ s = ap (λ (p : State × Reply). p.0) same in
    subst (λ (x : State). (after_times S x i count ≡ s) × (reply_behind S x i count ≡ r)) (sym stays) (same_always S s i r same count)

repeats_always :
    (S : ScenarioContents) (s : State) (i : Instr) (r : Reply) (most : ℕ) → table S s i ≡ (s, r) → HasRepeated S s i r most most s
repeats_always S s i r most same = record {
  few = (omega arith);
  state = sym (same_always S s i r same most).0;
  time = λ times within. rw (same_always S s i r same times).0 refl;
  replies = λ earlier below. (same_always S s i r same earlier).1;
}

left_as_it_was :
    (S : ScenarioContents) (t s : State) (i : Instr) (r : Reply) → (s, r) ≡ table S t i → (table S t i).0 ≡ t → table S s i ≡ (s, r)
left_as_it_was S t s i r told same =
    let is : s ≡ t = ap (λ (p : State × Reply). p.0) told ∙ same in
    subst (λ (x : State). table S x i ≡ (s, r)) (sym is) (sym told)

-- a question is answered the same
pub question_repeats :
    (S : ScenarioContents) (s : State) (i : Instr) (r : Reply) (most : ℕ) → HasAnswered S s i r → is_question i ≡ true → HasRepeated S s i r most most s
unfolding table
question_repeats S s i r most answered asks =
    let t = answered.0 in
    repeats_always S s i r most (left_as_it_was S t s i r answered.1 (free-same S t i (asked-free S t i asks) (refusal S t i)))

-- what has what it goes on for is answered so
pub met_repeats :
    (S : ScenarioContents) (s : State) (i : Instr) (most : ℕ) → operands S s i ≡ None → is_met S s i ≡ true → HasRepeated S s i reply.Done most most s
met_repeats S s i most there met = repeats_always S s i reply.Done most (table-met S s i there met)

-- what was refused is refused again
pub refusal_repeats :
    (S : ScenarioContents) (s : State) (i : Instr) (why : Refusal) (most : ℕ) → HasAnswered S s i (reply.Refused why) → HasRepeated S s i (reply.Refused why) most most s
unfolding table
refusal_repeats S s i why most answered =
    let t = answered.0 in
    let told : (table S t i).1 ≡ reply.Refused why = ap (λ (p : State × Reply). p.1) (sym answered.1) in
    repeats_always S s i (reply.Refused why) most
    (left_as_it_was S t s i (reply.Refused why) answered.1 (refused-same S t i (operands S t i) (spent_all S t i) (situation S t i) refl why told))

-- What is queued already, or not pending, is so again, and only spent.

abbrev pub with_spent : State → ℕ → State
with_spent s spent = record s { spent = spent }

-- the instruction spends a step and nothing else, as often as there are steps
abbrev SpendsAlone : ScenarioContents → State → Instr → Reply → Type 0
SpendsAlone S s i r = (m : ℕ) → m < S.steps → table S (with_spent s m) i ≡ (with_spent s (m + 1), r)

queued_again :
    (S : ScenarioContents) (t : State) (w : WorkId) (cpu m : ℕ) (a b c : Option Refusal) (o : Option Pending)
    → (answer S t (instr.Queue w cpu) (or_else a (or_else b c)) (queued S t w.0 cpu o)).1 ≡ reply.Already
    → answer S (with_spent t m) (instr.Queue w cpu) (or_else a (or_else None c)) (queued S (with_spent t m) w.0 cpu o)
    ≡ (with_spent t (m + 1), reply.Already)
queued_again S t w cpu m (Some x) b c o e = cc
queued_again S t w cpu m None (Some x) c o e = cc
queued_again S t w cpu m None None (Some x) o e = cc
queued_again S t w cpu m None None None (Some p) e = refl
queued_again S t w cpu m None None None None e = cc

delayed_again :
    (S : ScenarioContents) (t : State) (w : WorkId) (cpu ticks m : ℕ) (a b c : Option Refusal) (o : Option Pending)
    → (answer S t (instr.Delay w cpu ticks) (or_else a (or_else b c)) (delayed S t w.0 cpu ticks o)).1 ≡ reply.Already
    → answer S (with_spent t m) (instr.Delay w cpu ticks) (or_else a (or_else None c)) (delayed S (with_spent t m) w.0 cpu ticks o)
    ≡ (with_spent t (m + 1), reply.Already)
delayed_again S t w cpu ticks m (Some x) b c o e = cc
delayed_again S t w cpu ticks m None (Some x) c o e = cc
delayed_again S t w cpu ticks m None None (Some x) o e = cc
delayed_again S t w cpu ticks m None None None (Some p) e = refl
delayed_again S t w cpu ticks m None None None None e = cc

cancelled_again :
    (S : ScenarioContents) (t : State) (w : WorkId) (m : ℕ) (a b c : Option Refusal) (o : Option Pending)
    → (answer S t (instr.Cancel w) (or_else a (or_else b c)) (cancelled S t w.0 o)).1 ≡ reply.NotPending
    → answer S (with_spent t m) (instr.Cancel w) (or_else a (or_else None c)) (cancelled S (with_spent t m) w.0 o)
    ≡ (with_spent t (m + 1), reply.NotPending)
cancelled_again S t w m (Some x) b c o e = cc
cancelled_again S t w m None (Some x) c o e = cc
cancelled_again S t w m None None (Some x) o e = cc
cancelled_again S t w m None None None (Some p) e = cc
cancelled_again S t w m None None None None e = refl

queued_left :
    (S : ScenarioContents) (t : State) (w : WorkId) (cpu : ℕ) (a b c : Option Refusal) (o : Option Pending)
    → (answer S t (instr.Queue w cpu) (or_else a (or_else b c)) (queued S t w.0 cpu o)).1 ≡ reply.Already
    → (answer S t (instr.Queue w cpu) (or_else a (or_else b c)) (queued S t w.0 cpu o)).0 ≡ with_spent t (t.spent + 1)
queued_left S t w cpu (Some x) b c o e = cc
queued_left S t w cpu None (Some x) c o e = cc
queued_left S t w cpu None None (Some x) o e = cc
queued_left S t w cpu None None None (Some p) e = refl
queued_left S t w cpu None None None None e = cc

delayed_left :
    (S : ScenarioContents) (t : State) (w : WorkId) (cpu ticks : ℕ) (a b c : Option Refusal) (o : Option Pending)
    → (answer S t (instr.Delay w cpu ticks) (or_else a (or_else b c)) (delayed S t w.0 cpu ticks o)).1 ≡ reply.Already
    → (answer S t (instr.Delay w cpu ticks) (or_else a (or_else b c)) (delayed S t w.0 cpu ticks o)).0 ≡ with_spent t (t.spent + 1)
delayed_left S t w cpu ticks (Some x) b c o e = cc
delayed_left S t w cpu ticks None (Some x) c o e = cc
delayed_left S t w cpu ticks None None (Some x) o e = cc
delayed_left S t w cpu ticks None None None (Some p) e = refl
delayed_left S t w cpu ticks None None None None e = cc

cancelled_left :
    (S : ScenarioContents) (t : State) (w : WorkId) (a b c : Option Refusal) (o : Option Pending)
    → (answer S t (instr.Cancel w) (or_else a (or_else b c)) (cancelled S t w.0 o)).1 ≡ reply.NotPending
    → (answer S t (instr.Cancel w) (or_else a (or_else b c)) (cancelled S t w.0 o)).0 ≡ with_spent t (t.spent + 1)
cancelled_left S t w (Some x) b c o e = cc
cancelled_left S t w None (Some x) c o e = cc
cancelled_left S t w None None (Some x) o e = cc
cancelled_left S t w None None None (Some p) e = cc
cancelled_left S t w None None None None e = refl

spends_always :
    (S : ScenarioContents) (t : State) (i : Instr) (r : Reply) → SpendsAlone S t i r
    → (count m : ℕ) → m + count ≤ S.steps → after_times S (with_spent t m) i count ≡ with_spent t (m + count)
spends_always S t i r spends zero m left = ap (with_spent t) (omega arith)
spends_always S t i r spends (suc count) m left =
    let once : (table S (with_spent t m) i).0 ≡ with_spent t (m + 1) = ap (λ (p : State × Reply). p.0) (spends m (omega arith)) in
    let place : (m + 1) + count ≡ m + suc count = omega arith in
    subst (λ (x : State). after_times S x i count ≡ with_spent t (m + suc count)) (sym once)
    (spends_always S t i r spends count (m + 1) (omega arith) ∙ ap (with_spent t) place)

spends_repeat :
    (S : ScenarioContents) (t s : State) (i : Instr) (r : Reply) (k most count : ℕ) → SpendsAlone S t i r → s ≡ with_spent t k
    → count ≤ most → k + count ≤ S.steps → HasRepeated S s i r most count (with_spent s (k + count))
spends_repeat S t s i r k most count spends is few left =
    subst (λ (x : State). HasRepeated S x i r most count (with_spent x (k + count))) (sym is) (record {
      few = few;
      state = sym (spends_always S t i r spends count k left);
      time = λ times within. rw (spends_always S t i r spends times k (omega arith)) refl;
      replies = λ earlier below.
          let at : after_times S (with_spent t k) i earlier ≡ with_spent t (k + earlier) = spends_always S t i r spends earlier k (omega arith) in
          ap (λ (x : State). (table S x i).1) at ∙ ap (λ (p : State × Reply). p.1) (spends (k + earlier) (omega arith));
    })

-- as often as there are steps left, what was answered so is answered so again
repeats_where_left :
    (S : ScenarioContents) (t s : State) (i : Instr) (r : Reply) (most count : ℕ)
    → SpendsAlone S t i r → (table S t i).0 ≡ with_spent t (t.spent + 1) → (s, r) ≡ table S t i
    → count ≤ most → s.spent + count ≤ S.steps → HasRepeated S s i r most count (with_spent s (s.spent + count))
repeats_where_left S t s i r most count spends left told few room =
    let is : s ≡ with_spent t (t.spent + 1) = ap (λ (p : State × Reply). p.0) told ∙ left in
    let k : s.spent ≡ t.spent + 1 = ap (λ (x : State). x.spent) is in
    subst (λ (n : ℕ). HasRepeated S s i r most count (with_spent s (n + count))) (sym k)
    (spends_repeat S t s i r (t.spent + 1) most count spends is few (omega arith))

-- What is queued already, or not pending, spends a step and changes nothing else.
pub queue_repeats :
    (S : ScenarioContents) (s : State) (w : WorkId) (cpu most count : ℕ) → HasAnswered S s (instr.Queue w cpu) reply.Already
    → count ≤ most → s.spent + count ≤ S.steps
    → HasRepeated S s (instr.Queue w cpu) reply.Already most count (with_spent s (s.spent + count))
unfolding table
queue_repeats S s w cpu most count answered few room =
    let t = answered.0 in
    let i = instr.Queue w cpu in
    let told : (table S t i).1 ≡ reply.Already = ap (λ (p : State × Reply). p.1) (sym answered.1) in
    let again = queued_again S t w cpu in
    let spends : SpendsAlone S t i reply.Already = λ m left.
    rw (lt-ltb m S.steps left) (again m (operands S t i) (spent_all S t i) (situation S t i) (pending_at t w.0) told)
    in
    repeats_where_left S t s i reply.Already most count spends
    (queued_left S t w cpu (operands S t i) (spent_all S t i) (situation S t i) (pending_at t w.0) told) answered.1 few room

pub delay_repeats :
    (S : ScenarioContents) (s : State) (w : WorkId) (cpu ticks most count : ℕ) → HasAnswered S s (instr.Delay w cpu ticks) reply.Already
    → count ≤ most → s.spent + count ≤ S.steps
    → HasRepeated S s (instr.Delay w cpu ticks) reply.Already most count (with_spent s (s.spent + count))
unfolding table
delay_repeats S s w cpu ticks most count answered few room =
    let t = answered.0 in
    let i = instr.Delay w cpu ticks in
    let told : (table S t i).1 ≡ reply.Already = ap (λ (p : State × Reply). p.1) (sym answered.1) in
    let spends : SpendsAlone S t i reply.Already = λ m left.
    rw (lt-ltb m S.steps left) (delayed_again S t w cpu ticks m (operands S t i) (spent_all S t i) (situation S t i) (pending_at t w.0) told)
    in
    repeats_where_left S t s i reply.Already most count spends
    (delayed_left S t w cpu ticks (operands S t i) (spent_all S t i) (situation S t i) (pending_at t w.0) told) answered.1 few room

pub cancel_repeats :
    (S : ScenarioContents) (s : State) (w : WorkId) (most count : ℕ) → HasAnswered S s (instr.Cancel w) reply.NotPending
    → count ≤ most → s.spent + count ≤ S.steps
    → HasRepeated S s (instr.Cancel w) reply.NotPending most count (with_spent s (s.spent + count))
unfolding table
cancel_repeats S s w most count answered few room =
    let t = answered.0 in
    let i = instr.Cancel w in
    let told : (table S t i).1 ≡ reply.NotPending = ap (λ (p : State × Reply). p.1) (sym answered.1) in
    let spends : SpendsAlone S t i reply.NotPending = λ m left.
    rw (lt-ltb m S.steps left) (cancelled_again S t w m (operands S t i) (spent_all S t i) (situation S t i) (pending_at t w.0) told)
    in
    repeats_where_left S t s i reply.NotPending most count spends
    (cancelled_left S t w (operands S t i) (spent_all S t i) (situation S t i) (pending_at t w.0) told) answered.1 few room

-- none is a number of times
pub none_repeats : (S : ScenarioContents) (s : State) (i : Instr) (r : Reply) (most : ℕ) → HasRepeated S s i r most 0 s
none_repeats S s i r most = record {
  few = (omega arith);
  state = refl;
  time = λ times within. (let none : 0 ≡ times = omega arith in subst (λ (n : ℕ). (after_times S s i n).time ≡ s.time) none refl);
  replies = λ earlier below. absurd (omega arith);
}
