-- One advance after another, and where `next` goes on to.
use Rattle.std.proofs.Common.{◌≡◌, ◌⊎◌, ℕ, ◌+◌, ◌-◌, ◌<◌, ◌≤◌, true, inl, inr, arith, sym, ap, ◌∙◌, subst}
use Rattle.std.proofs.lemmas.Bool.{cases_lt}
use Rattle.cmwq_types.specs.Contents.{ScenarioContents}
use Rattle.cmwq_types.specs.declared.instr.Instr.TheVariants.{Next}
use Rattle.cmwq_types.specs.declared.reply.Reply.{Reply}
use Rattle.cmwq_table.specs.Events.{is_silent}
use Rattle.cmwq_table.specs.Ready.{IsKept, Loaded, holding}
use Rattle.cmwq_table.specs.Repeats.{HasGone, after_times, reply_behind}
use Rattle.cmwq_table.specs.State.{State}
use Rattle.cmwq_table.proofs.TimesLemmas.{after_times-more, reply_behind-more}
use Rattle.cmwq_exec.specs.Advances.{HasAdvanced}
use Rattle.cmwq_exec.proofs.NextLemmas.{advanced-within}
use Rattle.cmwq_exec.proofs.RepeatedLemmas.{kept-times}

abbrev SaysNothing : ScenarioContents → State → ℕ → Type 0
SaysNothing S s earlier = is_silent (reply_behind S s Next earlier) ≡ true

silent-at : (S : ScenarioContents) (s : State) (count more earlier : ℕ) → ((k : ℕ) → k < count → SaysNothing S s k)
    → ((k : ℕ) → k + 1 < more → SaysNothing S (after_times S s Next count) k)
    → earlier + 1 < count + more → (earlier < count) ⊎ (count ≤ earlier) → SaysNothing S s earlier
silent-at S s count more earlier before then below (inl low) = before earlier low
silent-at S s count more earlier before then below (inr high) =
    let place : count + (earlier - count) ≡ earlier = omega arith in
    sym (ap is_silent (reply_behind-more S Next count (earlier - count) s ∙ ap (reply_behind S s Next) place)) ∙ then (earlier - count) (omega arith)

-- who has gone on so often without a word, and then advances, has advanced by both
pub advanced-on : (begun was new : Loaded) (most count more : ℕ) (reply : Reply)
    → was ≡ record begun { state = after_times begun.scenario begun.state Next count }
    → ((k : ℕ) → k < count → SaysNothing begun.scenario begun.state k)
    → count < most → HasAdvanced was (most - count) more new reply → HasAdvanced begun most (count + more) new reply
advanced-on begun was new most count more reply is before within advances =
    let S = begun.scenario in
    let s = begun.state in
    let advanced = subst (λ (m : Loaded). HasAdvanced m (most - count) more new reply) is advances in
    let some = advanced.some in
    let few = advanced.few in
    let place : count + (more - 1) ≡ (count + more) - 1 = omega arith in
    record {
      some = (omega arith);
      few = (omega arith);
      state = advanced.state ∙ ap (holding S) (after_times-more S Next count more s);
      last = advanced.last ∙ reply_behind-more S Next count (more - 1) s ∙ ap (reply_behind S s Next) place;
      silent = λ earlier below. silent-at S s count more earlier before advanced.silent below (cases_lt earlier count);
    }

-- the same where it was to advance less often
pub advanced-turn : (begun was new : Loaded) (most count less more : ℕ) (reply : Reply)
    → was ≡ record begun { state = after_times begun.scenario begun.state Next count }
    → ((k : ℕ) → k < count → SaysNothing begun.scenario begun.state k)
    → count < most → less ≤ most - count → HasAdvanced was less more new reply → HasAdvanced begun most (count + more) new reply
advanced-turn begun was new most count less more reply is before within low advances =
    advanced-on begun was new most count more reply is before within (advanced-within was new less (most - count) more reply low advances)

silent-last : (begun new : Loaded) (most count : ℕ) (reply : Reply) → HasAdvanced begun most count new reply → is_silent reply ≡ true
    → (earlier : ℕ) → earlier < count → (earlier + 1 < count) ⊎ (count ≤ earlier + 1) → SaysNothing begun.scenario begun.state earlier
silent-last begun new most count reply advanced quiet earlier below (inl low) = advanced.silent earlier low
silent-last begun new most count reply advanced quiet earlier below (inr high) =
    let place : count - 1 ≡ earlier = omega arith in
    sym (ap is_silent (advanced.last ∙ ap (reply_behind begun.scenario begun.state Next) place)) ∙ quiet

-- where the last reply says nothing either, none does
pub silent-all : (begun new : Loaded) (most count : ℕ) (reply : Reply) → HasAdvanced begun most count new reply → is_silent reply ≡ true
    → (earlier : ℕ) → earlier < count → SaysNothing begun.scenario begun.state earlier
silent-all begun new most count reply advanced quiet earlier below =
    silent-last begun new most count reply advanced quiet earlier below (cases_lt (earlier + 1) count)

pub gone-so-far : (begun new : Loaded) (most count : ℕ) (reply : Reply) → HasAdvanced begun most count new reply
    → (is_silent reply ≡ true → count ≡ most) → HasGone begun.scenario begun.state most count new.state reply
gone-so-far begun new most count reply advanced whole = record {
  some = advanced.some;
  few = advanced.few;
  state = ap (λ (m : Loaded). m.state) advanced.state;
  last = advanced.last;
  silent = advanced.silent;
  whole = whole;
}

pub advanced-kept : (begun new : Loaded) (most count : ℕ) (reply : Reply) → IsKept begun → HasAdvanced begun most count new reply → IsKept new
advanced-kept begun new most count reply kept advanced =
    kept-times begun new Next count kept (ap (λ (m : Loaded). m.scenario) advanced.state) (ap (λ (m : Loaded). m.state) advanced.state)
