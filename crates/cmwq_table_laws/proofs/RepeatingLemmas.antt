-- Going on has one end, and what repeats is alike.
use Rattle.std.proofs.Common.{◌≡◌, ◌⊎◌, ℕ, zero, suc, ◌+◌, ◌-◌, ◌<◌, ◌≤◌, true, false, List, ◌∷◌, None, arith, refl, sym, ap, ◌∙◌, subst, inl, inr, replicate}
use Rattle.std.proofs.lemmas.Bool.{cases_lt}
use Rattle.cmwq_types.specs.Contents.{ScenarioContents}
use Rattle.cmwq_types.specs.declared.instr.Instr.{Instr}
use Rattle.cmwq_types.specs.declared.instr.Instr.TheVariants.{Mod, Next}
use Rattle.cmwq_types.specs.declared.instr.WorkId.{WorkId}
use Rattle.cmwq_types.specs.declared.reply.Place.TheVariants.{Timer}
use Rattle.cmwq_types.specs.declared.reply.Reply.{Reply}
use Rattle.cmwq_table.specs.Events.{is_silent}
use Rattle.cmwq_table.specs.Repeats.{HasGone, after_times, reply_behind}
use Rattle.cmwq_table.specs.State.{State, is_disabled, pending_at}
use Rattle.cmwq_table.specs.Table.{operands, replies_from, table}
use Rattle.cmwq_table.proofs.ModRepeatLemmas.{IsOnTimer, mods_come, placed_last}
use Rattle.cmwq_table_laws.specs.Repeating.{GoesOneWay, RepeatsAlike, RepeatsInPlace, SetsOneTimer, set_once, stays_in_place}
use Rattle.cmwq_table_laws.proofs.LeavingLemmas.{IsBefore, place-leaves}

-- who stops first stops at a line, which the other would have passed
not-sooner : (S : ScenarioContents) (s : State) (most count other : ℕ) (after there : State) (reply answer : Reply)
    → HasGone S s most count after reply → HasGone S s most other there answer → count < other → ⊥
not-sooner S s most count other after there reply answer gone longer less =
    let some = gone.some in
    let few = longer.few in
    let silent : is_silent reply ≡ true = ap is_silent gone.last ∙ longer.silent (count - 1) (omega arith) in
    let whole : count ≡ most = gone.whole silent in
    absurd (omega (arith, whole, few, less))

same-count : (S : ScenarioContents) (s : State) (most count other : ℕ) (after there : State) (reply answer : Reply)
    → HasGone S s most count after reply → HasGone S s most other there answer → (count < other) ⊎ (other ≤ count) → (other < count) ⊎ (count ≤ other)
    → count ≡ other
same-count S s most count other after there reply answer gone too (inl less) second = absurd (not-sooner S s most count other after there reply answer gone too less)
same-count S s most count other after there reply answer gone too (inr more) (inl less) = absurd (not-sooner S s most other count there after answer reply too gone less)
same-count S s most count other after there reply answer gone too (inr more) (inr least) = omega (arith, more, least)

pub goes_one_way : (S : ScenarioContents) (s : State) (most : ℕ) → GoesOneWay S s most
unfolding GoesOneWay
goes_one_way S s most = λ count other after there reply answer gone too.
    let same = same-count S s most count other after there reply answer gone too (cases_lt count other) (cases_lt other count) in (
      same,
      gone.state ∙ ap (after_times S s Next) same ∙ sym too.state,
      gone.last ∙ ap (λ (n : ℕ). reply_behind S s Next (n - 1)) same ∙ sym too.last,
    )

same-replies : (S : ScenarioContents) (s : State) (i : Instr) (reply : Reply) (count : ℕ) → ((k : ℕ) → k < count → reply_behind S s i k ≡ reply)
    → replies_from S s (replicate count i) ≡ replicate count reply
same-replies S s i reply zero same = refl
same-replies S s i reply (suc count) same =
    let after = (table S s i).0 in
    ap (λ (r : Reply). r ∷ replies_from S after (replicate count i)) (same 0 (omega arith))
    ∙ ap (λ (rs : List Reply). reply ∷ rs) (same-replies S after i reply count (λ k below. same (suc k) (omega arith)))

pub repeats_alike : (S : ScenarioContents) (s : State) (i : Instr) → RepeatsAlike S s i
unfolding RepeatsAlike
repeats_alike S s i = λ reply most count after repeated. (
  subst (λ (t : State). t.time ≡ s.time) (sym repeated.state) (repeated.time count (omega arith)),
  same-replies S s i reply count repeated.replies,
)

-- what stays in place each time has stayed so
stays-before : (S : ScenarioContents) (i : Instr) (reply : Reply) → stays_in_place i reply ≡ true → (count : ℕ) (s : State)
    → ((k : ℕ) → k < count → reply_behind S s i k ≡ reply) → ((k : ℕ) → k ≤ count → (after_times S s i k).time ≡ s.time)
    → IsBefore s (after_times S s i count)
stays-before S i reply stays zero s same still = refl
stays-before S i reply stays (suc count) s same still =
    let once = (table S s i).0 in
    let time : once.time ≡ s.time = still 1 (omega arith) in
    let first : IsBefore s once = place-leaves S s i reply (same 0 (omega arith)) time stays in
    let rest : IsBefore once (after_times S once i count) =
    stays-before S i reply stays count once (λ k below. same (suc k) (omega arith)) (λ k within. still (suc k) (omega arith) ∙ sym time)
    in
    rest ∙ ap (λ (t : State). record t { spent = (after_times S once i count).spent }) first

pub repeats_in_place : (S : ScenarioContents) (s : State) (i : Instr) → RepeatsInPlace S s i
unfolding RepeatsInPlace
repeats_in_place S s i = λ reply most count after repeated stays.
    subst (IsBefore s) (sym repeated.state) (stays-before S i reply stays count s repeated.replies repeated.time)

pub sets_one_timer : (S : ScenarioContents) (s : State) (w : WorkId) (cpu ticks : ℕ) → SetsOneTimer S s w cpu ticks
unfolding SetsOneTimer
sets_one_timer S s w cpu zero = λ p count there enabled pends out later some left. absurd (omega arith)
sets_one_timer S s w cpu (suc less) = λ p count there enabled pends out later some left. by_count count there enabled (subst IsOnTimer (sym pends) out) some left
  where
    by_count : (count : ℕ) → operands S s (Mod w cpu (suc less)) ≡ None → is_disabled s w.0 ≡ false → IsOnTimer (pending_at s w.0) → 0 < count
        → s.spent + count ≤ S.steps → after_times S s (Mod w cpu (suc less)) count ≡ set_once s w cpu (suc less) count
    by_count zero there enabled waits some left = absurd (omega arith)
    by_count (suc before) there enabled waits some left =
        let place = Timer (s.time + suc less) cpu in
        let one_less : before ≡ suc before - 1 = omega arith in
        let next : (s.next + before) + 1 ≡ s.next + suc before = omega arith in
        mods_come S w cpu less before s there enabled waits left
        ∙ ap (λ (n : ℕ). record (placed_last s w.0 place (s.next + before) (s.spent + suc before)) { next = n }) next
        ∙ ap (λ (n : ℕ). record (placed_last s w.0 place (s.next + n) (s.spent + suc before)) { next = s.next + suc before }) one_less
