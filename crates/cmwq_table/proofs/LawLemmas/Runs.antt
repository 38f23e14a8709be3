-- What holds of every state that a run comes to.
use Rattle.std.proofs.Common.{◌≡◌, ℕ, zero, suc, Bool, true, false, ◌&&◌, List, [], ◌∷◌, ◌++◌, length, replicate, Option, Some, None, arith, refl, sym, ap, ◌∙◌, subst}
use Rattle.std.proofs.lemmas.List.{length-replicate}
use Rattle.std.specs.Prelude.{slice_index_or, ◌==◌}
use Rattle.cmwq_types.specs.Contents.{ScenarioContents}
use Rattle.cmwq_types.specs.First.{count_below}
use Rattle.cmwq_types.specs.Scenario.{queue_of}
use Rattle.cmwq_types.specs.Faults.{IsValid}
use Rattle.cmwq_types.specs.declared.instr.Instr.{Instr}
use Rattle.cmwq_types.specs.declared.reply.Refusal.{Refusal}
use Rattle.cmwq_types.specs.declared.reply.Reply.{Reply}
use Rattle.cmwq_types.specs.declared.reply.Reply.TheVariants as reply
use Rattle.cmwq_table.specs.declared.state.FlushTarget.{FlushTarget}
use Rattle.cmwq_table.specs.declared.state.FlushTarget.TheVariants.{Nothing}
use Rattle.cmwq_table.specs.declared.state.Pending.{Pending}
use Rattle.cmwq_table.specs.declared.state.Running.{Running}
use Rattle.cmwq_table.specs.State.{State, pending_at, pool_count, running_at, start}
use Rattle.cmwq_table.specs.Counts.{active, is_active, is_inactive, is_rescuer, limit, pends, runs}
use Rattle.cmwq_table.specs.Counts as counts
use Rattle.cmwq_table.specs.Laws.{tells_wake}
use Rattle.cmwq_table.specs.Table.{after_all, answer, effect, operands, run, situation, spent_all, table}
use Rattle.cmwq_table.proofs.LawLemmas.Alike.{alike-active, alike-listed, alike-order, alike-sound}
use Rattle.cmwq_table.proofs.LawLemmas.Counting.{count_below-all_fail}
use Rattle.cmwq_table.proofs.LawLemmas.Disabled.{IsOff}
use Rattle.cmwq_table.proofs.LawLemmas.Effects.{Effect, GivenFits, effect-is, with_given}
use Rattle.cmwq_table.proofs.LawLemmas.Order.{Follows-one_by_one, IsOneByOne}
use Rattle.cmwq_table.proofs.LawLemmas.PoolOrder.{Follows-pool_order, HasInactiveAt, IsInPoolOrder}
use Rattle.cmwq_table.proofs.LawLemmas.Rescuers.{Follows-rescued, IsRescued, alike-rescued}
use Rattle.cmwq_table.proofs.LawLemmas.Room.{AreFull}
use Rattle.cmwq_table.proofs.LawLemmas.Setting.{IsSetting, IsSetting-valid, max-declared}
use Rattle.cmwq_table.proofs.LawLemmas.Sound.{Fits, FitsTarget, Follows-sound, IsSound}
use Rattle.cmwq_table.proofs.LawLemmas.Worklist.{Follows-list_order, IsInListOrder, ListedAs}

pub record IsReached (S : ScenarioContents) (s : State) : Type 0 where
  pub sound : IsSound S s
  pub are_full : AreFull S s
  pub in_order : IsInPoolOrder S s
  pub listed : IsInListOrder S s
  pub one_by_one : IsOneByOne S s
  pub off : IsOff s
  pub rescued : IsRescued S s

-- neither flushes nor what was spent matter to the works
counted-on : (S : ScenarioContents) (s : State) (flushes : List FlushTarget) (spent : ℕ) → IsReached S s
    → ((flush : ℕ) → FitsTarget s.next (slice_index_or flushes flush Nothing)) → IsReached S (record s { flushes = flushes; spent = spent })
counted-on S s flushes spent reached fits = record {
  sound = record {
    long = record { pending = reached.sound.long.pending; running = reached.sound.long.running };
    works = reached.sound.works;
    apart = reached.sound.apart;
    made = reached.sound.made;
    ordered = reached.sound.ordered;
    flushes = fits;
  };
  are_full = reached.are_full;
  in_order = reached.in_order;
  listed = record { below = reached.listed.below; rises = reached.listed.rises };
  one_by_one = reached.one_by_one;
  off = reached.off;
  rescued = record { reclaims = reached.rescued.reclaims; alone = reached.rescued.alone };
}

one-more : (next : ℕ) (flushes : List FlushTarget) (target : FlushTarget) → ((flush : ℕ) → FitsTarget next (slice_index_or flushes flush Nothing))
    → FitsTarget next target → (flush : ℕ) → FitsTarget next (slice_index_or (flushes ++ target ∷ []) flush Nothing)
one-more next [] target each here zero = here
one-more next [] target each here (suc flush) = tt
one-more next (f ∷ flushes) target each here zero = each zero
one-more next (f ∷ flushes) target each here (suc flush) = one-more next flushes target (λ i. each (suc i)) here flush

given-reached : (S : ScenarioContents) (s : State) (given : Option FlushTarget) (spent : ℕ) → IsReached S s → GivenFits s.next given
    → IsReached S (record (with_given s given) { spent = spent })
given-reached S s (Some target) spent reached fits = counted-on S s (s.flushes ++ target ∷ []) spent reached (one-more s.next s.flushes target reached.sound.flushes fits)
given-reached S s None spent reached fits = counted-on S s s.flushes spent reached reached.sound.flushes

pub effect-reached : (S : ScenarioContents) (wakes : Bool) (s t : State) (spent : ℕ) → IsReached S s → Effect S wakes s t → IsReached S (record t { spent = spent })
effect-reached S wakes s t spent reached effect =
    let begun_sound : IsSound S effect.begun = alike-sound S s effect.begun effect.alike reached.sound effect.ordered in
    let begun_order : IsInPoolOrder S effect.begun = alike-order S s effect.begun effect.alike reached.in_order in
    let ended : IsReached S effect.ended = record {
      sound = Follows-sound S effect.places wakes effect.begun effect.ended effect.follows begun_sound;
      are_full = effect.ended_full;
      in_order = Follows-pool_order S effect.places wakes effect.begun effect.ended effect.follows begun_sound effect.begun_full begun_order;
      listed = Follows-list_order S effect.places wakes effect.begun effect.ended effect.follows begun_sound effect.begun_full begun_order (alike-listed S s effect.begun effect.alike reached.listed);
      one_by_one = Follows-one_by_one S effect.places wakes effect.begun effect.ended effect.follows begun_sound
          (λ queue pool ordered. rw (alike-active S s effect.begun queue pool effect.alike) (reached.one_by_one queue pool ordered));
      off = effect.ended_off;
      rescued = Follows-rescued S effect.places wakes effect.begun effect.ended begun_sound.long effect.follows (alike-rescued S s effect.begun effect.alike reached.rescued);
    } in
    subst (λ (u : State). IsReached S (record u { spent = spent })) (sym effect.after) (given-reached S effect.ended effect.given spent ended effect.given_fits)

-- An instruction is refused, and changes nothing; or it has its effect, and is spent.
pub data Outcome (S : ScenarioContents) (s : State) : State → Reply → Type 0 where
  refused : (why : Refusal) → Outcome S s s (reply.Refused why)
  done : (t : State) (r : Reply) (spent : ℕ) → Effect S (tells_wake r) s t → Outcome S s (record t { spent = spent }) r

answers : (S : ScenarioContents) (s : State) (i : Instr) → IsSetting S → IsReached S s → (a b c : Option Refusal) → operands S s i ≡ a
    → situation S s i ≡ c
    → Outcome S s (answer S s i (counts.or_else a (counts.or_else b c)) (effect S s i)).0 (answer S s i (counts.or_else a (counts.or_else b c)) (effect S s i)).1
answers S s i setting reached (Some why) b c operands_are situation_is = Outcome.refused why
answers S s i setting reached None (Some why) c operands_are situation_is = Outcome.refused why
answers S s i setting reached None None (Some why) operands_are situation_is = Outcome.refused why
answers S s i setting reached None None None operands_are situation_is =
    Outcome.done (effect S s i).0 (effect S s i).1 (answer S s i None (effect S s i)).0.spent (effect-is S s i setting reached.sound reached.are_full reached.off operands_are situation_is)

pub outcome-is : (S : ScenarioContents) (s : State) (i : Instr) → IsSetting S → IsReached S s → Outcome S s (table S s i).0 (table S s i).1
unfolding table
outcome-is S s i setting reached = answers S s i setting reached (operands S s i) (spent_all S s i) (situation S s i) refl refl

outcome-reached : (S : ScenarioContents) (s t : State) (r : Reply) → IsReached S s → Outcome S s t r → IsReached S t
outcome-reached S s t r reached (Outcome.refused why) = reached
outcome-reached S s t r reached (Outcome.done u q spent effect) = effect-reached S (tells_wake r) s u spent reached effect

pub table-reached : (S : ScenarioContents) (s : State) (i : Instr) → IsSetting S → IsReached S s → IsReached S (table S s i).0
table-reached S s i setting reached = outcome-reached S s (table S s i).0 (table S s i).1 reached (outcome-is S s i setting reached)

pub all-reached : (S : ScenarioContents) (s : State) (instrs : List Instr) → IsSetting S → IsReached S s → IsReached S (after_all S s instrs)
all-reached S s [] setting reached = reached
all-reached S s (i ∷ instrs) setting reached = all-reached S (table S s i).0 instrs setting (table-reached S s i setting reached)

-- The start.

same-there : {A : Type 0} (d : A) (n i : ℕ) → slice_index_or (replicate n d) i d ≡ d
same-there d zero i = refl
same-there d (suc n) zero = refl
same-there d (suc n) (suc i) = same-there d n i

start-pending : (S : ScenarioContents) (w : ℕ) → pending_at (start S) w ≡ None
start-pending S w = same-there None (length S.works) w

start-running : (S : ScenarioContents) (w : ℕ) → running_at (start S) w ≡ None
start-running S w = same-there None (length S.works) w

fits-none : (S : ScenarioContents) (next w : ℕ) (p : Option Pending) (r : Option Running) → p ≡ None → r ≡ None → Fits S next w p r
fits-none S next w (Some p) r is_p is_r = cc
fits-none S next w None (Some r) is_p is_r = cc
fits-none S next w None None is_p is_r = record { pending = tt; running = tt }

none-inactive : (pool later : ℕ) (o : Option Pending) → o ≡ None → HasInactiveAt pool o later → ⊥
none-inactive pool later (Some p) e inactive = cc
none-inactive pool later None e inactive = inactive

none-listed : (pool born stamp : ℕ) (o : Option Pending) → o ≡ None → ListedAs pool o born stamp → ⊥
none-listed pool born stamp (Some p) e listed = cc
none-listed pool born stamp None e listed = listed

start-sound : (S : ScenarioContents) → IsSetting S → IsSound S (start S)
start-sound S setting = record {
  long = record { pending = length-replicate (length S.works) None; running = length-replicate (length S.works) None };
  works = λ w. fits-none S 0 w (pending_at (start S) w) (running_at (start S) w) (start-pending S w) (start-running S w);
  apart = λ v w p q is_p is_q e. absurd (cc (is_p, start-pending S v));
  made = λ pool. rw (same-there {A = ℕ} 0 (pool_count S) pool) (omega arith);
  ordered = λ queue ordered. rw (max-declared S.queues queue) (setting.ordered queue ordered);
  flushes = λ flush. tt;
}

and-false : (x : Bool) → (x && false) ≡ false
and-false true = refl
and-false false = refl

start-idle : (S : ScenarioContents) (queue pool : ℕ) → active S (start S) queue pool ≡ 0
start-idle S queue pool =
    let pending : count_below (λ w. (queue_of S w == queue) && pends (λ place. is_active place pool) (pending_at (start S) w)) (length S.works) ≡ 0 =
    count_below-all_fail (λ w. (queue_of S w == queue) && pends (λ place. is_active place pool) (pending_at (start S) w)) (length S.works)
    (λ w h. ap (λ (o : Option Pending). (queue_of S w == queue) && pends (λ place. is_active place pool) o) (start-pending S w) ∙ and-false (queue_of S w == queue)) in
    let running : count_below (λ w. (queue_of S w == queue) && runs (λ r. r.pool == pool) (running_at (start S) w)) (length S.works) ≡ 0 =
    count_below-all_fail (λ w. (queue_of S w == queue) && runs (λ r. r.pool == pool) (running_at (start S) w)) (length S.works)
    (λ w h. ap (λ (o : Option Running). (queue_of S w == queue) && runs (λ r. r.pool == pool) o) (start-running S w) ∙ and-false (queue_of S w == queue)) in
    omega arith

pub start-reached : (S : ScenarioContents) → IsSetting S → IsReached S (start S)
start-reached S setting = record {
  sound = start-sound S setting;
  are_full = λ queue pool w of_queue is_waiting. absurd (cc (ap (pends (λ place. is_inactive place pool)) (start-pending S w), is_waiting));
  in_order = λ v w pool born later of_queue act inactive. absurd (none-inactive pool later (pending_at (start S) w) (start-pending S w) inactive);
  listed = record {
    below = λ w pool born stamp h. absurd (none-listed pool born stamp (pending_at (start S) w) (start-pending S w) h);
    rises = λ v w pool born stamp later last of_queue one other less. absurd (none-listed pool born stamp (pending_at (start S) v) (start-pending S v) one);
  };
  one_by_one = λ queue pool ordered. let none : active S (start S) queue pool ≡ 0 = start-idle S queue pool in omega arith;
  off = λ w deep. start-pending S w;
  rescued = record {
    reclaims = λ w ran. absurd (cc (ap (runs (λ r. is_rescuer r.worker)) (start-running S w), ran));
    alone = λ v w one other same. absurd (cc (ap (runs (λ r. is_rescuer r.worker)) (start-running S v), one));
  };
}

pub run-reached : (S : ScenarioContents) (instrs : List Instr) → IsValid S → IsReached S (run S instrs)
run-reached S instrs valid =
    let setting : IsSetting S = IsSetting-valid S valid in
    all-reached S (start S) instrs setting (start-reached S setting)
