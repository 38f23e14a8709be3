-- What ticks leave, as long as nothing ends and no timer is due.
use Rattle.std.proofs.Common.{◌≡◌, ℕ, zero, suc, ◌+◌, ◌-◌, ◌<◌, ◌≤◌, Bool, true, false, ◌&&◌, ◌||◌, ◌==◌, List, length, Option, Some, None, IfSome, option_map, arith, refl, sym, subst, ◌∙◌}
use Rattle.std.specs.Prelude.{nat_lt}
use Rattle.std.proofs.lemmas.Bool.Decides.{nat_tests}
use Rattle.cmwq_types.specs.Contents.{ScenarioContents}
use Rattle.cmwq_types.specs.First.{IsOrder, MatchFirst, by_least_two}
use Rattle.cmwq_types.proofs.FirstLemmas.{by_least_two-order, first_below-is_first, first_below-none}
use Rattle.cmwq_types.specs.declared.reply.Place.{Place}
use Rattle.cmwq_types.specs.declared.reply.Place.TheVariants.{Timer, Inactive, Listed, Deferred}
use Rattle.cmwq_parts.specs.SettledTicks.{ticks}
use Rattle.cmwq_table.specs.Counts.{burns, due_of, first_due, is_due, pending_due, pending_stamp, pends}
use Rattle.cmwq_table.specs.Moves.{tick}
use Rattle.cmwq_table.specs.State.{State, pending_at}
use Rattle.cmwq_table.specs.declared.state.Pending.{Pending}
use Rattle.cmwq_table.specs.declared.state.Running.{Running}
use Rattle.cmwq_queued.specs.QueuedContents.{first_timed, is_timer, next_due}
use Rattle.cmwq_core.specs.Staff.{runs_at}
use Rattle.cmwq_core.proofs.FoundLemmas.{burned_long, burned_stems}
use Rattle.cmwq_core.proofs.LayoutLemmas.{RunsOnAs}

-- who runs after so many ticks ran before them, on the same worker and under the same stamp
pub ticks_stems : (S : ScenarioContents) (s : State) (n w : ℕ) (q : Running) → runs_at (ticks S s n).running w ≡ Some q → RunsOnAs s.running w q
ticks_stems S s zero w q e = record { before = q; runs = e; pool = refl; worker = refl; stamp = refl }
ticks_stems S s (suc n) w q e =
    let later = ticks_stems S (tick S s) n w q e in
    let was = burned_stems (burns S s) 0 s.running w later.before later.runs in
    record { before = was.before; runs = was.runs; pool = was.pool ∙ later.pool; worker = was.worker ∙ later.worker; stamp = was.stamp ∙ later.stamp }

pub ticks_long : (S : ScenarioContents) (s : State) (n : ℕ) → length (ticks S s n).running ≡ length s.running
ticks_long S s zero = refl
ticks_long S s (suc n) = ticks_long S (tick S s) n ∙ burned_long (burns S s) 0 s.running

-- ticks change the time and who runs, and nothing else
pub ticks_time : (S : ScenarioContents) (s : State) (n : ℕ) → (ticks S s n).time ≡ s.time + n
ticks_time S s zero = omega arith
ticks_time S s (suc n) = (let rest = ticks_time S (tick S s) n in omega (arith, rest))

pub ticks_pending : (S : ScenarioContents) (s : State) (n : ℕ) → (ticks S s n).pending ≡ s.pending
ticks_pending S s zero = refl
ticks_pending S s (suc n) = ticks_pending S (tick S s) n

-- before the first timer is due, none is
pub none_due : (S : ScenarioContents) (s : State) → IfSome (next_due S s.pending) (λ due. s.time < due) → first_due S s ≡ None
none_due S s early =
    first_below-none (by_least_two (λ w. pending_due (pending_at s w)) (λ w. pending_stamp (pending_at s w))) (λ w. pends (λ place. is_due place s.time) (pending_at s w)) (length S.works)
    (by_least_two-order (λ w. pending_due (pending_at s w)) (λ w. pending_stamp (pending_at s w))) (λ w h. by_first (first_timed S s.pending) first early w h)
  where
    first : MatchFirst (by_least_two (λ w. pending_due (pending_at s w)) (λ w. pending_stamp (pending_at s w))) (λ w. pends is_timer (pending_at s w)) (length S.works) (first_timed S s.pending)
    first = first_below-is_first (by_least_two (λ w. pending_due (pending_at s w)) (λ w. pending_stamp (pending_at s w))) (λ w. pends is_timer (pending_at s w)) (length S.works) (by_least_two-order (λ w. pending_due (pending_at s w)) (λ w. pending_stamp (pending_at s w)))

    -- what is no timer, or a later one, isn't due
    not_due : (o : Option Pending) → (pends is_timer o ≡ true → s.time < pending_due o) → pends (λ place. is_due place s.time) o ≡ false
    not_due None later = refl
    not_due (Some p) later = by_place p.place later
      where
        by_place : (place : Place) → (is_timer place ≡ true → s.time < due_of place) → is_due place s.time ≡ false
        by_place (Timer due cpu) later = (let low = later refl in grind (arith, nat_tests))
        by_place (Inactive at) later = refl
        by_place (Listed at) later = refl
        by_place (Deferred at) later = refl

    not_sooner : (a b : ℕ) (more : Bool) → (nat_lt a b || more) ≡ false → b ≤ a
    not_sooner a b more e = by_test (nat_lt a b) refl e
      where
        by_test : (t : Bool) → nat_lt a b ≡ t → (t || more) ≡ false → b ≤ a
        by_test true is e = absurd (cc)
        by_test false is e = grind (arith, nat_tests)

    by_first : (o : Option ℕ) → MatchFirst (by_least_two (λ w. pending_due (pending_at s w)) (λ w. pending_stamp (pending_at s w))) (λ w. pends is_timer (pending_at s w)) (length S.works) o → IfSome (option_map (λ w. pending_due (pending_at s w)) o) (λ due. s.time < due)
        → (w : ℕ) → w < length S.works → pends (λ place. is_due place s.time) (pending_at s w) ≡ false
    by_first None none early w h = not_due (pending_at s w) (λ timed. absurd (let no = none w h in cc))
    by_first (Some f) is early w h = not_due (pending_at s w) (λ timed.
        let low = not_sooner (pending_due (pending_at s w)) (pending_due (pending_at s f)) ((pending_due (pending_at s w) == pending_due (pending_at s f)) && nat_lt (pending_stamp (pending_at s w)) (pending_stamp (pending_at s f))) (is.least w h timed) in
        omega (arith, low, early))

-- as long as no more ticks pass than are left until the first timer is due, none is due
pub none_due_then : (S : ScenarioContents) (s : State) (n most : ℕ) → IfSome (next_due S s.pending) (λ due. most ≤ due - s.time) → n < most → first_due S (ticks S s n) ≡ None
none_due_then S s n most left below = none_due S (ticks S s n) (subst (λ (ps : List (Option Pending)). IfSome (next_due S ps) (λ due. (ticks S s n).time < due)) (sym (ticks_pending S s n)) (by_due (next_due S s.pending) left))
  where
    by_due : (o : Option ℕ) → IfSome o (λ due. most ≤ due - s.time) → IfSome o (λ due. (ticks S s n).time < due)
    by_due None left = tt
    by_due (Some due) left = (let now = ticks_time S s n in omega (arith, left, below, now))

-- where none is due, the first timer is due later
pub due_later : (S : ScenarioContents) (s : State) → first_due S s ≡ None → IfSome (next_due S s.pending) (λ due. s.time < due)
due_later S s none = by_first (first_timed S s.pending) first
  where
    by_fire : ℕ → ℕ → Bool
    by_fire = by_least_two (λ w. pending_due (pending_at s w)) (λ w. pending_stamp (pending_at s w))

    ordered : IsOrder by_fire
    ordered = by_least_two-order (λ w. pending_due (pending_at s w)) (λ w. pending_stamp (pending_at s w))

    first : MatchFirst by_fire (λ w. pends is_timer (pending_at s w)) (length S.works) (first_timed S s.pending)
    first = first_below-is_first by_fire (λ w. pends is_timer (pending_at s w)) (length S.works) ordered

    not_due : (w : ℕ) → w < length S.works → pends (λ place. is_due place s.time) (pending_at s w) ≡ false
    not_due = subst (MatchFirst by_fire (λ w. pends (λ place. is_due place s.time) (pending_at s w)) (length S.works)) none (first_below-is_first by_fire (λ w. pends (λ place. is_due place s.time) (pending_at s w)) (length S.works) ordered)

    later : (o : Option Pending) → pends is_timer o ≡ true → pends (λ place. is_due place s.time) o ≡ false → s.time < pending_due o
    later None timed undue = absurd (let no = timed in cc)
    later (Some p) timed undue = by_place p.place timed undue
      where
        by_place : (place : Place) → is_timer place ≡ true → is_due place s.time ≡ false → s.time < due_of place
        by_place (Timer due cpu) timed undue = grind (arith, nat_tests)
        by_place (Inactive at) timed undue = absurd (let no = timed in cc)
        by_place (Listed at) timed undue = absurd (let no = timed in cc)
        by_place (Deferred at) timed undue = absurd (let no = timed in cc)

    by_first : (o : Option ℕ) → MatchFirst by_fire (λ w. pends is_timer (pending_at s w)) (length S.works) o → IfSome (option_map (λ w. pending_due (pending_at s w)) o) (λ due. s.time < due)
    by_first None is = tt
    by_first (Some f) is = later (pending_at s f) is.passes (not_due f is.in_range)
