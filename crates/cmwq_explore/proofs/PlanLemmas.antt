-- Plans, and where a machine and the actors stand.
use Rattle.std.proofs.Common.{◌≡◌, ℕ, zero, suc, ◌+◌, ◌<◌, ◌≤◌, List, [], ◌∷◌, Option, Some, None, arith, sym, ap, ◌∙◌, subst, length, map, take, get_or, IfSome, count_by}
use Rattle.std.proofs.lemmas.List.{get_or-map, length-map}
use Rattle.std.proofs.lemmas.List.Sums.{count_by-le-length}
use Rattle.std.proofs.lemmas.Option.{slice_get_within}
use Rattle.std.specs.List.{slice_get}
use Rattle.std.specs.Prelude.{slice_index_or}
use Rattle.cmwq_types.proofs.SettingLemmas.{IsSetting-valid}
use Rattle.cmwq_types.specs.Contents.{ActorContents, ScenarioContents}
use Rattle.cmwq_types.specs.Faults.{IsValid}
use Rattle.cmwq_types.specs.Setting.{IsSetting}
use Rattle.cmwq_types.specs.declared.instr.Instr.{Instr}
use Rattle.cmwq_types.specs.declared.limits.TheConstants.{MAX_LINES}
use Rattle.cmwq_types.specs.declared.reply.Reply.{Reply}
use Rattle.cmwq_table.specs.State.{State}
use Rattle.cmwq_table.specs.Table.{table}
use Rattle.cmwq_orders.proofs.LengthLemmas.{start-whole, table-sized}
use Rattle.cmwq_orders.specs.Orders.{lines_at, lines_of, no_actor, start}
use Rattle.cmwq_orders.specs.Sizes.{IsSized, IsWhole}
use Rattle.cmwq_explore.specs.Plans.{IsStanding, PlanContents, flush_count, gives_flush, line_count, stood_at}

-- what a valid scenario gives
pub setting_of : (S : ScenarioContents) → IsValid S → IsSetting S
setting_of S valid = IsSetting-valid S valid

-- at the start something is known of each actor
pub begins_whole : (S : ScenarioContents) → IsWhole S (start S)
begins_whole S = start-whole S

-- an instruction was carried out
pub executed : (loaded after : ScenarioContents) (plan : PlanContents) (s t : State) (at : List ℕ) (waits : List (Option ℕ)) (i : Instr) (r : Reply)
    → IsStanding loaded (stood_at plan s at waits) → (t, r) ≡ table loaded s i → after ≡ loaded → IsStanding after (stood_at plan t at waits)
executed loaded after plan s t at waits i r standing exact same =
    let is : t ≡ (table plan.scenario s i).0 =
    ap (λ (x : State × Reply). x.0) exact ∙ ap (λ (S : ScenarioContents). (table S s i).0) standing.of_plan in
    record {
      of_plan = same ∙ standing.of_plan;
      whole = record {
        machine = subst (IsSized plan.scenario) (sym is) (table-sized plan.scenario s i standing.whole.machine);
        at = standing.whole.at;
        waits = standing.whole.waits;
      };
    }

-- How many lines there are.

one-within : (actors : List ActorContents) (actor : ℕ) → length (lines_of (slice_index_or actors actor no_actor)) ≤ line_count actors
one-within [] actor = omega arith
one-within (a ∷ actors) zero = omega arith
one-within (a ∷ actors) (suc actor) = let others = one-within actors actor in omega (arith, others)

-- an actor's line stands before the most that all may have
pub early_if : (S : ScenarioContents) (actor at : ℕ) (o : Option Instr) → o ≡ slice_get (lines_at S actor) at → line_count S.actors ≤ MAX_LINES → IfSome o (λ i. at < MAX_LINES)
early_if S actor at (Some i) is few =
    let inside = slice_get_within (lines_at S actor) at i (sym is) in
    let within = one-within S.actors actor in
    omega (arith, inside, within, few)
early_if S actor at None is few = tt

-- one actor more
pub count_more : (actors : List ActorContents) (i : ℕ) (d : ActorContents) → i < length actors
    → line_count (take (i + 1) actors) ≡ line_count (take i actors) + length (lines_of (get_or actors i d))
count_more [] i d below = absurd (omega (arith, below))
count_more (a ∷ actors) zero d below = omega arith
count_more (a ∷ actors) (suc i) d below =
    let others = count_more actors i d (omega (arith, below)) in
    let index : suc i + 1 ≡ suc (i + 1) = omega arith in
    rw index (omega (arith, others))

pub count_within : (actors : List ActorContents) (i : ℕ) → line_count (take i actors) ≤ line_count actors
count_within [] zero = omega arith
count_within [] (suc i) = omega arith
count_within (a ∷ actors) zero = omega arith
count_within (a ∷ actors) (suc i) = let others = count_within actors i in omega (arith, others)

-- How many flushes are given.

-- one actor more
pub flush_more : (actors : List ActorContents) (i : ℕ) (d : ActorContents) → i < length actors
    → flush_count (take (i + 1) actors) ≡ flush_count (take i actors) + count_by gives_flush (lines_of (get_or actors i d))
flush_more [] i d below = absurd (omega (arith, below))
flush_more (a ∷ actors) zero d below = omega arith
flush_more (a ∷ actors) (suc i) d below =
    let others = flush_more actors i d (omega (arith, below)) in
    let index : suc i + 1 ≡ suc (i + 1) = omega arith in
    rw index (omega (arith, others))

-- not more than there are lines
pub flush_within : (actors : List ActorContents) → flush_count actors ≤ line_count actors
flush_within [] = omega arith
flush_within (a ∷ actors) =
    let others = flush_within actors in
    let one = count_by-le-length gives_flush (lines_of a) in
    omega (arith, others, one)

-- the lines of one actor more: they are few, and so are the flushes given so far
pub flush_step : (actors : List ActorContents) (inside lines : List (List Instr)) (i : ℕ) (one : List Instr) → lines ≡ inside → inside ≡ map lines_of actors
    → line_count actors ≤ MAX_LINES → i < length lines → one ≡ get_or lines i one
    → (length one ≤ MAX_LINES) × (flush_count (take (i + 1) actors) ≡ flush_count (take i actors) + count_by gives_flush one)
    × (flush_count (take (i + 1) actors) ≤ MAX_LINES)
flush_step actors inside lines i one same all few below is =
    let mapped : lines ≡ map lines_of actors = same ∙ all in
    let long : length lines ≡ length actors = ap length mapped ∙ length-map actors lines_of in
    let within : i < length actors = omega (arith, long, below) in
    let that : one ≡ lines_of (get_or actors i no_actor) =
    is ∙ ap (λ (ls : List (List Instr)). get_or ls i one) mapped ∙ get_or-map lines_of actors i no_actor one within in
    let short : length one ≡ length (lines_of (get_or actors i no_actor)) = ap length that in
    let flushes : count_by gives_flush one ≡ count_by gives_flush (lines_of (get_or actors i no_actor)) = ap (λ (ls : List Instr). count_by gives_flush ls) that in
    let each = one-within actors i in
    let more = flush_more actors i no_actor within in
    let given = flush_within (take (i + 1) actors) in
    let counted = count_within actors (i + 1) in (
      omega (arith, short, each, few),
      omega (arith, more, flushes),
      omega (arith, given, counted, few),
    )
