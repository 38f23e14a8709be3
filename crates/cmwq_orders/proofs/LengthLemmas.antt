-- No choice changes how long the lists of a state are.
use Rattle.std.proofs.Common.{◌≡◌, ◌⊎◌, inl, inr, ℕ, ◌*◌, List, Option, Some, None, length, ap, ◌∙◌, subst}
use Rattle.std.proofs.lemmas.List.{length-replicate, length-set}
use Rattle.cmwq_types.specs.Contents.{ScenarioContents}
use Rattle.cmwq_types.specs.Scenario.{pool_count}
use Rattle.cmwq_types.specs.declared.instr.Instr.{Instr}
use Rattle.cmwq_types.specs.declared.limits.TheConstants.{MAX_WORKERS}
use Rattle.cmwq_types.specs.declared.reply.Reply.{Reply}
use Rattle.cmwq_table.specs.State.{State}
use Rattle.cmwq_table.specs.State as states
use Rattle.cmwq_table.specs.Table.{table}
use Rattle.cmwq_table.proofs.Frames.{Frame, IsAsLong, IsRefused, table-frame}
use Rattle.cmwq_orders.proofs.OrderLemmas.{if-some, kept_along, line-taken, none_some, own-taken, unless-some}
use Rattle.cmwq_orders.specs.Laws.{ReachedStatesAreWhole}
use Rattle.cmwq_orders.specs.Orders.{Explored, cannot_come, next_line, reached, start, taken, taken_next, went_on, carried, comes}
use Rattle.cmwq_orders.specs.Sizes.{IsSized, IsWhole}
use Rattle.cmwq_orders.specs.declared.choice.Before.{Before}
use Rattle.cmwq_orders.specs.declared.choice.Choice.{Choice}
use Rattle.cmwq_orders.specs.declared.choice.Choice.TheVariants.{Line, Own}

framed-long : (S : ScenarioContents) (s t : State) (i : Instr) (r : Reply) → (Frame S s i t) ⊎ (IsRefused s t r) → IsAsLong s t
framed-long S s t i r (inl frame) = frame.long
framed-long S s t i r (inr refused) = record { pending = ap (λ (u : State). length u.pending) refused.same; running = ap (λ (u : State). length u.running) refused.same; idle = ap (λ (u : State). length u.idle) refused.same }

table-long : (S : ScenarioContents) (s : State) (i : Instr) → IsAsLong s (table S s i).0
table-long S s i = framed-long S s (table S s i).0 i (table S s i).1 (table-frame S s i)

pub table-sized : (S : ScenarioContents) (s : State) (i : Instr) → IsSized S s → IsSized S (table S s i).0
table-sized S s i sized =
    let long = table-long S s i in
    record { pending = long.pending ∙ sized.pending; running = long.running ∙ sized.running; idle = long.idle ∙ sized.idle }

pub start-sized : (S : ScenarioContents) → IsSized S (states.start S)
start-sized S = record {
  pending = length-replicate (length S.works) None;
  running = length-replicate (length S.works) None;
  idle = length-replicate (MAX_WORKERS * pool_count S) None;
}

-- What is known of the actors.

went_on-whole : (S : ScenarioContents) (e : Explored) (actor : ℕ) (i : Instr) → IsWhole S e → IsWhole S (went_on e actor (table S e.machine i))
went_on-whole S e actor i whole = record {
  machine = table-sized S e.machine i whole.machine;
  at = length-set e.at actor _ ∙ whole.at;
  waits = length-set e.waits actor _ ∙ whole.waits;
}

next-whole : (S : ScenarioContents) (e f : Explored) (actor : ℕ) (o : Option Instr) → IsWhole S e → taken_next S e actor o ≡ Some f → IsWhole S f
next-whole S e f actor (Some i) whole t =
    let now = if-some (comes S e.machine i) (carried e actor (table S e.machine i)) f t in
    subst (IsWhole S) (unless-some (cannot_come (table S e.machine i).1) (went_on e actor (table S e.machine i)) f now.1) (went_on-whole S e actor i whole)
next-whole S e f actor None whole t = absurd (none_some f t)

pub taken-whole : (S : ScenarioContents) (before : List Before) (e f : Explored) (c : Choice) → IsWhole S e → taken S before e c ≡ Some f → IsWhole S f
taken-whole S before e f (Line actor) whole t = next-whole S e f actor (next_line S e actor) whole (line-taken S e f before actor t).1
taken-whole S before e f (Own i) whole t =
    let after : Explored = record e { machine = (table S e.machine i).0 } in
    subst (IsWhole S) (unless-some (cannot_come (table S e.machine i).1) after f (own-taken S e f before i t).1)
    (record { machine = table-sized S e.machine i whole.machine; at = whole.at; waits = whole.waits })

pub start-whole : (S : ScenarioContents) → IsWhole S (start S)
start-whole S = record {
  machine = start-sized S;
  at = length-replicate (length S.actors) 0;
  waits = length-replicate (length S.actors) None;
}

pub reached-whole : (S : ScenarioContents) (before : List Before) (cs : List Choice) (e : Explored) → reached S before cs ≡ Some e → IsWhole S e
reached-whole S before cs e r = kept_along S before (IsWhole S) (λ d g c whole t. taken-whole S before d g c whole t) cs (start S) e (start-whole S) r

pub reached_states_are_whole : ReachedStatesAreWhole
unfolding ReachedStatesAreWhole
reached_states_are_whole S before cs e r = reached-whole S before cs e r
