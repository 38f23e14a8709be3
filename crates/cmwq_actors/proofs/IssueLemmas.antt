-- What an issue adds to what a pass has issued.
use Rattle.std.proofs.Common.{◌≡◌, ◌==◌, ℕ, ◌+◌, ◌-◌, ◌≤◌, List, [], ◌∷◌, ◌++◌, length, filter, sym, ◌∙◌, ap, subst, arith, length-append}
use Rattle.std.proofs.lemmas.List.Sums.{length-filter, count_by-le-length}
use Rattle.cmwq_types.specs.declared.instr.Instr.{Instr}
use Rattle.cmwq_lock.specs.Views.{SameKnowledge, caller_of, mine_of, seen_of}
use Rattle.cmwq_engine.specs.History.{instrs_of}
use Rattle.cmwq_engine.specs.Shared.{EngineView, HasEntered, HasFoundFull, HasHadTurn, IfNoTicket, IfFull}
use Rattle.cmwq_engine.specs.declared.history.Entry.{Entry}
use Rattle.cmwq_engine.specs.declared.history.Setting.{Setting}
use Rattle.cmwq_engine.specs.declared.shared.IssueError.{IssueError}
use Rattle.cmwq_engine.specs.declared.shared.IssueError.TheVariants.{Full, Exhausted}
use Rattle.cmwq_actors.specs.Interleaving.{IsFrontOf}
use Rattle.cmwq_actors.specs.declared.ending.Ending.TheVariants as ending
use Rattle.cmwq_actors.specs.Ending.{HasEnded, stopped_by}
use Rattle.cmwq_actors.specs.Playing.{issued_with}
use Rattle.cmwq_actors.proofs.FrontLemmas.{front_of_longer}

-- a caller has no more entries than the history has room for
pub own_calls_fit : (from : Setting) (v w : EngineView) → HasHadTurn from v w → length (mine_of w) ≤ from.capacity
own_calls_fit from v w turn =
    let is_own = λ (e : Entry). e.caller == caller_of v in
    let few : length (filter is_own (seen_of w)) ≤ length (seen_of w) =
    rw length-filter (count_by-le-length is_own (seen_of w))
    in
    let all : length (filter is_own (seen_of w)) ≡ length (mine_of w) = ap length turn.own_calls in
    let room : length (seen_of w) ≤ from.capacity = turn.legal.bounded in omega arith

-- one entry more is counted, and there was room for it
pub one_more_fits :
    (from : Setting) (v w : EngineView) (new : Entry) (place : ℕ)
    → HasHadTurn from v w → HasEntered from v w new place → length (mine_of v) + 1 ≤ from.capacity
one_more_fits from v w new place turn entered =
    let longer : length (mine_of w) ≡ length (mine_of v) + 1 = ap length entered.mine ∙ length-append (mine_of v) (new ∷ []) in
    let fits = own_calls_fit from v w turn in omega arith

-- who has issued some instructions, and nothing since, has issued a front of them and more
pub stops_in_front : (v w : EngineView) (left all : List Instr) → issued_with v ++ left ≡ all → mine_of w ≡ mine_of v → IsFrontOf (issued_with w) all
stops_in_front v w left all whole same =
    subst (λ (xs : List Instr). IsFrontOf xs all) (sym (ap instrs_of same))
    (subst (λ (ys : List Instr). IsFrontOf (issued_with v) ys) whole (front_of_longer (issued_with v) left))

-- who was refused the next instruction has ended so
pub stop_ends :
    (from : Setting) (v w : EngineView) (left all : List Instr) (why : IssueError)
    → issued_with v ++ left ≡ all → IfFull why (HasFoundFull from v w) → IfNoTicket why (SameKnowledge v w)
    → HasEnded from.capacity (seen_of w) (issued_with w) all (stopped_by why)
stop_ends from v w left all Full whole full same = (stops_in_front v w left all whole full.mine, full.full)
stop_ends from v w left all Exhausted whole full same = stops_in_front v w left all whole same.same_mine

-- who ends exhausted had an issue that was
pub exhausted_by : (fact : Type 0) (why : IssueError) → IfNoTicket why fact → stopped_by why ≡ ending.Exhausted → fact
exhausted_by fact Full told is = cc
exhausted_by fact Exhausted told is = told
