-- A start is told exactly where an instance begins to run.
use Rattle.std.proofs.Common.{◌≡◌, ℕ, zero, suc, ◌+◌, Bool, true, false, ◌&&◌, cond, List, [], ◌∷◌, ◌++◌, map, Option, Some, None, arith, refl, sym, ap, ◌∙◌, subst}
use Rattle.std.proofs.lemmas.Bool.{eqb-true}
use Rattle.std.proofs.lemmas.Bool.Decides.{nat_tests}
use Rattle.std.specs.Prelude.{◌==◌, ◌||◌, nat_lt, option_to_list, slice_index_or, slice_set}
use Rattle.cmwq_types.specs.Contents.{ScenarioContents}
use Rattle.cmwq_types.specs.declared.instr.WorkId.{WorkId}
use Rattle.cmwq_types.specs.declared.reply.Event.{Event}
use Rattle.cmwq_types.specs.declared.reply.Reply.{Reply}
use Rattle.cmwq_types.specs.declared.reply.Reply.TheVariants as reply
use Rattle.cmwq_types.specs.declared.reply.WorkRun.{WorkRun}
use Rattle.cmwq_table.specs.Counts.{burns}
use Rattle.cmwq_table.specs.Laws.{AtEveryInstruction, reply_to, state_after}
use Rattle.cmwq_table.specs.Moves.{burned, one_less}
use Rattle.cmwq_table.specs.State.{State, running_at}
use Rattle.cmwq_table.specs.Table.{run, run_of}
use Rattle.cmwq_table.specs.View.{entries_from}
use Rattle.cmwq_table.specs.declared.state.Pending.{Pending}
use Rattle.cmwq_table.specs.declared.state.Running.{Running}
use Rattle.cmwq_table.specs.Told.{is_end, is_start}
use Rattle.cmwq_burning.specs.Burning.{finishes_work}
use Rattle.cmwq_burning.proofs.Happening.{Changes, Happens, IsSilent, table-does}
use Rattle.cmwq_tell.specs.declared.change.Change.{Change}
use Rattle.cmwq_tell.specs.declared.change.Change.TheVariants as change
use Rattle.cmwq_tell.specs.Hidden.{change_of, hidden, passing, pool_of_place, stamped_from, start_on, start_told}
use Rattle.cmwq_tell.specs.Laws.{TellsEachStart, begins_where, count_changes, runs_where, tells_starting}
use Rattle.cmwq_tell.proofs.StampLemmas.{count-append, passing-none}

-- only a start is counted

not-stamped : (w : ℕ) (test : WorkRun → Bool) (next : ℕ) (entry : WorkId × Pending) (b : Bool) (rest : ℕ) → rest ≡ 0
    → cond {A = ℕ} (tells_starting w test (cond {A = Change} b (change.Activated entry.0 (pool_of_place entry.1.place)) (change.Placed entry.0 entry.1.place))) 1 0 + rest ≡ 0
not-stamped w test next entry true rest e = omega (arith, e)
not-stamped w test next entry false rest e = omega (arith, e)

none-stamped : (w : ℕ) (test : WorkRun → Bool) (next : ℕ) (entries : List (WorkId × Pending)) → count_changes (tells_starting w test) (map (change_of next) entries) ≡ 0
none-stamped w test next [] = refl
none-stamped w test next (entry ∷ entries) = not-stamped w test next entry (nat_lt entry.1.born next) _ (none-stamped w test next entries)

only-start : (w : ℕ) (test : WorkRun → Bool) (s t : State) (r : Reply) → count_changes (tells_starting w test) (hidden s t r) ≡ count_changes (tells_starting w test) (option_to_list (start_told t r))
only-start w test s t r =
    let tells = tells_starting w test in
    let entries = stamped_from s.next (entries_from 0 t.pending) in
    let started = option_to_list (start_told t r) in
    let nothing : count_changes tells (passing s.time t.time) ≡ 0 = passing-none tells (t.time == s.time) t.time refl in
    let none : count_changes tells (map (change_of s.next) entries) ≡ 0 = none-stamped w test s.next entries in
    let both : count_changes tells (passing s.time t.time ++ started) ≡ count_changes tells (passing s.time t.time) + count_changes tells started = count-append tells (passing s.time t.time) started in
    let sum : count_changes tells (hidden s t r) ≡ count_changes tells (passing s.time t.time ++ started) + count_changes tells (map (change_of s.next) entries) = count-append tells (passing s.time t.time ++ started) (map (change_of s.next) entries) in
    omega (arith, nothing, none, both, sum)

-- a start of this work or of another
start-one : (b c : Bool) → cond {A = ℕ} (b && c) 1 0 + 0 ≡ cond {A = ℕ} (true && (b && c)) 1 0
start-one true true = refl
start-one true false = refl
start-one false c = refl

no-run : (b : Bool) → 0 ≡ cond {A = ℕ} (true && (b && false)) 1 0
no-run true = refl
no-run false = refl

start-if : (w : ℕ) (test : WorkRun → Bool) (work : WorkId) (c : Bool) (o : Option WorkRun)
    → count_changes (tells_starting w test) (option_to_list (cond {A = Option Change} c (start_on work o) None)) ≡ cond {A = ℕ} (c && ((work.0 == w) && runs_where test o)) 1 0
start-if w test work false o = refl
start-if w test work true (Some run) = start-one (work.0 == w) (test run)
start-if w test work true None = no-run (work.0 == w)

-- Where nothing begins.

itself : (test : WorkRun → Bool) (o : Option Running) → begins_where test false o o ≡ false
itself test (Some r) = refl
itself test None = refl

burned-none : (test : WorkRun → Bool) (b : Bool) → begins_where test false None (cond {A = Option Running} b None None) ≡ false
burned-none test true = refl
burned-none test false = refl

burned-one : (test : WorkRun → Bool) (b : Bool) (r : Option Running) → begins_where test false r (cond {A = Option Running} b (one_less r) r) ≡ false
burned-one test b (Some r) = refl
burned-one test b None = burned-none test b

burned-all : (test : WorkRun → Bool) (f : ℕ → Option Running → Bool) (o w : ℕ) (rs : List (Option Running)) → begins_where test false (slice_index_or rs w None) (slice_index_or (burned f o rs) w None) ≡ false
burned-all test f o w [] = refl
burned-all test f o zero (r ∷ rs) = burned-one test (f o r) r
burned-all test f o (suc w) (r ∷ rs) = burned-all test f (o + 1) w rs

and-self : (a b : Bool) → b ≡ true → (a && b) ≡ false → a ≡ false
and-self true true e f = cc
and-self true false e f = cc
and-self false b e f = refl

silent-start : (w : ℕ) (test : WorkRun → Bool) (t : State) (r : Reply) → IsSilent r → count_changes (tells_starting w test) (option_to_list (start_told t r)) ≡ 0
silent-start w test t (reply.Event work e) silent =
    let same : (work.0 == work.0) ≡ true = grind (arith, nat_tests) in
    let no_start : is_start e ≡ false = and-self (is_start e) (work.0 == work.0) same (silent work.0).0 in
    start-if w test work (is_start e) (run_of (running_at t work.0)) ∙ ap (λ (c : Bool). cond {A = ℕ} (c && ((work.0 == w) && runs_where test (run_of (running_at t work.0)))) 1 0) no_start
silent-start w test t other silent = refl

-- what is silent, where nothing begins
quiet : (w : ℕ) (test : WorkRun → Bool) (s t : State) (r : Reply) → IsSilent r → begins_where test false (running_at s w) (running_at t w) ≡ false
    → count_changes (tells_starting w test) (option_to_list (start_told t r)) ≡ cond {A = ℕ} (begins_where test (finishes_work w r) (running_at s w) (running_at t w)) 1 0
quiet w test s t r silent none =
    silent-start w test t r silent
    ∙ sym (ap (λ (ended : Bool). cond {A = ℕ} (begins_where test ended (running_at s w) (running_at t w)) 1 0) (silent w).1 ∙ ap (λ (b : Bool). cond {A = ℕ} b 1 0) none)

-- One work moves.

set-at : (xs : List (Option Running)) (i : ℕ) (q : Option Running) (r : Running) → slice_index_or xs i None ≡ Some r → slice_index_or (slice_set xs i q) i None ≡ q
set-at [] i q r e = cc
set-at (x ∷ xs) zero q r e = refl
set-at (x ∷ xs) (suc i) q r e = set-at xs i q r e

set-other : (xs : List (Option Running)) (i v : ℕ) (q : Option Running) → (i == v) ≡ false → slice_index_or (slice_set xs i q) v None ≡ slice_index_or xs v None
set-other [] i v q e = refl
set-other (x ∷ xs) zero zero q e = cc
set-other (x ∷ xs) zero (suc v) q e = refl
set-other (x ∷ xs) (suc i) zero q e = refl
set-other (x ∷ xs) (suc i) (suc v) q e = set-other xs i v q (let apart : (i == v) ≡ false = grind (arith, nat_tests, e) in apart)

begins-new : (c d R : Bool) → c ≡ true → (c && (true && R)) ≡ ((true || (d && true)) && R)
begins-new true d R e = refl
begins-new false d R e = cc

begins-none : (c d R : Bool) → c ≡ false → d ≡ false → (c && (true && R)) ≡ ((false || (d && true)) && R)
begins-none false false R e f = refl
begins-none true d R e f = cc
begins-none false true R e f = cc

-- the work itself
module _ (S : ScenarioContents) (w : ℕ) (test : WorkRun → Bool) where
  moves-own : (before now q : Option Running) (e : Event) → Changes S w before q e → ((r : Running) → before ≡ Some r → now ≡ q)
      → (is_start e && (true && runs_where test (run_of now))) ≡ begins_where test (is_end e && true) before now
  moves-own before now q e (Changes.starts r _ there at begun not_end) set = begins-new (is_start e) (is_end e) (runs_where test (run_of now)) begun
  moves-own before now q e (Changes.goes_on r p _ pool left no_start no_end) set = begins-none (is_start e) (is_end e) (runs_where test (run_of now)) no_start no_end
  moves-own before now q e (Changes.ends r ended) set = let gone : runs_where test (run_of now) ≡ false = ap (λ (o : Option Running). runs_where test (run_of o)) (set r refl) in sym gone
  moves-own before now q e (Changes.again r p pool ended at) set = refl

and-false : (a b : Bool) → b ≡ false → (a && b) ≡ false
and-false true b e = e
and-false false b e = refl

module _ (S : ScenarioContents) (s t : State) (w : ℕ) (test : WorkRun → Bool) where
  abbrev Told : Reply → Type 0
  Told r = count_changes (tells_starting w test) (option_to_list (start_told t r)) ≡ cond {A = ℕ} (begins_where test (finishes_work w r) (running_at s w) (running_at t w)) 1 0

  own : (work : WorkId) (e : Event) (q : Option Running) → work.0 ≡ w → t.running ≡ slice_set s.running work.0 q → Changes S work.0 (running_at s work.0) q e → Told (reply.Event work e)
  own work e q at set changes =
      let it : (work.0 == w) ≡ true = grind (arith, nat_tests, at) in
      let now = running_at t work.0 in
      let there : (r : Running) → running_at s work.0 ≡ Some r → now ≡ q = λ r is. ap (λ (running : List (Option Running)). slice_index_or running work.0 None) set ∙ set-at s.running work.0 q r is in
      start-if w test work (is_start e) (run_of now)
      ∙ ap (λ (b : Bool). cond {A = ℕ} (is_start e && (b && runs_where test (run_of now))) 1 0) it
      ∙ ap (λ (b : Bool). cond {A = ℕ} b 1 0) (moves-own S work.0 test (running_at s work.0) now q e changes there)
      ∙ ap (λ (b : Bool). cond {A = ℕ} (begins_where test (is_end e && b) (running_at s work.0) now) 1 0) (sym it)
      ∙ ap (λ (v : ℕ). cond {A = ℕ} (begins_where test (is_end e && (work.0 == w)) (running_at s v) (running_at t v)) 1 0) at

  another : (work : WorkId) (e : Event) (q : Option Running) → (work.0 == w) ≡ false → t.running ≡ slice_set s.running work.0 q → Told (reply.Event work e)
  another work e q apart set =
      let same : running_at t w ≡ running_at s w = ap (λ (running : List (Option Running)). slice_index_or running w None) set ∙ set-other s.running work.0 w q apart in
      let R = runs_where test (run_of (running_at t work.0)) in
      start-if w test work (is_start e) (run_of (running_at t work.0))
      ∙ ap (λ (b : Bool). cond {A = ℕ} (is_start e && (b && R)) 1 0) apart
      ∙ ap (λ (b : Bool). cond {A = ℕ} b 1 0) (and-false (is_start e) false refl)
      ∙ sym (ap (λ (ended : Bool). cond {A = ℕ} (begins_where test ended (running_at s w) (running_at t w)) 1 0) (and-false (is_end e) (work.0 == w) apart)
      ∙ ap (λ (o : Option Running). cond {A = ℕ} (begins_where test false (running_at s w) o) 1 0) same
      ∙ ap (λ (b : Bool). cond {A = ℕ} b 1 0) (itself test (running_at s w)))

  moved : (work : WorkId) (e : Event) (q : Option Running) (b : Bool) → (work.0 == w) ≡ b → t.running ≡ slice_set s.running work.0 q → Changes S work.0 (running_at s work.0) q e → Told (reply.Event work e)
  moved work e q true is set changes = own work e q (eqb-true work.0 w is) set changes
  moved work e q false is set changes = another work e q is set

  happens-told : (time : ℕ) (r : Reply) → Happens S s t.running time r → Told r
  happens-told time r (Happens.nothing runs still silent) =
      let same : running_at t w ≡ running_at s w = ap (λ (running : List (Option Running)). slice_index_or running w None) runs in
      quiet w test s t r silent (ap (λ (o : Option Running). begins_where test false (running_at s w) o) same ∙ itself test (running_at s w))
  happens-told time r (Happens.passes settled runs on silent) =
      let now : running_at t w ≡ slice_index_or (burned (burns S s) 0 s.running) w None = ap (λ (running : List (Option Running)). slice_index_or running w None) runs in
      quiet w test s t r silent (ap (λ (o : Option Running). begins_where test false (running_at s w) o) now ∙ burned-all test (burns S s) 0 w s.running)
  happens-told time r (Happens.moves work e q there runs still told changes) = subst Told (sym told) (moved work e q (work.0 == w) refl runs changes)

pub tells_each_start : AtEveryInstruction TellsEachStart
unfolding TellsEachStart
tells_each_start S valid instrs i = λ w test.
    let s = run S instrs in
    let t = state_after S s i in
    only-start w test s t (reply_to S s i) ∙ happens-told S s t w test t.time (reply_to S s i) (table-does S s i)
