-- How many of the changes behind an instruction meet a test: what each work adds, one by one.
use Rattle.std.proofs.Common.{◌≡◌, ℕ, ◌+◌, Bool, true, false, cond, List, [], ◌∷◌, ◌++◌, map, Option, Some, None, arith, refl, ap, ◌∙◌}
use Rattle.std.specs.Prelude.{◌==◌, nat_lt, option_to_list}
use Rattle.cmwq_types.specs.declared.instr.WorkId.{WorkId}
use Rattle.cmwq_types.specs.declared.reply.Place.{Place}
use Rattle.cmwq_types.specs.declared.reply.Reply.{Reply}
use Rattle.cmwq_types.specs.declared.reply.Reply.TheVariants as reply
use Rattle.cmwq_types.specs.declared.reply.WorkRun.{WorkRun}
use Rattle.cmwq_table.specs.Told.{is_start}
use Rattle.cmwq_table.specs.State.{State, running_at}
use Rattle.cmwq_table.specs.Table.{run_of}
use Rattle.cmwq_table.specs.View.{entries_from}
use Rattle.cmwq_table.specs.declared.state.Pending.{Pending}
use Rattle.cmwq_tell.specs.declared.change.Change.{Change}
use Rattle.cmwq_tell.specs.declared.change.Change.TheVariants as change
use Rattle.cmwq_tell.specs.Hidden.{change_of, hidden, passing, pool_of_place, put_by_stamp, stamped_from, start_on, start_told}
use Rattle.cmwq_tell.specs.Laws.{count_changes}

pub count-append : (test : Change → Bool) (xs ys : List Change) → count_changes test (xs ++ ys) ≡ count_changes test xs + count_changes test ys
count-append test [] ys = omega arith
count-append test (x ∷ xs) ys = let later : count_changes test (xs ++ ys) ≡ count_changes test xs + count_changes test ys = count-append test xs ys in omega (arith, later)

pub passing-none : (test : Change → Bool) (b : Bool) (now : ℕ) → test (change.Now now) ≡ false → count_changes test (cond b [] (change.Now now ∷ [])) ≡ 0
passing-none test true now e = refl
passing-none test false now e = ap (λ (c : Bool). cond c 1 0 + 0) e

-- what one work adds, whose stamp is old or not, and its birth
abbrev pub told_if : (Change → Bool) → ℕ → Place → Bool → Bool → ℕ
told_if test w place old born_before =
    cond old 0 (cond (test (cond born_before (change.Activated (record { 0 = w }) (pool_of_place place)) (change.Placed (record { 0 = w }) place))) 1 0)

abbrev pub told_of : (Change → Bool) → ℕ → ℕ → Option Pending → ℕ
told_of test next w (Some p) = told_if test w p.place (nat_lt p.stamp next) (nat_lt p.born next)
told_of test next w None = 0

abbrev pub told_from : (Change → Bool) → ℕ → ℕ → List (Option Pending) → ℕ
told_from test next w [] = 0
told_from test next w (x ∷ xs) = told_of test next w x + told_from test next (w + 1) xs

module _ (test : Change → Bool) (next : ℕ) where
  abbrev counted : List (WorkId × Pending) → ℕ
  counted entries = count_changes test (map (change_of next) entries)

  put-if : (c : Bool) (entry other : WorkId × Pending) (others rest : List (WorkId × Pending)) → counted rest ≡ counted (entry ∷ others) → counted (cond c (entry ∷ other ∷ others) (other ∷ rest)) ≡ counted (entry ∷ other ∷ others)
  put-if true entry other others rest same = refl
  put-if false entry other others rest same = omega (arith, same)

  count-put : (entry : WorkId × Pending) (entries : List (WorkId × Pending)) → counted (put_by_stamp entry entries) ≡ counted (entry ∷ entries)
  count-put entry [] = refl
  count-put entry (other ∷ others) = put-if (nat_lt entry.1.stamp other.1.stamp) entry other others (put_by_stamp entry others) (count-put entry others)

  stamped-if : (c : Bool) (entry : WorkId × Pending) (found : List (WorkId × Pending))
      → counted (cond c found (put_by_stamp entry found)) ≡ cond c 0 (cond (test (change_of next entry)) 1 0) + counted found
  stamped-if true entry found = omega arith
  stamped-if false entry found = count-put entry found

  pub count-stamped : (o : ℕ) (xs : List (Option Pending)) → counted (stamped_from next (entries_from o xs)) ≡ told_from test next o xs
  count-stamped o [] = refl
  count-stamped o (None ∷ xs) = (let later : counted (stamped_from next (entries_from (o + 1) xs)) ≡ told_from test next (o + 1) xs = count-stamped (o + 1) xs in omega (arith, later))
  count-stamped o (Some p ∷ xs) =
      stamped-if (nat_lt p.stamp next) (record { 0 = o }, p) (stamped_from next (entries_from (o + 1) xs))
      ∙ ap (λ (n : ℕ). told_of test next o (Some p) + n) (count-stamped (o + 1) xs)

-- where no start meets the test
started-if : (test : Change → Bool) → ((w : WorkId) (run : WorkRun) → test (change.Started w run) ≡ false) → (b : Bool) (w : WorkId) (o : Option WorkRun)
    → count_changes test (option_to_list (cond {A = Option Change} b (start_on w o) None)) ≡ 0
started-if test starts true w (Some run) = ap (λ (c : Bool). cond {A = ℕ} c 1 0 + 0) (starts w run)
started-if test starts true w None = refl
started-if test starts false w o = refl

pub started-none : (test : Change → Bool) → ((w : WorkId) (run : WorkRun) → test (change.Started w run) ≡ false) → (t : State) (r : Reply) → count_changes test (option_to_list (start_told t r)) ≡ 0
started-none test starts t (reply.Event w e) = started-if test starts (is_start e) w (run_of (running_at t w.0))
started-none test starts t other = refl

-- where neither a change of the time nor a start meets the test, each work adds its own
pub count-hidden : (test : Change → Bool) → ((now : ℕ) → test (change.Now now) ≡ false) → ((w : WorkId) (run : WorkRun) → test (change.Started w run) ≡ false) → (s t : State) (r : Reply)
    → count_changes test (hidden s t r) ≡ told_from test s.next 0 t.pending
count-hidden test passes starts s t r =
    let stamped = map (change_of s.next) (stamped_from s.next (entries_from 0 t.pending)) in
    let started = option_to_list (start_told t r) in
    let nothing : count_changes test (passing s.time t.time) ≡ 0 = passing-none test (t.time == s.time) t.time (passes t.time) in
    let none : count_changes test started ≡ 0 = started-none test starts t r in
    let both : count_changes test (passing s.time t.time ++ started) ≡ count_changes test (passing s.time t.time) + count_changes test started = count-append test (passing s.time t.time) started in
    let sum : count_changes test (hidden s t r) ≡ count_changes test (passing s.time t.time ++ started) + count_changes test stamped = count-append test (passing s.time t.time ++ started) stamped in
    let counts : count_changes test stamped ≡ told_from test s.next 0 t.pending = count-stamped test s.next 0 t.pending in
    omega (arith, nothing, none, both, sum, counts)
