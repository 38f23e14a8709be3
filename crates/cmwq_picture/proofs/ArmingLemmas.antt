-- The timers that bodies set: those of one tick among those of a run, and the last one for an instance.
use Rattle.std.proofs.Common.{◌≡◌, ℕ, ◌<◌, Bool, true, false, cond, List, [], ◌∷◌, ◌++◌, append_assoc, append-nil, map, Option, Some, None, arith, refl, sym, ap, ◌∙◌}
use Rattle.std.proofs.lemmas.Bool.Decides.{nat_tests}
use Rattle.std.specs.List.{cons_option}
use Rattle.std.specs.Prelude.{◌==◌}
use Rattle.cmwq_types.specs.declared.instr.WorkId.{WorkId}
use Rattle.cmwq_types.specs.declared.reply.Reply.{Reply}
use Rattle.cmwq_types.specs.declared.reply.Reply.TheVariants as reply
use Rattle.cmwq_table.specs.Counts.{or_else}
use Rattle.cmwq_table.specs.State.{State, pending_at}
use Rattle.cmwq_table.specs.declared.state.Pending.{Pending}
use Rattle.cmwq_picture.specs.Arming.{armed_work, armer, arming_by, arming_for, in_tick, is_for, new_arming}
use Rattle.cmwq_picture.specs.declared.arming.Arming.{Arming}

-- The last one for an instance.

or-none : {A : Type 0} (o : Option A) → or_else o None ≡ o
or-none (Some x) = refl
or-none None = refl

or-both : {A : Type 0} (a b c : Option A) → or_else (or_else a b) c ≡ or_else a (or_else b c)
or-both (Some x) b c = refl
or-both None b c = refl

pub armer-both : (xs ys : List Arming) (w : ℕ) (p : Option Pending) → armer (xs ++ ys) w p ≡ or_else (armer ys w p) (armer xs w p)
armer-both [] ys w p = sym (or-none (armer ys w p))
armer-both (x ∷ xs) ys w p =
    let last : Option WorkId = cond (is_for w p x) (Some x.by) None in
    ap (λ (by : Option WorkId). or_else by last) (armer-both xs ys w p) ∙ or-both (armer ys w p) (armer xs w p) last

-- the one that comes next, before those that are left
pub armer-next : (x : Arming) (left : List Arming) (w : ℕ) (p : Option Pending) (by : Option WorkId) (b : Bool) → is_for w p x ≡ b
    → or_else (armer (x ∷ left) w p) by ≡ or_else (armer left w p) (cond b (Some x.by) by)
armer-next x left w p by true is =
    ap (λ (c : Bool). or_else (or_else (armer left w p) (cond c (Some x.by) None)) by) is ∙ or-both (armer left w p) (Some x.by) by
armer-next x left w p by false is =
    ap (λ (c : Bool). or_else (or_else (armer left w p) (cond c (Some x.by) None)) by) is ∙ ap (λ (o : Option WorkId). or_else o by) (or-none (armer left w p))

-- Those of a tick.

-- it is set at this time, where one is
abbrev pub IsSetAt : ℕ → Option Arming → Type 0
IsSetAt time (Some arming) = arming.time ≡ time
IsSetAt time None = Unit {0}

for-set : (time : ℕ) (by work : WorkId) (p : Option Pending) → IsSetAt time (arming_for time by work p)
for-set time by work (Some p) = refl
for-set time by work None = tt

by-set : (time : ℕ) (t : State) (by : WorkId) (work : Option WorkId) → IsSetAt time (arming_by time t by work)
by-set time t by (Some work) = for-set time by work (pending_at t work.0)
by-set time t by None = tt

pub new-set : (time : ℕ) (t : State) (answer : Reply) → IsSetAt time (new_arming time t answer)
new-set time t (reply.Event by event) = by-set time t by (armed_work event)
new-set time t other = tt

-- those of the state's tick, where these were set before at this time, and then those
abbrev pub armed_at : List Arming → ℕ → List Arming → State → List Arming
armed_at before time armings s = cond (time == s.time) before [] ++ in_tick armings s.time

abbrev pub set_times : List Arming → List ℕ
set_times armings = map (λ arming. arming.time) armings

stays-if : (b : Bool) (before : List Arming) (x : Arming) (later : List Arming) → cond b (before ++ x ∷ []) [] ++ later ≡ cond b before [] ++ cond b (x ∷ later) later
stays-if true before x later = append_assoc before (x ∷ []) later
stays-if false before x later = refl

pub armed-stays : (before : List Arming) (new : Option Arming) (time : ℕ) (armings : List Arming) (s : State) → IsSetAt time new
    → armed_at (before ++ cons_option new []) time armings s ≡ armed_at before time (cons_option new armings) s
armed-stays before (Some x) time armings s set =
    stays-if (time == s.time) before x (in_tick armings s.time)
    ∙ ap (λ (at : ℕ). cond (time == s.time) before [] ++ cond (at == s.time) (x ∷ in_tick armings s.time) (in_tick armings s.time)) (sym set)
armed-stays before None time armings s set = ap (λ (xs : List Arming). cond (time == s.time) xs [] ++ in_tick armings s.time) (append-nil before)

nothing : (b : Bool) (later : List Arming) → cond b [] [] ++ later ≡ later
nothing true later = refl
nothing false later = refl

pub armed-later : (before : List Arming) (new : Option Arming) (time next : ℕ) (armings : List Arming) (s : State) → IsSetAt time new → time < s.time
    → armed_at [] next armings s ≡ armed_at before time (cons_option new armings) s
armed-later before (Some x) time next armings s set later =
    let apart : (time == s.time) ≡ false = grind (arith, nat_tests) in
    let at : (x.time == s.time) ≡ false = ap (λ (k : ℕ). k == s.time) set ∙ apart in
    nothing (next == s.time) (in_tick armings s.time)
    ∙ sym (ap (λ (b : Bool). cond b before [] ++ cond (x.time == s.time) (x ∷ in_tick armings s.time) (in_tick armings s.time)) apart
    ∙ ap (λ (b : Bool). cond b (x ∷ in_tick armings s.time) (in_tick armings s.time)) at)
armed-later before None time next armings s set later =
    let apart : (time == s.time) ≡ false = grind (arith, nat_tests) in
    nothing (next == s.time) (in_tick armings s.time) ∙ sym (ap (λ (b : Bool). cond b before [] ++ in_tick armings s.time) apart)

pub armed-here : (before : List Arming) (new : Option Arming) (armings : List Arming) (s : State) → IsSetAt s.time new → in_tick armings s.time ≡ []
    → before ++ cons_option new [] ≡ armed_at before s.time (cons_option new armings) s
armed-here before (Some x) armings s set none =
    let same : (s.time == s.time) ≡ true = grind (arith, nat_tests) in
    let at : (x.time == s.time) ≡ true = ap (λ (k : ℕ). k == s.time) set ∙ same in
    sym (ap (λ (b : Bool). cond b before [] ++ cond (x.time == s.time) (x ∷ in_tick armings s.time) (in_tick armings s.time)) same
    ∙ ap (λ (b : Bool). before ++ cond b (x ∷ in_tick armings s.time) (in_tick armings s.time)) at ∙ ap (λ (xs : List Arming). before ++ x ∷ xs) none)
armed-here before None armings s set none =
    let same : (s.time == s.time) ≡ true = grind (arith, nat_tests) in
    sym (ap (λ (b : Bool). cond b before [] ++ in_tick armings s.time) same ∙ ap (λ (xs : List Arming). before ++ xs) none)
