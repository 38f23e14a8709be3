-- What a recording comes to: the picture's columns.
use Rattle.std.proofs.Common.{◌≡◌, ◌≢◌, ℕ, zero, suc, ◌+◌, ◌<◌, ◌≤◌, Bool, true, false, cond, ◌&&◌, ◌||◌, List, [], ◌∷◌, ◌++◌, length, map, append_assoc, append-nil, Option, Some, None, Result, Ok, Err, OnOk, arith, refl, sym, subst, ap, ◌∙◌}
use Rattle.std.proofs.lemmas.Bool.Decides.{nat_tests}
use Rattle.std.specs.List.{cons_option, filter, list_any}
use Rattle.std.specs.Prelude.{nat_le, nat_lt, ◌==◌}
use Rattle.cmwq_types.specs.Contents.{ScenarioContents}
use Rattle.cmwq_types.specs.Setting.{IsSetting}
use Rattle.cmwq_types.specs.declared.instr.Instr.{Instr}
use Rattle.cmwq_types.specs.declared.reply.Reply.{Reply}
use Rattle.cmwq_table.proofs.CounterLemmas.{table-counters}
use Rattle.cmwq_table.specs.State.{State, start}
use Rattle.cmwq_table.specs.Table.{table}
use Rattle.cmwq_picture.specs.Arming.{armings_from, in_tick, new_arming}
use Rattle.cmwq_picture.specs.Column.{ColumnContents, column_of, cut_rows}
use Rattle.cmwq_picture.specs.ExtentContents.{ExtentContents}
use Rattle.cmwq_picture.specs.Folding.{columns_drawn, edges_from, is_long, is_open, is_wide, stretches_of, ticks_drawn}
use Rattle.cmwq_picture.specs.PictureContents.{PictureContents, RowContents}
use Rattle.cmwq_picture.specs.Picture.{Deeds, acted_at, acts_from, columns, deeds_of, from_time, is_act, is_before, is_drawn, ticks_from, titles}
use Rattle.cmwq_picture.specs.PictureOfRun.{Draws, IsDrawError, acts as run_acts, armings as run_armings, is_folded, picture_of, ticks_told, told_of_tick}
use Rattle.cmwq_picture.specs.declared.arming.Arming.{Arming}
use Rattle.cmwq_picture.specs.declared.row.Act.{Act}
use Rattle.cmwq_streams.specs.declared.error.PlayError.{PlayError}
use Rattle.cmwq_streams.specs.declared.error.PlayError.TheVariants.{TooWide, NoMemory}
use Rattle.cmwq_picture.specs.declared.span.TheConstants.{MAX_COLUMNS}
use Rattle.cmwq_picture.proofs.StretchLemmas.{stretches-fit, stretches-longer}
use Rattle.cmwq_picture.specs.Recording.{IsRecording, Recording, recording_begun, issued, issued_all, new_acts, new_columns, no_deeds, noted, overflows, told as then_told}
use Rattle.cmwq_drawing.specs.declared.drawing.Span.{Span}
use Rattle.cmwq_picture.proofs.TickLemmas.{time-goes_on, time-ticks}
use Rattle.cmwq_picture.proofs.AlikeLemmas.{column-ticks}
use Rattle.cmwq_picture.proofs.ArmingLemmas.{IsSetAt, armed-here, armed-later, armed-stays, armed_at, new-set, set_times}

pub on_ok : {A E P Q : Type 0} (r : Result A E) → (P → Q) → OnOk r P → OnOk r Q
on_ok (Ok x) f holds = f holds
on_ok (Err e) f holds = holds

-- One part after another.

pub issued_all-append : (r : Recording) (xs ys : List Instr) → issued_all r (xs ++ ys) ≡ issued_all (issued_all r xs) ys
issued_all-append r [] ys = refl
issued_all-append r (x ∷ xs) ys = issued_all-append (issued r x) xs ys

overflows-longer : (r : Recording) (more : List ColumnContents) (s : State) (deeds : Deeds) (acts : List Act) → overflows r ≡ true
    → overflows (record r { columns = r.columns ++ more; state = s; deeds = deeds; acts = acts }) ≡ true
overflows-longer r more s deeds acts wide =
    let longer = stretches-longer r.columns more in
    grind (arith, nat_tests, longer)

-- An instruction keeps what holds of a recording, be it drawn or not yet.
pub kept : (r : Recording) (i : Instr) (deeds : Deeds) (acts : List Act) → IsRecording r → IsRecording (record r { state = (table r.scenario r.state i).0; deeds = deeds; acts = acts })
kept r i deeds acts holds =
    let goes_on = time-goes_on r.scenario r.state i holds.setting in
    record {
      setting = holds.setting;
      counters = table-counters r.scenario r.state i holds.setting holds.counters;
      few = omega (arith, goes_on, holds.few);
      late = λ some. (let late = holds.late some in omega (arith, goes_on, late));
    }

-- What an instruction leaves: no tick, a tick that isn't drawn, and one that is.

stayed-if : (r : Recording) (t : State) (deeds : Deeds) (b : Bool) (acts : List Act) → b ≡ false
    → record r { state = t; deeds = deeds; acts = acts } ≡ record r { state = t; deeds = cond b no_deeds deeds; acts = acts; columns = r.columns ++ cond (b && is_drawn r.span r.state.time) (column_of r.scenario r.state deeds ∷ []) [] }
stayed-if r t deeds true acts e = absurd cc
stayed-if r t deeds false acts e = ap (λ (cs : List ColumnContents). record r { state = t; deeds = deeds; acts = acts; columns = cs }) (sym (append-nil r.columns))

passed-if : (r : Recording) (t : State) (deeds : Deeds) (b d : Bool) (acts : List Act) (cs : List ColumnContents) → b ≡ true → cs ≡ r.columns ++ cond d (column_of r.scenario r.state deeds ∷ []) []
    → record r { state = t; deeds = no_deeds; acts = acts; columns = cs } ≡ record r { state = t; deeds = cond b no_deeds deeds; acts = acts; columns = r.columns ++ cond (b && d) (column_of r.scenario r.state deeds ∷ []) [] }
passed-if r t deeds true d acts cs e is = ap (λ (cs : List ColumnContents). record r { state = t; deeds = no_deeds; acts = acts; columns = cs }) is
passed-if r t deeds false d acts cs e is = absurd cc

-- a machine has come to t, and has answered
module _ (r : Recording) (i : Instr) (t : State) (answer : Reply) (is : (t, answer) ≡ table r.scenario r.state i) where
  abbrev after : State × Reply
  after = table r.scenario r.state i

  at : t ≡ after.0
  at = ap (λ (after : State × Reply). after.0) is

  -- what is recorded then, before the time is looked at
  abbrev pub told : Recording
  told = noted (record r { state = t }) r.state.time i answer

  abbrev then-deeds : Deeds
  then-deeds = then_told r.deeds r.state.time i after.0 after.1

  abbrev then-acts : List Act
  then-acts = r.acts ++ new_acts r.span r.state.time i after.1

  told-is : told ≡ record r { state = after.0; deeds = then-deeds; acts = then-acts }
  told-is = ap (λ (next : State × Reply). noted (record r { state = next.0 }) r.state.time i next.1) is

  -- with the time that was asked for before
  pub told-at : (time : ℕ) → time ≡ r.state.time → noted (record r { state = t }) time i answer ≡ told
  told-at time same = ap (λ (time : ℕ). noted (record r { state = t }) time i answer) same

  pub moved-kept : IsRecording r → IsRecording (record r { state = t })
  moved-kept holds = subst (λ (u : State). IsRecording (record r { state = u })) (sym at) (kept r i r.deeds r.acts holds)

  pub told-kept : IsRecording r → IsRecording told
  told-kept holds = subst IsRecording (sym told-is) (kept r i then-deeds then-acts holds)

  pub stays-after : t.time ≡ r.state.time → told ≡ issued r i
  stays-after stays =
      let still : after.0.time ≡ r.state.time = sym (ap (λ (u : State). u.time) at) ∙ stays in
      let same : nat_lt r.state.time after.0.time ≡ false = grind (arith, nat_tests) in
      told-is ∙ stayed-if r after.0 then-deeds (nat_lt r.state.time after.0.time) then-acts same

  module _ (setting : IsSetting r.scenario) (differs : t.time ≢ r.state.time) where
    -- time has gone on where it isn't what it was
    time-on : r.state.time < after.0.time
    time-on =
        let least = time-goes_on r.scenario r.state i setting in
        let apart : after.0.time ≢ r.state.time = λ e. differs (ap (λ (u : State). u.time) at ∙ e) in
        omega (arith, least, apart)

    gone-on : nat_lt r.state.time after.0.time ≡ true
    gone-on = (let less = time-on in grind (arith, nat_tests))

    pub passes-after : is_drawn r.span r.state.time ≡ false → record told { deeds = no_deeds } ≡ issued r i
    passes-after undrawn =
        let none : r.columns ≡ r.columns ++ cond (is_drawn r.span r.state.time) (column_of r.scenario r.state then-deeds ∷ []) [] =
        sym (ap (λ (d : Bool). r.columns ++ cond d (column_of r.scenario r.state then-deeds ∷ []) []) undrawn ∙ append-nil r.columns) in
        ap (λ (q : Recording). record q { deeds = no_deeds }) told-is
        ∙ passed-if r after.0 then-deeds (nat_lt r.state.time after.0.time) (is_drawn r.span r.state.time) then-acts r.columns gone-on none

    pub drawn-after : is_drawn r.span r.state.time ≡ true
        → record told { deeds = no_deeds; columns = r.columns ++ column_of r.scenario t told.deeds ∷ [] } ≡ issued r i
    drawn-after drawn =
        let same : column_of r.scenario after.0 then-deeds ≡ column_of r.scenario r.state then-deeds =
        column-ticks r.scenario r.state after.0 then-deeds (time-ticks r.scenario r.state i setting time-on) in
        let one : r.columns ++ column_of r.scenario after.0 then-deeds ∷ [] ≡ r.columns ++ cond (is_drawn r.span r.state.time) (column_of r.scenario r.state then-deeds ∷ []) [] =
        ap (λ (c : ColumnContents). r.columns ++ c ∷ []) same ∙ sym (ap (λ (d : Bool). r.columns ++ cond d (column_of r.scenario r.state then-deeds ∷ []) []) drawn) in
        ap (λ (q : Recording). record q { deeds = no_deeds; columns = q.columns ++ column_of q.scenario q.state q.deeds ∷ [] }) told-is
        ∙ passed-if r after.0 then-deeds (nat_lt r.state.time after.0.time) (is_drawn r.span r.state.time) then-acts
        (r.columns ++ column_of r.scenario after.0 then-deeds ∷ []) gone-on one

    -- there is room for a column
    pub room-after : IsRecording r → is_drawn r.span r.state.time ≡ true → from_time r.span.from + length r.columns < t.time
    room-after holds drawn =
        let on : r.state.time < t.time = subst (λ (u : State). r.state.time < u.time) (sym at) time-on in
        room-if (length r.columns) (from_time r.span.from) r.state.time t.time on (begun (nat_le (from_time r.span.from) r.state.time) (is_before r.state.time r.span.to) drawn) holds.late
      where
        begun : (a b : Bool) → (a && b) ≡ true → a ≡ true
        begun true b e = refl
        begun false b e = absurd cc

        room-if : (n from time next : ℕ) → time < next → nat_le from time ≡ true → (0 < n → from + n ≤ time) → from + n < next
        room-if zero from time next on is late = (let least : from ≤ time = grind (arith, nat_tests) in omega arith)
        room-if (suc n) from time next on is late = (let least = late (omega arith) in omega arith)

-- what overflows once overflows ever after
pub overflows-stays : (r : Recording) (instrs : List Instr) → overflows r ≡ true → overflows (issued_all r instrs) ≡ true
overflows-stays r [] wide = wide
overflows-stays r (i ∷ is) wide =
    let next = table r.scenario r.state i in
    let deeds = then_told r.deeds r.state.time i next.0 next.1 in
    overflows-stays (issued r i) is
    (overflows-longer r (new_columns r next.0 deeds) next.0 (cond (nat_lt r.state.time next.0.time) no_deeds deeds) (r.acts ++ new_acts r.span r.state.time i next.1) wide)

-- Times.

-- the times at which the actor did something
abbrev times_from : ScenarioContents → State → List Instr → List ℕ
times_from S s [] = []
times_from S s (i ∷ is) = cond (is_act i (table S s i).1) (s.time ∷ []) [] ++ times_from S (table S s i).0 is

acted-if : (b : Bool) (act : Act) (acts : List Act) (times : List ℕ) (at : ℕ) → acted_at acts at ≡ list_any (λ time. time == at) times
    → acted_at (cond b (act ∷ []) [] ++ acts) at ≡ list_any (λ time. time == at) (cond b (act.time ∷ []) [] ++ times)
acted-if true act acts times at same = ap (λ (b : Bool). (act.time == at) || b) same
acted-if false act acts times at same = same

acted-times : (S : ScenarioContents) (s : State) (instrs : List Instr) (at : ℕ) → acted_at (acts_from S s instrs) at ≡ list_any (λ time. time == at) (times_from S s instrs)
acted-times S s [] at = refl
acted-times S s (i ∷ is) at =
    let next = table S s i in
    acted-if (is_act i next.1) (record { time = s.time; instr = i }) (acts_from S next.0 is) (times_from S next.0 is) at (acted-times S next.0 is at)

-- each tick of a run begins at its time or later
abbrev AllLater : ℕ → List State → Type 0
AllLater time [] = Unit {0}
AllLater time (s ∷ states) = (time ≤ s.time) × AllLater time states

-- and each time at which the actor does something
abbrev NoneBefore : ℕ → List ℕ → Type 0
NoneBefore time [] = Unit {0}
NoneBefore time (act ∷ acts) = (time ≤ act) × NoneBefore time acts

later-weaker : (m n : ℕ) (states : List State) → m ≤ n → AllLater n states → AllLater m states
later-weaker m n [] less later = tt
later-weaker m n (s ∷ states) less later = (omega (arith, later.0), later-weaker m n states less later.1)

none-weaker : (m n : ℕ) (acts : List ℕ) → m ≤ n → NoneBefore n acts → NoneBefore m acts
none-weaker m n [] less none = tt
none-weaker m n (act ∷ acts) less none = (omega (arith, none.0), none-weaker m n acts less none.1)

module _ (S : ScenarioContents) (setting : IsSetting S) where
  ticks-later-if : (b : Bool) (s : State) (states : List State) → AllLater s.time states → AllLater s.time (cond b (s ∷ []) [] ++ states)
  ticks-later-if true s states later = (omega arith, later)
  ticks-later-if false s states later = later

  ticks-later : (s : State) (instrs : List Instr) → AllLater s.time (ticks_from S s instrs)
  ticks-later s [] = tt
  ticks-later s (i ∷ is) =
      let t = (table S s i).0 in
      ticks-later-if (nat_lt s.time t.time) s (ticks_from S t is) (later-weaker s.time t.time (ticks_from S t is) (time-goes_on S s i setting) (ticks-later t is))

  acts-later-if : (b : Bool) (s : State) (acts : List ℕ) → NoneBefore s.time acts → NoneBefore s.time (cond b (s.time ∷ []) [] ++ acts)
  acts-later-if true s acts none = (omega arith, none)
  acts-later-if false s acts none = none

  acts-later : (s : State) (instrs : List Instr) → NoneBefore s.time (times_from S s instrs)
  acts-later s [] = tt
  acts-later s (i ∷ is) =
      let next = table S s i in
      acts-later-if (is_act i next.1) s (times_from S next.0 is) (none-weaker s.time next.0.time (times_from S next.0 is) (time-goes_on S s i setting) (acts-later next.0 is))

  set-later-if : (s : State) (new : Option Arming) (armings : List Arming) → IsSetAt s.time new → NoneBefore s.time (set_times armings) → NoneBefore s.time (set_times (cons_option new armings))
  set-later-if s (Some x) armings set none = (omega (arith, set), none)
  set-later-if s None armings set none = none

  set-later : (s : State) (instrs : List Instr) → NoneBefore s.time (set_times (armings_from S s instrs))
  set-later s [] = tt
  set-later s (i ∷ is) =
      let next = table S s i in
      set-later-if s (new_arming s.time next.0 next.1) (armings_from S next.0 is) (new-set s.time next.0 next.1)
      (none-weaker s.time next.0.time (set_times (armings_from S next.0 is)) (time-goes_on S s i setting) (set-later next.0 is))

none-set : (time : ℕ) (armings : List Arming) → NoneBefore (time + 1) (set_times armings) → in_tick armings time ≡ []
none-set time [] none = refl
none-set time (x ∷ armings) none =
    let apart : (x.time == time) ≡ false = (let later = none.0 in grind (arith, nat_tests)) in
    ap (λ (b : Bool). cond b (x ∷ in_tick armings time) (in_tick armings time)) apart ∙ none-set time armings none.1

none-at : (time : ℕ) (acts : List ℕ) → NoneBefore (time + 1) acts → list_any (λ act. act == time) acts ≡ false
none-at time [] none = refl
none-at time (act ∷ acts) none =
    let apart : (act == time) ≡ false = (let later = none.0 in grind (arith, nat_tests)) in
    ap (λ (b : Bool). b || list_any (λ act. act == time) acts) apart ∙ none-at time acts none.1

-- Columns.

-- whether the actor acted at the time of the state, where it did something before at this time, and then at those
abbrev pub flag_at : Bool → ℕ → List ℕ → State → Bool
flag_at before time acts s = (before && (time == s.time)) || list_any (λ act. act == s.time) acts

-- what is told of the state's tick, where this was told before at this time, and then at those times, and of those timers
abbrev pub told_at : Deeds → ℕ → List ℕ → List Arming → State → Deeds
told_at before time acts armings s = deeds_of (flag_at before.acted time acts s) (armed_at before.armed time armings s)

abbrev recorded : ScenarioContents → Deeds → ℕ → List ℕ → List Arming → List State → List ColumnContents
recorded S before time acts armings states = map (λ s. column_of S s (told_at before time acts armings s)) states

-- what is told of each of these states alike
recorded-same : (S : ScenarioContents) (f g : State → Deeds) (least : ℕ) (states : List State) → AllLater least states → ((s : State) → least ≤ s.time → f s ≡ g s)
    → map (λ s. column_of S s (f s)) states ≡ map (λ s. column_of S s (g s)) states
recorded-same S f g least [] later same = refl
recorded-same S f g least (s ∷ states) later same =
    ap (λ (d : Deeds). column_of S s d ∷ map (λ s. column_of S s (f s)) states) (same s later.0)
    ∙ ap (λ (cs : List ColumnContents). column_of S s (g s) ∷ cs) (recorded-same S f g least states later.1 same)

drawn-later-if : (least : ℕ) (b : Bool) (s : State) (states : List State) → least ≤ s.time → AllLater least states → AllLater least (cond b (s ∷ states) states)
drawn-later-if least true s states here later = (here, later)
drawn-later-if least false s states here later = later

drawn-later : (least : ℕ) (span : Span) (states : List State) → AllLater least states → AllLater least (filter (λ s. is_drawn span s.time) states)
drawn-later least span [] later = tt
drawn-later least span (s ∷ states) later = drawn-later-if least (is_drawn span s.time) s (filter (λ s. is_drawn span s.time) states) later.0 (drawn-later least span states later.1)

-- The flag of a state at its time, and later.

once : (e a : Bool) → (e || a) ≡ (e || (e || a))
once true a = refl
once false a = refl

flag-stays : (before act : Bool) (time : ℕ) (acts : List ℕ) (s : State) → flag_at (before || act) time acts s ≡ flag_at before time (cond act (time ∷ []) [] ++ acts) s
flag-stays true true time acts s = once (time == s.time) (list_any (λ act. act == s.time) acts)
flag-stays true false time acts s = refl
flag-stays false true time acts s = refl
flag-stays false false time acts s = refl

and-false : (b : Bool) → (b && false) ≡ false
and-false true = refl
and-false false = refl

and-true : (b : Bool) → (b && true) ≡ b
and-true true = refl
and-true false = refl

without : (act e a : Bool) → e ≡ false → cond act (e || a) a ≡ a
without true e a is = ap (λ (b : Bool). b || a) is
without false e a is = refl

neither : (before act e a : Bool) (rest : Bool) → e ≡ false → rest ≡ cond act (e || a) a → a ≡ ((before && e) || rest)
neither before act e a rest is same =
    let first : (before && e) ≡ false = ap (λ (b : Bool). before && b) is ∙ and-false before in
    sym (ap (λ (b : Bool). b || rest) first ∙ same ∙ without act e a is)

acts-with : (act : Bool) (time : ℕ) (acts : List ℕ) (at : ℕ) → list_any (λ act. act == at) (cond act (time ∷ []) [] ++ acts) ≡ cond act ((time == at) || list_any (λ act. act == at) acts) (list_any (λ act. act == at) acts)
acts-with true time acts at = refl
acts-with false time acts at = refl

flag-later : (before act : Bool) (time next : ℕ) (acts : List ℕ) (s : State) → time < s.time → flag_at false next acts s ≡ flag_at before time (cond act (time ∷ []) [] ++ acts) s
flag-later before act time next acts s later =
    let apart : (time == s.time) ≡ false = grind (arith, nat_tests) in
    neither before act (time == s.time) (list_any (λ act. act == s.time) acts) (list_any (λ act. act == s.time) (cond act (time ∷ []) [] ++ acts)) apart (acts-with act time acts s.time)

within : (act e a : Bool) → e ≡ true → a ≡ false → cond act (e || a) a ≡ act
within true e a is none = ap (λ (b : Bool). b || a) is
within false e a is none = none

either : (before act e a rest : Bool) → e ≡ true → a ≡ false → rest ≡ cond act (e || a) a → (before || act) ≡ ((before && e) || rest)
either before act e a rest is none same =
    let first : (before && e) ≡ before = ap (λ (b : Bool). before && b) is ∙ and-true before in
    sym (ap (λ (b : Bool). b || rest) first ∙ ap (λ (b : Bool). before || b) (same ∙ within act e a is none))

flag-here : (before act : Bool) (s : State) (acts : List ℕ) → NoneBefore (s.time + 1) acts → (before || act) ≡ flag_at before s.time (cond act (s.time ∷ []) [] ++ acts) s
flag-here before act s acts none =
    let same : (s.time == s.time) ≡ true = grind (arith, nat_tests) in
    either before act (s.time == s.time) (list_any (λ act. act == s.time) acts) (list_any (λ act. act == s.time) (cond act (s.time ∷ []) [] ++ acts)) same (none-at s.time acts none) (acts-with act s.time acts s.time)

-- One instruction more.

-- where a tick passes: the column, if it is drawn, and those behind it
drawn-first : (S : ScenarioContents) (f g : State → Deeds) (a : Deeds) (b : Bool) (s : State) (states : List State) → a ≡ g s → map (λ s. column_of S s (f s)) states ≡ map (λ s. column_of S s (g s)) states
    → cond b (column_of S s a ∷ []) [] ++ map (λ s. column_of S s (f s)) states ≡ map (λ s. column_of S s (g s)) (cond b (s ∷ states) states)
drawn-first S f g a true s states here rest =
    ap (λ (d : Deeds). column_of S s d ∷ map (λ s. column_of S s (f s)) states) here ∙ ap (λ (cs : List ColumnContents). column_of S s (g s) ∷ cs) rest
drawn-first S f g a false s states here rest = rest

both-same : (a b : Bool) (x y : List Arming) → a ≡ b → x ≡ y → deeds_of a x ≡ deeds_of b y
both-same a b x y same also = ap (λ (c : Bool). deeds_of c x) same ∙ ap (deeds_of b) also

module _ (S : ScenarioContents) (setting : IsSetting S) (span : Span) (s : State) (i : Instr) (is : List Instr) (before : Deeds) where
  abbrev next : State
  next = (table S s i).0

  abbrev acts_then : List ℕ
  acts_then = times_from S next is

  abbrev acts : Bool
  acts = is_act i (table S s i).1

  abbrev set_then : List Arming
  set_then = armings_from S next is

  abbrev sets : Option Arming
  sets = new_arming s.time next (table S s i).1

  abbrev then_is : Deeds
  then_is = then_told before s.time i next (table S s i).1

  later : s.time < next.time → NoneBefore (s.time + 1) acts_then
  later less = none-weaker (s.time + 1) next.time acts_then (omega arith) (acts-later S setting next is)

  unset : s.time < next.time → in_tick set_then s.time ≡ []
  unset less = none-set s.time set_then (none-weaker (s.time + 1) next.time (set_times set_then) (omega arith) (set-later S setting next is))

  set : IsSetAt s.time sets
  set = new-set s.time next (table S s i).1

  abbrev whole : State → Deeds
  whole = told_at before s.time (cond acts (s.time ∷ []) [] ++ acts_then) (cons_option sets set_then)

  tick-recorded : s.time < next.time
      → cond (is_drawn span s.time) (column_of S s then_is ∷ []) [] ++ recorded S no_deeds next.time acts_then set_then (filter (λ s. is_drawn span s.time) (ticks_from S next is))
      ≡ map (λ u. column_of S u (whole u)) (filter (λ s. is_drawn span s.time) (s ∷ ticks_from S next is))
  tick-recorded less =
      let states = filter (λ s. is_drawn span s.time) (ticks_from S next is) in
      let f = told_at no_deeds next.time acts_then set_then in
      drawn-first S f whole then_is (is_drawn span s.time) s states
      (both-same _ _ _ _ (flag-here before.acted acts s acts_then (later less)) (armed-here before.armed sets set_then s set (unset less)))
      (recorded-same S f whole next.time states (drawn-later next.time span (ticks_from S next is) (ticks-later S setting next is))
      (λ u above.
      both-same _ _ _ _ (flag-later before.acted acts s.time next.time acts_then u (omega arith))
      (armed-later before.armed sets s.time next.time set_then u set (omega arith))))

  stay-recorded : next.time ≡ s.time
      → recorded S then_is next.time acts_then set_then (filter (λ s. is_drawn span s.time) (ticks_from S next is))
      ≡ map (λ u. column_of S u (whole u)) (filter (λ s. is_drawn span s.time) (ticks_from S next is))
  stay-recorded same =
      let states = filter (λ s. is_drawn span s.time) (ticks_from S next is) in
      ap (λ (time : ℕ). recorded S then_is time acts_then set_then states) same
      ∙ recorded-same S (told_at then_is s.time acts_then set_then) whole next.time states
      (drawn-later next.time span (ticks_from S next is) (ticks-later S setting next is))
      (λ u above. both-same _ _ _ _ (flag-stays before.acted acts s.time acts_then u) (armed-stays before.armed sets s.time set_then u set))

  one-recorded : (b : Bool) → nat_lt s.time next.time ≡ b
      → cond (b && is_drawn span s.time) (column_of S s then_is ∷ []) [] ++ recorded S (cond b no_deeds then_is) next.time acts_then set_then (filter (λ s. is_drawn span s.time) (ticks_from S next is))
      ≡ map (λ u. column_of S u (whole u)) (filter (λ s. is_drawn span s.time) (cond b (s ∷ []) [] ++ ticks_from S next is))
  one-recorded true e = (let less : s.time < next.time = grind (arith, nat_tests) in tick-recorded less)
  one-recorded false e =
      let least : s.time ≤ next.time = time-goes_on S s i setting in
      let same : next.time ≡ s.time = (let most : next.time ≤ s.time = grind (arith, nat_tests) in omega arith) in
      stay-recorded same

pub all-recorded : (r : Recording) (instrs : List Instr) → IsSetting r.scenario
    → (issued_all r instrs).columns
    ≡ r.columns ++ recorded r.scenario r.deeds r.state.time (times_from r.scenario r.state instrs) (armings_from r.scenario r.state instrs) (filter (λ s. is_drawn r.span s.time) (ticks_from r.scenario r.state instrs))
all-recorded r [] setting = sym (append-nil r.columns)
all-recorded r (i ∷ is) setting =
    let S = r.scenario in
    let t = (table S r.state i).0 in
    let deeds = then_told r.deeds r.state.time i t (table S r.state i).1 in
    all-recorded (issued r i) is setting
    ∙ append_assoc r.columns (new_columns r t deeds)
    (recorded S (cond (nat_lt r.state.time t.time) no_deeds deeds) t.time (times_from S t is) (armings_from S t is) (filter (λ s. is_drawn r.span s.time) (ticks_from S t is)))
    ∙ ap (λ (cs : List ColumnContents). r.columns ++ cs) (one-recorded S setting r.span r.state i is r.deeds (nat_lt r.state.time t.time) refl)

-- the columns of a whole run
run-recorded : (S : ScenarioContents) (span : Span) (instrs : List Instr) → IsSetting S → (issued_all (recording_begun S span) instrs).columns ≡ ticks_told S instrs span
run-recorded S span instrs setting =
    all-recorded (recording_begun S span) instrs setting
    ∙ told-all (columns S instrs span)
  where
    none-before : (b : Bool) (armed : List Arming) → cond b [] [] ++ armed ≡ armed
    none-before true armed = refl
    none-before false armed = refl

    told-one : (s : State) → told_at no_deeds 0 (times_from S (start S) instrs) (run_armings S instrs) s ≡ told_of_tick S instrs s.time
    told-one s = both-same _ _ _ _ (sym (acted-times S (start S) instrs s.time)) (none-before (0 == s.time) (in_tick (run_armings S instrs) s.time))

    told-all : (states : List State)
        → map (λ s. column_of S s (told_at no_deeds 0 (times_from S (start S) instrs) (run_armings S instrs) s)) states ≡ map (λ s. column_of S s (told_of_tick S instrs s.time)) states
    told-all [] = refl
    told-all (s ∷ states) =
        ap (λ (d : Deeds). column_of S s d ∷ map (λ s. column_of S s (told_at no_deeds 0 (times_from S (start S) instrs) (run_armings S instrs) s)) states) (told-one s)
        ∙ ap (λ (cs : List ColumnContents). column_of S s (told_of_tick S instrs s.time) ∷ cs) (told-all states)

-- What the actor did in the span.

acts-if : (b d : Bool) (act : Act) (p : Act → Bool) (acts : List Act) → p act ≡ d → cond (b && d) (act ∷ []) [] ++ filter p acts ≡ filter p (cond b (act ∷ []) [] ++ acts)
acts-if true true act p acts is = sym (ap (λ (c : Bool). cond c (act ∷ filter p acts) (filter p acts)) is)
acts-if true false act p acts is = sym (ap (λ (c : Bool). cond c (act ∷ filter p acts) (filter p acts)) is)
acts-if false d act p acts is = refl

all-noted : (r : Recording) (instrs : List Instr) → (issued_all r instrs).acts ≡ r.acts ++ filter (λ act. is_drawn r.span act.time) (acts_from r.scenario r.state instrs)
all-noted r [] = sym (append-nil r.acts)
all-noted r (i ∷ is) =
    let next = table r.scenario r.state i in
    let rest = acts_from r.scenario next.0 is in
    let p : Act → Bool = λ act. is_drawn r.span act.time in
    all-noted (issued r i) is ∙ append_assoc r.acts (new_acts r.span r.state.time i next.1) (filter p rest)
    ∙ ap (λ (more : List Act). r.acts ++ more) (acts-if (is_act i next.1) (is_drawn r.span r.state.time) (record { time = r.state.time; instr = i }) p rest refl)

-- The picture.

scenario-stays : (r : Recording) (instrs : List Instr) → (issued_all r instrs).scenario ≡ r.scenario
scenario-stays r [] = refl
scenario-stays r (i ∷ is) = scenario-stays (issued r i) is

span-stays : (r : Recording) (instrs : List Instr) → (issued_all r instrs).span ≡ r.span
span-stays r [] = refl
span-stays r (i ∷ is) = span-stays (issued r i) is

wider : (b : Bool) (m n : ℕ) → m ≤ n → (b && nat_lt MAX_COLUMNS m) ≡ true → (b && nat_lt MAX_COLUMNS n) ≡ true
wider true m n less wide = grind (arith, nat_tests)
wider false m n less wide = wide

-- a picture of a recording that overflows is too wide
pub refused : (S : ScenarioContents) (extent : ExtentContents) (instrs : List Instr) (r : Recording) (why : PlayError) → IsSetting S → r ≡ recording_begun S extent.span → IsDrawError why
    → (why ≡ TooWide → overflows (issued_all r instrs) ≡ true) → Draws S instrs extent (Err why)
refused S extent instrs r TooWide setting is of wide =
    let columns_are = run-recorded S extent.span instrs setting in
    let over : overflows (issued_all (recording_begun S extent.span) instrs) ≡ true = ap (λ (q : Recording). overflows (issued_all q instrs)) (sym is) ∙ wide refl in
    let stretches : (is_open extent.span && nat_lt MAX_COLUMNS (length (stretches_of (ticks_told S instrs extent.span)))) ≡ true =
    ap (λ (cs : List ColumnContents). is_open extent.span && nat_lt MAX_COLUMNS (length (stretches_of cs))) (sym columns_are)
    ∙ ap (λ (at : Span). is_open at && nat_lt MAX_COLUMNS (length (stretches_of (issued_all (recording_begun S extent.span) instrs).columns))) (sym (span-stays (recording_begun S extent.span) instrs))
    ∙ over in
    wider (is_open extent.span) _ _ (stretches-fit true (ticks_told S instrs extent.span)) stretches
refused S extent instrs r NoMemory setting is of wide = tt
refused S extent instrs r other setting is of wide = of

-- what was recorded of the run
pub recorded-run : (S : ScenarioContents) (span : Span) (instrs : List Instr) (r : Recording) → IsSetting S → r ≡ issued_all (recording_begun S span) instrs
    → (r.columns ≡ ticks_told S instrs span) × (r.acts ≡ filter (λ act. is_drawn span act.time) (run_acts S instrs)) × (r.span ≡ span) × (r.scenario ≡ S)
recorded-run S span instrs r setting is =
    let begun = recording_begun S span in (
      ap (λ (q : Recording). q.columns) is ∙ run-recorded S span instrs setting,
      ap (λ (q : Recording). q.acts) is ∙ all-noted begun instrs,
      ap (λ (q : Recording). q.span) is ∙ span-stays begun instrs,
      ap (λ (q : Recording). q.scenario) is ∙ scenario-stays begun instrs,
    )

pub pictured : (S : ScenarioContents) (extent : ExtentContents) (instrs : List Instr) (cs : List ColumnContents) (fold : Bool) (edges : List ℕ) (rows : List RowContents) (done : List Act)
    → cs ≡ ticks_told S instrs extent.span → done ≡ filter (λ act. is_drawn extent.span act.time) (run_acts S instrs) → is_wide extent.span cs ≡ false
    → fold ≡ (extent.fold || is_long extent.span cs) → edges ≡ edges_from (from_time extent.span.from) (ticks_drawn fold (stretches_of cs))
    → rows ≡ cut_rows S (columns_drawn fold (stretches_of cs)) (titles S extent.works)
    → Draws S instrs extent (Ok (record { edges = edges; rows = rows; acts = done }))
pictured S extent instrs cs fold edges rows done told noted narrow folding edges_are cut =
    let whole : List ColumnContents → Bool → List Act → PictureContents = λ cs fold acts. picture_of S extent.works fold (from_time extent.span.from) cs acts in
    let drawn : record { edges = edges; rows = rows; acts = done } ≡ whole cs fold done = rw (edges_are, cut) refl in (
      drawn ∙ ap (λ (b : Bool). whole cs b done) folding ∙ ap (λ (cs : List ColumnContents). whole cs (extent.fold || is_long extent.span cs) done) told
          ∙ ap (λ (done : List Act). whole (ticks_told S instrs extent.span) (is_folded S instrs extent) done) noted,
      ap (is_wide extent.span) (sym told) ∙ narrow,
    )
