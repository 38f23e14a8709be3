-- What is told of one instruction, and of several.
use Rattle.std.proofs.Common.{◌≡◌, ◌≤◌, ◌+◌, ◌&&◌, Bool, true, false, cond, List, [], ◌∷◌, ◌++◌, ℕ, Option, Some, None, arith, append-nil, append_assoc, length, refl, sym, ap, ◌∙◌}
use Rattle.std.specs.List.{flat_map}
use Rattle.cmwq_types.specs.Contents.{ScenarioContents}
use Rattle.cmwq_types.specs.ExactEquality.{same_instr}
use Rattle.cmwq_types.specs.contracts.instr.InstrPartialEq.TheImpl as instr_eq
use Rattle.cmwq_types.specs.declared.instr.Instr.{Instr}
use Rattle.cmwq_types.specs.declared.limits.TheConstants.{MAX_HISTORY}
use Rattle.cmwq_types.specs.declared.reply.Reply.{Reply}
use Rattle.cmwq_table.specs.State.{State}
use Rattle.cmwq_table.specs.Table.{table}
use Rattle.cmwq_table.specs.Events.{reply_line}
use Rattle.cmwq_play.specs.Framing.{framed_text, told_and_closed}
use Rattle.cmwq_tell.specs.declared.change.Change.{Change}
use Rattle.cmwq_tell.specs.declared.come.Come.{Come}
use Rattle.cmwq_tell.specs.declared.told.Whole.{Whole}
use Rattle.cmwq_tell.specs.Hidden.{hidden}
use Rattle.cmwq_tell.specs.Positions.{come_at, held_text, held_then, kept_then, told_if, told_then}
use Rattle.cmwq_tell.specs.RunTold.{Part, change_lines, has_come, instr_line, joined, part_if, part_text, parts_from, tell_from, told_wholly}

-- the parts of what is told of one, as they are written
pub one-told : (S : ScenarioContents) (before : List ℕ) (k : ℕ) (s t : State) (x : Instr) (reply : Reply) (now : ℕ) (changes : List Change) → (t, reply) ≡ table S s x → now ≡ t.time → changes ≡ hidden s t reply
    → (before ++ instr_line S k x) ++ reply_line S now x reply ++ change_lines S changes ≡ before ++ told_wholly S k s x (table S s x)
one-told S before k s t x reply now changes exact time is =
    append_assoc (before ++ instr_line S k x) (reply_line S now x reply) (change_lines S changes)
    ∙ append_assoc before (instr_line S k x) (reply_line S now x reply ++ change_lines S changes)
    ∙ ap (λ (text : List ℕ). before ++ text) (
    sym (append_assoc (instr_line S k x) (reply_line S now x reply) (change_lines S changes))
    ∙ ap (λ (n : ℕ). instr_line S k x ++ reply_line S n x reply ++ change_lines S changes) time
    ∙ ap (λ (cs : List Change). instr_line S k x ++ reply_line S t.time x reply ++ change_lines S cs) is
    ∙ ap (λ (after : State × Reply). told_wholly S k s x after) exact
    )

-- what the teller tells and keeps
abbrev pub telling : Whole → ScenarioContents → State → Instr → List ℕ
telling whole S s instr = told_then S whole.held whole.position s instr

abbrev pub keeping : Whole → ScenarioContents → State → Instr → Whole
keeping whole S s instr = kept_then whole S s instr

abbrev pub opening : Whole → ScenarioContents → List ℕ
opening whole S = []

abbrev pub closing : Whole → ScenarioContents → State → List ℕ
closing whole S s = held_text S whole.held

-- Along a run: what is told, where these are held and the instructions begin at a position.

abbrev told_along : ScenarioContents → Option Come → ℕ → State → List Instr → List ℕ
told_along S held k s [] = held_text S held
told_along S held k s (i ∷ is) = told_then S held k s i ++ told_along S (held_then held (has_come S s i) k i) (k + 1) (table S s i).0 is

along : (whole : Whole) (S : ScenarioContents) (s : State) (instrs : List Instr) → whole.position + length instrs ≤ MAX_HISTORY
    → told_and_closed telling keeping opening closing whole S s instrs ≡ told_along S whole.held whole.position s instrs
along whole S s [] few = refl
along whole S s (i ∷ is) few =
    let t = (table S s i).0 in
    let then = keeping whole S s i in
    let next : then.position ≡ whole.position + 1 = omega (arith, few) in
    append_assoc (telling whole S s i) _ _
    ∙ ap (λ (more : List ℕ). telling whole S s i ++ more)
    (along then S t is (omega (arith, few, next)) ∙ ap (λ (k : ℕ). told_along S then.held k t is) next)

-- Those that are held are a part.

abbrev part_of : Come → Part
part_of come = record { instr = come.instr; first = come.first; last = come.last; come = true; whole = [] }

-- parts of which the first is held, if some are
abbrev with_held : Option Come → List Part → List Part
with_held (Some come) parts = joined (part_of come) parts
with_held None parts = parts

-- a part that hasn't come joins nothing
whole-first : (part : Part) (parts : List Part) → part.come ≡ false → joined part parts ≡ part ∷ parts
whole-first part [] e = refl
whole-first part (next ∷ others) e = ap (λ (b : Bool). cond (b && next.come && instr_eq.ghosts.eq part.instr next.instr) (record part { last = next.last } ∷ others) (part ∷ next ∷ others)) e

-- nor does one before it
before-whole : (part next : Part) (parts : List Part) → next.come ≡ false → joined part (next ∷ parts) ≡ part ∷ next ∷ parts
before-whole part next parts e = by part.come where
  by : (b : Bool) → cond (b && next.come && instr_eq.ghosts.eq part.instr next.instr) (record part { last = next.last } ∷ parts) (part ∷ next ∷ parts) ≡ part ∷ next ∷ parts
  by true = ap (λ (c : Bool). cond (c && instr_eq.ghosts.eq part.instr next.instr) (record part { last = next.last } ∷ parts) (part ∷ next ∷ parts)) e
  by false = refl

-- held ones and an equal one that has come are as one part
same-joined : (come : Come) (k : ℕ) (i : Instr) (parts : List Part) → instr_eq.ghosts.eq come.instr i ≡ true
    → joined (part_of come) (joined (part_of (come_at k i)) parts) ≡ joined (part_of (record come { last = k })) parts
same-joined come k i [] e = ap (λ (b : Bool). cond b (record (part_of come) { last = k } ∷ []) (part_of come ∷ part_of (come_at k i) ∷ [])) e
same-joined come k i (next ∷ others) e = by (next.come && instr_eq.ghosts.eq i next.instr) refl where
  is : come.instr ≡ i
  is = same_instr come.instr i e

  there : instr_eq.ghosts.eq come.instr next.instr ≡ instr_eq.ghosts.eq i next.instr
  there = ap (λ (x : Instr). instr_eq.ghosts.eq x next.instr) is

  by : (b : Bool) → (next.come && instr_eq.ghosts.eq i next.instr) ≡ b
      → joined (part_of come) (cond (next.come && instr_eq.ghosts.eq i next.instr) (record (part_of (come_at k i)) { last = next.last } ∷ others) (part_of (come_at k i) ∷ next ∷ others))
      ≡ cond (next.come && instr_eq.ghosts.eq come.instr next.instr) (record (part_of come) { last = next.last } ∷ others) (part_of (record come { last = k }) ∷ next ∷ others)
  by true j =
      ap (λ (b : Bool). joined (part_of come) (cond b (record (part_of (come_at k i)) { last = next.last } ∷ others) (part_of (come_at k i) ∷ next ∷ others))) j
      ∙ ap (λ (b : Bool). cond b (record (part_of come) { last = next.last } ∷ others) (part_of come ∷ record (part_of (come_at k i)) { last = next.last } ∷ others)) e
      ∙ sym (
      ap (λ (b : Bool). cond (next.come && b) (record (part_of come) { last = next.last } ∷ others) (part_of (record come { last = k }) ∷ next ∷ others)) there
      ∙ ap (λ (b : Bool). cond b (record (part_of come) { last = next.last } ∷ others) (part_of (record come { last = k }) ∷ next ∷ others)) j
      )
  by false j =
      ap (λ (b : Bool). joined (part_of come) (cond b (record (part_of (come_at k i)) { last = next.last } ∷ others) (part_of (come_at k i) ∷ next ∷ others))) j
      ∙ ap (λ (b : Bool). cond b (record (part_of come) { last = k } ∷ next ∷ others) (part_of come ∷ part_of (come_at k i) ∷ next ∷ others)) e
      ∙ sym (
      ap (λ (b : Bool). cond (next.come && b) (record (part_of come) { last = next.last } ∷ others) (part_of (record come { last = k }) ∷ next ∷ others)) there
      ∙ ap (λ (b : Bool). cond b (record (part_of come) { last = next.last } ∷ others) (part_of (record come { last = k }) ∷ next ∷ others)) j
      )

-- held ones and another one aren't
other-joined : (come : Come) (k : ℕ) (i : Instr) (parts : List Part) → instr_eq.ghosts.eq come.instr i ≡ false
    → joined (part_of come) (joined (part_of (come_at k i)) parts) ≡ part_of come ∷ joined (part_of (come_at k i)) parts
other-joined come k i [] e = ap (λ (b : Bool). cond b (record (part_of come) { last = k } ∷ []) (part_of come ∷ part_of (come_at k i) ∷ [])) e
other-joined come k i (next ∷ others) e = by (next.come && instr_eq.ghosts.eq i next.instr) where
  by : (b : Bool)
      → joined (part_of come) (cond b (record (part_of (come_at k i)) { last = next.last } ∷ others) (part_of (come_at k i) ∷ next ∷ others))
      ≡ part_of come ∷ cond b (record (part_of (come_at k i)) { last = next.last } ∷ others) (part_of (come_at k i) ∷ next ∷ others)
  by true = ap (λ (b : Bool). cond b (record (part_of come) { last = next.last } ∷ others) (part_of come ∷ record (part_of (come_at k i)) { last = next.last } ∷ others)) e
  by false = ap (λ (b : Bool). cond b (record (part_of come) { last = k } ∷ next ∷ others) (part_of come ∷ part_of (come_at k i) ∷ next ∷ others)) e

module _ (S : ScenarioContents) where
  -- one that has come goes on with those that are held, or ends them
  step-come : (held : Option Come) (k : ℕ) (s : State) (i : Instr) (parts : List Part)
      → told_if S held k s i true ++ flat_map (part_text S) (with_held (held_then held true k i) parts)
      ≡ flat_map (part_text S) (with_held held (joined (part_if S k s i true) parts))
  step-come None k s i parts = refl
  step-come (Some come) k s i parts = by (instr_eq.ghosts.eq come.instr i) refl where
    by : (b : Bool) → instr_eq.ghosts.eq come.instr i ≡ b
        → held_text S (cond b None (Some come)) ++ flat_map (part_text S) (joined (part_of (cond b (record come { last = k }) (come_at k i))) parts)
        ≡ flat_map (part_text S) (joined (part_of come) (joined (part_of (come_at k i)) parts))
    by true e = ap (flat_map (part_text S)) (sym (same-joined come k i parts e))
    by false e = ap (flat_map (part_text S)) (sym (other-joined come k i parts e))

  -- another one ends them
  step-whole : (held : Option Come) (k : ℕ) (s : State) (i : Instr) (parts : List Part)
      → told_if S held k s i false ++ flat_map (part_text S) parts ≡ flat_map (part_text S) (with_held held (joined (part_if S k s i false) parts))
  step-whole None k s i parts = ap (flat_map (part_text S)) (sym (whole-first (part_if S k s i false) parts refl))
  step-whole (Some come) k s i parts =
      let part = part_if S k s i false in
      append_assoc (held_text S (Some come)) part.whole (flat_map (part_text S) parts)
      ∙ sym (ap (flat_map (part_text S)) (ap (joined (part_of come)) (whole-first part parts refl) ∙ before-whole (part_of come) part parts refl))

  step : (held : Option Come) (k : ℕ) (s : State) (i : Instr) (parts : List Part) (b : Bool)
      → told_if S held k s i b ++ flat_map (part_text S) (with_held (held_then held b k i) parts)
      ≡ flat_map (part_text S) (with_held held (joined (part_if S k s i b) parts))
  step held k s i parts true = step-come held k s i parts
  step held k s i parts false = step-whole held k s i parts

  along-parts : (held : Option Come) (k : ℕ) (s : State) (instrs : List Instr)
      → told_along S held k s instrs ≡ flat_map (part_text S) (with_held held (parts_from S k s instrs))
  along-parts None k s [] = refl
  along-parts (Some come) k s [] = sym (append-nil (held_text S (Some come)))
  along-parts held k s (i ∷ is) =
      let t = (table S s i).0 in
      let b = has_come S s i in
      ap (λ (more : List ℕ). told_then S held k s i ++ more) (along-parts (held_then held b k i) (k + 1) t is)
      ∙ step held k s i (parts_from S (k + 1) t is) b

-- all that the teller tells
pub whole-told : (whole : Whole) (S : ScenarioContents) (s : State) (instrs : List Instr) → whole.position ≡ 0 → whole.held ≡ None → length instrs ≤ MAX_HISTORY
    → framed_text telling keeping opening closing whole S s instrs ≡ tell_from S 0 s instrs
whole-told whole S s instrs first none few =
    along whole S s instrs (omega (arith, few, first))
    ∙ ap (λ (held : Option Come). told_along S held whole.position s instrs) none
    ∙ ap (λ (k : ℕ). told_along S None k s instrs) first
    ∙ along-parts S None 0 s instrs
