-- Disables add up: the depths that each instruction leaves.
use Rattle.std.proofs.Common.{◌≡◌, ◌⊎◌, inl, inr, ℕ, zero, suc, ◌+◌, ◌-◌, ◌<◌, true, false, not, List, [], ◌∷◌, length, None, arith, refl, sym, ap, ◌∙◌, subst}
use Rattle.std.proofs.lemmas.Bool.{ltb-true}
use Rattle.std.proofs.lemmas.List.{get_or-set_other, get_or-set_same, length-replicate, length-set}
use Rattle.std.specs.Prelude.{◌≢◌, ◌==◌, nat_lt, slice_index_or, slice_set}
use Rattle.cmwq_types.specs.Contents.{ScenarioContents}
use Rattle.cmwq_types.specs.declared.instr.Instr.{Instr}
use Rattle.cmwq_types.specs.declared.instr.Instr.TheVariants as instr
use Rattle.cmwq_types.specs.declared.instr.WorkId.{WorkId}
use Rattle.cmwq_types.specs.declared.reply.Refusal.{Refusal}
use Rattle.cmwq_types.specs.declared.reply.Refusal.TheVariants.{NoSuchWork, NotDisabled}
use Rattle.cmwq_types.specs.declared.reply.Reply.{Reply}
use Rattle.cmwq_types.specs.declared.reply.Reply.TheVariants as reply
use Rattle.cmwq_table.specs.Laws.{AtEveryInstruction, state_after}
use Rattle.cmwq_table.specs.State.{State, depth_at, is_disabled, start}
use Rattle.cmwq_table.specs.Table.{after_all, no_work, run, table}
use Rattle.cmwq_table.specs.Moves.{with_depth}
use Rattle.cmwq_table.specs.Changes.{Sets, sets_depth}
use Rattle.cmwq_table.proofs.Frames.{Frame, IsRefused, depths_then, sets-frame, table-frame}
use Rattle.cmwq_table_laws.specs.Depths.{DisablesOnce, EnablesOnce, IsAccepted, LeavesDepths}
use Rattle.cmwq_table_laws.proofs.AcceptingLemmas.{accepted-none, granted, operands-fit, situation-fits}

-- The depths that are left.

abbrev depth-in : ℕ → List ℕ → ℕ
depth-in w depths = slice_index_or depths w 0

disable-sets : (S : ScenarioContents) (s : State) (w : WorkId) → depths_then s (instr.Disable w) ≡ slice_set s.depth w.0 (depth_at s w.0 + 1)
disable-sets S s w = sym (sets-frame S s (with_depth s w.0 (depth_at s w.0 + 1)) (instr.Disable w) (Sets.disables w)).1

enable-sets : (S : ScenarioContents) (s : State) (w : WorkId) → depths_then s (instr.Enable w) ≡ slice_set s.depth w.0 (depth_at s w.0 - 1)
enable-sets S s w = sym (sets-frame S s (with_depth s w.0 (depth_at s w.0 - 1)) (instr.Enable w) (Sets.enables w)).1

other-leaves : (S : ScenarioContents) (s : State) (i : Instr) → sets_depth i ≡ false → depths_then s i ≡ s.depth
other-leaves S s i shallow = sym (sets-frame S s s i (Sets.nothing i shallow)).1

-- There is a depth of each work item.

then-long : (S : ScenarioContents) (s : State) (i : Instr) → length (depths_then s i) ≡ length s.depth
then-long S s (instr.Disable w) = ap length (disable-sets S s w) ∙ length-set s.depth w.0 (depth_at s w.0 + 1)
then-long S s (instr.Enable w) = ap length (enable-sets S s w) ∙ length-set s.depth w.0 (depth_at s w.0 - 1)
then-long S s i = ap length (other-leaves S s i refl)

module _ (S : ScenarioContents) (s t : State) (i : Instr) (r : Reply) where
  framed-long : (Frame S s i t) ⊎ (IsRefused s t r) → length t.depth ≡ length s.depth
  framed-long (inl frame) = ap length frame.depth ∙ then-long S s i
  framed-long (inr refused) = ap (λ (u : State). length u.depth) refused.same

  accepted-depth : ((why : Refusal) → r ≢ reply.Refused why) → (Frame S s i t) ⊎ (IsRefused s t r) → t.depth ≡ depths_then s i
  accepted-depth accepted (inl frame) = frame.depth
  accepted-depth accepted (inr refused) = absurd (accepted refused.why refused.told)

all-long : (S : ScenarioContents) (s : State) (instrs : List Instr) → length (after_all S s instrs).depth ≡ length s.depth
all-long S s [] = refl
all-long S s (i ∷ instrs) = all-long S (table S s i).0 instrs ∙ framed-long S s (table S s i).0 i (table S s i).1 (table-frame S s i)

-- The depth of the work item that is disabled or enabled.

work-there : (S : ScenarioContents) (w : WorkId) → no_work S w ≡ None → w.0 < length S.works
work-there S w e = ltb-true w.0 (length S.works) (granted (nat_lt w.0 (length S.works)) NoSuchWork e)

deep : (depth : ℕ) → not (depth == 0) ≡ true → 0 < depth
deep zero e = cc
deep (suc depth) e = omega arith

module _ (S : ScenarioContents) (instrs : List Instr) (work : WorkId) where
  after-depth : (i : Instr) → IsAccepted S (run S instrs) i → (state_after S (run S instrs) i).depth ≡ depths_then (run S instrs) i
  after-depth i accepted = (let s = run S instrs in accepted-depth S s (table S s i).0 i (table S s i).1 accepted (table-frame S s i))

  in_range : no_work S work ≡ None → work.0 < length (run S instrs).depth
  in_range there =
      let long : length (run S instrs).depth ≡ length S.works = all-long S (start S) instrs ∙ length-replicate (length S.works) 0 in
      let declared : work.0 < length S.works = work-there S work there in
      omega (arith, long, declared)

  disabled-once : IsAccepted S (run S instrs) (instr.Disable work)
      → depth_at (state_after S (run S instrs) (instr.Disable work)) work.0 ≡ depth_at (run S instrs) work.0 + 1
  disabled-once accepted =
      let s = run S instrs in
      let none = accepted-none S s (instr.Disable work) accepted in
      ap (depth-in work.0) (after-depth (instr.Disable work) accepted ∙ disable-sets S s work)
      ∙ get_or-set_same s.depth work.0 (depth_at s work.0 + 1) 0 (in_range (operands-fit S s (instr.Disable work) none))

  enabled-once : IsAccepted S (run S instrs) (instr.Enable work)
      → depth_at (state_after S (run S instrs) (instr.Enable work)) work.0 + 1 ≡ depth_at (run S instrs) work.0
  enabled-once accepted =
      let s = run S instrs in
      let none = accepted-none S s (instr.Enable work) accepted in
      let before : 0 < depth_at s work.0 = deep (depth_at s work.0) (granted (is_disabled s work.0) NotDisabled (situation-fits S s (instr.Enable work) none)) in
      let after : depth_at (state_after S s (instr.Enable work)) work.0 ≡ depth_at s work.0 - 1 =
      ap (depth-in work.0) (after-depth (instr.Enable work) accepted ∙ enable-sets S s work)
      ∙ get_or-set_same s.depth work.0 (depth_at s work.0 - 1) 0 (in_range (operands-fit S s (instr.Enable work) none)) in
      omega (arith, before, after)

pub disables_once : AtEveryInstruction DisablesOnce
unfolding DisablesOnce
disables_once S valid instrs i work same =
    subst (λ (j : Instr). IsAccepted S (run S instrs) j → depth_at (state_after S (run S instrs) j) work.0 ≡ depth_at (run S instrs) work.0 + 1) (sym same)
    (disabled-once S instrs work)

pub enables_once : AtEveryInstruction EnablesOnce
unfolding EnablesOnce
enables_once S valid instrs i work same =
    subst (λ (j : Instr). IsAccepted S (run S instrs) j → depth_at (state_after S (run S instrs) j) work.0 + 1 ≡ depth_at (run S instrs) work.0) (sym same)
    (enabled-once S instrs work)

-- The depths of other work items.

abbrev id_of : ℕ → WorkId
id_of n = record { 0 = n }

same-work : (v w : WorkId) → w.0 ≡ v.0 → v ≡ w
same-work v w e = ap id_of (sym e)

then-other : (S : ScenarioContents) (s : State) (i : Instr) (work : WorkId) → i ≢ instr.Disable work → i ≢ instr.Enable work → slice_index_or (depths_then s i) work.0 0 ≡ depth_at s work.0
then-other S s (instr.Disable v) work no_disable no_enable =
    ap (depth-in work.0) (disable-sets S s v) ∙ get_or-set_other s.depth v.0 work.0 (depth_at s v.0 + 1) 0 (λ e. no_disable (ap instr.Disable (same-work v work e)))
then-other S s (instr.Enable v) work no_disable no_enable =
    ap (depth-in work.0) (enable-sets S s v) ∙ get_or-set_other s.depth v.0 work.0 (depth_at s v.0 - 1) 0 (λ e. no_enable (ap instr.Enable (same-work v work e)))
then-other S s i work no_disable no_enable = ap (depth-in work.0) (other-leaves S s i refl)

framed-other : (S : ScenarioContents) (s t : State) (i : Instr) (r : Reply) (work : WorkId) → (Frame S s i t) ⊎ (IsRefused s t r) → i ≢ instr.Disable work → i ≢ instr.Enable work
    → depth_at t work.0 ≡ depth_at s work.0
framed-other S s t i r work (inl frame) no_disable no_enable = ap (depth-in work.0) frame.depth ∙ then-other S s i work no_disable no_enable
framed-other S s t i r work (inr refused) no_disable no_enable = ap (λ (u : State). depth_at u work.0) refused.same

pub leaves_depths : AtEveryInstruction LeavesDepths
unfolding LeavesDepths
leaves_depths S valid instrs i work =
    (let s = run S instrs in framed-other S s (table S s i).0 i (table S s i).1 work (table-frame S s i))
