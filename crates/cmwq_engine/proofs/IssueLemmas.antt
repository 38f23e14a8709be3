-- What a turn has done, by what it came to.
use Rattle.std.proofs.Common.{◌≡◌, ◌<◌, All, subst, List, [], ◌∷◌, ◌++◌, length, Result, Ok, Err, IfOk, IfErr, inl, inr, sym, ap, ◌∙◌, arith, length-append}
use Rattle.std.proofs.lemmas.List.{append_cancel_left}
use Rattle.cmwq_types.specs.declared.instr.Instr.{Instr}
use Rattle.cmwq_lock.specs.Log.{BeginsWith, BothGrow}
use Rattle.cmwq_lock.specs.Views.{caller_of, ticket_of, seen_of, mine_of}
use Rattle.cmwq_engine.specs.Issuing.{HasIssued, entry_of}
use Rattle.cmwq_engine.specs.Shared.{EngineView, HasEntered, HasFoundFull}
use Rattle.cmwq_engine.specs.declared.history.Entry.{Entry}
use Rattle.cmwq_engine.specs.declared.history.Full.{Full}
use Rattle.cmwq_engine.specs.declared.history.Setting.{Setting}
use Rattle.cmwq_engine.specs.declared.kept.Receipt.{Receipt}

not_longer : (before after : List Entry) (e : Entry) → after ≡ before → after ≡ before ++ e ∷ [] → ⊥
not_longer before after e same more = let count = length-append before (e ∷ []) in let longer = ap length (sym same ∙ more) in omega arith

module _ (from : Setting) (instr : Instr) (before : List Entry) (v w : EngineView) where
  abbrev Grows : Type 0
  Grows = BothGrow (λ (e : Entry). e.ticket) (λ (e : Entry). e.caller) before (seen_of w) (mine_of v) (mine_of w) (ticket_of v) (caller_of v)

  -- with a receipt its entry is the new one
  pub entered : (outcome : Result Receipt Full) → Grows → BeginsWith before (seen_of v) → HasIssued from instr before (seen_of w) (ticket_of v) (caller_of v) outcome
      → IfOk outcome (λ receipt. HasEntered from v w (entry_of receipt (caller_of v) instr) receipt.place)
  entered (Ok receipt) (inl same) begins told = absurd (not_longer before (seen_of w) _ same.0 told.0)
  entered (Ok receipt) (inr more) begins told = record {
    found = before;
    begins = begins;
    last = told.0;
    place_is = told.2;
    reply = told.3;
    mine = more.2 ∙ ap (λ (l : List Entry). mine_of v ++ l) (append_cancel_left before _ _ (sym more.1 ∙ told.0));
  }
  entered (Err full) grows begins told = tt

  -- with none there is no new entry
  pub found_full : (outcome : Result Receipt Full) → Grows → HasIssued from instr before (seen_of w) (ticket_of v) (caller_of v) outcome
      → IfErr outcome (λ full. HasFoundFull from v w)
  found_full (Ok receipt) grows told = tt
  found_full (Err full) (inl same) told = record { full = ap length told.0 ∙ told.1; mine = same.1 }
  found_full (Err full) (inr more) told = absurd (not_longer before (seen_of w) _ told.0 more.1)

  -- and all entries are those of earlier turns
  pub none_new : (outcome : Result Receipt Full) → All (λ (e : Entry). e.ticket < ticket_of v) before → HasIssued from instr before (seen_of w) (ticket_of v) (caller_of v) outcome
      → IfErr outcome (λ full. All (λ (e : Entry). e.ticket < ticket_of v) (seen_of w))
  none_new (Ok receipt) earlier told = tt
  none_new (Err full) earlier told = subst (λ (l : List Entry). All (λ (e : Entry). e.ticket < ticket_of v) l) (sym told.0) earlier
