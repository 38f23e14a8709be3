-- The changes that the table's words make, each of one work.
use Rattle.std.proofs.Common.{ℕ, ◌<◌, ◌≤◌, List, length, Option, None, arith, refl, ◌∙◌}
use Rattle.std.proofs.Math.ListN.{length-set}
use Rattle.std.proofs.lemmas.List.{get_or-set_same, get_or-set_other}
use Rattle.std.specs.Prelude.{slice_set, slice_index_or}
use Rattle.cmwq_types.specs.Contents.{ScenarioContents}
use Rattle.cmwq_table.specs.declared.state.Pending.{Pending}
use Rattle.cmwq_table.specs.declared.state.Running.{Running}
use Rattle.cmwq_table.specs.State.{State, pending_at, running_at, made_at}
use Rattle.cmwq_table.proofs.LawLemmas.Changes.{IsLong, Alters}

-- the work pends otherwise
pub alters-pending : (S : ScenarioContents) (s : State) (w : ℕ) (p : Option Pending) (next : ℕ) → IsLong S s → w < length S.works
    → Alters S s (record s { next = next; pending = slice_set s.pending w p }) w p (running_at s w)
alters-pending S s w p next long h = record {
  in_range = h;
  pending_here = get_or-set_same s.pending w p None (omega (arith, long.pending));
  running_here = refl;
  pending_else = λ v ne. get_or-set_other s.pending w v p None ne;
  running_else = λ v ne. refl;
  long = record { pending = length-set s.pending w p ∙ long.pending; running = long.running };
  max = refl;
  frozen = refl;
  time = refl;
  depth = refl;
  flushes = refl;
  made = λ within. within;
}

-- the work runs otherwise, and a worker's seat may change
pub alters-running : (S : ScenarioContents) (s : State) (w : ℕ) (r : Option Running) (next : ℕ) (idle : List (Option ℕ)) → IsLong S s
    → w < length S.works → Alters S s (record s { next = next; running = slice_set s.running w r; idle = idle }) w (pending_at s w) r
alters-running S s w r next idle long h = record {
  in_range = h;
  pending_here = refl;
  running_here = get_or-set_same s.running w r None (omega (arith, long.running));
  pending_else = λ v ne. refl;
  running_else = λ v ne. get_or-set_other s.running w v r None ne;
  long = record { pending = long.pending; running = length-set s.running w r ∙ long.running };
  max = refl;
  frozen = refl;
  time = refl;
  depth = refl;
  flushes = refl;
  made = λ within. within;
}

-- the work pends and runs otherwise; a worker's seat may change, and how many the pools have made
pub alters-both : (S : ScenarioContents) (s : State) (w : ℕ) (p : Option Pending) (r : Option Running) (next : ℕ) (idle : List (Option ℕ)) (made : List ℕ)
    → IsLong S s → w < length S.works → (((pool : ℕ) → made_at s pool ≤ S.workers) → (pool : ℕ) → slice_index_or made pool 0 ≤ S.workers)
    → Alters S s (record s { next = next; pending = slice_set s.pending w p; running = slice_set s.running w r; idle = idle; made = made }) w p r
alters-both S s w p r next idle made long h within = record {
  in_range = h;
  pending_here = get_or-set_same s.pending w p None (omega (arith, long.pending));
  running_here = get_or-set_same s.running w r None (omega (arith, long.running));
  pending_else = λ v ne. get_or-set_other s.pending w v p None ne;
  running_else = λ v ne. get_or-set_other s.running w v r None ne;
  long = record { pending = length-set s.pending w p ∙ long.pending; running = length-set s.running w r ∙ long.running };
  max = refl;
  frozen = refl;
  time = refl;
  depth = refl;
  flushes = refl;
  made = within;
}
