-- What a view of the state shows.
use Rattle.std.specs.Prelude.{ℕ, ◌+◌, ◌/◌, ◌%◌, Bool, List, [], ◌∷◌, Option, Some, None}
use Rattle.cmwq_types.specs.declared.instr.WorkId.{WorkId}
use Rattle.cmwq_types.specs.declared.limits.TheConstants.{MAX_WORKERS}
use Rattle.cmwq_table.specs.declared.state.FlushTarget.{FlushTarget}
use Rattle.cmwq_table.specs.declared.state.Pending.{Pending}
use Rattle.cmwq_table.specs.declared.state.Running.{Running}
use Rattle.cmwq_table.specs.declared.view.IdleWorker.{IdleWorker}
use Rattle.cmwq_table.specs.State.{State}

-- a view without where its lists lie in memory
pub record ViewContents : Type 0 where
  pub time : ℕ
  pub next : ℕ
  pub spent : ℕ
  pub frozen : Bool
  pub pressed : Bool
  pub max : List ℕ
  pub pending : List (WorkId × Pending)
  pub running : List (WorkId × Running)
  pub depth : List ℕ
  pub idle : List IdleWorker
  pub made : List ℕ
  pub flushes : List FlushTarget

-- an entry where there is one, and the later ones
abbrev pub entry_before : {A : Type 0} → ℕ → Option A → List (WorkId × A) → List (WorkId × A)
entry_before w (Some x) later = (record { 0 = w }, x) ∷ later
entry_before w None later = later

-- the entries of a finite map from works, from a work on, by rising number
abbrev pub entries_from : {A : Type 0} → ℕ → List (Option A) → List (WorkId × A)
entries_from w [] = []
entries_from w (x ∷ xs) = entry_before w x (entries_from (w + 1) xs)

-- an idle worker where there is one, and the later ones
abbrev pub idle_before : ℕ → Option ℕ → List IdleWorker → List IdleWorker
idle_before seat (Some stamp) later =
    record { pool = seat / MAX_WORKERS; worker = seat % MAX_WORKERS; stamp = stamp } ∷ later
idle_before seat None later = later

-- the idle workers from a seat on, by pool and worker
abbrev pub idle_from : ℕ → List (Option ℕ) → List IdleWorker
idle_from seat [] = []
idle_from seat (x ∷ xs) = idle_before seat x (idle_from (seat + 1) xs)

-- every part of the state
abbrev pub view_of : State → ViewContents
view_of s =
    record {
      time = s.time;
      next = s.next;
      spent = s.spent;
      frozen = s.frozen;
      pressed = s.pressed;
      max = s.max;
      pending = entries_from 0 s.pending;
      running = entries_from 0 s.running;
      depth = s.depth;
      idle = idle_from 0 s.idle;
      made = s.made;
      flushes = s.flushes;
    }
