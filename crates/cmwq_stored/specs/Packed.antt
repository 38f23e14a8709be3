-- A state as numbers, and those as bytes: of both it can be told which state it is.
use Rattle.std.specs.Prelude.{ℕ, ◌+◌, ◌/◌, ◌%◌, Bool, List, [], ◌∷◌, ◌++◌, length, Option, Some, None, if◌then◌else◌, nat_lt}
use Rattle.std.specs.List.{flat_map}
use Rattle.cmwq_types.specs.declared.instr.WorkId.{WorkId}
use Rattle.cmwq_types.specs.declared.reply.Mode.{Mode}
use Rattle.cmwq_types.specs.declared.reply.Mode.TheVariants.{Runnable, Asleep}
use Rattle.cmwq_types.specs.declared.reply.Place.{Place}
use Rattle.cmwq_types.specs.declared.reply.Place.TheVariants.{Timer, Inactive, Listed, Deferred}
use Rattle.cmwq_table.specs.View.{ViewContents}
use Rattle.cmwq_table.specs.declared.state.FlushTarget.{FlushTarget}
use Rattle.cmwq_table.specs.declared.state.FlushTarget.TheVariants.{Instance, Queue, Nothing}
use Rattle.cmwq_table.specs.declared.state.Pending.{Pending}
use Rattle.cmwq_table.specs.declared.state.Running.{Running}
use Rattle.cmwq_table.specs.declared.view.IdleWorker.{IdleWorker}

-- Numbers as bytes, the lowest byte first.

abbrev pub two_bytes : ℕ → List ℕ
two_bytes n = n % 256 ∷ n / 256 ∷ []

abbrev pub four_bytes : ℕ → List ℕ
four_bytes n = two_bytes (n % 65536) ++ two_bytes (n / 65536)

abbrev pub eight_bytes : ℕ → List ℕ
eight_bytes n = four_bytes (n % 4294967296) ++ four_bytes (n / 4294967296)

-- one byte, or two behind a 254, or eight behind a 255
unfoldable pub bytes_of : ℕ → List ℕ
bytes_of n = if nat_lt n 254 then n ∷ [] else (if nat_lt n 65536 then 254 ∷ two_bytes n else 255 ∷ eight_bytes n)

-- numbers, one behind another
abbrev pub packed : List ℕ → List ℕ
packed ns = flat_map bytes_of ns

-- Parts of a state as numbers.

abbrev pub one_number : ℕ → List ℕ
one_number n = n ∷ []

abbrev pub truth : Bool → List ℕ
truth b = (if b then 1 else 0) ∷ []

-- a flush, or none
abbrev pub flush_numbers : Option ℕ → List ℕ
flush_numbers (Some flush) = (flush + 1) ∷ []
flush_numbers None = 0 ∷ []

abbrev pub place_numbers : Place → List ℕ
place_numbers (Timer due cpu) = 0 ∷ due ∷ cpu ∷ []
place_numbers (Inactive pool) = 1 ∷ pool ∷ []
place_numbers (Listed pool) = 2 ∷ pool ∷ []
place_numbers (Deferred pool) = 3 ∷ pool ∷ []

abbrev pub mode_numbers : Mode → List ℕ
mode_numbers Runnable = 0 ∷ []
mode_numbers (Asleep until) = 1 ∷ until ∷ []

abbrev pub pending_numbers : WorkId × Pending → List ℕ
pending_numbers (work, p) = work.0 ∷ p.born ∷ p.stamp ∷ place_numbers p.place

-- how long it has still to burn, and whether it sleeps
abbrev pub burn_numbers : ℕ × Mode → List ℕ
burn_numbers (left, mode) = left ∷ mode_numbers mode

-- where it runs
abbrev pub run_numbers : Running → List ℕ
run_numbers r = r.pool ∷ r.worker ∷ r.pc ∷ burn_numbers (r.left, r.mode)

abbrev pub running_numbers : WorkId × Running → List ℕ
running_numbers (work, r) = work.0 ∷ r.born ∷ r.stamp ∷ run_numbers r

abbrev pub idle_numbers : IdleWorker → List ℕ
idle_numbers worker = worker.pool ∷ worker.worker ∷ worker.stamp ∷ []

abbrev pub target_numbers : FlushTarget → List ℕ
target_numbers (Instance work born) = 0 ∷ work.0 ∷ born ∷ []
target_numbers (Queue queue bound) = 1 ∷ queue.0 ∷ bound ∷ []
target_numbers Nothing = 2 ∷ []

-- how many they are, and then each
abbrev pub listed : {A : Type 0} → (A → List ℕ) → List A → List ℕ
listed numbers xs = length xs ∷ flat_map numbers xs

-- Whole states.

unfoldable pub list_bytes : {A : Type 0} → (A → List ℕ) → List A → List ℕ
list_bytes numbers xs = packed (listed numbers xs)

-- what is set for the whole machine
abbrev pub sign_numbers : ViewContents → List ℕ
sign_numbers v = (if v.frozen then 1 else 0) ∷ (if v.pressed then 1 else 0) ∷ []

-- how far it has come
unfoldable pub clock_bytes : ViewContents → List ℕ
clock_bytes v = packed (v.time ∷ v.next ∷ v.spent ∷ sign_numbers v)

-- what holds for the whole machine
unfoldable pub machine_bytes : ViewContents → List ℕ
machine_bytes v = clock_bytes v ++ (list_bytes one_number v.max ++ (list_bytes one_number v.made ++ list_bytes target_numbers v.flushes))

-- what holds for its works and workers
unfoldable pub work_bytes : ViewContents → List ℕ
work_bytes v =
    list_bytes pending_numbers v.pending ++ (list_bytes running_numbers v.running ++ (list_bytes one_number v.depth ++ list_bytes idle_numbers v.idle))

-- and where its actors stand
unfoldable pub state_bytes : ViewContents → List ℕ → List (Option ℕ) → List ℕ
state_bytes v at waits = machine_bytes v ++ (work_bytes v ++ (list_bytes one_number at ++ list_bytes flush_numbers waits))
