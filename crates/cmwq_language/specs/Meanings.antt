-- What flags mean, and what an instruction's word takes and does, in a person's words.
use Rattle.std.specs.Prelude.{ℕ, List, [], ◌∷◌, codes}
use Rattle.cmwq_types.specs.declared.fields.Shape.{Shape}
use Rattle.cmwq_types.specs.declared.fields.Shape.TheVariants as shape
use Rattle.cmwq_types.specs.declared.mnemonic.Mnemonic.{Mnemonic}
use Rattle.cmwq_types.specs.declared.mnemonic.Mnemonic.TheVariants as word
use Rattle.cmwq_language.specs.declared.meanings.QueueFlag.{QueueFlag}
use Rattle.cmwq_language.specs.declared.meanings.QueueFlag.TheVariants as flag

abbrev pub operand_names : Shape → List ℕ
operand_names shape.Alone = codes ""
operand_names shape.Ticks = codes " N"
operand_names shape.Work = codes " WORK"
operand_names shape.WorkCpu = codes " WORK CPU"
operand_names shape.WorkTicks = codes " WORK N"
operand_names shape.WorkCpuTicks = codes " WORK CPU N"
operand_names shape.Queue = codes " QUEUE"
operand_names shape.QueueNumber = codes " QUEUE N"
operand_names shape.Pool = codes " POOL"
operand_names shape.Flush = codes " F"
operand_names shape.Time = codes " N"

abbrev pub meaning : Mnemonic → List ℕ
meaning word.Queue = codes ": queues it on a CPU, unless it is pending\n"
meaning word.Delay = codes ": queues it in N ticks, unless it is pending\n"
meaning word.Mod = codes ": as delay, and replaces an earlier request\n"
meaning word.Cancel = codes ": takes it off, if it is pending\n"
meaning word.CancelSync = codes ": as cancel, and gives a flush of the instance that runs\n"
meaning word.Flush = codes ": gives a flush of its queued instance, or else of the running one\n"
meaning word.FlushDelayed = codes ": queues it if it is on a timer, and then does as flush\n"
meaning word.FlushQueue = codes ": gives a flush of all that was queued to it\n"
meaning word.SetMax = codes ": changes its max_active\n"
meaning word.Freeze = codes ": freezable queues activate nothing\n"
meaning word.Thaw = codes ": ends freeze\n"
meaning word.Fire = codes ": the first timer that is due queues its work item\n"
meaning word.Step = codes ": one move of the pool\n"
meaning word.Tick = codes ": a tick passes, if nothing can move\n"
meaning word.Next = codes ": fire, else a move of the least pool that has one, else a tick\n"
meaning word.Ask = codes ": prints whether flush F is done\n"
meaning word.Busy = codes ": prints whether a freezable queue has an active work item\n"
meaning word.State = codes ": prints its state\n"
meaning word.Disable = codes ": takes it off, and refuses to queue it until enabled as often\n"
meaning word.Enable = codes ": takes one disable back\n"
meaning word.Pressure = codes ": memory is short: no worker is made\n"
meaning word.Relief = codes ": ends pressure\n"
meaning word.Until = codes ": next while the time is below N, else nothing\n"
meaning word.Wait = codes ": next while flush F isn't done, else nothing\n"
meaning word.Quiet = codes ": next while a work item is pending or running, else nothing\n"

abbrev pub flag_word : QueueFlag → List ℕ
flag_word flag.Highpri = codes "highpri"
flag_word flag.Unbound = codes "unbound"
flag_word flag.CpuIntensive = codes "cpu_intensive"
flag_word flag.Freezable = codes "freezable"
flag_word flag.Ordered = codes "ordered"
flag_word flag.MemReclaim = codes "mem_reclaim"

abbrev pub flag_meaning : QueueFlag → List ℕ
flag_meaning flag.Highpri = codes ": its work items use high-priority pools, which come first on their CPU\n"
flag_meaning flag.Unbound = codes ": its work items use an unbound pool; each runnable one burns there\n"
flag_meaning flag.CpuIntensive = codes ": its work items don't keep others of their pool from starting\n"
flag_meaning flag.Freezable = codes ": activates nothing from freeze to thaw\n"
flag_meaning flag.Ordered = codes ": unbound, one work item at a time, with max 1\n"
flag_meaning flag.MemReclaim = codes ": has a rescuer, which runs its work items if no worker can\n"

abbrev pub queue_flags : List QueueFlag
queue_flags = flag.Highpri ∷ flag.Unbound ∷ flag.CpuIntensive ∷ flag.Freezable ∷ flag.Ordered ∷ flag.MemReclaim ∷ []
