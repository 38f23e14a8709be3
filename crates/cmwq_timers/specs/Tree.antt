-- How timers are ranked, and the tree of their ranks. No public clause cites this module.
use Rattle.std.specs.Prelude.{◌≡◌, ◌≢◌, ℕ, ◌+◌, ◌-◌, ◌*◌, ◌/◌, ◌^◌, ◌<◌, ◌≤◌, List, length, Option, Some, None, IfSome, min, slice_index_or}
use Rattle.cmwq_timers.specs.declared.timer.Timer.{Timer}
use Rattle.cmwq_timers.specs.Timers.{timer_at}

-- the first of the stamps that have one rank
abbrev pub last_stamp : ℕ
last_stamp = 2 ^ 48 - 1

-- by due, then by stamp, then by work; that of no timer is greater than all others
abbrev pub rank_of : Option Timer → ℕ
rank_of None = 2 ^ 128 - 1
rank_of (Some timer) = timer.due * 2 ^ 64 + (min timer.stamp last_stamp * 2 ^ 16 + timer.work.0)

-- a timer of this work, in range
pub record IsOwn (work : ℕ) (timer : Timer) : Type 0 where
  pub work_is : timer.work.0 ≡ work
  pub due : timer.due < 2 ^ 64
  pub stamp : timer.stamp < 2 ^ 64

-- The tree: node 1 is the root, below node i are nodes 2 i and 2 i + 1, and the leaves stand behind the inner nodes, in the order of works.

abbrev pub rank_at : List ℕ → ℕ → ℕ
rank_at ranks node = slice_index_or ranks node 0

-- the node that stands beside one, below the same node
abbrev pub node_beside : ℕ → ℕ
node_beside node = 4 * (node / 2) + 1 - node

-- the node has the lesser of the two ranks below it
abbrev pub HasLesser : List ℕ → ℕ → Type 0
HasLesser ranks node = rank_at ranks node ≡ min (rank_at ranks (2 * node)) (rank_at ranks (2 * node + 1))

-- each inner node has, but this one may not
abbrev pub IsTreeBut : List ℕ → ℕ → Type 0
IsTreeBut ranks node = (i : ℕ) → 0 < i → 2 * i < length ranks → i ≢ node → HasLesser ranks i

-- each inner node has
abbrev pub IsTree : List ℕ → Type 0
IsTree ranks = (i : ℕ) → 0 < i → 2 * i < length ranks → HasLesser ranks i

-- a leaf: the nodes are even in number, counted from 0, and the leaves are the second half
pub record IsLeaf (ranks : List ℕ) (leaf : ℕ) : Type 0 where
  pub even : length ranks ≡ 2 * (length ranks / 2)
  pub above : length ranks ≤ 2 * leaf
  pub inside : leaf < length ranks

-- of the leaves one has this rank, and the others have those that they had
pub record HasGiven (was ranks : List ℕ) (leaf rank : ℕ) : Type 0 where
  pub long : length ranks ≡ length was
  pub here : rank_at ranks leaf ≡ rank
  pub others : (l : ℕ) → length was ≤ 2 * l → l ≢ leaf → rank_at ranks l ≡ rank_at was l

-- each work has its own timer or none, its leaf has the rank of that, and above the leaves is the tree
pub record IsKept (timers : List (Option Timer)) (ranks : List ℕ) : Type 0 where
  pub few : length timers < 2 ^ 16
  pub long : length ranks ≡ 2 * length timers
  pub own : (w : ℕ) → w < length timers → IfSome (timer_at timers w) (IsOwn w)
  pub leaves : (w : ℕ) → w < length timers → rank_at ranks (length timers + w) ≡ rank_of (timer_at timers w)
  pub tree : IsTree ranks
