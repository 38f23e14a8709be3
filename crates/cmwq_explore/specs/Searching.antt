-- What a search has come to: the states that were seen, in order, and of each where it comes from and what was noted of it.
use Rattle.std.specs.Prelude.{◌≡◌, ◌⊎◌, ℕ, suc, ◌+◌, ◌<◌, ◌≤◌, Bool, true, false, List, ◌∷◌, [], ◌++◌, length, Some, is_some, slice_get}
use Rattle.std.specs.Map.{lookup}
use Rattle.cmwq_types.specs.Contents.{ScenarioContents}
use Rattle.cmwq_types.specs.declared.limits.TheConstants.{MAX_LINES}
use Rattle.cmwq_orders.specs.Orders.{Explored, start, taken}
use Rattle.cmwq_orders.specs.Questions.{counts_first, counts_second, fails, is_spent}
use Rattle.cmwq_orders.specs.Sizes.{IsWhole}
use Rattle.cmwq_orders.specs.declared.choice.Before.{Before}
use Rattle.cmwq_orders.specs.declared.choice.Choice.{Choice}
use Rattle.cmwq_orders.specs.declared.question.Question.{Question}
use Rattle.cmwq_explore.specs.Plans.{PlanContents}
use Rattle.cmwq_stored.specs.Stored.{StoredContents, stored_eq, stored_of}
use Rattle.cmwq_explore.specs.declared.expanding.Tried.{Tried}
use Rattle.cmwq_explore.specs.declared.expanding.Tried.TheVariants.{Going, Failing, Full}
use Rattle.cmwq_explore.specs.declared.exploring.Ending.{Ending}
use Rattle.cmwq_explore.specs.declared.exploring.Ending.TheVariants.{Closed, Failed, Deep}
use Rattle.cmwq_explore.specs.declared.seen.Counted.{Counted}
use Rattle.cmwq_explore.specs.declared.seen.Counted.TheVariants.{First, Second, Spent}
use Rattle.cmwq_explore.specs.declared.seen.Mark.{Mark}

abbrev pub Entry : Type 0
Entry = StoredContents × Mark

-- the state is among those that were seen
abbrev pub knows : List Entry → StoredContents → Bool
knows seen k = is_some (lookup (stored_eq k) seen)

-- more of them stand behind
abbrev pub Extends : List Entry → List Entry → Type 0
Extends old new = (more : List Entry) × (new ≡ old ++ more)

module _ (S : ScenarioContents) (before : List Before) (question : Question) where
  -- what is noted of a state is so
  pub record IsMarked (e : Explored) (m : Mark) : Type 0 where
    pub fails : m.fails ≡ fails S before question e
    pub first : m.first ≡ counts_first S question e
    pub second : m.second ≡ counts_second question e
    pub spent : m.spent ≡ is_spent S e

module _ (S : ScenarioContents) (before : List Before) where
  -- the choice leads from the state that is kept so to the one that is kept so
  abbrev pub Leads : StoredContents → Choice → StoredContents → Type 0
  Leads j c k = (e : Explored) → IsWhole S e → stored_of e ≡ j → (f : Explored) × (taken S before e c ≡ Some f) × (stored_of f ≡ k)

  -- an entry behind the first: its choice leads to it from an earlier one, which lies one less deep
  pub record Came (seen : List Entry) (i : ℕ) (x : Entry) : Type 0 where
    pub origin : Entry
    pub there : slice_get seen x.1.from ≡ Some origin
    pub earlier : x.1.from ≤ i
    pub deeper : x.1.depth ≡ origin.1.depth + 1
    pub leads : Leads origin.0 x.1.choice x.0

-- The first is the start; each later one came from an earlier one; what is noted is so; depths never fall; and no state stands twice.
pub record IsGrown (S : ScenarioContents) (before : List Before) (question : Question) (seen : List Entry) : Type 0 where
  pub first : Entry
  pub begins : slice_get seen 0 ≡ Some first
  pub start : first.0 ≡ stored_of (start S)
  pub level : first.1.depth ≡ 0
  pub came : (i : ℕ) (x : Entry) → slice_get seen (suc i) ≡ Some x → Came S before seen i x
  pub marked : (i : ℕ) (x : Entry) (e : Explored) → slice_get seen i ≡ Some x → IsWhole S e → stored_of e ≡ x.0 → IsMarked S before question e x.1
  pub rises : (i j : ℕ) (x y : Entry) → i ≤ j → slice_get seen i ≡ Some x → slice_get seen j ≡ Some y → x.1.depth ≤ y.1.depth
  pub apart : (i j : ℕ) (x y : Entry) → slice_get seen i ≡ Some x → slice_get seen j ≡ Some y → x.0 ≡ y.0 → i ≡ j

-- the state was seen, and lies at most one deeper than this
abbrev pub LeadsInto : List Entry → ℕ → Explored → Type 0
LeadsInto seen depth f = (i : ℕ) × (x : Entry) × (slice_get seen i ≡ Some x) × (x.0 ≡ stored_of f) × (x.1.depth ≤ depth + 1)

-- what the choice leads to was seen
abbrev pub HasNext : ScenarioContents → List Before → List Entry → Explored → ℕ → Choice → Type 0
HasNext S before seen e depth c = (f : Explored) → taken S before e c ≡ Some f → LeadsInto seen depth f

-- what each choice of the first states leads to was seen
abbrev pub IsClosedTo : ScenarioContents → List Before → List Entry → ℕ → Type 0
IsClosedTo S before seen handled =
    (i : ℕ) (x : Entry) (e : Explored) → i < handled → slice_get seen i ≡ Some x → IsWhole S e → stored_of e ≡ x.0
    → (c : Choice) → HasNext S before seen e x.1.depth c

-- The first states, out of which no choice leads, are all that lie less deep than this.
abbrev pub IsLevel : ScenarioContents → List Before → List Entry → ℕ → Type 0
IsLevel S before seen depth =
    (handled : ℕ) × IsClosedTo S before seen handled × ((i : ℕ) (x : Entry) → slice_get seen i ≡ Some x → x.1.depth < depth → i < handled)

-- none lies deeper than one below
abbrev pub IsTop : List Entry → ℕ → Type 0
IsTop seen depth = (i : ℕ) (x : Entry) → slice_get seen i ≡ Some x → x.1.depth ≤ depth + 1

-- none of them is of the kind that is asked for
abbrev pub AreClean : List Entry → Type 0
AreClean seen = (i : ℕ) (x : Entry) → slice_get seen i ≡ Some x → x.1.fails ≡ false

-- The search stands before this state: it is one of those that were seen, none lies deeper than one below it, and none is of the
-- kind that is asked for.
pub record IsReady (S : ScenarioContents) (before : List Before) (question : Question) (seen : List Entry) (e : Explored) (from depth : ℕ) : Type 0 where
  pub grown : IsGrown S before question seen
  pub top : IsTop seen depth
  pub clean : AreClean seen
  pub whole : IsWhole S e
  pub mark : Mark
  pub there : slice_get seen from ≡ Some (stored_of e, mark)
  pub deep : mark.depth ≡ depth

-- Behind those that were seen before there are clean ones, and then a last one that is of the kind and lies one below this.
pub record IsFailing (S : ScenarioContents) (before : List Before) (question : Question) (old new : List Entry) (depth : ℕ) : Type 0 where
  pub earlier : List Entry
  pub last : Entry
  pub extends : Extends old earlier
  pub whole : new ≡ earlier ++ last ∷ []
  pub fails : last.1.fails ≡ true
  pub deep : last.1.depth ≡ depth + 1
  pub grown : IsGrown S before question new
  pub clean : AreClean earlier

-- The search goes on, and knows this besides; or it came to a state of the kind; or there was no room.
abbrev pub Progress : PlanContents → Question → List Entry → List Entry → Explored → ℕ → ℕ → Type 0 → Tried → Type 0
Progress plan question old new e from depth Known Going =
    Extends old new × IsReady plan.scenario plan.before question new e from depth × Known
Progress plan question old new e from depth Known Failing = IsFailing plan.scenario plan.before question old new depth
Progress plan question old new e from depth Known Full =
    Extends old new × IsReady plan.scenario plan.before question new e from depth

-- There are as many states as may be, or a scenario has no line for one choice more.
abbrev pub IsFull : ℕ → List Entry → ℕ → Type 0
IsFull limit seen depth = (limit ≤ length seen) ⊎ (MAX_LINES ≤ depth)

-- What a search comes to: no choice leads out of what was seen; or the last is of the kind; or so deep it went.
abbrev pub Comes : PlanContents → Question → List Entry → Ending → Type 0
Comes plan question seen Closed =
    IsGrown plan.scenario plan.before question seen × AreClean seen × IsClosedTo plan.scenario plan.before seen (length seen)
Comes plan question seen Failed =
    (old : List Entry) × (depth : ℕ) × IsFailing plan.scenario plan.before question old seen depth
    × IsGrown plan.scenario plan.before question old × IsLevel plan.scenario plan.before old depth
Comes plan question seen (Deep depth) =
    IsGrown plan.scenario plan.before question seen × AreClean seen × IsLevel plan.scenario plan.before seen depth

-- The start alone was seen, and it is of the kind or not.
pub record Begins (plan : PlanContents) (question : Question) (seen : List Entry) (is_of_kind : Bool) : Type 0 where
  pub mark : Mark
  pub whole : seen ≡ (stored_of (start plan.scenario), mark) ∷ []
  pub marked : IsMarked plan.scenario plan.before question (start plan.scenario) mark
  pub level : mark.depth ≡ 0
  pub fails : mark.fails ≡ is_of_kind

-- The search has come to this place, which lies so deep.
pub record IsAhead (plan : PlanContents) (question : Question) (seen : List Entry) (place depth : ℕ) : Type 0 where
  pub grown : IsGrown plan.scenario plan.before question seen
  pub clean : AreClean seen
  pub closed : IsClosedTo plan.scenario plan.before seen place
  pub top : IsTop seen depth
  pub entry : Entry
  pub there : slice_get seen place ≡ Some entry
  pub deep : entry.1.depth ≡ depth

-- What handling the state at this place comes to.
abbrev pub Handles : PlanContents → Question → List Entry → List Entry → ℕ → ℕ → Tried → Type 0
Handles plan question old new place depth Going =
    IsGrown plan.scenario plan.before question new × AreClean new × IsClosedTo plan.scenario plan.before new (place + 1)
    × ((x : Entry) → slice_get new (place + 1) ≡ Some x → IsTop new x.1.depth) × (length old ≤ length new)
Handles plan question old new place depth Failing =
    IsFailing plan.scenario plan.before question old new depth
    × IsGrown plan.scenario plan.before question old × IsLevel plan.scenario plan.before old depth
Handles plan question old new place depth Full =
    IsGrown plan.scenario plan.before question new × AreClean new × IsLevel plan.scenario plan.before new depth

-- what is counted of the marks
abbrev pub is_counted : Counted → Mark → Bool
is_counted First m = m.first
is_counted Second m = m.second
is_counted Spent m = m.spent
