-- What a search answers.
use Rattle.std.specs.Prelude.{◌≡◌, ◌⊎◌, ℕ, ◌<◌, ◌≤◌, true, false, List, length, Some, count_by, slice_get}
use Rattle.cmwq_types.specs.Contents.{ScenarioContents}
use Rattle.cmwq_types.specs.declared.limits.TheConstants.{MAX_LINES}
use Rattle.cmwq_orders.specs.Orders.{Explored, reached}
use Rattle.cmwq_orders.specs.Questions.{counts_first, counts_second, fails, is_spent}
use Rattle.cmwq_orders.specs.declared.choice.Before.{Before}
use Rattle.cmwq_orders.specs.declared.choice.Choice.{Choice}
use Rattle.cmwq_orders.specs.declared.question.Question.{Question}
use Rattle.cmwq_explore.specs.Searching.{Entry}
use Rattle.cmwq_explore.specs.declared.exploring.Answer.{Answer}
use Rattle.cmwq_explore.specs.declared.exploring.Answer.TheVariants.{Found, Whole, GaveUp}
use Rattle.cmwq_explore.specs.declared.exploring.Tally.{Tally}

-- so many were seen, and of so many was noted what is counted
pub record IsCounted (seen : List Entry) (tally : Tally) : Type 0 where
  pub states : tally.states ≡ length seen
  pub first : tally.first ≡ count_by (λ (x : Entry). x.1.first) seen
  pub second : tally.second ≡ count_by (λ (x : Entry). x.1.second) seen
  pub spent : tally.spent ≡ count_by (λ (x : Entry). x.1.spent) seen

module _ (S : ScenarioContents) (before : List Before) (question : Question) where
  -- no order of at most so many instructions comes to a state of the kind
  abbrev pub HoldsTo : ℕ → Type 0
  HoldsTo depth = (cs : List Choice) (e : Explored) → length cs ≤ depth → reached S before cs ≡ Some e → fails S before question e ≡ false

  -- no order at all does
  abbrev pub Holds : Type 0
  Holds = (cs : List Choice) (e : Explored) → reached S before cs ≡ Some e → fails S before question e ≡ false

  -- this order does, and no shorter one
  pub record IsFound (cs : List Choice) : Type 0 where
    pub state : Explored
    pub comes : reached S before cs ≡ Some state
    pub is_of_kind : fails S before question state ≡ true
    pub shortest : (ds : List Choice) (e : Explored) → length ds < length cs → reached S before ds ≡ Some e → fails S before question e ≡ false

  -- these are the states to which orders come, each once
  pub record AreReached (states : List Explored) : Type 0 where
    pub by_orders : (i : ℕ) (e : Explored) → slice_get states i ≡ Some e → (cs : List Choice) × (reached S before cs ≡ Some e)
    pub all : (cs : List Choice) (e : Explored) → reached S before cs ≡ Some e → (i : ℕ) × (slice_get states i ≡ Some e)
    pub once : (i j : ℕ) (e : Explored) → slice_get states i ≡ Some e → slice_get states j ≡ Some e → i ≡ j

  -- so many states there are, and of so many holds what is counted
  pub record IsTally (tally : Tally) : Type 0 where
    pub states : List Explored
    pub are_all : AreReached states
    pub count : tally.states ≡ length states
    pub first : tally.first ≡ count_by (counts_first S question) states
    pub second : tally.second ≡ count_by (counts_second question) states
    pub spent : tally.spent ≡ count_by (is_spent S) states

  -- what an answer says
  abbrev pub IsAnswer : ℕ → Answer → Type 0
  IsAnswer limit (Found cs) = IsFound cs.items
  IsAnswer limit (Whole tally) = Holds × IsTally tally
  IsAnswer limit (GaveUp states depth) = HoldsTo depth × ((limit ≤ states) ⊎ (MAX_LINES ≤ depth))

-- an actor may have as many lines as the order has choices
abbrev pub IsShort : Answer → Type 0
IsShort (Found cs) = length cs.items ≤ MAX_LINES
IsShort (Whole tally) = Unit {0}
IsShort (GaveUp states depth) = Unit {0}

-- what is answered of an order that was found: that, or that none of so many choices was
abbrev pub IsFoundWithin : List Choice → Answer → Type 0
IsFoundWithin cs (Found ds) = (ds.items ≡ cs) × (length cs ≤ MAX_LINES)
IsFoundWithin cs (Whole tally) = ⊥
IsFoundWithin cs (GaveUp states depth) = (depth ≡ MAX_LINES) × (MAX_LINES < length cs)
