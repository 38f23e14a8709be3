-- What a tally answers at most, and what it asks of a change.
use Rattle.std.proofs.Common.{◌≡◌, ℕ, ◌<◌, ◌≤◌, List, length, Option, Some, None, IfSome, arith, subst}
use Rattle.cmwq_types.specs.Contents.{ScenarioContents}
use Rattle.cmwq_phased.specs.declared.run.Run.{Run}
use Rattle.cmwq_phased.specs.PhasedContents.{PhasedContents}
use Rattle.cmwq_tally.specs.TallyContents.{IsTallied, count_of}
use Rattle.cmwq_tally.proofs.TallyLemmas.{each_is_counted, few_are_counted}

-- no class has more works than the scenario
pub few_counted : (S : ScenarioContents) (runs : List (Option Run)) (counts : List ℕ) (class : ℕ → Option ℕ) (i : ℕ) (seen : PhasedContents) → IsTallied counts class (length S.works) → record { scenario = S; runs = runs } ≡ seen
    → count_of counts i ≤ length seen.scenario.works
few_counted S runs counts class i seen right is = subst (λ (m : PhasedContents). count_of counts i ≤ length m.scenario.works) is (few_are_counted counts class (length S.works) i right)

-- a work that leaves a class is counted there
pub class_counted : (counts : List ℕ) (class : ℕ → Option ℕ) (works w : ℕ) (from : Option ℕ) → IsTallied counts class works → w < works → class w ≡ from → IfSome from (λ i. i < length counts → 0 < count_of counts i)
class_counted counts class works w None right inside is = tt
class_counted counts class works w (Some i) right inside is = each_is_counted counts class works w i right inside is

-- there is room for a work more
pub class_room : (counts : List ℕ) (class : ℕ → Option ℕ) (works : ℕ) (to : Option ℕ) → IsTallied counts class works → works ≤ 256 → IfSome to (λ i. count_of counts i < 65535)
class_room counts class works None right few = tt
class_room counts class works (Some i) right few = (let most : count_of counts i ≤ works = few_are_counted counts class works i right in omega arith)
