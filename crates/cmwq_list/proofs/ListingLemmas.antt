-- A listing spells its scenario.
use Rattle.std.proofs.Common.{◌≡◌, ◌<◌, ◌^◌, List, ℕ, Result, Ok, Err, IfOk, OnOk, subst, sym}
use Rattle.std.proofs.lemmas.List.Elements.{recursion_from_All}
use Rattle.std.specs.List.{All, AllByRecursion}
use Rattle.std.specs.Prelude.{IsTrue}
use Rattle.cmwq_types.specs.Contents.{ScenarioContents, WorkContents}
use Rattle.cmwq_types.specs.Faults.{IsValid}
use Rattle.cmwq_types.specs.Listing.{listing}
use Rattle.cmwq_types.specs.Name.{is_name}
use Rattle.cmwq_types.specs.Values.{IsOp, IsScenario, IsWorkDecl}
use Rattle.cmwq_grammar.specs.Grammar.{Spells}

pub listed_spells : {A E : Type 0} (items : A → List ℕ) (r : Result A E) (S : ScenarioContents)
    → ((T : ScenarioContents) → IsValid T → IsScenario T → Spells (listing T) T)
    → IfOk r (λ text. items text ≡ listing S) → OnOk r (IsScenario S) → IfOk r (λ text. IsValid S → Spells (items text) S)
listed_spells items (Ok text) S law is contents = λ valid. subst (λ (bytes : List ℕ). Spells bytes S) (sym is) (law S valid contents)
listed_spells items (Err error) S law is contents = tt

-- the works, whose names, queues and bodies are listed by three walks
pub works_are : (works : List WorkContents) → All (λ work. IsTrue (is_name work.name)) works → All (λ work. work.queue.0 < 2 ^ 8) works
    → All (λ work. AllByRecursion IsOp work.body) works → AllByRecursion IsWorkDecl works
works_are works names queues bodies = recursion_from_All IsWorkDecl works (λ k d less. record { name = names k d less; queue = queues k d less; body = bodies k d less })
