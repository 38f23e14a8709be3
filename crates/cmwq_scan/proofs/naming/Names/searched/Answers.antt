use Rattle.std.proofs.Common.{◌∙◌, ap, position, Option, None, Some, refl, sym}
use Rattle.std.specs.Prelude.{IfSome, IsTrue, is_some, true, ◌≡◌}
use Rattle.std.specs.Str.{bytes_eq}
use Rattle.cmwq_types.specs.Name.{is_name}
use Rattle.cmwq_scan.proofs.NameLemmas.{position-keys, key_is_name}
use Rattle.cmwq_scan.proofs.naming.Names.searched.Goals as goal

pub returns-clause-number : goal.returns-clause-number
returns-clause-number c =
    c.get_index_of.ensures.index
    ∙ position-keys (λ key. key.bytes.now) c.args.bytes.now c.self.inside.names.keys
    ∙ ap (λ names. position (λ other. bytes_eq other c.args.bytes.now) names) c.self.view_is

if_there : {A : Type 0} (r : Option A) (P : Type 0) → (is_some r ≡ true → P) → IfSome r (λ _. P)
if_there None P there = tt
if_there (Some x) P there = there refl

-- each key is a name
pub returns-clause-name : goal.returns-clause-name
returns-clause-name c =
    if_there c.get_index_of.result (IsTrue (is_name c.args.bytes.now))
    (λ found. key_is_name (λ key. key.bytes.now) c.args.bytes.now c.self.inside.names.keys c.self.invariant (sym c.get_index_of.ensures.found ∙ found))
