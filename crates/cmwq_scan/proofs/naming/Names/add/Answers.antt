use Rattle.std.proofs.Common.{◌∙◌, ap, ◌++◌, ◌∷◌, [], refl}
use Rattle.std.specs.Prelude.{map}
use Rattle.std.specs.List.{list_any}
use Rattle.std.specs.Str.{bytes_eq}
use Rattle.cmwq_scan.proofs.NameLemmas.{added}
use Rattle.cmwq_scan.proofs.naming.Names.add.Goals as goal

pub returns : goal.returns
returns c =
    ap (λ keys. map (λ key. key.bytes.now) keys) c.in_ok-insert.ensures.keys
    ∙ added (λ key. key.bytes.now) c.bytes-bytes.result.now c.self.inside.names.keys (record { bytes = c.bytes-bytes.result }) refl
    (ap (λ names. list_any (λ other. bytes_eq other c.bytes-bytes.result.now) names) c.self.view_is ∙ ap (λ name. list_any (λ other. bytes_eq other name) c.args.self.now) c.bytes-bytes.ensures.same ∙ c.requires)
    ∙ ap (λ names. names ++ c.bytes-bytes.result.now ∷ []) c.self.view_is
    ∙ ap (λ name. c.args.self.now ++ name ∷ []) c.bytes-bytes.ensures.same
