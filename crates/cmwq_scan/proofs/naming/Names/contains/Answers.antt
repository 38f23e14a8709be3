use Rattle.std.proofs.Common.{◌∙◌, ap}
use Rattle.std.specs.List.{list_any}
use Rattle.std.specs.Str.{bytes_eq}
use Rattle.cmwq_scan.proofs.NameLemmas.{list_any-keys}
use Rattle.cmwq_scan.proofs.naming.Names.contains.Goals as goal

pub returns : goal.returns
returns c =
    c.contains.ensures
    ∙ list_any-keys (λ key. key.bytes.now) c.bytes.result.now c.self.inside.names.keys
    ∙ ap (λ names. list_any (λ other. bytes_eq other c.bytes.result.now) names) c.self.view_is
    ∙ ap (λ name. list_any (λ other. bytes_eq other name) c.args.self.now) c.bytes.ensures.same
