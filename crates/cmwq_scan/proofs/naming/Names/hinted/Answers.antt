use Rattle.std.proofs.Common.{◌∙◌, ap, sym, position}
use Rattle.std.specs.Str.{bytes_eq}
use Rattle.cmwq_scan.proofs.NameLemmas.{name_at, position_at}
use Rattle.cmwq_scan.proofs.naming.Names.hinted.Goals as goal

pub returns-then-is_same-clause-number : goal.returns-then-is_same-clause-number
returns-then-is_same-clause-number c =
    ap (λ names. position (λ other. bytes_eq other c.args.bytes.now) names) (sym c.self.view_is)
    ∙ position_at (λ key. key.bytes.now) c.args.bytes.now c.self.inside.names.keys c.from-number.result c.in_ok-key.key.now
    c.len.ensures.unique (sym c.in_ok-key.ensures.key) (sym c.is_same.ensures ∙ c.if-is_same.true)

pub returns-then-is_same-clause-name : goal.returns-then-is_same-clause-name
returns-then-is_same-clause-name c =
    name_at (λ key. key.bytes.now) c.args.bytes.now c.self.inside.names.keys c.from-number.result c.in_ok-key.key.now
    c.self.invariant (sym c.in_ok-key.ensures.key) (sym c.is_same.ensures ∙ c.if-is_same.true)
