use Rattle.std.proofs.Common.{◌≡◌, true, sym, ap, ◌∙◌}
use Rattle.std.specs.Prelude.{is_some}
use Rattle.cmwq_plain.specs.Rest.{is_at_rest}
use Rattle.cmwq_plain.proofs.RestLemmas.{move-none}
use Rattle.cmwq_plain.proofs.records.RecordsParts.may_move.Goals as goal

pub returns-then-is_at_rest-clause-covered : goal.returns-then-is_at_rest-clause-covered
returns-then-is_at_rest-clause-covered c = λ pool below moves.
    let rests : is_at_rest c.args.self.now.state ≡ true = sym c.is_at_rest.ensures ∙ c.if-is_at_rest.true in
    absurd (let none = ap is_some (move-none c.args.self.now.scenario c.args.self.now.state rests pool) in cc)
