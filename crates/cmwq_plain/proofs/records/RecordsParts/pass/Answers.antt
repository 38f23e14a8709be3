use Rattle.std.proofs.Common.{◌≡◌, ℕ, ◌+◌, true, sym, ap, ◌∙◌}
use Rattle.cmwq_table.specs.Ready.{Loaded, holding}
use Rattle.cmwq_plain.specs.Rest.{is_at_rest}
use Rattle.cmwq_plain.proofs.RestLemmas.{rest-settled, rest-ticks}
use Rattle.cmwq_plain.proofs.records.RecordsParts.pass.Goals as goal

pub returns-then-is_at_rest-clause-settled : goal.returns-then-is_at_rest-clause-settled
returns-then-is_at_rest-clause-settled c =
    let rests : is_at_rest c.args.self.now.state ≡ true = sym c.is_at_rest.ensures ∙ c.if-is_at_rest.true in
    rest-settled c.args.self.now.scenario c.args.self.now.state c.args.most rests

pub returns-then-is_at_rest-clause-passed : goal.returns-then-is_at_rest-clause-passed
returns-then-is_at_rest-clause-passed c =
    let rests : is_at_rest c.args.self.now.state ≡ true = sym c.is_at_rest.ensures ∙ c.if-is_at_rest.true in
    let later : Loaded → ℕ → Loaded = λ m count. holding m.scenario (record m.state { time = m.state.time + count }) in
    ap (later (holding c.self.inside.scenario.value (record {
      time = c.self.inside.time;
      next = c.self.inside.next;
      spent = c.self.inside.spent;
      frozen = c.self.inside.frozen;
      pressed = c.self.inside.pressed;
      max = c.self.inside.max.items;
      pending = c.self.inside.pending.items;
      running = c.self.inside.running.items;
      depth = c.self.inside.depth.items;
      idle = c.self.inside.idle.items;
      made = c.self.inside.made.items;
      flushes = c.self.inside.flushes.items;
    }))) c.from.ensures
    ∙ ap (λ (m : Loaded). later m c.args.most) c.self.view_is
    ∙ ap (holding c.args.self.now.scenario) (sym (rest-ticks c.args.self.now.scenario c.args.most c.args.self.now.state rests))
