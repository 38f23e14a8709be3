use Rattle.std.proofs.Common.{◌≡◌, ◌<◌, ◌≤◌, ◌++◌, ℕ, List, arith, ap, drop, length, rules, subst, sym, take, ◌∙◌}
use Rattle.std.proofs.Math.Seq.{take-append_seam}
use Rattle.cmwq_slices.specs.Slices.{AreDone, ended_from, phases_from}
use Rattle.cmwq_slices.specs.declared.phases.WorkPhases.{WorkPhases}
use Rattle.cmwq_slices.proofs.DoingLemmas.{is-tick, passed-ended, passed-phases}
use Rattle.cmwq_slices.proofs.PassLemmas.{phases-length}
use Rattle.cmwq_slices.proofs.SteadyLemmas.{pass-done, steady-ended, steady-phases, tick-done}
use Rattle.cmwq_slices.proofs.phases.Phases.follow.Goals as goal

pub returns-then-is_steady-clause-ended : goal.returns-then-is_steady-clause-ended
returns-then-is_steady-clause-ended g c = λ s follows.
    let S = g.R.Reads.loaded c.args.machine.now in
    let t = g.R.Reads.state c.args.machine.now in
    let later : s.time < t.time = omega (arith, c.if-time.false, c.time.ensures, follows.at) in
    c.new-ended.ensures.items ∙ steady-ended S s t.time c.args.self.now later (follows.steady c.if-is_steady.true)

pub returns-then-is_steady-clause-phases : goal.returns-then-is_steady-clause-phases
returns-then-is_steady-clause-phases g c = λ s follows.
    let S = g.R.Reads.loaded c.args.machine.now in
    let t = g.R.Reads.state c.args.machine.now in
    let later : s.time < t.time = omega (arith, c.if-time.false, c.time.ensures, follows.at) in
    steady-phases S s t.time c.args.self.now later (follows.steady c.if-is_steady.true)

pub returns-then-is_steady-clause-done : goal.returns-then-is_steady-clause-done
returns-then-is_steady-clause-done g c = λ s follows later.
    let S = g.R.Reads.loaded c.args.machine.now in
    let t = g.R.Reads.state c.args.machine.now in
    let all = c.args.self.now in
    let few : length all ≤ length S.works = omega (arith, c.requires) in
    tick-done S s t (is-tick S s t c.scenario.ensures.setting follows.leads later) 0 all (omega (arith, few)) (follows.steady c.if-is_steady.true)

pub returns-clause-ended : goal.returns-clause-ended
returns-clause-ended g c = λ s follows.
    let S = g.R.Reads.loaded c.args.machine.now in
    let t = g.R.Reads.state c.args.machine.now in
    let all = c.args.self.now in
    let few : length all ≤ length S.works = omega (arith, c.requires) in
    let later : s.time < t.time = omega (arith, c.if-time.false, c.time.ensures, follows.at) in
    let ended : c.pass.new.ended.items ≡ ended_from c.args.time S t 0 all = search rules in
    ended ∙ ap (λ (n : ℕ). ended_from n S t 0 all) follows.at ∙ passed-ended S s t c.scenario.ensures.setting follows.leads all few later

pub returns-clause-phases : goal.returns-clause-phases
returns-clause-phases g c = λ s follows.
    let S = g.R.Reads.loaded c.args.machine.now in
    let t = g.R.Reads.state c.args.machine.now in
    let all = c.args.self.now in
    let few : length all ≤ length S.works = omega (arith, c.requires) in
    let later : s.time < t.time = omega (arith, c.if-time.false, c.time.ensures, follows.at) in
    let passed : c.pass.new.all ≡ phases_from c.args.time S t 0 all = search rules in
    let count : c.self.inside.0.len ≡ length all = search rules in
    let long : c.self.inside.0.len ≡ length c.pass.new.all = count ∙ sym (ap length passed ∙ phases-length c.args.time S t 0 all) in
    let rest = drop (length c.pass.new.all) c.self.inside.0.items in
    let back = ap (λ (n : ℕ). take n (c.pass.new.all ++ rest)) long ∙ take-append_seam c.pass.new.all rest in
    back ∙ passed ∙ ap (λ (n : ℕ). phases_from n S t 0 all) follows.at ∙ passed-phases S s t c.scenario.ensures.setting follows.leads all few later

pub returns-clause-done : goal.returns-clause-done
returns-clause-done g c = λ s follows later.
    let S = g.R.Reads.loaded c.args.machine.now in
    let t = g.R.Reads.state c.args.machine.now in
    let all = c.args.self.now in
    let passed : c.pass.new.all ≡ phases_from c.args.time S t 0 all = search rules in
    let count : c.self.inside.0.len ≡ length all = search rules in
    let long : c.self.inside.0.len ≡ length c.pass.new.all = count ∙ sym (ap length passed ∙ phases-length c.args.time S t 0 all) in
    let rest = drop (length c.pass.new.all) c.self.inside.0.items in
    let back = ap (λ (n : ℕ). take n (c.pass.new.all ++ rest)) long ∙ take-append_seam c.pass.new.all rest in
    subst (λ (phases : List WorkPhases). AreDone S t 0 phases) (sym (back ∙ passed)) (pass-done c.args.time S t 0 all)
