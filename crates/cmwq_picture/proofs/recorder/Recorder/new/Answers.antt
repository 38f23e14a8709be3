use Rattle.std.proofs.Common.{arith, rules, subst, sym}
use Rattle.cmwq_types.proofs.SettingLemmas.{IsSetting-valid}
use Rattle.cmwq_table.specs.Ready.{HasCounters}
use Rattle.cmwq_table.specs.State.{State}
use Rattle.cmwq_table.proofs.CounterLemmas.{start-counters}
use Rattle.cmwq_picture.proofs.recorder.Recorder.new.Goals as goal

pub invariant_of-result : goal.invariant_of-result
invariant_of-result g c =
    let S = c.args.scenario.now in (
      record {
        setting = IsSetting-valid S c.requires.valid;
        counters = subst (λ (s : State). HasCounters S s) (sym c.requires.start) (start-counters S);
        few = search rules;
        late = λ some. search rules;
      },
      c.requires.loaded,
    )
