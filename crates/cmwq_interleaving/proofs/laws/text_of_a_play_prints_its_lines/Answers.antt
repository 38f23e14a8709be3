use Rattle.std.proofs.Common.{◌≡◌, ℕ, List, arith, refl, sym, ap, ◌∙◌, length}
use Rattle.std.proofs.lemmas.List.{length-map}
use Rattle.cmwq_types.specs.declared.instr.Instr.{Instr}
use Rattle.cmwq_table.specs.Events.{events}
use Rattle.cmwq_engine.specs.History.{instrs_of}
use Rattle.cmwq_engine.specs.declared.history.Entry.{Entry}
use Rattle.cmwq_interleaving.specs.Played.{played, player}
use Rattle.cmwq_interleaving.proofs.laws.text_of_a_play_prints_its_lines.Goals as goal

pub returns : goal.returns
returns c = λ S history text left few.
    let instrs = instrs_of history in
    let T = played S instrs in
    let long : length instrs ≡ length history = length-map history (λ (e : Entry). e.instr) in
    let given = ap length left.gives in (
      T,
      record { valid = left.spells.is_text.valid; spelled = left.spells },
      (player instrs, record { alone = refl; few = omega arith }, sym (ap (λ (is : List Instr). events T is) left.gives)),
    )
