use Rattle.std.proofs.Common.{◌≡◌, rules, List, Global, Option, Some, option_map, subst, sym, Vec, ℕ}
use Rattle.cmwq_command.specs.Advised.{IsTextIn}
use Rattle.cmwq_command.proofs.undone.lines_on_file.Goals as goal

pub returns-in_ok-on_unexplored-in-Some-clause-lines : goal.returns-in_ok-on_unexplored-in-Some-clause-lines
returns-in_ok-on_unexplored-in-Some-clause-lines g c =
    let store = g.F.FileStore.bytes c.args.files.now in
    let text : c.deref.result.now ≡ c.in-Some.text.items = search rules in
    let found : IsTextIn store c.args.file.now (Some c.in-Some.text.items) =
    subst (λ (found : Option (Vec ℕ Global)). IsTextIn store c.args.file.now (option_map (λ bytes. bytes.items) found)) c.in-Some.is c.in_ok-text.ensures.text in (
      Some c.deref.result.now,
      subst (λ (items : List ℕ). IsTextIn store c.args.file.now (Some items)) (sym text) found,
      c.in_ok-on_unexplored-in-Some.ensures,
    )
