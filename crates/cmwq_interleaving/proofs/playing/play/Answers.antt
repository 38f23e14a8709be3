use Rattle.std.proofs.Common.{◌∙◌, List, ℕ, OnOk, Result, sym, subst}
use Rattle.cmwq_actors.specs.Interleaving.{Interleaves, scripts_of}
use Rattle.cmwq_streams.specs.declared.error.PlayError.{PlayError}
use Rattle.cmwq_interleaving.specs.Plays.{IsActed, Left}
use Rattle.cmwq_interleaving.proofs.PlayLemmas.{ended_front, ended_full, ended_ok, ended_tickets}
use Rattle.cmwq_interleaving.proofs.playing.play.Goals as goal

pub returns-in_err-put_all-clause-front : goal.returns-in_err-put_all-clause-front
returns-in_err-put_all-clause-front g c =
    let S = c.args.scenario in
    let ending = c.in_ok-ending.ending in
    let acted = subst (λ (text : List ℕ). IsActed S c.args.capacity ending text) (sym c.deref.ensures.value) c.in_ok-ending.ensures in
    λ is. ended_front S c.args.capacity c.deref.result.now (g.W.Write.contents c.args.writer.now) (g.W.Write.contents c.put_all.new.writer) ending acted c.in_err-put_all.ensures.err

pub returns-clause-ok : goal.returns-clause-ok
returns-clause-ok g c =
    let S = c.args.scenario in
    let ending = c.in_ok-ending.ending in
    let acted = subst (λ (text : List ℕ). IsActed S c.args.capacity ending text) (sym c.deref.ensures.value) c.in_ok-ending.ensures in
    subst (λ (r : Result (Unit {0}) PlayError). OnOk r (Left S (λ history. Interleaves (scripts_of S) history) (g.W.Write.contents c.args.writer.now) (g.W.Write.contents c.put_all.new.writer))) (sym c.play_end.ensures)
    (ended_ok S c.args.capacity c.deref.result.now (g.W.Write.contents c.args.writer.now) (g.W.Write.contents c.put_all.new.writer) ending acted c.in_ok-put_all.ensures.ok)

pub returns-clause-full : goal.returns-clause-full
returns-clause-full g c =
    let S = c.args.scenario in
    let ending = c.in_ok-ending.ending in
    let acted = subst (λ (text : List ℕ). IsActed S c.args.capacity ending text) (sym c.deref.ensures.value) c.in_ok-ending.ensures in
    λ is. ended_full S c.args.capacity c.deref.result.now (g.W.Write.contents c.args.writer.now) (g.W.Write.contents c.put_all.new.writer) ending acted c.in_ok-put_all.ensures.ok (sym c.play_end.ensures ∙ is)

pub returns-clause-tickets : goal.returns-clause-tickets
returns-clause-tickets g c =
    let S = c.args.scenario in
    let ending = c.in_ok-ending.ending in
    let acted = subst (λ (text : List ℕ). IsActed S c.args.capacity ending text) (sym c.deref.ensures.value) c.in_ok-ending.ensures in
    λ is. ended_tickets S c.args.capacity c.deref.result.now (g.W.Write.contents c.args.writer.now) (g.W.Write.contents c.put_all.new.writer) ending acted c.in_ok-put_all.ensures.ok (sym c.play_end.ensures ∙ is)
