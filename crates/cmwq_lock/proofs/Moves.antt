-- A step of one pass keeps the rule, where it keeps what the rule says of that pass and of each other one.
use Rattle.std.proofs.Common.{◌≡◌, ◌≢◌, ℕ, zero, suc, ◌+◌, ◌^◌, ◌<◌, ◌≤◌, List, [], ◌∷◌, set, sym, refl, ap, ◌∙◌, subst, ⊎_elim, arith, Option}
use mathlib.Core.Option.{some, some-injective, some-ne-none}
use lib.ListN.{get_elem?}
use Rattle.atomic_table.specs.Table.{State}
use Rattle.atomic_table.proofs.Lists.{at_set, set_else}
use Rattle.cmwq_lock.specs.declared.kept.Kept.{Ghosts}
use Rattle.cmwq_lock.specs.declared.views.Knowledge.{Knowledge}
use Rattle.cmwq_lock.specs.declared.views.Identity.{Identity}
use Rattle.cmwq_lock.specs.declared.views.Held.{Held}
use Rattle.cmwq_lock.specs.declared.views.Phase.{Phase}
use Rattle.cmwq_lock.specs.declared.views.SeatView.{SeatView}
use Rattle.cmwq_lock.specs.declared.views.SeatView.TheVariants.{Pass}
use Rattle.cmwq_lock.specs.Log.{BeginsWith, calls_of}
use Rattle.cmwq_lock.specs.Rule.{Side, first, second, at_seat, in_record, Standing, Homes, pass_count, passes, caller_at, IsKnown, HasHolder, SlotIs, IsCurrent, PhaseIs, IsPass, ViewIs, IsRuled}
use Rattle.cmwq_lock.proofs.Places.{two_callers, seats_apart, record_apart, stands_changed, view_stays, opener_elsewhere}

module _ {O E : Type 0} where
  -- one view in place of another
  pub passes-set : (vs : List (SeatView O E)) (i : ℕ) (v w : SeatView O E) → get_elem? vs i ≡ some v → passes (set vs i w) + pass_count v ≡ passes vs + pass_count w
  passes-set [] i v w e = absurd (some-ne-none v (sym e))
  passes-set (x ∷ xs) zero v w e = let same : pass_count x ≡ pass_count v = ap (λ (u : SeatView O E). pass_count u) (some-injective x v e) in omega arith
  passes-set (x ∷ xs) (suc i) v w e = let rest = passes-set xs i v w e in omega arith

  -- what changes at a step of a pass
  abbrev pub stood : Standing O E → ℕ → ℕ → List E → (ℕ → ℕ) → Standing O E
  stood at drawn served current holder = record at { drawn = drawn; served = served; current = current; holder = holder }

module _ {T O E : Type 0} (K : Ghosts T O E) (o : O) where
  abbrev St : Type 0
  St = State (Option (Held T)) (SeatView O E)

  -- what the rule says of each other seat's passes stays true
  abbrev pub OthersStay : (at at' : Standing O E) (homes homes' : Homes T) (id : ℕ) → Type 0
  OthersStay at at' homes homes' id = (seat : ℕ) (phase : Phase E) → seat ≢ id → PhaseIs K o at homes seat phase → PhaseIs K o at' homes' seat phase

  -- the log goes on, by entries of this caller alone
  pub record LogGoesOn (caller : ℕ) (log log' : List E) : Type 0 where
    pub begins : (seen : List E) → BeginsWith log seen → BeginsWith log' seen
    pub others : (other : ℕ) (mine : List E) → other ≢ caller → calls_of K.caller other log ≡ mine → calls_of K.caller other log' ≡ mine

  -- it goes on with nothing
  pub log_stays : (caller : ℕ) (log : List E) → LogGoesOn caller log log
  log_stays caller log = record { begins = λ seen begins. begins; others = λ other mine apart own. own }

  known_after : (caller : ℕ) (log log' : List E) (k : Knowledge E) → LogGoesOn caller log log' → k.caller ≢ caller → IsKnown K o log k → IsKnown K o log' k
  known_after caller log log' k goes apart known = record { begins = goes.begins k.seen known.begins; own_calls = goes.others k.caller k.mine apart known.own_calls }

  pass_after : (s : St) (r : IsRuled K o s) (drawn served : ℕ) (current : List E) (holder : ℕ → ℕ) (homes' : Homes T) (id : ℕ) (who : Identity O E) (phase : Phase E)
      → get_elem? s.views id ≡ some (Pass who phase) → LogGoesOn who.knows.caller r.at.current current → OthersStay r.at (stood r.at drawn served current holder) s.homes homes' id
      → (seat : ℕ) → seat ≢ id → (side : Side) (other : Identity O E) (phase' : Phase E) → IsPass K o r.at s.homes seat side other phase' → IsPass K o (stood r.at drawn served current holder) homes' seat side other phase'
  pass_after s r drawn served current holder homes' id who phase here goes others seat apart side other phase' known = record {
    same_origin = known.same_origin;
    was_given = known.was_given;
    stands_there = known.stands_there;
    knows = known_after who.knows.caller r.at.current current other.knows goes
        (two_callers r.at.where_is other.knows.caller who.knows.caller (at_seat side seat) (at_seat first id) known.stands_there (r.each_view id (Pass who phase) here).stands_there (seats_apart side first seat id apart)) known.knows;
    phase_is = others seat phase' apart known.phase_is;
  }

  pass_stands : (who who' : Identity O E) (phase phase' : Phase E) (c : ℕ) → who'.knows.caller ≡ who.knows.caller → (side : Side) → caller_at side (Pass who phase) ≡ some c → caller_at side (Pass who' phase') ≡ some c
  pass_stands who who' phase phase' c same first is = ap some same ∙ is
  pass_stands who who' phase phase' c same second is = is

  pub moved : (s : St) (r : IsRuled K o s) (drawn served : ℕ) (current : List E) (holder : ℕ → ℕ) (id : ℕ) (who who' : Identity O E) (phase phase' : Phase E) (words' : List ℕ) (homes' : Homes T)
      → get_elem? s.views id ≡ some (Pass who phase) → who'.origin ≡ who.origin → who'.knows.caller ≡ who.knows.caller → words' ≡ drawn ∷ served ∷ [] → served ≤ drawn → drawn ≤ 2 ^ 62
      → SlotIs K o (stood r.at drawn served current holder) homes' (set s.views id (Pass who' phase')) → IsCurrent K o served r.at.opener_knows.next current
      → LogGoesOn who.knows.caller r.at.current current → IsKnown K o current who'.knows
      → ((t : ℕ) → served ≤ t → t < drawn → HasHolder K o (stood r.at drawn served current holder) (set s.views id (Pass who' phase')) t)
      → PhaseIs K o (stood r.at drawn served current holder) homes' id phase' → OthersStay r.at (stood r.at drawn served current holder) s.homes homes' id
      → IsRuled K o record { words = words'; homes = homes'; views = set s.views id (Pass who' phase') }
  moved s r drawn served current holder id who who' phase phase' words' homes' here same_origin same_caller words order bound slot log goes knows tickets mine others =
      let at' = stood r.at drawn served current holder in let known = r.each_view id (Pass who phase) here in record {
        at = at';
        words_are = words;
        in_order = order;
        bounded = bound;
        slot_is = slot;
        log_is = log;
        opener_is = set_else s.views id r.at.opener (Pass who' phase') (opener_elsewhere K o s r id (Pass who phase) here refl) ∙ r.opener_is;
        opener_origin = r.opener_origin;
        passes_out = let count = passes-set s.views id (Pass who phase) (Pass who' phase') here in let was = r.passes_out in omega arith;
        opener_seen = goes.begins r.at.opener_knows.seen r.opener_seen;
        each_ticket = tickets;
        each_caller = λ c below. stands_changed K o r.at at' s.views id (Pass who phase) (Pass who' phase') c (λ i k there. there) here (pass_stands who who' phase phase' c same_caller) (r.at.where_is c) (r.each_caller c below);
        each_record = λ i k there. let was = r.each_record i k there in record {
          was_given = was.was_given;
          stands_there = was.stands_there;
          knows = known_after who.knows.caller r.at.current current k goes
              (two_callers r.at.where_is k.caller who.knows.caller (in_record i) (at_seat first id) was.stands_there known.stands_there (record_apart i first id)) was.knows;
        };
        each_view = λ seat v there. ⊎_elim
            (λ (t : (seat ≡ id) × (Pass who' phase' ≡ v)). subst (λ (z : ℕ × SeatView O E). ViewIs K o at' homes' z.0 z.1) (λ i. (sym t.0 i, t.1 i)) (record {
              same_origin = ap (λ x. x.value) same_origin ∙ known.same_origin;
              was_given = subst (λ (c : ℕ). c < r.at.opener_knows.next) (sym same_caller) known.was_given;
              stands_there = ap r.at.where_is same_caller ∙ known.stands_there;
              knows = knows;
              phase_is = mine;
            }))
            (λ (t : (seat ≢ id) × (get_elem? s.views seat ≡ some v)). view_stays K o r.at at' s.homes homes' seat v (λ d was. record { is_seat = was.is_seat; knows_is = was.knows_is })
            (pass_after s r drawn served current holder homes' id who phase here goes others seat t.0) (r.each_view seat v t.1))
            (at_set s.views id seat (Pass who' phase') v there);
      }

  -- the same at a step of a pass that learns nothing of the log
  pub stepped_on : (s : St) (r : IsRuled K o s) (drawn : ℕ) (holder : ℕ → ℕ) (id : ℕ) (who : Identity O E) (phase phase' : Phase E) (words' : List ℕ) (homes' : Homes T)
      → get_elem? s.views id ≡ some (Pass who phase) → words' ≡ drawn ∷ r.at.served ∷ [] → r.at.served ≤ drawn → drawn ≤ 2 ^ 62
      → SlotIs K o (stood r.at drawn r.at.served r.at.current holder) homes' (set s.views id (Pass who phase'))
      → ((t : ℕ) → r.at.served ≤ t → t < drawn → HasHolder K o (stood r.at drawn r.at.served r.at.current holder) (set s.views id (Pass who phase')) t)
      → PhaseIs K o (stood r.at drawn r.at.served r.at.current holder) homes' id phase' → OthersStay r.at (stood r.at drawn r.at.served r.at.current holder) s.homes homes' id
      → IsRuled K o record { words = words'; homes = homes'; views = set s.views id (Pass who phase') }
  stepped_on s r drawn holder id who phase phase' words' homes' here words order bound slot tickets mine others =
      moved s r drawn r.at.served r.at.current holder id who who phase phase' words' homes' here refl refl words order bound slot r.log_is (log_stays who.knows.caller r.at.current)
      (r.each_view id (Pass who phase) here).knows tickets mine others
