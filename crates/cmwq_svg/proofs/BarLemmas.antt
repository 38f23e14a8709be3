-- The laws of rectangles: what stands over each tick, that two that touch show different cells, and that rows stand apart.
use Rattle.std.proofs.Common.{◌≡◌, ◌≢◌, ℕ, zero, suc, ◌+◌, ◌-◌, ◌≤◌, ◌<◌, Bool, true, false, true≢false, ◌&&◌, List, [], ◌∷◌, ◌++◌, Option, Some, None, cond, map, get_or, eq-eqb, arith, refl, sym, ap, ap₂, ◌∙◌, inl, inr, nat_le, nat_lt, subst}
use Rattle.std.proofs.lemmas.Bool.Decides.{nat_tests}
use Rattle.std.proofs.lemmas.Bool.{cases_lt, eqb-true}
use Rattle.std.proofs.lemmas.List.{append-nil}
use Rattle.std.specs.List.{filter}
use Rattle.cmwq_picture.specs.contracts.cell.SignPartialEq.TheImpl as sign_eq
use Rattle.cmwq_picture.specs.declared.cell.Cell.{Cell}
use Rattle.cmwq_picture.specs.declared.cell.Cell.TheVariants.{Empty, Does, Burner, Acts, Lasts, Armed}
use Rattle.cmwq_picture.specs.declared.cell.Sign.{Sign}
use Rattle.cmwq_picture.specs.declared.cell.Sign.TheVariants as sign
use Rattle.cmwq_render.specs.Legend.{same_cell}
use Rattle.cmwq_svg.specs.Bars.{bars_from, bar_begun, bar_ended, goes_on, grown, column_bar}
use Rattle.cmwq_svg.specs.Laws.{CoversEachCellOnce, Differs, NeighboursDiffer, RowsStandApart, RunsAreWhole, covers, seen_cells}
use Rattle.cmwq_svg.specs.declared.bars.Bar.{Bar}

-- Cells that are the same.

tick_less_0 : (tick : ℕ) → tick - 0 ≡ tick
tick_less_0 tick = omega arith

same-sign : (x y : Sign) → sign_eq.ghosts.eq x y ≡ true → x ≡ y
same-sign sign.Burns sign.Burns e = refl
same-sign sign.Waits sign.Waits e = refl
same-sign sign.Sleeps sign.Sleeps e = refl
same-sign sign.Listed sign.Listed e = refl
same-sign sign.Inactive sign.Inactive e = refl
same-sign sign.Timed sign.Timed e = refl
same-sign sign.Deferred sign.Deferred e = refl
same-sign x y e = absurd (true≢false (sym e))

same-cell : (x y : Cell) → same_cell x y ≡ true → x ≡ y
same-cell Empty Empty e = refl
same-cell (Does x) (Does y) e = ap Does (same-sign x y e)
same-cell (Burner x) (Burner y) e = ap (λ (n : ℕ). Burner (record { 0 = n })) (eqb-true x.0 y.0 e)
same-cell Acts Acts e = refl
same-cell Lasts Lasts e = refl
same-cell (Armed x) (Armed y) e = ap (λ (n : ℕ). Armed (record { 0 = n })) (eqb-true x.0 y.0 e)
same-cell x y e = absurd (true≢false (sym e))

sign-refl : (x : Sign) → sign_eq.ghosts.eq x x ≡ true
sign-refl sign.Burns = refl
sign-refl sign.Waits = refl
sign-refl sign.Sleeps = refl
sign-refl sign.Listed = refl
sign-refl sign.Inactive = refl
sign-refl sign.Timed = refl
sign-refl sign.Deferred = refl

same-refl : (x : Cell) → same_cell x x ≡ true
same-refl Empty = refl
same-refl (Does x) = sign-refl x
same-refl (Burner w) = eq-eqb w.0 w.0 refl
same-refl Acts = refl
same-refl Lasts = refl
same-refl (Armed w) = eq-eqb w.0 w.0 refl

-- The rectangle that is last ends where the next cell stands, and shows something.
record IsOpen (bar : Bar) (at : ℕ) : Type 0 where
  ends : bar.to ≡ at
  begins : bar.from < bar.to
  shows : seen_cells bar.cell ≡ bar.cell ∷ []

abbrev IsOpenAt : Option Bar → ℕ → Type 0
IsOpenAt None at = Unit {0}
IsOpenAt (Some bar) at = IsOpen bar at

-- what rectangles show over a tick
abbrev showing : ℕ → List Bar → List Cell
showing tick bars = map (λ bar. bar.cell) (filter (covers tick) bars)

showing-kept : (bar : Bar) (xs : List Bar) (b : Bool) → map (λ (x : Bar). x.cell) (cond b (bar ∷ xs) xs) ≡ cond b (bar.cell ∷ map (λ (x : Bar). x.cell) xs) (map (λ (x : Bar). x.cell) xs)
showing-kept bar xs true = refl
showing-kept bar xs false = refl

kept-append : (c : Cell) (xs ys : List Cell) (b : Bool) → cond b (c ∷ (xs ++ ys)) (xs ++ ys) ≡ cond b (c ∷ xs) xs ++ ys
kept-append c xs ys true = refl
kept-append c xs ys false = refl

showing-append : (tick : ℕ) (xs ys : List Bar) → showing tick (xs ++ ys) ≡ showing tick xs ++ showing tick ys
showing-append tick [] ys = refl
showing-append tick (x ∷ xs) ys =
    showing-kept x (filter (covers tick) (xs ++ ys)) (covers tick x)
    ∙ ap (λ (shown : List Cell). cond (covers tick x) (x.cell ∷ shown) shown) (showing-append tick xs ys)
    ∙ kept-append x.cell (showing tick xs) (showing tick ys) (covers tick x)
    ∙ ap (λ (shown : List Cell). shown ++ showing tick ys) (sym (showing-kept x (filter (covers tick) xs) (covers tick x)))

-- one rectangle, where it stands over the tick and where it doesn't
over : (tick : ℕ) (bar : Bar) → bar.from ≤ tick → tick < bar.to → showing tick (bar ∷ []) ≡ bar.cell ∷ []
over tick bar low high =
    let after : nat_le bar.from tick ≡ true = grind (arith, nat_tests) in
    let before : nat_lt tick bar.to ≡ true = grind (arith, nat_tests) in
    showing-kept bar [] (covers tick bar) ∙ ap₂ (λ (a b : Bool). cond (a && b) (bar.cell ∷ []) []) after before

left_of : (tick : ℕ) (bar : Bar) → tick < bar.from → showing tick (bar ∷ []) ≡ []
left_of tick bar less =
    let after : nat_le bar.from tick ≡ false = grind (arith, nat_tests) in
    showing-kept bar [] (covers tick bar) ∙ ap (λ (a : Bool). cond (a && nat_lt tick bar.to) (bar.cell ∷ []) []) after

none : (bar : Bar) (a : Bool) → cond (a && false) (bar.cell ∷ []) [] ≡ []
none bar true = refl
none bar false = refl

right_of : (tick : ℕ) (bar : Bar) → bar.to ≤ tick → showing tick (bar ∷ []) ≡ []
right_of tick bar more =
    let before : nat_lt tick bar.to ≡ false = grind (arith, nat_tests) in
    showing-kept bar [] (covers tick bar) ∙ ap (λ (b : Bool). cond (nat_le bar.from tick && b) (bar.cell ∷ []) []) before
    ∙ none bar (nat_le bar.from tick)

-- over what was passed stands what stood there
grown-same : (tick at : ℕ) (bar : Bar) → IsOpen bar at → tick < at → showing tick (bar_ended (grown (Some bar) (at + 1))) ≡ showing tick (bar ∷ [])
grown-same tick at bar last less =
    let longer : nat_lt tick (at + 1) ≡ true = grind (arith, nat_tests) in
    let ends : bar.to ≡ at = last.ends in
    let shorter : nat_lt tick bar.to ≡ true = grind (arith, nat_tests) in
    showing-kept (record bar { to = at + 1 }) [] (covers tick (record bar { to = at + 1 }))
    ∙ ap (λ (b : Bool). cond (nat_le bar.from tick && b) (bar.cell ∷ []) []) (longer ∙ sym shorter)
    ∙ sym (showing-kept bar [] (covers tick bar))

grown-last : (at : ℕ) (bar : Bar) → IsOpen bar at → IsOpen (record bar { to = at + 1 }) (at + 1)
grown-last at bar last =
    let ends : bar.to ≡ at = last.ends in
    let begins : bar.from < bar.to = last.begins in
    record { ends = refl; begins = omega arith; shows = last.shows }

begun-last : (cell : Cell) (at : ℕ) → IsOpenAt (bar_begun cell at) (at + 1)
begun-last Empty at = tt
begun-last (Does sign) at = record { ends = refl; begins = omega arith; shows = refl }
begun-last (Burner w) at = record { ends = refl; begins = omega arith; shows = refl }
begun-last Acts at = record { ends = refl; begins = omega arith; shows = refl }
begun-last Lasts at = record { ends = refl; begins = omega arith; shows = refl }
begun-last (Armed w) at = record { ends = refl; begins = omega arith; shows = refl }

begun-later : (tick at : ℕ) (cell : Cell) → tick < at → showing tick (bar_ended (bar_begun cell at)) ≡ []
begun-later tick at Empty less = refl
begun-later tick at (Does sign) less = left_of tick (column_bar (Does sign) at) less
begun-later tick at (Burner w) less = left_of tick (column_bar (Burner w) at) less
begun-later tick at Acts less = left_of tick (column_bar Acts at) less
begun-later tick at Lasts less = left_of tick (column_bar Lasts at) less
begun-later tick at (Armed w) less = left_of tick (column_bar (Armed w) at) less

begun-here : (tick at : ℕ) (cell : Cell) → tick ≡ at → showing tick (bar_ended (bar_begun cell at)) ≡ seen_cells cell
begun-here tick at Empty here = refl
begun-here tick at (Does sign) here = over tick (column_bar (Does sign) at) (omega arith) (omega arith)
begun-here tick at (Burner w) here = over tick (column_bar (Burner w) at) (omega arith) (omega arith)
begun-here tick at Acts here = over tick (column_bar Acts at) (omega arith) (omega arith)
begun-here tick at Lasts here = over tick (column_bar Lasts at) (omega arith) (omega arith)
begun-here tick at (Armed w) here = over tick (column_bar (Armed w) at) (omega arith) (omega arith)

-- one step, by whether the rectangle goes on
abbrev stepped : Bool → Option Bar → ℕ → Cell → List Cell → List Bar
stepped b last at cell cells = cond b (bars_from (grown last (at + 1)) (at + 1) cells) (bar_ended last ++ bars_from (bar_begun cell at) (at + 1) cells)

passed-begun : (cell : Cell) (cells : List Cell) (last : Option Bar) (at tick : ℕ) → tick < at
    → showing tick (bars_from (bar_begun cell at) (at + 1) cells) ≡ showing tick (bar_ended (bar_begun cell at))
    → showing tick (bar_ended last ++ bars_from (bar_begun cell at) (at + 1) cells) ≡ showing tick (bar_ended last)
passed-begun cell cells last at tick less rest =
    showing-append tick (bar_ended last) (bars_from (bar_begun cell at) (at + 1) cells)
    ∙ ap (λ (shown : List Cell). showing tick (bar_ended last) ++ shown) (rest ∙ begun-later tick at cell less)
    ∙ append-nil (showing tick (bar_ended last))

passed-step : (b : Bool) (cell : Cell) (cells : List Cell) (bar : Bar) (at tick : ℕ) → IsOpen bar at → tick < at
    → showing tick (bars_from (Some (record bar { to = at + 1 })) (at + 1) cells) ≡ showing tick (bar_ended (Some (record bar { to = at + 1 })))
    → showing tick (bars_from (bar_begun cell at) (at + 1) cells) ≡ showing tick (bar_ended (bar_begun cell at))
    → showing tick (stepped b (Some bar) at cell cells) ≡ showing tick (bar_ended (Some bar))
passed-step true cell cells bar at tick last less on off = on ∙ grown-same tick at bar last less
passed-step false cell cells bar at tick last less on off = passed-begun cell cells (Some bar) at tick less off

-- over a tick that was passed
passed : (cells : List Cell) (last : Option Bar) (at tick : ℕ) → IsOpenAt last at → tick < at → showing tick (bars_from last at cells) ≡ showing tick (bar_ended last)
passed [] last at tick is less = refl
passed (cell ∷ cells) None at tick is less =
    passed-begun cell cells None at tick less (passed cells (bar_begun cell at) (at + 1) tick (begun-last cell at) (omega arith))
passed (cell ∷ cells) (Some bar) at tick is less =
    passed-step (same_cell bar.cell cell) cell cells bar at tick is less
    (passed cells (Some (record bar { to = at + 1 })) (at + 1) tick (grown-last at bar is) (omega arith))
    (passed cells (bar_begun cell at) (at + 1) tick (begun-last cell at) (omega arith))

closed : (last : Option Bar) (at tick : ℕ) → IsOpenAt last at → at ≤ tick → showing tick (bar_ended last) ≡ []
closed None at tick is more = refl
closed (Some bar) at tick is more =
    let ends : bar.to ≡ at = is.ends in
    right_of tick bar (omega arith)

-- the cell of this tick
here-off : (cell : Cell) (cells : List Cell) (last : Option Bar) (at tick : ℕ) → IsOpenAt last at → tick ≡ at
    → showing tick (bar_ended last ++ bars_from (bar_begun cell at) (at + 1) cells) ≡ seen_cells cell
here-off cell cells last at tick is here =
    showing-append tick (bar_ended last) (bars_from (bar_begun cell at) (at + 1) cells)
    ∙ ap (λ (shown : List Cell). shown ++ showing tick (bars_from (bar_begun cell at) (at + 1) cells)) (closed last at tick is (omega arith))
    ∙ passed cells (bar_begun cell at) (at + 1) tick (begun-last cell at) (omega arith)
    ∙ begun-here tick at cell here

here-on : (cell : Cell) (cells : List Cell) (bar : Bar) (at tick : ℕ) → IsOpen bar at → tick ≡ at → bar.cell ≡ cell
    → showing tick (bars_from (Some (record bar { to = at + 1 })) (at + 1) cells) ≡ seen_cells cell
here-on cell cells bar at tick is here same =
    let ends : bar.to ≡ at = is.ends in
    let begins : bar.from < bar.to = is.begins in
    passed cells (Some (record bar { to = at + 1 })) (at + 1) tick (grown-last at bar is) (omega arith)
    ∙ over tick (record bar { to = at + 1 }) (omega arith) (omega arith)
    ∙ sym is.shows ∙ ap seen_cells same

here-step : (b : Bool) (cell : Cell) (cells : List Cell) (bar : Bar) (at tick : ℕ) → IsOpen bar at → tick ≡ at → same_cell bar.cell cell ≡ b
    → showing tick (stepped b (Some bar) at cell cells) ≡ seen_cells cell
here-step true cell cells bar at tick is here e = here-on cell cells bar at tick is here (same-cell bar.cell cell e)
here-step false cell cells bar at tick is here e = here-off cell cells (Some bar) at tick is here

here : (cell : Cell) (cells : List Cell) (last : Option Bar) (at tick : ℕ) → IsOpenAt last at → tick ≡ at
    → showing tick (bars_from last at (cell ∷ cells)) ≡ seen_cells cell
here cell cells None at tick is now = here-off cell cells None at tick is now
here cell cells (Some bar) at tick is now = here-step (same_cell bar.cell cell) cell cells bar at tick is now refl

-- those behind it
behind-off : (cell : Cell) (cells : List Cell) (last : Option Bar) (at tick : ℕ) → IsOpenAt last at → at < tick
    → showing tick (bars_from (bar_begun cell at) (at + 1) cells) ≡ seen_cells (get_or cells (tick - (at + 1)) Empty)
    → showing tick (bar_ended last ++ bars_from (bar_begun cell at) (at + 1) cells) ≡ seen_cells (get_or cells (tick - (at + 1)) Empty)
behind-off cell cells last at tick is more rest =
    showing-append tick (bar_ended last) (bars_from (bar_begun cell at) (at + 1) cells)
    ∙ ap (λ (shown : List Cell). shown ++ showing tick (bars_from (bar_begun cell at) (at + 1) cells)) (closed last at tick is (omega arith))
    ∙ rest

behind-step : (b : Bool) (cell : Cell) (cells : List Cell) (bar : Bar) (at tick : ℕ) → IsOpen bar at → at < tick
    → showing tick (bars_from (Some (record bar { to = at + 1 })) (at + 1) cells) ≡ seen_cells (get_or cells (tick - (at + 1)) Empty)
    → showing tick (bars_from (bar_begun cell at) (at + 1) cells) ≡ seen_cells (get_or cells (tick - (at + 1)) Empty)
    → showing tick (stepped b (Some bar) at cell cells) ≡ seen_cells (get_or cells (tick - (at + 1)) Empty)
behind-step true cell cells bar at tick is more on off = on
behind-step false cell cells bar at tick is more on off = behind-off cell cells (Some bar) at tick is more off

-- the cell at a tick behind the first
later-cell : (cell : Cell) (cells : List Cell) (k n : ℕ) → k ≡ suc n → get_or (cell ∷ cells) k Empty ≡ get_or cells n Empty
later-cell cell cells k n e = ap (λ (j : ℕ). get_or (cell ∷ cells) j Empty) e

first-cell : (cell : Cell) (cells : List Cell) (k : ℕ) → k ≡ 0 → get_or (cell ∷ cells) k Empty ≡ cell
first-cell cell cells k e = ap (λ (j : ℕ). get_or (cell ∷ cells) j Empty) e

behind : (cell : Cell) (cells : List Cell) (last : Option Bar) (at tick : ℕ) → IsOpenAt last at → at < tick
    → ((next : Option Bar) → IsOpenAt next (at + 1) → showing tick (bars_from next (at + 1) cells) ≡ seen_cells (get_or cells (tick - (at + 1)) Empty))
    → showing tick (bars_from last at (cell ∷ cells)) ≡ seen_cells (get_or cells (tick - (at + 1)) Empty)
behind cell cells None at tick is more rest = behind-off cell cells None at tick is more (rest (bar_begun cell at) (begun-last cell at))
behind cell cells (Some bar) at tick is more rest =
    behind-step (same_cell bar.cell cell) cell cells bar at tick is more
    (rest (Some (record bar { to = at + 1 })) (grown-last at bar is)) (rest (bar_begun cell at) (begun-last cell at))

-- over the tick of a cell, and those behind it
ahead : (cells : List Cell) (last : Option Bar) (at tick : ℕ) → IsOpenAt last at → at ≤ tick
    → showing tick (bars_from last at cells) ≡ seen_cells (get_or cells (tick - at) Empty)
ahead [] last at tick is more = closed last at tick is more
ahead (cell ∷ cells) last at tick is more =
    elim (cases_lt at tick) [
      | inl less ↦ (let later : tick - at ≡ suc (tick - (at + 1)) = omega arith in
          behind cell cells last at tick is less (λ next ready. ahead cells next (at + 1) tick ready (omega arith))
          ∙ sym (ap seen_cells (later-cell cell cells (tick - at) (tick - (at + 1)) later)))
      | inr not_less ↦ (let now : tick ≡ at = omega arith in
          let first : tick - at ≡ 0 = omega arith in
          here cell cells last at tick is now ∙ sym (ap seen_cells (first-cell cell cells (tick - at) first)))
    ]

pub each_cell_once : CoversEachCellOnce
unfolding CoversEachCellOnce
each_cell_once cells tick = ahead cells None 0 tick tt (omega arith) ∙ ap (λ (k : ℕ). seen_cells (get_or cells k Empty)) (tick_less_0 tick)

-- Neighbours.

drop_first : (bar : Bar) (bars : List Bar) → Differs bar bars → NeighboursDiffer bars
drop_first bar [] held = tt
drop_first bar (next ∷ others) held = held.2

-- What stands behind a rectangle that ended before the tick, and behind one that ended where another begins which is last.
record AreApart (cells : List Cell) : Type 0 where
  fresh : (bar : Bar) (at : ℕ) → bar.to < at → Differs bar (bars_from None at cells)
  going : (bar last : Bar) (at : ℕ) → last.to ≡ at → bar.to ≤ last.from → (bar.to ≡ last.from → bar.cell ≢ last.cell)
      → Differs bar (bars_from (Some last) at cells)

-- behind one that ends at the tick begins another, if the cell isn't empty
begins : (cell : Cell) (cells : List Cell) (bar : Bar) (at : ℕ) → AreApart cells → bar.to ≤ at → (bar.to ≡ at → bar.cell ≢ cell)
    → Differs bar (bars_from (bar_begun cell at) (at + 1) cells)
begins Empty cells bar at apart less other = apart.fresh bar (at + 1) (omega arith)
begins (Does sign) cells bar at apart less other = apart.going bar (column_bar (Does sign) at) (at + 1) refl less other
begins (Burner w) cells bar at apart less other = apart.going bar (column_bar (Burner w) at) (at + 1) refl less other
begins Acts cells bar at apart less other = apart.going bar (column_bar Acts at) (at + 1) refl less other
begins Lasts cells bar at apart less other = apart.going bar (column_bar Lasts at) (at + 1) refl less other
begins (Armed w) cells bar at apart less other = apart.going bar (column_bar (Armed w) at) (at + 1) refl less other

other-cell : (a b : Cell) → same_cell a b ≡ false → a ≢ b
other-cell a b e is = true≢false (sym (same-refl a) ∙ ap (λ (c : Cell). same_cell a c) is ∙ e)

going-step : (b : Bool) (cell : Cell) (cells : List Cell) (bar last : Bar) (at : ℕ) → AreApart cells → last.to ≡ at → bar.to ≤ last.from
    → (bar.to ≡ last.from → bar.cell ≢ last.cell) → same_cell last.cell cell ≡ b → Differs bar (stepped b (Some last) at cell cells)
going-step true cell cells bar last at apart ends less other e = apart.going bar (record last { to = at + 1 }) (at + 1) refl less other
going-step false cell cells bar last at apart ends less other e =
    (less, other, begins cell cells last at apart (omega arith) (λ _. other-cell last.cell cell e))

apart : (cells : List Cell) → AreApart cells
apart [] = record { fresh = λ bar at less. tt; going = λ bar last at ends less other. (less, other, tt) }
apart (cell ∷ cells) =
    record {
      fresh = λ bar at less. begins cell cells bar at (apart cells) (omega arith) (λ touch. absurd (omega arith));
      going = λ bar last at ends less other. going-step (same_cell last.cell cell) cell cells bar last at (apart cells) ends less other refl;
    }

-- one that no cell shows, before the row
before_all : Bar
before_all = record { from = 0; to = 0; cell = Empty }

whole-from : (cell : Cell) (cells : List Cell) → AreApart cells → NeighboursDiffer (bars_from (bar_begun cell 0) 1 cells)
unfolding before_all
whole-from Empty cells apart = drop_first before_all (bars_from None 1 cells) (apart.fresh before_all 1 (omega arith))
whole-from (Does sign) cells apart =
    drop_first before_all (bars_from (Some (column_bar (Does sign) 0)) 1 cells) (apart.going before_all (column_bar (Does sign) 0) 1 refl (omega arith) (λ touch same. cc))
whole-from (Burner w) cells apart =
    drop_first before_all (bars_from (Some (column_bar (Burner w) 0)) 1 cells) (apart.going before_all (column_bar (Burner w) 0) 1 refl (omega arith) (λ touch same. cc))
whole-from Acts cells apart =
    drop_first before_all (bars_from (Some (column_bar Acts 0)) 1 cells) (apart.going before_all (column_bar Acts 0) 1 refl (omega arith) (λ touch same. cc))
whole-from Lasts cells apart =
    drop_first before_all (bars_from (Some (column_bar Lasts 0)) 1 cells) (apart.going before_all (column_bar Lasts 0) 1 refl (omega arith) (λ touch same. cc))
whole-from (Armed w) cells apart =
    drop_first before_all (bars_from (Some (column_bar (Armed w) 0)) 1 cells) (apart.going before_all (column_bar (Armed w) 0) 1 refl (omega arith) (λ touch same. cc))

pub whole_runs : RunsAreWhole
unfolding RunsAreWhole
whole_runs [] = tt
whole_runs (cell ∷ cells) = whole-from cell cells (apart cells)

-- Rows.

pub rows_apart : RowsStandApart
unfolding RowsStandApart
rows_apart row other before = omega (arith, before)
