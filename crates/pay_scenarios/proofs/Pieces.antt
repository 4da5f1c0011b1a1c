-- A text that is put in pieces.
use Rattle.std.proofs.Common.{◌≡◌, ℕ, ◌+◌, ◌<◌, ◌≤◌, List, [], ◌++◌, length, get_or, drop, map, Result, Ok, Err, OnOk, All, refl, sym, ap, subst, ◌∙◌}
use Rattle.std.proofs.Common.{append_assoc, append-nil, arith}
use Rattle.std.proofs.lemmas.List.{length-map, drop_all, drop_more, get_or-map}
use Rattle.std.specs.List.{flat_map}
use Rattle.pay_tables.specs.declared.scenarios.ScenarioRow.{ScenarioRow}
use Rattle.pay_tables.specs.Tables.{IsCell, Row}
use Rattle.pay_scenarios.specs.RunTexts.{sum_over}
use Rattle.pay_tables.specs.Views.{row}
use Rattle.std.specs.declared.option.Option.{Option}
use Rattle.std.specs.declared.option.Option.TheVariants.{None, Some}
use Rattle.pay_edge.specs.Edge.{appended, AppendsFront}
use Rattle.pay_scenarios.specs.Puts.{HasPut}

-- two pieces that are appended one after the other are both appended at once
appended_in_turn : (told : Option (List ℕ)) (first second : List ℕ) → appended (appended told first) second ≡ appended told (first ++ second)
appended_in_turn None first second = refl
appended_in_turn (Some text) first second = ap Some (append_assoc text first second)

-- two pieces were put
appended_more : {mid new : Option (List ℕ)} (old : Option (List ℕ)) (first second : List ℕ) → mid ≡ appended old first → new ≡ appended mid second
    → new ≡ appended old (first ++ second)
appended_more old first second put next = next ∙ ap (λ told. appended told second) put ∙ appended_in_turn old first second

-- a front of the first piece is a front of both
pub front_first : {old new : Option (List ℕ)} (first second : List ℕ) → AppendsFront old new first → AppendsFront old new (first ++ second)
front_first first second f = record {
  front = f.front;
  rest = f.rest ++ second;
  split = sym (append_assoc f.front f.rest second) ∙ ap (λ piece. piece ++ second) f.split;
  text = f.text;
}

-- the first piece and a front of the second are a front of both
pub front_after : {mid new : Option (List ℕ)} (old : Option (List ℕ)) (first second : List ℕ) → mid ≡ appended old first → AppendsFront mid new second
    → AppendsFront old new (first ++ second)
front_after old first second put f = record {
  front = first ++ f.front;
  rest = f.rest;
  split = append_assoc first f.front f.rest ∙ ap (λ piece. first ++ piece) f.split;
  text = appended_more old first f.front put f.text;
}

-- before the first piece nothing was put, and the whole remains
pub none_put : (told : Option (List ℕ)) (whole : List ℕ) → HasPut told told whole whole
none_put None whole = record { front = []; split = refl; text = refl }
none_put (Some text) whole = record { front = []; split = refl; text = ap Some (sym (append-nil text)) }

-- where no row remains the whole was put
pub rows_put : (old now : Option (List ℕ)) (f : Row → List ℕ) (rows : List ScenarioRow) (i : ℕ) (whole : List ℕ) → length rows ≤ i
    → HasPut old now (flat_map f (map row (drop i rows))) whole → now ≡ appended old whole
rows_put old now f rows i whole h put =
    put.text
    ∙ ap (appended old) (sym (append-nil put.front)
    ∙ ap (λ (left : List ScenarioRow). put.front ++ flat_map f (map row left)) (sym (drop_all i rows h)) ∙ put.split)

-- a piece more was put
pub put_more : (old now new : Option (List ℕ)) (piece remaining whole : List ℕ) → HasPut old now (piece ++ remaining) whole → new ≡ appended now piece
    → HasPut old new remaining whole
put_more old now new piece remaining whole h e = record {
  front = h.front ++ piece;
  split = append_assoc h.front piece remaining ∙ h.split;
  text = e ∙ ap (λ (t : Option (List ℕ)). appended t piece) h.text ∙ appended_in_turn old h.front piece;
}

-- a front of the next piece was put, which is a front of the whole
pub put_part : (old now new : Option (List ℕ)) (piece remaining whole : List ℕ) → HasPut old now (piece ++ remaining) whole → AppendsFront now new piece
    → AppendsFront old new whole
put_part old now new piece remaining whole h f = record {
  front = h.front ++ f.front;
  rest = f.rest ++ remaining;
  split = append_assoc h.front f.front (f.rest ++ remaining)
      ∙ ap (λ xs. h.front ++ xs) (sym (append_assoc f.front f.rest remaining) ∙ ap (λ xs. xs ++ remaining) f.split) ∙ h.split;
  text = f.text ∙ ap (λ (t : Option (List ℕ)). appended t f.front) h.text ∙ appended_in_turn old h.front f.front;
}

-- the lines of rows from a place on begin with those of the row there
rows_split : (f : Row → List ℕ) (rows : List ScenarioRow) (i : ℕ) (r : ScenarioRow) → i < length rows → r ≡ get_or rows i r
    → flat_map f (map row (drop i rows)) ≡ f (row r) ++ flat_map f (map row (drop (i + 1) rows))
rows_split f rows i r h e =
    ap (λ (xs : List ScenarioRow). flat_map f (map row xs)) (drop_more rows i r h)
    ∙ ap (λ (x : ScenarioRow). f (row x) ++ flat_map f (map row (drop (i + 1) rows))) (sym e)

-- the lines of a row were put
pub row_put : (old now new : Option (List ℕ)) (f : Row → List ℕ) (rows : List ScenarioRow) (i : ℕ) (r : ScenarioRow) (whole : List ℕ)
    → i < length rows → r ≡ get_or rows i r → HasPut old now (flat_map f (map row (drop i rows))) whole → new ≡ appended now (f (row r))
    → HasPut old new (flat_map f (map row (drop (i + 1) rows))) whole
row_put old now new f rows i r whole h e put same =
    put_more old now new (f (row r)) (flat_map f (map row (drop (i + 1) rows))) whole
    (subst (λ (xs : List ℕ). HasPut old now xs whole) (rows_split f rows i r h e) put) same

-- a front of the lines of a row was put
pub row_part : (old now new : Option (List ℕ)) (f : Row → List ℕ) (rows : List ScenarioRow) (i : ℕ) (r : ScenarioRow) (whole : List ℕ)
    → i < length rows → r ≡ get_or rows i r → HasPut old now (flat_map f (map row (drop i rows))) whole → AppendsFront now new (f (row r))
    → AppendsFront old new whole
row_part old now new f rows i r whole h e put front =
    put_part old now new (f (row r)) (flat_map f (map row (drop (i + 1) rows))) whole
    (subst (λ (xs : List ℕ). HasPut old now xs whole) (rows_split f rows i r h e) put) front

-- a row has as many cells as all rows have
pub full_at : (rows : List ScenarioRow) (n i : ℕ) (r : ScenarioRow) → All (λ (x : Row). length x.cells ≡ n) (map row rows) → i < length rows
    → r ≡ get_or rows i r → length r.cells.items ≡ n
full_at rows n i r full h e =
    let small : i < length (map row rows) = rw (length-map rows row) h in
    ap (λ (x : ScenarioRow). length x.cells.items) e ∙ ap (λ (x : Row). length x.cells) (sym (get_or-map row rows i r (row r) h)) ∙ full i (row r) small

-- the nodes of rows from a place on are those of the row there and of the rows after it
pub nodes_split : (count : Row → ℕ) (rows : List ScenarioRow) (i : ℕ) (r : ScenarioRow) (before more : ℕ) → i < length rows → r ≡ get_or rows i r
    → before + sum_over count (map row (drop i rows)) ≡ sum_over count (map row rows) → more ≡ count (row r)
    → (before + more) + sum_over count (map row (drop (i + 1) rows)) ≡ sum_over count (map row rows)
nodes_split count rows i r before more h e counted same =
    let split : sum_over count (map row (drop i rows)) ≡ count (row r) + sum_over count (map row (drop (i + 1) rows)) =
    ap (λ (xs : List ScenarioRow). sum_over count (map row xs)) (drop_more rows i r h)
    ∙ ap (λ (x : ScenarioRow). count (row x) + sum_over count (map row (drop (i + 1) rows))) (sym e)
    in
    omega (arith, split, counted, same)

-- where no row remains all nodes are counted
pub nodes_done : (count : Row → ℕ) (rows : List ScenarioRow) (i : ℕ) (so_far whole : ℕ) → length rows ≤ i
    → so_far + sum_over count (map row (drop i rows)) ≡ whole → so_far ≡ whole
nodes_done count rows i so_far whole h counted =
    let none : sum_over count (map row (drop i rows)) ≡ 0 = ap (λ (xs : List ScenarioRow). sum_over count (map row xs)) (drop_all i rows h) in
    omega (arith, none, counted)

-- the cells of a row can be fixings where those of all rows can
pub fixings_at : (rows : List ScenarioRow) (i : ℕ) (r : ScenarioRow) → All (λ (x : Row). All IsCell x.cells) (map row rows) → i < length rows
    → r ≡ get_or rows i r → All IsCell r.cells.items
fixings_at rows i r all h e =
    let small : i < length (map row rows) = rw (length-map rows row) h in
    subst (λ (x : ScenarioRow). All IsCell x.cells.items) (sym e)
    (subst (λ (x : Row). All IsCell x.cells) (get_or-map row rows i r (row r) h) (all i (row r) small))

-- two pieces were put, and a third one where this is `Ok`
pub put_thrice : {A E : Type 0} (r : Result A E) (old now middle new : Option (List ℕ)) (piece more last : List ℕ) → now ≡ appended old piece
    → middle ≡ appended now more → OnOk r (new ≡ appended middle last) → OnOk r (new ≡ appended old (piece ++ (more ++ last)))
put_thrice (Ok a) old now middle new piece more last first second third =
    appended_more old piece (more ++ last) first (appended_more now more last second third)
put_thrice (Err e) old now middle new piece more last first second third = third
