-- What pruned steps keep of the steps: their variables, their bounds, their smoothings, their places, and the legs that they pay.
use Rattle.std.proofs.Common.{◌≡◌, ℕ, ◌+◌, ◌≤◌, Bool, true, false, ◌&&◌, List, [], ◌∷◌, ◌++◌, IsTrue, refl, arith}
use Rattle.std.proofs.lemmas.Bool.{and_parts}
use Rattle.pay_tree.specs.Owned.{NumberTree, literal_at, slot_at, spot_at, unary_at, binary_at, TestTree, truth_at, compare_at, not_at, and_at, or_at}
use Rattle.pay_tree.specs.Owned.{StepTree, assigning, paying, choosing, grouping, StepsTree, no_steps, step_then}
use Rattle.pay_tree.specs.Owned.{number_places, test_places, step_places, steps_places}
use Rattle.pay_visit.specs.Keeping.{Keeps}
use Rattle.pay_passes.specs.Folding.{place_of}
use Rattle.pay_runs.specs.Slots.{number_within, test_within, step_within, steps_within}
use Rattle.pay_code.specs.Bounds.{number_parts, test_parts, steps_parts}
use Rattle.pay_code.specs.Programs.{IsSmoothTest, AreSmoothSteps}
use Rattle.pay_simplified.specs.Pruning.{test_place, told_test}
use Rattle.pay_simplified.proofs.ShrinkLemmas.{Shrinks}

-- both of two
pub and_both : (a b : Bool) → IsTrue a → IsTrue b → IsTrue (a && b)
and_both true b h k = k
and_both false b h k = h

-- one step is all there is
alone : (b : Bool) → IsTrue (b && true) → IsTrue b
alone b h = (and_parts b true h).0

-- the variables are among so many where they were
abbrev pub IsWithinWhere : ℕ → Keeps
IsWithinWhere count = record {
  numbers = λ a b. IsTrue (number_within count b) → IsTrue (number_within count a);
  tests = λ a b. IsTrue (test_within count b) → IsTrue (test_within count a);
  steps = λ a b. IsTrue (steps_within count b) → IsTrue (steps_within count a);
}

module _ (count : ℕ) where
  told-within : (answer : Bool) (a : TestTree) → IsTrue (test_within count a) → IsTrue (test_within count (told_test answer a))
  told-within answer (truth_at id told other) h = h
  told-within answer (compare_at id told op left right smooth) h = h
  told-within answer (not_at id told side) h = h
  told-within answer (and_at id told left right) h = h
  told-within answer (or_at id told left right) h = h

  two-within : (a b c d : Bool) → (IsTrue b → IsTrue a) → (IsTrue d → IsTrue c) → IsTrue (b && d) → IsTrue (a && c)
  two-within a b c d first second h = let parts = and_parts b d h in and_both a c (first parts.0) (second parts.1)

  -- a branch of a choice
  yes-within : (t : TestTree) (a b : StepsTree) → IsTrue (test_within count t && (steps_within count a && steps_within count b))
      → IsTrue (steps_within count a)
  yes-within t a b h = (and_parts (steps_within count a) (steps_within count b) (and_parts (test_within count t) _ h).1).0

  no-within : (t : TestTree) (a b : StepsTree) → IsTrue (test_within count t && (steps_within count a && steps_within count b))
      → IsTrue (steps_within count b)
  no-within t a b h = (and_parts (steps_within count a) (steps_within count b) (and_parts (test_within count t) _ h).1).1

  pub within_shrinks : Shrinks (IsWithinWhere count)
  within_shrinks = record {
    order = record {
      number_itself = λ a h. h;
      number_onward = λ a b c first second h. first (second h);
      test_itself = λ a h. h;
      test_onward = λ a b c first second h. first (second h);
      steps_itself = λ a h. h;
      steps_onward = λ a b c first second h. first (second h);
    };
    forms = record {
      unary = λ id op a b same. same;
      binary = λ id op a b c d first second.
          two-within (number_within count a) (number_within count b) (number_within count c) (number_within count d) first second;
      compare = λ id told op smooth a b c d first second.
          two-within (number_within count a) (number_within count b) (number_within count c) (number_within count d) first second;
      negation = λ id told a b same. same;
      conjunction = λ id told a b c d first second.
          two-within (test_within count a) (test_within count b) (test_within count c) (test_within count d) first second;
      disjunction = λ id told a b c d first second.
          two-within (test_within count a) (test_within count b) (test_within count c) (test_within count d) first second;
      assign = λ slot a b same h.
          let here = and_parts _ (number_within count b) (alone _ h) in and_both _ true (and_both _ (number_within count a) here.0 (same here.1)) refl;
      pay = λ leg a b same h. and_both (number_within count a) true (same (alone (number_within count b) h)) refl;
      choose = λ changes t u a b c d first second third h.
          let parts = and_parts (test_within count u) (steps_within count b && steps_within count d) (alone _ h) in
          let branches = and_parts (steps_within count b) (steps_within count d) parts.1 in
          and_both _ true (and_both (test_within count t) (steps_within count a && steps_within count c) (first parts.0)
          (and_both (steps_within count a) (steps_within count c) (second branches.0) (third branches.1))) refl;
      group = λ a b same h. and_both (steps_within count a) true (same (alone (steps_within count b) h)) refl;
      onward = λ s t a b first rest h.
          let parts = and_parts (step_within count t) (steps_within count b) h in
          and_both (step_within count s) (steps_within count a) (alone (step_within count s) (first (and_both (step_within count t) true parts.0 refl)))
          (rest parts.1);
    };
    places = record {
      literal = λ a raw h. refl;
      settled = λ a told answer h. refl;
      told = told-within;
      side = λ id told a h. h;
      and_left = λ id told a b h. (and_parts (test_within count a) (test_within count b) h).0;
      and_right = λ id told a b h. (and_parts (test_within count a) (test_within count b) h).1;
      or_left = λ id told a b h. (and_parts (test_within count a) (test_within count b) h).0;
      or_right = λ id told a b h. (and_parts (test_within count a) (test_within count b) h).1;
      yes_group = λ t a b changes h. and_both (steps_within count a) true (yes-within t a b (alone _ h)) refl;
      no_group = λ t a b changes h. and_both (steps_within count b) true (no-within t a b (alone _ h)) refl;
      yes_alone = λ t a b changes h.
          let parts = and_parts (test_within count t) (steps_within count a && steps_within count b) (alone _ h) in
          and_both _ true (and_both (test_within count t) (steps_within count a && true) parts.0
          (and_both (steps_within count a) true (yes-within t a b (alone _ h)) refl)) refl;
      no_alone = λ t a b changes h.
          let parts = and_parts (test_within count t) (steps_within count a && steps_within count b) (alone _ h) in
          and_both _ true (and_both (test_within count t) (steps_within count b) parts.0 (no-within t a b (alone _ h))) refl;
    };
  }

-- no more parts
abbrev pub HasNoMoreParts : Keeps
HasNoMoreParts = record {
  numbers = λ a b. number_parts a ≤ number_parts b;
  tests = λ a b. test_parts a ≤ test_parts b;
  steps = λ a b. steps_parts a ≤ steps_parts b;
}

-- each number and each test is a part
some_number : (a : NumberTree) → 1 ≤ number_parts a
some_number (literal_at id raw) = omega arith
some_number (slot_at id slot) = omega arith
some_number (spot_at id) = omega arith
some_number (unary_at id op side) = omega arith
some_number (binary_at id op left right) = omega arith

some_test : (a : TestTree) → 1 ≤ test_parts a
some_test (truth_at id told answer) = omega arith
some_test (compare_at id told op left right smooth) = omega arith
some_test (not_at id told side) = omega arith
some_test (and_at id told left right) = omega arith
some_test (or_at id told left right) = omega arith

told_parts : (answer : Bool) (a : TestTree) → test_parts (told_test answer a) ≤ test_parts a
told_parts answer (truth_at id told other) = omega arith
told_parts answer (compare_at id told op left right smooth) = omega arith
told_parts answer (not_at id told side) = omega arith
told_parts answer (and_at id told left right) = omega arith
told_parts answer (or_at id told left right) = omega arith

pub parts_shrink : Shrinks HasNoMoreParts
parts_shrink = record {
  order = record {
    number_itself = λ a. omega arith;
    number_onward = λ a b c first second. omega (arith, first, second);
    test_itself = λ a. omega arith;
    test_onward = λ a b c first second. omega (arith, first, second);
    steps_itself = λ a. omega arith;
    steps_onward = λ a b c first second. omega (arith, first, second);
  };
  forms = record {
    unary = λ id op a b same. omega (arith, same);
    binary = λ id op a b c d first second. omega (arith, first, second);
    compare = λ id told op smooth a b c d first second. omega (arith, first, second);
    negation = λ id told a b same. omega (arith, same);
    conjunction = λ id told a b c d first second. omega (arith, first, second);
    disjunction = λ id told a b c d first second. omega (arith, first, second);
    assign = λ slot a b same. omega (arith, same);
    pay = λ leg a b same. omega (arith, same);
    choose = λ changes t u a b c d first second third. omega (arith, first, second, third);
    group = λ a b same. omega (arith, same);
    onward = λ s t a b first rest. omega (arith, first, rest);
  };
  places = record {
    literal = λ a raw. some_number a;
    settled = λ a told answer. some_test a;
    told = told_parts;
    side = λ id told a. omega arith;
    and_left = λ id told a b. omega arith;
    and_right = λ id told a b. omega arith;
    or_left = λ id told a b. omega arith;
    or_right = λ id told a b. omega arith;
    yes_group = λ t a b changes. omega arith;
    no_group = λ t a b changes. omega arith;
    yes_alone = λ t a b changes. omega arith;
    no_alone = λ t a b changes. omega arith;
  };
}

-- the smoothings are good where they were
abbrev pub IsSmoothWhere : Keeps
IsSmoothWhere = record {
  numbers = λ a b. Unit {0};
  tests = λ a b. IsSmoothTest b → IsSmoothTest a;
  steps = λ a b. AreSmoothSteps b → AreSmoothSteps a;
}

told_smooth : (answer : Bool) (a : TestTree) → IsSmoothTest a → IsSmoothTest (told_test answer a)
told_smooth answer (truth_at id told other) h = h
told_smooth answer (compare_at id told op left right smooth) h = h
told_smooth answer (not_at id told side) h = h
told_smooth answer (and_at id told left right) h = h
told_smooth answer (or_at id told left right) h = h

pub smooth_shrinks : Shrinks IsSmoothWhere
smooth_shrinks = record {
  order = record {
    number_itself = λ a. tt;
    number_onward = λ a b c first second. tt;
    test_itself = λ a h. h;
    test_onward = λ a b c first second h. first (second h);
    steps_itself = λ a h. h;
    steps_onward = λ a b c first second h. first (second h);
  };
  forms = record {
    unary = λ id op a b same. tt;
    binary = λ id op a b c d first second. tt;
    compare = λ id told op smooth a b c d first second h. h;
    negation = λ id told a b same. same;
    conjunction = λ id told a b c d first second h. (first h.0, second h.1);
    disjunction = λ id told a b c d first second h. (first h.0, second h.1);
    assign = λ slot a b same h. (tt, tt);
    pay = λ leg a b same h. (tt, tt);
    choose = λ changes t u a b c d first second third h. ((first h.0.0, (second h.0.1.0, third h.0.1.1)), tt);
    group = λ a b same h. (same h.0, tt);
    onward = λ s t a b first rest h. ((first (h.0, tt)).0, rest h.1);
  };
  places = record {
    literal = λ a raw. tt;
    settled = λ a told answer h. tt;
    told = told_smooth;
    side = λ id told a h. h;
    and_left = λ id told a b h. h.0;
    and_right = λ id told a b h. h.1;
    or_left = λ id told a b h. h.0;
    or_right = λ id told a b h. h.1;
    yes_group = λ t a b changes h. (h.0.1.0, tt);
    no_group = λ t a b changes h. (h.0.1.1, tt);
    yes_alone = λ t a b changes h. ((h.0.0, (h.0.1.0, tt)), tt);
    no_alone = λ t a b changes h. ((h.0.0, (tt, h.0.1.1)), tt);
  };
}

-- a sum over numbers
abbrev pub total : (ℕ → ℕ) → List ℕ → ℕ
total f [] = 0
total f (first ∷ rest) = f first + total f rest

pub total_both : (f : ℕ → ℕ) (a b : List ℕ) → total f (a ++ b) ≡ total f a + total f b
total_both f [] b = omega arith
total_both f (first ∷ rest) b = omega (arith, total_both f rest b)

-- a sum over the places is no greater
abbrev pub HasNoMorePlaces : (ℕ → ℕ) → Keeps
HasNoMorePlaces f = record {
  numbers = λ a b. total f (number_places a) ≤ total f (number_places b);
  tests = λ a b. total f (test_places a) ≤ total f (test_places b);
  steps = λ a b. total f (steps_places a) ≤ total f (steps_places b);
}

module _ (f : ℕ → ℕ) where
  own-place : (a : NumberTree) → f (place_of a) + 0 ≤ total f (number_places a)
  own-place (literal_at id raw) = omega arith
  own-place (slot_at id slot) = omega arith
  own-place (spot_at id) = omega arith
  own-place (unary_at id op side) = omega arith
  own-place (binary_at id op left right) = omega arith

  own-test-place : (a : TestTree) → f (test_place a) + 0 ≤ total f (test_places a)
  own-test-place (truth_at id told answer) = omega arith
  own-test-place (compare_at id told op left right smooth) = omega arith
  own-test-place (not_at id told side) = omega arith
  own-test-place (and_at id told left right) = omega arith
  own-test-place (or_at id told left right) = omega arith

  told-places : (answer : Bool) (a : TestTree) → total f (test_places (told_test answer a)) ≤ total f (test_places a)
  told-places answer (truth_at id told other) = omega arith
  told-places answer (compare_at id told op left right smooth) = omega arith
  told-places answer (not_at id told side) = omega arith
  told-places answer (and_at id told left right) = omega arith
  told-places answer (or_at id told left right) = omega arith

  -- no more in either of two
  two-totals : (a b c d : List ℕ) → total f a ≤ total f b → total f c ≤ total f d → total f (a ++ c) ≤ total f (b ++ d)
  two-totals a b c d first second = omega (arith, first, second, total_both f a c, total_both f b d)

  -- one of two is no more than both
  left-total : (a b : List ℕ) → total f a ≤ total f (a ++ b)
  left-total a b = omega (arith, total_both f a b)

  right-total : (a b : List ℕ) → total f b ≤ total f (a ++ b)
  right-total a b = omega (arith, total_both f a b)

  -- and with nothing after it
  alone-total : (a b : List ℕ) → total f a ≤ total f b → total f (a ++ []) ≤ total f (b ++ [])
  alone-total a b h = two-totals a b [] [] h (omega arith)

  unalone-total : (a b : List ℕ) → total f (a ++ []) ≤ total f (b ++ []) → total f a ≤ total f b
  unalone-total a b h = omega (arith, h, total_both f a [], total_both f b [])

  -- a branch has no more places than its choice
  yes-places : (t : TestTree) (a b : StepsTree) → total f (steps_places a) ≤ total f (test_places t ++ (steps_places a ++ steps_places b))
  yes-places t a b =
      omega (arith, right-total (test_places t) (steps_places a ++ steps_places b), left-total (steps_places a) (steps_places b))

  no-places : (t : TestTree) (a b : StepsTree) → total f (steps_places b) ≤ total f (test_places t ++ (steps_places a ++ steps_places b))
  no-places t a b =
      omega (arith, right-total (test_places t) (steps_places a ++ steps_places b), right-total (steps_places a) (steps_places b))

  pub places_shrink : Shrinks (HasNoMorePlaces f)
  places_shrink = record {
    order = record {
      number_itself = λ a. omega arith;
      number_onward = λ a b c first second. omega (arith, first, second);
      test_itself = λ a. omega arith;
      test_onward = λ a b c first second. omega (arith, first, second);
      steps_itself = λ a. omega arith;
      steps_onward = λ a b c first second. omega (arith, first, second);
    };
    forms = record {
      unary = λ id op a b same. omega (arith, same);
      binary = λ id op a b c d first second.
          let both = two-totals (number_places a) (number_places b) (number_places c) (number_places d) first second in omega (arith, both);
      compare = λ id told op smooth a b c d first second.
          let both = two-totals (number_places a) (number_places b) (number_places c) (number_places d) first second in omega (arith, both);
      negation = λ id told a b same. omega (arith, same);
      conjunction = λ id told a b c d first second.
          let both = two-totals (test_places a) (test_places b) (test_places c) (test_places d) first second in omega (arith, both);
      disjunction = λ id told a b c d first second.
          let both = two-totals (test_places a) (test_places b) (test_places c) (test_places d) first second in omega (arith, both);
      assign = λ slot a b same. alone-total (number_places a) (number_places b) same;
      pay = λ leg a b same. alone-total (number_places a) (number_places b) same;
      choose = λ changes t u a b c d first second third.
          alone-total (test_places t ++ (steps_places a ++ steps_places c)) (test_places u ++ (steps_places b ++ steps_places d))
          (two-totals (test_places t) (test_places u) (steps_places a ++ steps_places c) (steps_places b ++ steps_places d) first
          (two-totals (steps_places a) (steps_places b) (steps_places c) (steps_places d) second third));
      group = λ a b same. alone-total (steps_places a) (steps_places b) same;
      onward = λ s t a b first rest.
          two-totals (step_places s) (step_places t) (steps_places a) (steps_places b) (unalone-total (step_places s) (step_places t) first) rest;
    };
    places = record {
      literal = λ a raw. own-place a;
      settled = λ a told answer. own-test-place a;
      told = told-places;
      side = λ id told a. omega arith;
      and_left = λ id told a b. omega (arith, left-total (test_places a) (test_places b));
      and_right = λ id told a b. omega (arith, right-total (test_places a) (test_places b));
      or_left = λ id told a b. omega (arith, left-total (test_places a) (test_places b));
      or_right = λ id told a b. omega (arith, right-total (test_places a) (test_places b));
      yes_group = λ t a b changes. alone-total (steps_places a) (test_places t ++ (steps_places a ++ steps_places b)) (yes-places t a b);
      no_group = λ t a b changes. alone-total (steps_places b) (test_places t ++ (steps_places a ++ steps_places b)) (no-places t a b);
      yes_alone = λ t a b changes.
          alone-total (test_places t ++ (steps_places a ++ [])) (test_places t ++ (steps_places a ++ steps_places b))
          (two-totals (test_places t) (test_places t) (steps_places a ++ []) (steps_places a ++ steps_places b) (omega arith)
          (two-totals (steps_places a) (steps_places a) [] (steps_places b) (omega arith) (omega arith)));
      no_alone = λ t a b changes.
          alone-total (test_places t ++ steps_places b) (test_places t ++ (steps_places a ++ steps_places b))
          (two-totals (test_places t) (test_places t) (steps_places b) (steps_places a ++ steps_places b) (omega arith)
          (right-total (steps_places a) (steps_places b)));
    };
  }

abbrev mutual
  -- the legs that a step pays, in the order of the text and as often as it does
  pub paid_by : StepTree → List ℕ
  paid_by (assigning slot value) = []
  paid_by (paying leg amount) = leg ∷ []
  paid_by (choosing test yes_part no_part changes) = paid_in yes_part ++ paid_in no_part
  paid_by (grouping steps) = paid_in steps

  pub paid_in : StepsTree → List ℕ
  paid_in no_steps = []
  paid_in (step_then step rest) = paid_by step ++ paid_in rest

-- a sum over the legs that are paid is no greater
abbrev pub PaysNoMore : (ℕ → ℕ) → Keeps
PaysNoMore f = record {
  numbers = λ a b. Unit {0};
  tests = λ a b. Unit {0};
  steps = λ a b. total f (paid_in a) ≤ total f (paid_in b);
}

module _ (f : ℕ → ℕ) where
  pub pays_shrink : Shrinks (PaysNoMore f)
  pays_shrink = record {
    order = record {
      number_itself = λ a. tt;
      number_onward = λ a b c first second. tt;
      test_itself = λ a. tt;
      test_onward = λ a b c first second. tt;
      steps_itself = λ a. omega arith;
      steps_onward = λ a b c first second. omega (arith, first, second);
    };
    forms = record {
      unary = λ id op a b same. tt;
      binary = λ id op a b c d first second. tt;
      compare = λ id told op smooth a b c d first second. tt;
      negation = λ id told a b same. tt;
      conjunction = λ id told a b c d first second. tt;
      disjunction = λ id told a b c d first second. tt;
      assign = λ slot a b same. omega arith;
      pay = λ leg a b same. omega arith;
      choose = λ changes t u a b c d first second third.
          alone-total f (paid_in a ++ paid_in c) (paid_in b ++ paid_in d) (two-totals f (paid_in a) (paid_in b) (paid_in c) (paid_in d) second third);
      group = λ a b same. alone-total f (paid_in a) (paid_in b) same;
      onward = λ s t a b first rest.
          two-totals f (paid_by s) (paid_by t) (paid_in a) (paid_in b) (unalone-total f (paid_by s) (paid_by t) first) rest;
    };
    places = record {
      literal = λ a raw. tt;
      settled = λ a told answer. tt;
      told = λ answer a. tt;
      side = λ id told a. tt;
      and_left = λ id told a b. tt;
      and_right = λ id told a b. tt;
      or_left = λ id told a b. tt;
      or_right = λ id told a b. tt;
      yes_group = λ t a b changes. alone-total f (paid_in a) (paid_in a ++ paid_in b) (left-total f (paid_in a) (paid_in b));
      no_group = λ t a b changes. alone-total f (paid_in b) (paid_in a ++ paid_in b) (right-total f (paid_in a) (paid_in b));
      yes_alone = λ t a b changes.
          alone-total f (paid_in a ++ []) (paid_in a ++ paid_in b)
          (two-totals f (paid_in a) (paid_in a) [] (paid_in b) (omega arith) (omega arith));
      no_alone = λ t a b changes. alone-total f (paid_in b) (paid_in a ++ paid_in b) (right-total f (paid_in a) (paid_in b));
    };
  }
