-- Parts of the table of changed variables.
use Rattle.std.proofs.Common.{◌≡◌, ℕ, ◌+◌, List, [], ◌++◌, length, take, drop, refl, sym, ap, ◌∙◌, arith}
use Rattle.std.proofs.lemmas.List.{append_assoc, append-nil, length-append}
use Rattle.pay_code.proofs.PieceLemmas.{drop_piece, take_piece}

-- a part of a table begins at a place
pub record StandsAt (t : List ℕ) (from : ℕ) (part : List ℕ) : Type 0 where
  pub before : List ℕ
  pub after : List ℕ
  pub parts : t ≡ before ++ (part ++ after)
  pub place : from ≡ length before

pub first_part : (t : List ℕ) (from : ℕ) (a b : List ℕ) → StandsAt t from (a ++ b) → StandsAt t from a
first_part t from a b h = record {
  before = h.before;
  after = b ++ h.after;
  parts = h.parts ∙ ap (λ xs. h.before ++ xs) (append_assoc a b h.after);
  place = h.place;
}

pub second_part : (t : List ℕ) (from : ℕ) (a b : List ℕ) → StandsAt t from (a ++ b) → StandsAt t (from + length a) b
second_part t from a b h = record {
  before = h.before ++ a;
  after = h.after;
  parts = h.parts ∙ ap (λ xs. h.before ++ xs) (append_assoc a b h.after) ∙ sym (append_assoc h.before a (b ++ h.after));
  place = let long = length-append h.before a in let start = h.place in omega arith;
}

pub all_of_it : (t : List ℕ) → StandsAt t 0 t
all_of_it t = record { before = []; after = []; parts = sym (append-nil t); place = refl }

-- what a part that is named by its place and its length holds
pub named_part : (t : List ℕ) (from : ℕ) (part : List ℕ) → StandsAt t from part → take (length part) (drop from t) ≡ part
named_part t from part h =
    ap (λ xs. take (length part) (drop from xs)) h.parts
    ∙ ap (take (length part)) (drop_piece h.before (part ++ h.after) from h.place)
    ∙ take_piece part h.after (length part) refl
