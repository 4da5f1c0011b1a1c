-- Looking for a name among entries, and what storing one leaves.
use Rattle.std.proofs.Common.{◌≡◌, ◌≢◌, ℕ, suc, ◌+◌, ◌<◌, Bool, true, false, cond, List, ◌∷◌, length, map, drop, get_or, nat_eq}
use Rattle.std.proofs.Common.{refl, ap, sym, ◌∙◌, drop-cons, add-one}
use Rattle.std.specs.declared.option.Option.{Option}
use Rattle.std.specs.declared.option.Option.TheVariants.{Some}
use Rattle.std.specs.Ordering.{nat_cmp}
use Rattle.std.specs.Cmp.Lexicographic.{slice_cmp, pointwise, texts_ties, nat_list_cmp_total, same_text}
use Rattle.std.specs.FinMap.{find, get, insert, get-insert}
use Rattle.std.specs.String.{string_bytes}
use Rattle.pay_edge.specs.Edge.{Files, SameOthers}
use Rattle.pay_edge.specs.MemoryDepot.{pair_of}
use Rattle.pay_edge.specs.declared.memory_depot.Entry.{Entry}

-- a name among entries
abbrev pub found : List ℕ → List Entry → Option (List ℕ)
found name entries = find (slice_cmp nat_cmp) name (map pair_of entries)

found-first : (name : List ℕ) (entry : Entry) (rest : List Entry) → pointwise nat_eq name (string_bytes entry.name) ≡ true
    → found name (entry ∷ rest) ≡ Some entry.bytes.items
found-first name entry rest is = ap (λ b. cond b (Some entry.bytes.items) (found name rest)) (sym (texts_ties name (string_bytes entry.name)) ∙ is)

found-later : (name : List ℕ) (entry : Entry) (rest : List Entry) → pointwise nat_eq name (string_bytes entry.name) ≡ false
    → found name (entry ∷ rest) ≡ found name rest
found-later name entry rest is = ap (λ b. cond b (Some entry.bytes.items) (found name rest)) (sym (texts_ties name (string_bytes entry.name)) ∙ is)

-- The entry at a place has the name.
pub found-here : (name : List ℕ) (entries : List Entry) (k : ℕ) (entry : Entry) → k < length entries → entry ≡ get_or entries k entry
    → pointwise nat_eq name (string_bytes entry.name) ≡ true
    → found name (drop k entries) ≡ Some entry.bytes.items
found-here name entries k entry within at is =
    ap (found name) (drop-cons entries k entry within) ∙ ap (λ e. found name (e ∷ drop (suc k) entries)) (sym at)
    ∙ found-first name entry (drop (suc k) entries) is

-- It has another.
pub found-beyond : (name : List ℕ) (entries : List Entry) (k : ℕ) (entry : Entry) → k < length entries → entry ≡ get_or entries k entry
    → pointwise nat_eq name (string_bytes entry.name) ≡ false
    → found name (drop (k + 1) entries) ≡ found name (drop k entries)
found-beyond name entries k entry within at is =
    rw add-one (sym (ap (found name) (drop-cons entries k entry within) ∙ ap (λ e. found name (e ∷ drop (suc k) entries)) (sym at)
    ∙ found-later name entry (drop (suc k) entries) is))

apart : (b : Bool) (name other : List ℕ) → pointwise nat_eq other name ≡ b → other ≢ name → b ≡ false
apart true name other is ne = absurd (ne (same_text other name (sym is)))
apart false name other is ne = refl

-- To store a file is to leave the others.
pub insert_others : (files : Files) (name bytes : List ℕ) → SameOthers name (Some files) (Some (insert files name bytes))
insert_others files name bytes = record {
  told = refl;
  others = λ (other : List ℕ) ne.
      get-insert nat_list_cmp_total files name bytes other
      ∙ ap (λ b. cond b (Some bytes) (get files other)) (sym (texts_ties other name) ∙ apart (pointwise nat_eq other name) name other refl ne);
}
