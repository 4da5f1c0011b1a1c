-- Names that are gathered one after the other, each once.
use Rattle.std.proofs.Common.{◌≡◌, ℕ, Bool, true, false, cond, not, ◌||◌, List, [], ◌∷◌, ◌++◌, filter, if◌then◌else◌, refl, sym, ap, ◌∙◌, append_assoc}
use Rattle.std.specs.List.{list_any}
use Rattle.std.specs.Str.{bytes_eq}
use Rattle.std.specs.Ordering.{nat_cmp, eq_by_cmp}
use Rattle.std.specs.Cmp.{eq_by_cmp_equiv}
use Rattle.std.specs.Cmp.Lexicographic.{slice_cmp, nat_list_cmp_total, texts_ties}
use Rattle.std.specs.FinSet.{FinSet, empty, insert, contains, same_set, contains-from_list, contains-insert, contains-empty, slice_cmp-IsAntisymmetric}
use Rattle.std.specs.FinSet.{nat_cmp-IsAntisymmetric}
use Rattle.std.specs.BTreeMap.{is_at}
use Rattle.pay_meaning.specs.Parts.{each_once}
use Rattle.pay_tree.specs.NameLists.{set_of, unseen}

either : (b c : Bool) → cond b true c ≡ (b || c)
either true c = refl
either false c = refl

-- keys that differ at one name make sets that differ there
pub one_added : (old new : List (List ℕ)) (name : List ℕ)
    → ((q : List ℕ) → list_any (is_at (slice_cmp nat_cmp q)) new ≡ cond (is_at (slice_cmp nat_cmp name) q) true (list_any (is_at (slice_cmp nat_cmp q)) old))
    → set_of new ≡ insert (set_of old) name
one_added old new name h = same_set nat_list_cmp_total (slice_cmp-IsAntisymmetric nat_cmp-IsAntisymmetric) _ _ (λ q.
    contains-from_list nat_list_cmp_total new q ∙ h q ∙ either (eq_by_cmp (slice_cmp nat_cmp) name q) (list_any (eq_by_cmp (slice_cmp nat_cmp) q) old)
    ∙ ap (λ b. b || list_any (eq_by_cmp (slice_cmp nat_cmp) q) old) ((eq_by_cmp_equiv nat_list_cmp_total).symm name q)
    ∙ sym (contains-insert nat_list_cmp_total (set_of old) name q ∙ ap (λ b. eq_by_cmp (slice_cmp nat_cmp) q name || b) (contains-from_list nat_list_cmp_total old q)))

-- a name is new among keys where their set does not have it
pub is_new : (old : List (List ℕ)) (name : List ℕ) (new : Bool) → new ≡ not (list_any (is_at (slice_cmp nat_cmp name)) old)
    → new ≡ not (contains (set_of old) name)
is_new old name new h = h ∙ ap not (sym (contains-from_list nat_list_cmp_total old name))

-- all names are unseen at first
pub all_unseen : (names : List (List ℕ)) → unseen empty names ≡ names
all_unseen [] = refl
all_unseen (name ∷ rest) =
    ap (λ b. if not b then name ∷ unseen empty rest else unseen empty rest) (contains-empty (slice_cmp nat_cmp) name)
    ∙ ap (λ names. name ∷ names) (all_unseen rest)

-- a set with a name more has that name, and what it had
one_more_seen : (seen : FinSet (slice_cmp nat_cmp)) (name other : List ℕ)
    → contains (insert seen name) other ≡ (bytes_eq name other || contains seen other)
one_more_seen seen name other =
    contains-insert nat_list_cmp_total seen name other
    ∙ ap (λ b. b || contains seen other) ((eq_by_cmp_equiv nat_list_cmp_total).symm other name ∙ sym (texts_ties name other))

unseen_step : (seen : FinSet (slice_cmp nat_cmp)) (other : List ℕ) (kept left : List (List ℕ)) (is_name has : Bool)
    → has ≡ (is_name || contains seen other) → unseen seen kept ≡ left
    → unseen seen (if not is_name then other ∷ kept else kept) ≡ (if not has then other ∷ left else left)
unseen_step seen other kept left true has h same = same ∙ ap (λ b. if not b then other ∷ left else left) (sym h)
unseen_step seen other kept left false has h same =
    ap (λ names. if not (contains seen other) then other ∷ names else names) same ∙ ap (λ b. if not b then other ∷ left else left) (sym h)

-- the names other than one that a set does not have are those that it does not have with that one added
unseen_after : (seen : FinSet (slice_cmp nat_cmp)) (name : List ℕ) (rest : List (List ℕ))
    → unseen seen (filter (λ other. not (bytes_eq name other)) rest) ≡ unseen (insert seen name) rest
unseen_after seen name [] = refl
unseen_after seen name (other ∷ rest) =
    unseen_step seen other (filter (λ one. not (bytes_eq name one)) rest) (unseen (insert seen name) rest) (bytes_eq name other) _
    (one_more_seen seen name other) (unseen_after seen name rest)

-- a name that is new comes behind those before
pub add_new : (seen : FinSet (slice_cmp nat_cmp)) (names rest : List (List ℕ)) (name : List ℕ) → true ≡ not (contains seen name)
    → names ++ unseen seen (each_once (name ∷ rest)) ≡ (names ++ name ∷ []) ++ unseen (insert seen name) (each_once rest)
add_new seen names rest name h =
    let others = filter (λ other. not (bytes_eq name other)) (each_once rest) in
    ap (λ b. names ++ (if b then name ∷ unseen seen others else unseen seen others)) (sym h)
    ∙ ap (λ more. names ++ name ∷ more) (unseen_after seen name (each_once rest))
    ∙ sym (append_assoc names (name ∷ []) (unseen (insert seen name) (each_once rest)))

-- and one that is not new changes nothing
pub add_seen : (seen : FinSet (slice_cmp nat_cmp)) (names rest : List (List ℕ)) (name : List ℕ) → false ≡ not (contains seen name)
    → names ++ unseen seen (each_once (name ∷ rest)) ≡ names ++ unseen (insert seen name) (each_once rest)
add_seen seen names rest name h =
    let others = filter (λ other. not (bytes_eq name other)) (each_once rest) in
    ap (λ b. names ++ (if b then name ∷ unseen seen others else unseen seen others)) (sym h)
    ∙ ap (λ more. names ++ more) (unseen_after seen name (each_once rest))
